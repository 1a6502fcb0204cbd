use Rattle.overlay_contours.specs.ContoursOf.{contours_of}
use Rattle.overlay_relations.proofs.laws.Outcomes.{lying_within}
use Rattle.overlay_relations.proofs.predicates.is_within.Goals as goal

pub returns-clause-within : goal.returns-clause-within
returns-clause-within g c =
    let whole = g.I.OverlayInt.whole in
    lying_within c.args.fill_rule c.args.fill_rule (contours_of whole c.args.subject.now) (contours_of whole c.args.clip.now) c.in_ok-is_left.is_left c.in_ok-is_left.ensures.holds
