use Rattle.overlay_contours.specs.ContoursOf.{contours_of}
use Rattle.overlay_relations.proofs.laws.Outcomes.{covering}
use Rattle.overlay_relations.proofs.predicates.covers.Goals as goal

pub returns-clause-covers : goal.returns-clause-covers
returns-clause-covers g c =
    let whole = g.I.OverlayInt.whole in
    covering c.args.fill_rule c.args.fill_rule (contours_of whole c.args.subject.now) (contours_of whole c.args.clip.now) c.in_ok-is_left.is_left c.in_ok-is_left.ensures.holds
