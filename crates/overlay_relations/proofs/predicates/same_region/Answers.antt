use Rattle.overlay_contours.specs.ContoursOf.{contours_of}
use Rattle.overlay_relations.proofs.laws.Outcomes.{being_same}
use Rattle.overlay_relations.proofs.predicates.same_region.Goals as goal

pub returns-clause-same : goal.returns-clause-same
returns-clause-same g c =
    let whole = g.I.OverlayInt.whole in
    being_same c.args.fill_rule c.args.fill_rule (contours_of whole c.args.subject.now) (contours_of whole c.args.clip.now) c.in_ok-differ.differ c.in_ok-differ.ensures.holds
