use Rattle.std.proofs.Common.{take}
use Rattle.overlay_contours.specs.ContoursOf.{points_of}
use Rattle.overlay_relations.specs.steps.ContactOutcomes.{ShareSome}
use Rattle.overlay_relations.proofs.contacts.have_some.Given as goal

-- none of the points so far is among them
abbrev pub invariant-loop-point : goal.invariant-loop-point
invariant-loop-point g l =
    let whole = g.I.OverlayInt.whole in
    ShareSome (points_of whole l.sorted) (points_of whole (take l.point-index l.points)) → ⊥
