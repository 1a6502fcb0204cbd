use Rattle.std.proofs.Common.{take}
use Rattle.overlay_contours.specs.Boxes.{all_points}
use Rattle.overlay_contours.specs.ContoursOf.{points_of, contours_of}
use Rattle.overlay_relations.specs.steps.ContactOutcomes.{ShareSome}
use Rattle.overlay_relations.proofs.contacts.have_common_point.Given as goal

-- none of the points so far is among them
abbrev pub invariant-loop-contour : goal.invariant-loop-contour
invariant-loop-contour g l =
    let whole = g.I.OverlayInt.whole in
    ShareSome (points_of whole l.points.items) (all_points (contours_of whole (take l.contour-index l.second))) → ⊥
