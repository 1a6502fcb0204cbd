use Rattle.std.proofs.Common.{◌≡◌, take}
use Rattle.overlay_contours.specs.Boxes.{all_points}
use Rattle.overlay_contours.specs.ContoursOf.{points_of, contours_of}
use Rattle.overlay_relations.proofs.contacts.sorted_points.Given as goal

-- the points of the contours so far
abbrev pub invariant-loop-contour : goal.invariant-loop-contour
invariant-loop-contour g l =
    let whole = g.I.OverlayInt.whole in
    points_of whole l.points.items ≡ all_points (contours_of whole (take l.contour-index l.contours))
