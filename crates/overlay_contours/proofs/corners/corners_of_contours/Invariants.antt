use Rattle.std.proofs.Common.{◌≡◌, map, take}
use Rattle.overlay_contours.specs.ContoursOf.{points_of, contours_of}
use Rattle.overlay_contours.specs.Corners.{corners}
use Rattle.overlay_contours.proofs.corners.corners_of_contours.Given as goal

abbrev pub invariant-loop-contour : goal.invariant-loop-contour
invariant-loop-contour g l =
    let whole = g.I.OverlayInt.whole in
    contours_of whole l.answer.items ≡ map (λ c. corners (points_of whole c.items)) (take l.contour-index l.contours)
