use Rattle.std.proofs.Common.{◌≡◌, IsTrue, take}
use Rattle.overlay_contours.specs.ContoursOf.{points_of}
use Rattle.polygons.specs.ContourText.{are_in_range}
use Rattle.polygons.proofs.contour_lines.contour_points.Given as goal

abbrev pub invariant-loop-given : goal.invariant-loop-given
invariant-loop-given g l =
    let whole = g.I.OverlayInt.whole in
    let given = points_of (λ z. z) (take l.given-index l.wide) in
    (points_of whole l.points.items ≡ given) × IsTrue (are_in_range (whole g.I.OverlayInt.MIN_COORD) (whole g.I.OverlayInt.MAX_COORD) given)
