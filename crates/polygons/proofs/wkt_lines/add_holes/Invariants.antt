use Rattle.std.proofs.Common.{List, ◌++◌, IsTrue, map, take, false}
use Rattle.std.specs.List.{list_all}
use Rattle.overlay_contours.specs.ContoursOf.{contours_of}
use Rattle.polygons.specs.ContourText.{GivenContour, are_in_range, Keeps}
use Rattle.polygons.specs.Wkt.{contour_of_shape, turned}
use Rattle.polygons.proofs.wkt_lines.add_holes.Given as goal

abbrev pub invariant-loop-hole : goal.invariant-loop-hole
invariant-loop-hole g l =
    IsTrue (list_all (are_in_range (g.I.OverlayInt.whole g.I.OverlayInt.MIN_COORD) (g.I.OverlayInt.whole g.I.OverlayInt.MAX_COORD)) (contours_of (λ z. z) (take l.hole-index l.holes)))
    × ((given : List GivenContour) → Keeps l.fn.overlay given → Keeps l.overlay (given ++ map (λ hole. contour_of_shape l.shape_type (turned false hole)) (contours_of (λ z. z) (take l.hole-index l.holes))))
