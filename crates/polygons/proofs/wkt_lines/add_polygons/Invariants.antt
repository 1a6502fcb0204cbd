use Rattle.std.proofs.Common.{List, ◌++◌, IsTrue, flat_map, take}
use Rattle.overlay_contours.specs.ShapesOf.{shapes_of}
use Rattle.polygons.specs.ContourText.{GivenContour, Keeps}
use Rattle.polygons.specs.Wkt.{are_polygons_in_range, polygon_contours}
use Rattle.polygons.proofs.wkt_lines.add_polygons.Given as goal

abbrev pub invariant-loop-rings : goal.invariant-loop-rings
invariant-loop-rings g l =
    IsTrue (are_polygons_in_range (g.I.OverlayInt.whole g.I.OverlayInt.MIN_COORD) (g.I.OverlayInt.whole g.I.OverlayInt.MAX_COORD) (shapes_of (λ z. z) (take l.rings-index l.polygons)))
    × ((given : List GivenContour) → Keeps l.fn.overlay given → Keeps l.overlay (given ++ flat_map (polygon_contours l.shape_type) (shapes_of (λ z. z) (take l.rings-index l.polygons))))
