-- Laws of contours that functions of `laws` name in their contracts.
use Rattle.std.specs.Prelude.{◌≡◌, ◌+ℤ◌, ℕ, Bool, IsTrue, List, map, count_by}
use Rattle.std.specs.List.{list_all}
use Rattle.overlay_geometry.specs.Points.{Point, Pair, is_ordered}
use Rattle.overlay_base.specs.Places.{RationalPoint, winding_below}
use Rattle.overlay_sweep.specs.Fill.{is_inside}
use Rattle.overlay_base.specs.declared.overlay_core.fill_rule.FillRule.TheVariants.{EvenOdd}
use Rattle.overlay_base.specs.declared.overlay_core.fill_rule.FillRule.{FillRule}
use Rattle.overlay_base.specs.declared.overlay_core.overlay_rule.OverlayRule.TheVariants.{Clip, Intersect, Union, Xor}
use Rattle.overlay_base.specs.declared.overlay_core.overlay_rule.OverlayRule.TheVariants.{Subject as SubjectRule}
use Rattle.overlay_base.specs.declared.segm.shape_type.ShapeType.TheVariants.{Subject}
use Rattle.overlay_build.specs.Graph.{Filled, graph_of}
use Rattle.overlay_build.specs.Boundary.{directed_links}
use Rattle.overlay_build.specs.DirectedWalks.{arcs, contour, AreDirectedWalks}
use Rattle.overlay_contours.specs.Areas.{doubled_area_of_all}
use Rattle.overlay_contours.specs.Contours.{directed_edges, winding_number, is_painted}
use Rattle.overlay_contours.specs.ContourSegments.{contour_segments}
use Rattle.overlay_contours.specs.Polygons.{IsPolygonOverlay}
use Rattle.overlay_contours.specs.Splittings.{Splitting}

-- an odd number of edges runs below a place exactly where the contours run around it an odd number of times
abbrev pub PaintsByEvenOdd : Type 0
PaintsByEvenOdd = (contours : List (List Point)) (p : RationalPoint) → is_painted contours p ≡ is_inside EvenOdd (winding_number contours p)

-- The edges of the contours of directed walks, as they run, are the links of the graph in their directions, each once.
abbrev pub ContoursTakeLinks : Type 0
ContoursTakeLinks =
    (rule : Bool → Bool → Bool) (kept : List Filled) (walks : List (List ℕ)) → IsTrue (list_all (λ f. is_ordered f.pair) kept) → AreDirectedWalks (arcs rule (graph_of kept).links) walks →
    (test : Pair → Bool) → count_by test (directed_edges (map (contour (arcs rule (graph_of kept).links)) walks)) ≡ count_by test (map (λ l. l.pair) (arcs rule (graph_of kept).links))

-- So, as contours of a subject, they wind around every place as the links do, each link once in its direction.
abbrev pub ContoursWindAsLinks : Type 0
ContoursWindAsLinks =
    (rule : Bool → Bool → Bool) (kept : List Filled) (walks : List (List ℕ)) → IsTrue (list_all (λ f. is_ordered f.pair) kept) → AreDirectedWalks (arcs rule (graph_of kept).links) walks →
    (p : RationalPoint) → winding_below (contour_segments Subject (map (contour (arcs rule (graph_of kept).links)) walks)) p ≡ winding_below (directed_links rule (graph_of kept)) p

-- Of the same contours, under one fill rule and one splitting: the areas of the union and of what both shapes share add up to those of
-- the subject and of the clip.
abbrev pub AreasAddUp : Type 0
AreasAddUp =
    (splitting : Splitting) (fill_rule : FillRule) (subject clip united shared own other : List (List Point)) → IsPolygonOverlay splitting Union fill_rule subject clip united → IsPolygonOverlay splitting Intersect fill_rule subject clip shared
    → IsPolygonOverlay splitting SubjectRule fill_rule subject clip own → IsPolygonOverlay splitting Clip fill_rule subject clip other
    → doubled_area_of_all united +ℤ doubled_area_of_all shared ≡ doubled_area_of_all own +ℤ doubled_area_of_all other

-- The areas of the exclusive or and of what both share add up to that of the union.
abbrev pub ExclusiveAreasAddUp : Type 0
ExclusiveAreasAddUp =
    (splitting : Splitting) (fill_rule : FillRule) (subject clip united shared exclusive : List (List Point)) → IsPolygonOverlay splitting Union fill_rule subject clip united → IsPolygonOverlay splitting Intersect fill_rule subject clip shared
    → IsPolygonOverlay splitting Xor fill_rule subject clip exclusive → doubled_area_of_all exclusive +ℤ doubled_area_of_all shared ≡ doubled_area_of_all united
