-- What calls say of contours of code. An engine says how a coordinate is read, and which is the least and the greatest.
use Rattle.std.specs.Prelude.{◌≡◌, ℕ, ℤ, Bool, IsTrue, List, [], Vec, count_by, map}
use Rattle.std.specs.List.{list_all}
use Rattle.std.specs.Global.{Global}
use Rattle.overlay_geometry.specs.Coordinates.{is_point_in_range}
use Rattle.overlay_geometry.specs.Points.{Point, Pair}
use Rattle.overlay_geometry.specs.declared.geom.point.IntPoint.{IntPoint}
use Rattle.overlay_geometry.specs.declared.num.OverlayInt.{Ghosts as Engine}
use Rattle.overlay_base.specs.Places.{RationalPoint, winding_below}
use Rattle.overlay_base.specs.SegmentOf.{segments_of}
use Rattle.overlay_base.specs.declared.overlay_core.fill_rule.FillRule.{FillRule}
use Rattle.overlay_base.specs.declared.overlay_core.overlay_rule.OverlayRule.{OverlayRule}
use Rattle.overlay_base.specs.declared.segm.segment.Segment.{Segment}
use Rattle.overlay_build.specs.BoundaryOf.{links_by, arcs_by}
use Rattle.overlay_build.specs.GraphOf.{pairs_of_links}
use Rattle.overlay_build.specs.OverlayGraphOf.{links_of, whole_graph}
use Rattle.overlay_build.specs.Regions.{encloses}
use Rattle.overlay_build.specs.declared.build.graph.OverlayGraph.{OverlayGraph}
use Rattle.overlay_contours.specs.Contours.{AreProper, directed_edges, edges, winding_number, is_painted}
use Rattle.overlay_contours.specs.ContourSegments.{overlay_segments, overlay_winding, are_in_range, IsFirstOutside}
use Rattle.overlay_contours.specs.ContoursOf.{points_of, contours_of}
use Rattle.overlay_contours.specs.Corners.{corners}
use Rattle.overlay_contours.specs.Polygons.{IsPolygonOverlay}
use Rattle.overlay_contours.specs.Refusals.{IsRefusal}
use Rattle.overlay_contours.specs.Splittings.{by_snapping}
use Rattle.overlay_contours.specs.declared.fault.ContourFault.{ContourFault}

-- ---- ranges

-- Every point of the contours is in range.
abbrev pub LieInRange : {I : Type 0} → (I → ℤ) → I → I → List (Vec (IntPoint I) Global) → Type 0
LieInRange whole least greatest contours = IsTrue (are_in_range (whole least) (whole greatest) (contours_of whole contours))

-- Every point of one contour is in range.
abbrev pub LiesInRange : {I : Type 0} → (I → ℤ) → I → I → List (IntPoint I) → Type 0
LiesInRange whole least greatest points = IsTrue (list_all (is_point_in_range (whole least) (whole greatest)) (points_of whole points))

-- Of the contour at an index the point at an index is the first one out of range.
abbrev pub IsFirstOutsideOf : {I : Type 0} → (I → ℤ) → I → I → List (Vec (IntPoint I) Global) → ℕ → ℕ → Type 0
IsFirstOutsideOf whole least greatest contours index point_index = IsFirstOutside (whole least) (whole greatest) (contours_of whole contours) index point_index

-- ---- segments

-- The list has the segments of the contours of a subject and of a clip.
abbrev pub AreSidesOf : {C I D : Type 0} {m : _} {w : _} {o : _} {e : _} {p : _} → List (Vec (IntPoint I) Global) → List (Vec (IntPoint I) Global) → List (Segment C I D m w o e p) → Type 0
AreSidesOf {w = w} subject clip list = segments_of list ≡ overlay_segments (contours_of w.whole subject) (contours_of w.whole clip)

-- It winds around every place as they do.
abbrev pub WindsAsContours : {C I D : Type 0} {m : _} {w : _} {o : _} {e : _} {p : _} → List (Vec (IntPoint I) Global) → List (Vec (IntPoint I) Global) → List (Segment C I D m w o e p) → Type 0
WindsAsContours {w = w} subject clip list =
    (p : RationalPoint) → winding_below (segments_of list) p ≡ overlay_winding (contours_of w.whole subject) (contours_of w.whole clip) p

-- ---- corners

-- the corners of each contour
abbrev pub corners_in : {I : Type 0} → (I → ℤ) → List (Vec (IntPoint I) Global) → List (List Point)
corners_in whole contours = map corners (contours_of whole contours)

-- Contours wind around every place as often as the given ones.
abbrev pub WindAlike : {I : Type 0} → (I → ℤ) → List (Vec (IntPoint I) Global) → List (Vec (IntPoint I) Global) → Type 0
WindAlike whole given contours = (p : RationalPoint) → winding_number (contours_of whole contours) p ≡ winding_number (contours_of whole given) p

-- They paint the places that the given ones paint.
abbrev pub PaintAlike : {I : Type 0} → (I → ℤ) → List (Vec (IntPoint I) Global) → List (Vec (IntPoint I) Global) → Type 0
PaintAlike whole given contours = (p : RationalPoint) → is_painted (contours_of whole contours) p ≡ is_painted (contours_of whole given) p

-- They are proper where the given ones are.
abbrev pub StayProper : {I : Type 0} → (I → ℤ) → List (Vec (IntPoint I) Global) → List (Vec (IntPoint I) Global) → Type 0
StayProper whole given contours = AreProper (contours_of whole given) → AreProper (contours_of whole contours)

-- ---- contours of a graph

-- The edges of the contours, as they run, are the links of a graph in the directions that a rule gives them.
abbrev pub RunAlongLinks : {I D : Type 0} {w : _} {o : _} {e : _} {p : _} → OverlayRule → OverlayGraph I D w o e p → List (List Point) → Type 0
RunAlongLinks rule graph contours =
    (test : Pair → Bool) → count_by test (directed_edges contours) ≡ count_by test (map (λ l. l.pair) (arcs_by rule graph))

-- So they wind around every place as those links.
abbrev pub WindAsLinks : {I D : Type 0} {w : _} {o : _} {e : _} {p : _} → OverlayRule → OverlayGraph I D w o e p → List (List Point) → Type 0
WindAsLinks rule graph contours = (p : RationalPoint) → overlay_winding contours [] p ≡ winding_below (links_by rule graph) p

-- Their edges, each with its ends in order, are the links of the graph.
abbrev pub HaveLinksAsEdges : {I D : Type 0} {w : _} {o : _} {e : _} {p : _} → OverlayGraph I D w o e p → List (List Point) → Type 0
HaveLinksAsEdges {w = w} graph contours =
    (test : Pair → Bool) → count_by test (edges contours) ≡ count_by test (pairs_of_links w.whole (links_of graph))

-- They paint the places that the graph encloses.
abbrev pub PaintWhatIsEnclosed : {I D : Type 0} {w : _} {o : _} {e : _} {p : _} → OverlayGraph I D w o e p → List (List Point) → Type 0
PaintWhatIsEnclosed graph contours = (p : RationalPoint) → is_painted contours p ≡ encloses (whole_graph graph) p

-- ---- overlays

-- The contours are what the overlay of a subject's and a clip's returns by snap rounding.
abbrev pub IsOverlayOf : {I : Type 0} → Engine I → OverlayRule → FillRule → List (Vec (IntPoint I) Global) → List (Vec (IntPoint I) Global) → Vec (Vec (IntPoint I) Global) Global → Type 0
IsOverlayOf engine rule fill_rule subject clip contours =
    IsPolygonOverlay by_snapping rule fill_rule (contours_of engine.whole subject) (contours_of engine.whole clip) (contours_of engine.whole contours.items)

-- The fault says why that overlay was refused.
abbrev pub IsRefusalOf : {I : Type 0} → Engine I → List (Vec (IntPoint I) Global) → List (Vec (IntPoint I) Global) → ContourFault → Type 0
IsRefusalOf engine subject clip fault =
    IsRefusal (engine.whole engine.MIN_COORD) (engine.whole engine.MAX_COORD) by_snapping (contours_of engine.whole subject) (contours_of engine.whole clip) fault
