-- Marks as whole numbers.
use Rattle.std.specs.Prelude.{◌≡◌, ℕ, ◌<◌, ◌==◌, ℤ, List, All, map, filter, length, slice_index_or, IsSortedByKey}
use Rattle.std.specs.Ordering.{nat_cmp, ordering_then}
use Rattle.std.specs.declared.cmp.Ordering.{Ordering}
use Rattle.overlay_geometry.specs.Points.{Point, point_cmp}
use Rattle.overlay_base.specs.Segments.{WholeSegment}
use Rattle.overlay_intersections.specs.Marks.{Placing}
use Rattle.overlay_intersections.specs.PassMarks.{marks_on}
use Rattle.overlay_geometry.specs.PointOf.{point_of}
use Rattle.overlay_geometry.specs.declared.geom.point.IntPoint.{IntPoint}
use Rattle.overlay_intersections.specs.declared.split.line_mark.LineMark.{LineMark}
use Rattle.overlay_base.specs.SegmentOf.{segments_of}
use Rattle.overlay_base.specs.declared.segm.segment.Segment.{Segment}
use Rattle.overlay_intersections.specs.PlacingOf.{placing_of}
use Rattle.overlay_intersections.specs.declared.split.placing.Placing.{Placing as PassPlacing}

abbrev pub points_of : {I : Type 0} → (I → ℤ) → List (IntPoint I) → List Point
points_of whole points = map (point_of whole) points

-- the points of marks, as they are
abbrev pub mark_points_of : {I : Type 0} → (I → ℤ) → List (LineMark I) → List Point
mark_points_of whole marks = map (λ m. point_of whole m.point) marks

-- a mark: the index of a segment, and a point at which it is split
pub record Mark : Type 0 where
  pub index : ℕ
  pub point : Point

-- marks by the index, then by the point
abbrev pub mark_cmp : Mark → Mark → Ordering
mark_cmp m n = ordering_then (nat_cmp m.index n.index) (point_cmp m.point n.point)

abbrev pub mark_of : {I : Type 0} → (I → ℤ) → LineMark I → Mark
mark_of whole m = record { index = m.index; point = point_of whole m.point }

abbrev pub marks_of : {I : Type 0} → (I → ℤ) → List (LineMark I) → List Mark
marks_of whole marks = map (mark_of whole) marks

-- the points of the marks with an index, as they are
abbrev pub points_at : ℕ → List Mark → List Point
points_at index marks = map (λ m. m.point) (filter (λ m. m.index == index) marks)

-- marks by rising index, those of each segment the marks that a pass makes on its pair, in order of points
pub record AreMarks (placing : Placing) (segments : List WholeSegment) (marks : List Mark) : Type 0 where
  pub in_order : IsSortedByKey (λ m. m.index) nat_cmp marks
  pub within : All (λ m. m.index < length segments) marks
  pub each : (index : ℕ) (d : WholeSegment) → index < length segments → points_at index marks ≡ marks_on placing segments (slice_index_or segments index d).pair

-- Marks of code are those that a pass with a placing of code makes on a list of segments.
abbrev pub AreMarksOf : {C I D : Type 0} {m : _} {w : _} {o : _} {e : _} {p : _} → PassPlacing → List (Segment C I D m w o e p) → List (LineMark I) → Type 0
AreMarksOf {w = w} placing segments marks = AreMarks (placing_of placing) (segments_of segments) (marks_of w.whole marks)
