-- A segment of a sweep as a pair of points.
use Rattle.std.specs.Prelude.{ℤ}
use Rattle.overlay_geometry.specs.Points.{Pair}
use Rattle.overlay_geometry.specs.PointOf.{point_of}
use Rattle.overlay_geometry.specs.InRange.{IsPointInRange}
use Rattle.overlay_geometry.specs.declared.geom.v_segment.VSegment.{VSegment}

abbrev pub v_pair_of : {I : Type 0} → (I → ℤ) → VSegment I → Pair
v_pair_of whole s = record { a = point_of whole s.a; b = point_of whole s.b }

-- both ends are in an engine's range
pub record IsVSegmentInRange {I : Type 0} (whole : I → ℤ) (least greatest : I) (s : VSegment I) : Type 0 where
  pub a_in_range : IsPointInRange whole least greatest s.a
  pub b_in_range : IsPointInRange whole least greatest s.b
