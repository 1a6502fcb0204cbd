-- Two ends as a pair of points.
use Rattle.std.specs.Prelude.{ℤ}
use Rattle.overlay_geometry.specs.Points.{Pair}
use Rattle.overlay_geometry.specs.PointOf.{point_of}
use Rattle.overlay_geometry.specs.declared.geom.x_segment.XSegment.{XSegment}

abbrev pub pair_of : {I : Type 0} → (I → ℤ) → XSegment I → Pair
pair_of whole s = record { a = point_of whole s.a; b = point_of whole s.b }
