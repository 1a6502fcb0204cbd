-- Points and pairs whose coordinates are an engine's: from its MIN_COORD to its MAX_COORD.
use Rattle.std.specs.Prelude.{ℤ, IsTrue}
use Rattle.overlay_geometry.specs.Coordinates.{is_point_in_range}
use Rattle.overlay_geometry.specs.PointOf.{point_of}
use Rattle.overlay_geometry.specs.declared.geom.point.IntPoint.{IntPoint}
use Rattle.overlay_geometry.specs.declared.geom.x_segment.XSegment.{XSegment}

abbrev pub IsPointInRange : {I : Type 0} → (I → ℤ) → I → I → IntPoint I → Type 0
IsPointInRange whole least greatest p = IsTrue (is_point_in_range (whole least) (whole greatest) (point_of whole p))

pub record IsPairInRange {I : Type 0} (whole : I → ℤ) (least greatest : I) (s : XSegment I) : Type 0 where
  pub a_in_range : IsPointInRange whole least greatest s.a
  pub b_in_range : IsPointInRange whole least greatest s.b
