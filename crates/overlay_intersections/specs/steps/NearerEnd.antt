-- The nearer end of a segment, as code has it.
use Rattle.std.specs.Prelude.{◌≡◌, ℤ, pos}
use Rattle.overlay_geometry.specs.Points.{Point, Pair, sqr_distance}
use Rattle.overlay_geometry.specs.PointOf.{point_of}
use Rattle.overlay_intersections.specs.Marks.{nearer_end}
use Rattle.overlay_intersections.specs.declared.split.cross.snapped.NearerEnd.{NearerEnd}

pub record IsNearerEnd {I : Type 0} (whole : I → ℤ) (p : Point) (segment : Pair) (near : NearerEnd I) : Type 0 where
  pub point_is : point_of whole near.point ≡ nearer_end p segment
  pub distance_is : near.distance ≡ pos (sqr_distance (nearer_end p segment) p)
