-- Where a horizontal and a vertical segment meet.
use Rattle.std.specs.Prelude.{◌≡◌, ℤ, int_lt, Bool, ◌&&◌}
use Rattle.std.specs.Int.{int_min, int_max}
use Rattle.overlay_geometry.specs.Points.{Point, Pair, lies_on, is_strictly_inside}
use Rattle.overlay_geometry.specs.PointOf.{point_of}
use Rattle.overlay_intersections.specs.declared.split.cross.corner.Corner.{Corner}

-- whether z lies strictly between two numbers, whichever is less
abbrev pub is_strictly_between : ℤ → ℤ → ℤ → Bool
is_strictly_between u v z = int_lt (int_min u v) z && int_lt z (int_max u v)

-- the point that the lines of a horizontal and a vertical segment share
abbrev pub corner : Pair → Pair → Point
corner horizontal vertical = record { x = vertical.a.x; y = horizontal.a.y }

-- whether p lies strictly inside s, and on t
unfoldable pub splits : Point → Pair → Pair → Bool
splits p s t = is_strictly_inside s p && lies_on t p

-- the point of the two, and which of them it splits
pub record IsCorner {I : Type 0} (whole : I → ℤ) (horizontal vertical : Pair) (at : Corner I) : Type 0 where
  pub point_is : point_of whole at.point ≡ corner horizontal vertical
  pub horizontal_is : at.splits_horizontal ≡ splits (corner horizontal vertical) horizontal vertical
  pub vertical_is : at.splits_vertical ≡ splits (corner horizontal vertical) vertical horizontal
