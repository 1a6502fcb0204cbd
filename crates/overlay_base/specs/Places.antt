-- Places of the plane, and how segments wind there.
use Rattle.std.specs.Prelude.{ℕ, ℤ, pos, ◌+ℤ◌, ◌-ℤ◌, ◌*ℤ◌, int_le, int_lt, Bool, ◌&&◌, List, filter}
use Rattle.overlay_geometry.specs.Points.{Pair}
use Rattle.overlay_geometry.specs.Below.{width}
use Rattle.overlay_base.specs.Windings.{Winding}
use Rattle.overlay_base.specs.Segments.{WholeSegment, total_weight}

-- A point with rational coordinates: x / bottom and y / bottom.
pub record RationalPoint : Type 0 where
  pub x : ℤ
  pub y : ℤ
  pub bottom : ℕ

-- Whether the vertical line through p meets s. The start of s counts as part of it and the end does not, so a chain of
-- segments from left to right is met once, also at a vertex. A vertical segment is not met.
abbrev pub spans : Pair → RationalPoint → Bool
spans s p = int_le (s.a.x *ℤ pos p.bottom) p.x && int_lt p.x (s.b.x *ℤ pos p.bottom)

-- the height of the line through s at the x of p, times the width of s and the bottom of p
abbrev pub height_at : Pair → RationalPoint → ℤ
height_at s p = s.a.y *ℤ (width s *ℤ pos p.bottom) +ℤ (s.b.y -ℤ s.a.y) *ℤ (p.x -ℤ s.a.x *ℤ pos p.bottom)

-- whether that line runs below p
abbrev pub runs_below : Pair → RationalPoint → Bool
runs_below s p = int_lt (height_at s p) (p.y *ℤ width s)

abbrev pub lies_below : Pair → RationalPoint → Bool
lies_below s p = spans s p && runs_below s p

-- The winding at p: the weights of the segments that lie below it, added.
unfoldable pub winding_below : List WholeSegment → RationalPoint → Winding
winding_below segments p = total_weight (filter (λ s. lies_below s.pair p) segments)
