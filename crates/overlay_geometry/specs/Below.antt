-- Which of two segments lies below the other. Heights are compared by products of whole numbers.
use Rattle.std.specs.Prelude.{ℤ, pos, ◌+ℤ◌, ◌-ℤ◌, ◌*ℤ◌}
use Rattle.std.specs.declared.cmp.Ordering.{Ordering}
use Rattle.std.specs.declared.cmp.Ordering.TheVariants.{Less, Equal, Greater}
use Rattle.std.specs.Ordering.{int_cmp}
use Rattle.overlay_geometry.specs.Points.{Point, Pair, step, cross_product, point_cmp}
use Rattle.overlay_geometry.specs.Turns.{clock_order}

abbrev pub width : Pair → ℤ
width s = s.b.x -ℤ s.a.x

-- the height of the line through s at x, times the width of s
unfoldable pub scaled_height : Pair → ℤ → ℤ
scaled_height s x = s.a.y *ℤ width s +ℤ (x -ℤ s.a.x) *ℤ (s.b.y -ℤ s.a.y)

-- the order by height at x, of two segments that are not vertical
unfoldable pub height_cmp : ℤ → Pair → Pair → Ordering
height_cmp x s t = int_cmp (scaled_height s x *ℤ width t) (scaled_height t x *ℤ width s)

-- the order by angle, from straight down over rightward to straight up
unfoldable pub angle_cmp : Pair → Pair → Ordering
angle_cmp s t = int_cmp (pos 0) (cross_product (step s.a s.b) (step t.a t.b))

-- Less where s runs below p
abbrev pub under_point_order : Pair → Point → Ordering
under_point_order s p = clock_order s.a p s.b

-- Less where s runs below t, of two segments that share a column and do not cross: by the one that begins later
abbrev pub under_segment_order : Pair → Pair → Ordering
under_segment_order s t =
    elim (point_cmp s.a t.a) [
      | Less ↦ clock_order s.a t.a s.b
      | Equal ↦ clock_order s.a t.b s.b
      | Greater ↦ clock_order t.a t.b s.a
    ]
