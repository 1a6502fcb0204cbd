-- On which side of the way from one point to another a third point lies.
use Rattle.std.specs.Prelude.{ℤ, pos, neg_ℤ}
use Rattle.std.specs.Int.{int_signum}
use Rattle.std.specs.Ordering.{int_cmp}
use Rattle.std.specs.declared.cmp.Ordering.{Ordering}
use Rattle.overlay_geometry.specs.Points.{Point, turn}

-- Less where r lies to the right of the way from p to q
abbrev pub clock_order : Point → Point → Point → Ordering
clock_order p q r = int_cmp (turn p q r) (pos 0)

-- 1 where r lies to the right of the way from p to q, 0 on the line, -1 to the left
abbrev pub clock_direction : Point → Point → Point → ℤ
clock_direction p q r = neg_ℤ (int_signum (turn p q r))
