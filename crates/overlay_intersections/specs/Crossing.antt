-- Where two segments cross. The target is the one from whose first end offsets are measured.
-- The exact crossing point lies n / d of the way along the target; rounding takes a quotient's two whole numbers.
use Rattle.std.specs.Prelude.{ℕ, ◌*◌, ℤ, pos, ◌+ℤ◌, ◌-ℤ◌, ◌*ℤ◌, unsigned_abs, int_div, int_rem, Bool, ◌&&◌, ◌||◌, if◌then◌else◌}
use Rattle.std.specs.Int.{int_signum, int_div_euclid}
use Rattle.std.specs.Ordering.{int_eq}
use Rattle.overlay_geometry.specs.Points.{Point, Pair, step, cross_product, turn, is_vertical, is_horizontal}

-- A whole number over a positive one.
pub record Quotient : Type 0 where
  pub top : ℤ
  pub bottom : ℕ

-- v * n / d, with the sign of d in the top
unfoldable pub quotient : ℤ → ℤ → ℤ → Quotient
quotient v n d = record { top = int_signum d *ℤ (v *ℤ n); bottom = unsigned_abs d }

unfoldable pub is_whole : Quotient → Bool
is_whole q = int_eq (int_rem q.top (pos q.bottom)) (pos 0)

-- toward 0
unfoldable pub truncated : Quotient → ℤ
truncated q = int_div q.top (pos q.bottom)

-- to nearest, halves away from 0
unfoldable pub nearest : Quotient → ℤ
nearest q = int_div (pos 2 *ℤ q.top +ℤ int_signum q.top *ℤ pos q.bottom) (pos (2 * q.bottom))

-- the floor of q + 1/2: to nearest, halves upward
unfoldable pub nearest_upward : Quotient → ℤ
nearest_upward q = int_div_euclid (pos 2 *ℤ q.top +ℤ pos q.bottom) (pos (2 * q.bottom))

-- n: (a1 - a0) x (b1 - a0), where a0 and b0 are the ends of the target, a1 and b1 those of the other
abbrev pub crossing_n : Pair → Pair → ℤ
crossing_n target other = turn target.a other.a other.b

-- d: (b0 - a0) x (b1 - a1)
abbrev pub crossing_d : Pair → Pair → ℤ
crossing_d target other = cross_product (step target.a target.b) (step other.a other.b)

-- how far the exact crossing point lies from target.a in x, and in y
unfoldable pub offset_x : Pair → Pair → Quotient
offset_x target other = quotient (target.b.x -ℤ target.a.x) (crossing_n target other) (crossing_d target other)

unfoldable pub offset_y : Pair → Pair → Quotient
offset_y target other = quotient (target.b.y -ℤ target.a.y) (crossing_n target other) (crossing_d target other)

-- target.a moved by the two offsets, each made whole by a rule
unfoldable pub placed_by : (Quotient → ℤ) → Pair → Pair → Point
placed_by whole target other = record { x = target.a.x +ℤ whole (offset_x target other); y = target.a.y +ℤ whole (offset_y target other) }

-- whether both coordinates of the exact crossing point are whole
unfoldable pub is_exact : Pair → Pair → Bool
is_exact target other = is_whole (offset_x target other) && is_whole (offset_y target other)

-- whether p lies on both lines
abbrev pub is_on_lines : Pair → Pair → Point → Bool
is_on_lines s t p = int_eq (turn s.a s.b p) (pos 0) && int_eq (turn t.a t.b p) (pos 0)

-- The snapping point: each offset to nearest, halves away from target.a; of a target along an axis truncated toward target.a.
unfoldable pub snapping_point : Pair → Pair → Point
snapping_point target other = if is_vertical target || is_horizontal target then placed_by truncated target other else placed_by nearest target other

-- The settling point: the floor of each coordinate plus one half. It is the same whichever segment is the target.
unfoldable pub settling_point : Pair → Pair → Point
settling_point target other = placed_by nearest_upward target other
