-- The fill of a segment: a number from 0 to 15 that says where its two sides are inside.
use Rattle.std.specs.Prelude.{ℕ, ◌+◌, ◌*◌, ◌%◌, ◌==◌, ℤ, pos, int_lt, unsigned_abs, Bool, if◌then◌else◌, not}
use Rattle.std.specs.Ordering.{int_eq}
use Rattle.overlay_base.specs.Windings.{Winding, add, weight}
use Rattle.overlay_base.specs.declared.overlay_core.fill_rule.FillRule.{FillRule}
use Rattle.overlay_base.specs.declared.overlay_core.fill_rule.FillRule.TheVariants.{EvenOdd, NonZero, Positive, Negative}

-- whether a place around which the contours wind n times is inside
abbrev pub is_inside : FillRule → ℤ → Bool
is_inside EvenOdd n = unsigned_abs n % 2 == 1
is_inside NonZero n = not (int_eq n (pos 0))
is_inside Positive n = int_lt (pos 0) n
is_inside Negative n = int_lt n (pos 0)

abbrev pub flag_value : Bool → ℕ → ℕ
flag_value b n = if b then n else 0

-- 1 where the subject is inside at the top and 2 at the bottom, 4 where the clip is at the top and 8 at the bottom, and four times the segment's mask.
-- Polygons have no mask and lines no clip, so 4 and 8 have one meaning at a time.
unfoldable pub fill_byte : FillRule → Winding → Winding → ℕ → ℕ
fill_byte rule bottom top mask =
    flag_value (is_inside rule top.subj) 1 + flag_value (is_inside rule bottom.subj) 2
    + flag_value (is_inside rule top.clip) 4 + flag_value (is_inside rule bottom.clip) 8 + 4 * mask

-- the winding above a segment with a count, over the winding below it; masks play no part
abbrev pub winding_above : Winding → Winding → Winding
winding_above bottom count = add (weight bottom) (weight count)

-- the fill of a segment with a count, over the winding below it
abbrev pub fill_above : FillRule → Winding → Winding → ℕ
fill_above rule bottom count = fill_byte rule bottom (winding_above bottom count) count.mask
