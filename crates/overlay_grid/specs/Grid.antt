-- The grid of columns of equal width, and the fragments of segments in it.
use Rattle.std.specs.Prelude.{◌≡◌, ◌≤◌, ◌<◌, ℕ, ◌+◌, ◌-◌, ◌*◌, ◌/◌, ◌^◌, nat_lt, ℤ, pos, ◌+ℤ◌, ◌-ℤ◌, ◌*ℤ◌, ◌<ℤ◌, ◌≤ℤ◌, int_lt, int_le, unsigned_abs, Bool, ◌&&◌, if◌then◌else◌, Option, Some, None, List, [], ◌∷◌, map, fold, ⊤}
use Rattle.std.specs.Int.{int_min, int_max, div_ceil}
use Rattle.std.specs.List.{range_with_len, AllByRecursion}
use Rattle.overlay_geometry.specs.Points.{Pair, is_vertical}
use Rattle.overlay_geometry.specs.Below.{width, scaled_height}
use Rattle.overlay_geometry.specs.Ranges.{Rect}
use Rattle.std.specs.Ordering.{int_eq}

pub record Layout : Type 0 where
  pub min_x : ℤ
  pub max_x : ℤ
  pub power : ℕ

-- k is the logarithm of n to base 2, rounded down
pub record IsLog2 (n k : ℕ) : Type 0 where
  pub reached : 2 ^ k ≤ n
  pub not_passed : n < 2 * 2 ^ k

abbrev pub spread_of_x : ℤ → ℤ → ℕ
spread_of_x min_x max_x = unsigned_abs (max_x -ℤ min_x)

-- the power of the columns' width, where the logarithm of the whole width is given
abbrev pub power_for : ℕ → ℕ → ℕ
power_for log max_power = if nat_lt max_power log then log - max_power else 1

-- the layout over at least four steps of x, of at most about 2 ^ max_power columns
pub record IsLayout (min_x max_x : ℤ) (max_power : ℕ) (l : Layout) : Type 0 where
  pub left : l.min_x ≡ min_x
  pub right : l.max_x ≡ max_x
  pub wide : 4 ≤ spread_of_x min_x max_x
  pub power : (log : ℕ) → IsLog2 (spread_of_x min_x max_x) log → l.power ≡ power_for log max_power

-- the greatest x of the ends of segments, from some x on
unfoldable pub greatest_x : ℤ → List Pair → ℤ
greatest_x x segments = fold (λ x t. int_max x t.b.x) x segments

-- the layout for segments in order and a number of them
abbrev pub IsLayoutOf : List Pair → ℕ → Layout → Type 0
IsLayoutOf [] count l = ⊥
IsLayoutOf (s ∷ segments) count l = (log : ℕ) → IsLog2 count log → IsLayout s.a.x (greatest_x s.b.x segments) (log / 2) l

-- whether segments in order are too narrow for a layout, as none are
abbrev pub IsTooNarrow : List Pair → Type 0
IsTooNarrow [] = ⊤
IsTooNarrow (s ∷ segments) = (greatest_x s.b.x segments -ℤ s.a.x) <ℤ pos 4

-- the column in which x lies, of an x from min_x on
abbrev pub column_index : Layout → ℤ → ℕ
column_index l x = unsigned_abs (x -ℤ l.min_x) / 2 ^ l.power

-- the left border of a column
abbrev pub pos_of : Layout → ℕ → ℤ
pos_of l i = pos (i * 2 ^ l.power) +ℤ l.min_x

abbrev pub group_count : Layout → ℕ
group_count l = column_index l l.max_x + 1

-- the part of a segment in one column: the column and the rectangle that holds it
pub record Fragment : Type 0 where
  pub column : ℕ
  pub rect : Rect

-- the rectangle with two points as opposite corners
unfoldable pub rect_between : ℤ → ℤ → ℤ → ℤ → Rect
rect_between x y x' y' = record { min_x = int_min x x'; max_x = int_max x x'; min_y = int_min y y'; max_y = int_max y y' }

-- y moved by so much toward the y of b
unfoldable pub toward : Pair → ℕ → ℤ
toward s amount = if int_lt s.b.y s.a.y then s.a.y -ℤ pos amount else s.a.y +ℤ pos amount

-- How far the segment has risen or fallen at x lies between these two; they are equal at both ends.
unfoldable pub least_rise : Pair → ℤ → ℕ
least_rise s x = unsigned_abs (s.b.y -ℤ s.a.y) * unsigned_abs (x -ℤ s.a.x) / unsigned_abs (s.b.x -ℤ s.a.x)

unfoldable pub greatest_rise : Pair → ℤ → ℕ
greatest_rise s x = div_ceil (unsigned_abs (s.b.y -ℤ s.a.y) * unsigned_abs (x -ℤ s.a.x)) (unsigned_abs (s.b.x -ℤ s.a.x))

-- the fragment in one of the columns that the segment enters: the least rise at its left border, the greatest at its right one
unfoldable pub fragment_in : Layout → Pair → ℕ → Fragment
fragment_in l s i =
    let left = int_max s.a.x (pos_of l i) in
    let right = int_min s.b.x (pos_of l (i + 1)) in
    record { column = i; rect = rect_between left (toward s (least_rise s left)) right (toward s (greatest_rise s right)) }

-- One fragment in each column that the segment enters. A vertical segment has one, of its own box.
unfoldable pub fragments : Layout → Pair → List Fragment
fragments l s =
    let first = column_index l s.a.x in
    if is_vertical s then record { column = first; rect = rect_between s.a.x s.a.y s.b.x s.b.y } ∷ []
    else map (λ i. fragment_in l s i) (range_with_len first (column_index l (s.b.x -ℤ pos 1) + 1 - first))

-- whether the exact height of s at x lies within the rectangle
unfoldable pub holds_height : Pair → Rect → ℤ → Bool
holds_height s r x = int_le (r.min_y *ℤ width s) (scaled_height s x) && int_le (scaled_height s x) (r.max_y *ℤ width s)

-- whether s lies within the rectangle at both of its borders, and so between them
unfoldable pub holds_both_heights : Pair → Rect → Bool
holds_both_heights s r = holds_height s r r.min_x && holds_height s r r.max_x

-- whether the rectangles follow one another from one x to another
unfoldable pub follow_on : ℤ → List Rect → ℤ → Bool
follow_on x [] x' = int_eq x x'
follow_on x (r ∷ rects) x' = int_eq r.min_x x && follow_on r.max_x rects x'

-- a segment lies between the ends of a layout
pub record IsInside (l : Layout) (s : Pair) : Type 0 where
  pub from : l.min_x ≤ℤ s.a.x
  pub to : s.b.x ≤ℤ l.max_x

-- segments lie inside a layout, if there is one
abbrev pub LieInside : Option Layout → List Pair → Type 0
LieInside None segments = ⊤
LieInside (Some l) segments = AllByRecursion (λ s. IsInside l s) segments

-- the height of a segment at x that is nearer to its start, by the least rise
abbrev pub near_height : Pair → ℤ → ℤ
near_height s x = toward s (least_rise s x)

-- the one nearer to its end, by the greatest rise
abbrev pub far_height : Pair → ℤ → ℤ
far_height s x = toward s (greatest_rise s x)
