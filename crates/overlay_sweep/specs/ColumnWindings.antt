-- Windings by column sums: the weights of the segments below a place, added. A column lies between two neighboring whole x.
use Rattle.std.specs.Prelude.{◌≡◌, IsTrue, ℤ, pos, ◌+ℤ◌, ◌-ℤ◌, int_le, Bool, ◌&&◌, ◌||◌, if◌then◌else◌, List, filter}
use Rattle.std.specs.Ordering.{is_le, is_lt}
use Rattle.overlay_geometry.specs.Points.{Point, Pair, turn, is_vertical}
use Rattle.overlay_base.specs.Windings.{Winding, add, weight}
use Rattle.overlay_base.specs.Segments.{WholeSegment, total_weight}
use Rattle.overlay_geometry.specs.Below.{height_cmp}

-- whether s spans the column from x to x + 1; a vertical segment spans none
abbrev pub spans_column : ℤ → Pair → Bool
spans_column x s = int_le s.a.x x && int_le (x +ℤ pos 1) s.b.x

abbrev pub column : List WholeSegment → ℤ → List WholeSegment
column segments x = filter (λ s. spans_column x s.pair) segments

-- whether s is at most as high as t at both borders of the column, and lower at one
unfoldable pub is_below_in_column : ℤ → Pair → Pair → Bool
is_below_in_column x s t =
    is_le (height_cmp x s t) && is_le (height_cmp (x +ℤ pos 1) s t)
    && (is_lt (height_cmp x s t) || is_lt (height_cmp (x +ℤ pos 1) s t))

-- the weights of the segments below s in the column, added
unfoldable pub column_bottom : List WholeSegment → ℤ → WholeSegment → Winding
column_bottom segments x s = total_weight (filter (λ t. is_below_in_column x t.pair s.pair) (column segments x))

-- the same with the weight of s itself
unfoldable pub column_top : List WholeSegment → ℤ → WholeSegment → Winding
column_top segments x s = add (column_bottom segments x s) (weight s.count)

-- the weights of the segments of a column that are at most as high as p at the x of p, added
unfoldable pub weights_up_to : List WholeSegment → ℤ → Point → Winding
weights_up_to segments x p = total_weight (filter (λ t. int_le (pos 0) (turn t.pair.a t.pair.b p)) (column segments x))

-- the winding in the column to the right of a vertical segment, at its lower end, and in the one to its left
unfoldable pub right_winding : List WholeSegment → WholeSegment → Winding
right_winding segments s = weights_up_to segments s.pair.a.x s.pair.a

unfoldable pub left_winding : List WholeSegment → WholeSegment → Winding
left_winding segments s = weights_up_to segments (s.pair.a.x -ℤ pos 1) s.pair.a

-- the windings on the two sides of a segment: below and above it in its first column, or to the right and left of a vertical one
unfoldable pub side_bottom : List WholeSegment → WholeSegment → Winding
side_bottom segments s = if is_vertical s.pair then right_winding segments s else column_bottom segments s.pair.a.x s

unfoldable pub side_top : List WholeSegment → WholeSegment → Winding
side_top segments s = if is_vertical s.pair then left_winding segments s else column_top segments s.pair.a.x s

-- the windings beside s are the same in every column that it spans
pub record IsSameAlong (segments : List WholeSegment) (s : WholeSegment) : Type 0 where
  pub below : (x : ℤ) → IsTrue (spans_column x s.pair) → column_bottom segments x s ≡ side_bottom segments s
  pub above : (x : ℤ) → IsTrue (spans_column x s.pair) → column_top segments x s ≡ side_top segments s
