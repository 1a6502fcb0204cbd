-- Windings by chains of supports: below a segment lies one other, below that one more, and so on. This needs no balance.
use Rattle.std.specs.Prelude.{◌≡◌, All, ℕ, zero, suc, ℤ, pos, int_le, int_lt, Bool, ◌&&◌, not, List, filter, length, Option}
use Rattle.std.specs.Ordering.{is_lt, ordering_then}
use Rattle.std.specs.List.{list_any}
use Rattle.std.specs.Option.{option_map_or, option_or}
use Rattle.overlay_geometry.specs.Points.{Point, Pair, turn, point_eq}
use Rattle.overlay_geometry.specs.Sorting.{greatest}
use Rattle.overlay_base.specs.Windings.{Winding, add, empty, weight, is_count_in_range}
use Rattle.overlay_base.specs.Segments.{WholeSegment}
use Rattle.overlay_geometry.specs.Below.{height_cmp, angle_cmp}
use Rattle.overlay_sweep.specs.ColumnWindings.{IsSameAlong, side_bottom, side_top}

-- the segment just before s by angle among those with its start
unfoldable pub neighbor_at_start : List WholeSegment → WholeSegment → Option WholeSegment
neighbor_at_start segments s =
    greatest (λ t u. angle_cmp t.pair u.pair) (filter (λ t. point_eq t.pair.a s.pair.a && is_lt (angle_cmp t.pair s.pair)) segments)

-- whether s has begun at x and ends further on; a vertical segment never does
abbrev pub is_live : ℤ → Pair → Bool
is_live x s = int_le s.a.x x && int_lt x s.b.x

-- the segment directly below p among the live ones; of several at one height the last by angle
unfoldable pub directly_below : List WholeSegment → Point → Option WholeSegment
directly_below segments p =
    greatest (λ t u. ordering_then (height_cmp p.x t.pair u.pair) (angle_cmp t.pair u.pair))
    (filter (λ t. is_live p.x t.pair && int_lt (pos 0) (turn t.pair.a t.pair.b p)) segments)

-- the support of s, if it has one
unfoldable pub support : List WholeSegment → WholeSegment → Option WholeSegment
support segments s = option_or (neighbor_at_start segments s) (directly_below segments s.pair.a)

-- The top of s is its own weight on top of its support's top. A chain of supports has no more members than the list.
unfoldable pub top_within : ℕ → List WholeSegment → WholeSegment → Winding
top_within zero segments s = weight s.count
top_within (suc n) segments s = add (option_map_or (λ t. top_within n segments t) (support segments s) empty) (weight s.count)

unfoldable pub top : List WholeSegment → WholeSegment → Winding
top segments s = top_within (length segments) segments s

-- the top of the support, or 0
unfoldable pub bottom : List WholeSegment → WholeSegment → Winding
bottom segments s = option_map_or (λ t. top segments t) (support segments s) empty

-- whether some top is too large
unfoldable pub tops_leave_range : List WholeSegment → Bool
tops_leave_range segments = list_any (λ s. not (is_count_in_range (top segments s))) segments

-- The windings that a sweep finds are those of the columns: below and above each segment the same all along it, and beside a vertical one those to its right and left.
abbrev pub HaveColumnWindings : List WholeSegment → Type 0
HaveColumnWindings segments =
    All (λ s. IsSameAlong segments s × (bottom segments s ≡ side_bottom segments s) × (top segments s ≡ side_top segments s)) segments
