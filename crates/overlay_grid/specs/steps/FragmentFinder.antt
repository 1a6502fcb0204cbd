-- What a comparison of every pair of fragments of a group finds, and at vertical segments on a border and the column to its left.
use Rattle.std.specs.Prelude.{◌≡◌, ℕ, ◌+◌, ◌<◌, drop, slice_index_or, ℤ, Bool, false, int_lt, ◌&&◌, ◌||◌, ◌↔◌, if◌then◌else◌, List, [], ◌∷◌, ◌++◌, map, filter, flat_map, Contains, count_by, sum_by, length}
use Rattle.std.specs.List.{list_any, AllByRecursion}
use Rattle.std.specs.Ordering.{int_eq}
use Rattle.overlay_geometry.specs.Points.{Pair, pair_lt, is_ordered, is_vertical, is_strictly_inside}
use Rattle.overlay_geometry.specs.Coordinates.{is_pair_in_range}
use Rattle.overlay_geometry.specs.Ranges.{do_rects_meet}
use Rattle.overlay_intersections.specs.Marks.{Placing, cross_inexactly}
use Rattle.overlay_intersections.specs.MarkOf.{Mark}
use Rattle.overlay_intersections.specs.MarksBetween.{marks_at, marks_between}
use Rattle.overlay_grid.specs.Grid.{Layout}
use Rattle.overlay_grid.specs.ColumnLooks.{is_reached}
use Rattle.overlay_grid.specs.FragmentOf.{KeptFragment, kept_in}
use Rattle.overlay_grid.specs.declared.split.axis.Axis.{Axis}

-- the marks that the segments of two fragments put on one another, where the rectangles meet
unfoldable pub marks_of_two : Placing → KeptFragment → KeptFragment → List Mark
marks_of_two placing f g =
    if do_rects_meet f.rect g.rect then
    (if pair_lt f.pair g.pair then marks_between placing f.index f.pair g.index g.pair else marks_between placing g.index g.pair f.index f.pair)
    else []

-- those of the first of some fragments and each that follows it
unfoldable pub marks_with_first : Placing → List KeptFragment → List Mark
marks_with_first placing [] = []
marks_with_first placing (f ∷ fs) = flat_map (λ g. marks_of_two placing f g) fs

-- those of every two fragments of a group
unfoldable pub marks_of_group : Placing → List KeptFragment → List Mark
marks_of_group placing [] = []
marks_of_group placing (f ∷ fs) = flat_map (λ g. marks_of_two placing f g) fs ++ marks_of_group placing fs

-- whether the segments of two fragments that meet cross at a point that is not exact
abbrev pub meet_inexactly : KeptFragment → KeptFragment → Bool
meet_inexactly f g = do_rects_meet f.rect g.rect && cross_inexactly f.pair g.pair

-- whether those of the first and one that follows it do
unfoldable pub is_first_rounded : List KeptFragment → Bool
is_first_rounded [] = false
is_first_rounded (f ∷ fs) = list_any (λ g. meet_inexactly f g) fs

-- whether those of some two of a group do
unfoldable pub is_group_rounded : List KeptFragment → Bool
is_group_rounded [] = false
is_group_rounded (f ∷ fs) = list_any (λ g. meet_inexactly f g) fs || is_group_rounded fs

-- those of a fragment and each of those at some places of a group
abbrev pub marks_with_places : Placing → KeptFragment → List KeptFragment → List ℕ → List Mark
marks_with_places placing f fs places = flat_map (λ place. marks_of_two placing f (slice_index_or fs place f)) places

-- whether the segments of a fragment and of one at some places do
abbrev pub is_rounded_at : KeptFragment → List KeptFragment → List ℕ → Bool
is_rounded_at f fs places = list_any (λ place. meet_inexactly f (slice_index_or fs place f)) places

-- places of a group which have, of those from one place to another, what marks a fragment
pub record AreListed (fs : List KeptFragment) (f : KeptFragment) (from to : ℕ) (places : List ℕ) : Type 0 where
  pub within : AllByRecursion (λ place. place < length fs) places
  pub marks : (placing : Placing) → marks_with_places placing f fs places ++ flat_map (λ g. marks_of_two placing f g) (drop to fs) ≡ flat_map (λ g. marks_of_two placing f g) (drop from fs)
  pub flag : (is_rounded_at f fs places || list_any (λ g. meet_inexactly f g) (drop to fs)) ≡ list_any (λ g. meet_inexactly f g) (drop from fs)

-- how many comparisons the first takes in a scan along an axis: one for each later one that it reaches
unfoldable pub looks_of_first : Axis → List KeptFragment → ℕ
looks_of_first axis [] = 0
looks_of_first axis (f ∷ fs) = count_by (λ g. is_reached axis f g) fs

-- whether a fragment is one of a vertical segment at some x
abbrev pub stands_at : ℤ → KeptFragment → Bool
stands_at x f = is_vertical f.pair && int_eq f.pair.a.x x

-- the marks that right ends in one group put on a vertical segment
unfoldable pub marks_of_ends : KeptFragment → List KeptFragment → List Mark
marks_of_ends f left = flat_map (λ e. if is_strictly_inside f.pair e.pair.b then marks_at f.index (e.pair.b ∷ []) else []) left

-- those that right ends in one group put on the vertical segments on a border of another
unfoldable pub marks_of_border : ℤ → List KeptFragment → List KeptFragment → List Mark
marks_of_border x left group = flat_map (λ f. if stands_at x f then marks_of_ends f left else []) group

-- how many comparisons a border takes: each vertical segment on it, and each fragment of the group to its left
unfoldable pub looks_of_border : ℤ → List KeptFragment → List KeptFragment → ℕ
looks_of_border x left group = sum_by (λ f. if stands_at x f then length left else 0) group

-- the heights of the right ends at some x
unfoldable pub heights_at : ℤ → List KeptFragment → List ℤ
heights_at x left = map (λ e. e.pair.b.y) (filter (λ e. int_eq e.pair.b.x x) left)

-- the marks on a vertical segment at those of some heights that lie strictly between its ends
unfoldable pub marks_at_heights : KeptFragment → List ℤ → List Mark
marks_at_heights f ys = map (λ y. record { index = f.index; point = record { x = f.pair.a.x; y = y } }) (filter (λ y. int_lt f.pair.a.y y && int_lt y f.pair.b.y) ys)

-- those on the vertical segments of a group at some x
unfoldable pub marks_of_heights : ℤ → List ℤ → List KeptFragment → List Mark
marks_of_heights x ys group = flat_map (λ f. if stands_at x f then marks_at_heights f ys else []) group

-- both have the same marks, in any order and number
abbrev pub HoldSame : List Mark → List Mark → Type 0
HoldSame ms ns = (m : Mark) → Contains ms m ↔ Contains ns m

-- the fragments in a column of segments that are counted from an index on
unfoldable pub kept_group : Layout → ℕ → List Pair → ℕ → List KeptFragment
kept_group l i [] column = []
kept_group l i (s ∷ ss) column = kept_in l i s column ++ kept_group l (i + 1) ss column

-- whether the segment of a fragment is in range and runs from a to b
abbrev pub is_ready : ℤ → ℤ → KeptFragment → Bool
is_ready least greatest f = is_pair_in_range least greatest f.pair && is_ordered f.pair
