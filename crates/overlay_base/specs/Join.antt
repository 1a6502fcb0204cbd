-- The join of a bag of segments, and the sums that are made on the way.
use Rattle.std.specs.Prelude.{Bool, false, not, ◌||◌, List, [], ◌∷◌, map, filter}
use Rattle.std.specs.List.{list_any}
use Rattle.overlay_geometry.specs.Points.{Pair, pair_cmp, pair_eq}
use Rattle.overlay_geometry.specs.Sorting.{distinct_in_order, has_repeat}
use Rattle.overlay_base.specs.Windings.{Winding, add, empty, is_not_empty, is_count_in_range}
use Rattle.overlay_base.specs.Segments.{WholeSegment, pairs, counts, segments_at, winding_at}

-- each pair of the bag once, with the counts there added
unfoldable pub summed : List WholeSegment → List WholeSegment
summed bag = map (λ pair. record { pair = pair; count = winding_at bag pair }) (distinct_in_order pair_cmp (pairs bag))

-- The join: for each pair the counts are added, then empty sums are dropped.
unfoldable pub join : List WholeSegment → List WholeSegment
join bag = filter (λ s. is_not_empty s.count) (summed bag)

-- whether two segments of the bag have one pair
abbrev pub has_equal_pairs : List WholeSegment → Bool
has_equal_pairs bag = has_repeat pair_eq (pairs bag)

-- whether two neighbors of the list have one pair
abbrev pub has_equal_neighbors : List WholeSegment → Bool
has_equal_neighbors [] = false
has_equal_neighbors (s ∷ []) = false
has_equal_neighbors (s ∷ t ∷ ts) = pair_eq s.pair t.pair || has_equal_neighbors (t ∷ ts)

-- the sums c + first, c + first + second, ..
unfoldable pub sums_from : Winding → List Winding → List Winding
sums_from c [] = []
sums_from c (d ∷ ds) = add c d ∷ sums_from (add c d) ds

-- the running sums of the counts at one pair, in the order of the list
unfoldable pub running_sums : List WholeSegment → Pair → List Winding
running_sums segments pair = sums_from empty (counts (segments_at segments pair))

-- whether some running sum at some pair is too large
unfoldable pub join_leaves_range : List WholeSegment → Bool
join_leaves_range segments = list_any (λ s. list_any (λ c. not (is_count_in_range c)) (running_sums segments s.pair)) segments
