-- A list that is sorted by pair has the join of the list before.
use Rattle.std.proofs.Common.{◌≡◌, List, map, filter, IsPermutation, IsSortedByKey, sym, ap, ◌∙◌, subst, Ordering}
use Rattle.std.specs.List.Sorted.{IsStableByKey}
use Rattle.std.proofs.lemmas.List.Sorted.{IsPermutation-map}
use Rattle.std.proofs.lemmas.Simd.{map-map}
use Rattle.overlay_geometry.specs.Points.{pair_cmp}
use Rattle.overlay_geometry.specs.Sorting.{stably_sorted}
use Rattle.overlay_base.specs.Windings.{is_not_empty}
use Rattle.overlay_base.specs.Segments.{WholeSegment}
use Rattle.overlay_base.specs.Join.{join, join_leaves_range, has_equal_pairs, has_equal_neighbors}
use Rattle.overlay_base.specs.EdgeData.{DataSegment, Hooks, merge_sorted, data_join}
use Rattle.overlay_geometry.proofs.laws.geometry.Points.{pair_cmp_total}
use Rattle.overlay_geometry.proofs.laws.lists.Keys.{IsInOrder, IsInOrder-from_sort}
use Rattle.overlay_base.proofs.laws.joins.Maps.{join-IsPermutation}
use Rattle.overlay_base.proofs.laws.joins.Ranges.{join_leaves_range-stable}
use Rattle.overlay_base.proofs.laws.joins.Repeats.{has_equal_neighbors-in_order, has_equal_pairs-IsPermutation}
use Rattle.overlay_base.proofs.laws.lists.StableSorts.{stably_sorted-in_order, stably_sorted-stable, map-stably_sorted}
use Rattle.overlay_base.proofs.laws.joins.DataJoins.{by_data_pair}

-- xs sorted stably by pair is ys
module _ {X : Type 0} (whole : X → WholeSegment) (xs ys : List X) (is : ys ≡ stably_sorted (λ s t. pair_cmp (whole s).pair (whole t).pair) xs) (moved : IsPermutation xs ys) where
  moves : IsPermutation (map whole xs) (map whole ys)
  moves = IsPermutation-map whole xs ys moved

  -- its join leaves the range where that of xs does
  pub join_leaves_range-sorted : join_leaves_range (map whole ys) ≡ join_leaves_range (map whole xs)
  join_leaves_range-sorted =
      let by_pair : WholeSegment → WholeSegment → Ordering = λ s t. pair_cmp s.pair t.pair in
      let same = ap (map whole) is ∙ map-stably_sorted whole by_pair xs in
      let stable = subst (IsStableByKey (λ s. s.pair) pair_cmp (map whole xs)) (sym same) (stably_sorted-stable (λ s. s.pair) pair_cmp pair_cmp_total (map whole xs)) in
      join_leaves_range-stable (map whole xs) (map whole ys) moves stable

  pub join-sorted : join (map whole ys) ≡ join (map whole xs)
  join-sorted = join-IsPermutation (map whole xs) (map whole ys) moves

  pub has_equal_neighbors-moved : IsSortedByKey (λ x. (whole x).pair) pair_cmp ys → has_equal_neighbors (map whole ys) ≡ has_equal_pairs (map whole xs)
  has_equal_neighbors-moved o =
      let rising = subst (IsInOrder pair_cmp) (sym (map-map (λ s. s.pair) whole ys)) (IsInOrder-from_sort pair_cmp_total (λ x. (whole x).pair) ys o) in
      has_equal_neighbors-in_order (map whole ys) rising ∙ has_equal_pairs-IsPermutation (map whole xs) (map whole ys) moves

-- the same with data
module _ {X D : Type 0} (f : X → DataSegment D) (xs ys : List X) (is : ys ≡ stably_sorted (λ s t. pair_cmp (f s).pair (f t).pair) xs) (o : IsSortedByKey (λ x. (f x).pair) pair_cmp ys) where
  pub data-sorted : map f ys ≡ stably_sorted by_data_pair (map f xs)
  data-sorted = ap (map f) is ∙ map-stably_sorted f by_data_pair xs

  pub data_join-sorted : {S : Type 0} (hooks : Hooks D S) (store : S) → data_join hooks (map f ys) store ≡ data_join hooks (map f xs) store
  unfolding data_join
  data_join-sorted {S} hooks store =
      let rising = subst (IsInOrder pair_cmp) (sym (map-map (λ s. s.pair) f ys)) (IsInOrder-from_sort pair_cmp_total (λ x. (f x).pair) ys o) in
      let still : stably_sorted by_data_pair (map f ys) ≡ stably_sorted by_data_pair (map f xs) = stably_sorted-in_order (λ s. s.pair) pair_cmp_total (map f ys) rising ∙ data-sorted in
      ap (λ l. let joined : List (DataSegment D) × S = merge_sorted hooks l store in let kept : List (DataSegment D) × S = (filter (λ s. is_not_empty s.count) joined.0, joined.1) in kept) still
