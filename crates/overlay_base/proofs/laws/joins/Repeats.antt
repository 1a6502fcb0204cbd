-- Whether a bag has equal pairs: in order of the pairs it shows between neighbors.
use Rattle.std.proofs.Common.{◌≡◌, Bool, true, false, ◌||◌, List, [], ◌∷◌, IsPermutation, IsSortedByKey, refl, sym, ap, ◌∙◌, IsTrue, IsFalse}
use Rattle.std.specs.List.{list_any}
use Rattle.std.proofs.lemmas.Map.Keys.{IsDistinct-IsPermutation, IsDistinct-from_sorted}
use Rattle.std.proofs.lemmas.List.Sorted.{IsPermutation-map, IsPermutation-sym}
use Rattle.overlay_geometry.specs.Points.{pair_cmp, pair_eq}
use Rattle.overlay_geometry.specs.Sorting.{has_repeat}
use Rattle.overlay_base.specs.Segments.{WholeSegment, pairs, is_map}
use Rattle.overlay_base.specs.Join.{has_equal_pairs, has_equal_neighbors}
use Rattle.overlay_geometry.proofs.laws.geometry.Points.{pair_cmp_total}
use Rattle.overlay_base.proofs.laws.geometry.Pairs.{pair_eq-comm, below_rest}
use Rattle.overlay_base.proofs.laws.joins.Maps.{IsSummed, IsSummed-from_map}
use Rattle.overlay_geometry.proofs.laws.lists.Lists.{same_from_false}
use Rattle.overlay_geometry.proofs.laws.lists.Keys.{has_key-below, IsInOrder, IsInOrder-from_sort, IsDistinct-from_test, has_repeat-distinct}

-- the order of a bag does not count
pub has_equal_pairs-IsPermutation : (xs ys : List WholeSegment) → IsPermutation xs ys → has_equal_pairs ys ≡ has_equal_pairs xs
has_equal_pairs-IsPermutation xs ys p = same_from_false _ _ (across ys xs (IsPermutation-sym xs ys p)) (across xs ys p)
  where
    across : (xs ys : List WholeSegment) → IsPermutation xs ys → has_equal_pairs xs ≡ false → has_equal_pairs ys ≡ false
    across xs ys p h = has_repeat-distinct pair_eq (pairs ys) (IsDistinct-IsPermutation pair_eq pair_eq-comm (pairs xs) (pairs ys) (IsPermutation-map (λ s. s.pair) xs ys p) (IsDistinct-from_test pair_eq (pairs xs) h))

-- a map has none
pub has_equal_pairs-summed : (segments : List WholeSegment) → IsSummed segments → IsFalse (has_equal_pairs segments)
has_equal_pairs-summed segments o = has_repeat-distinct pair_eq (pairs segments) (IsDistinct-from_sorted pair_cmp (pairs segments) o.sorted)

pub has_equal_pairs-map : (segments : List WholeSegment) → IsTrue (is_map segments) → IsFalse (has_equal_pairs segments)
has_equal_pairs-map segments h = has_equal_pairs-summed segments (IsSummed-from_map segments h)

-- ---- neighbors

-- in order of the pairs equal ones are neighbors
pub has_equal_neighbors-in_order : (bag : List WholeSegment) → IsInOrder pair_cmp (pairs bag) → has_equal_neighbors bag ≡ has_equal_pairs bag
unfolding has_repeat
has_equal_neighbors-in_order [] o = refl
has_equal_neighbors-in_order (s ∷ []) o = refl
has_equal_neighbors-in_order (s ∷ t ∷ ts) o = by (pair_eq s.pair t.pair) refl (has_equal_neighbors-in_order (t ∷ ts) o.1)
  where
    by : (b : Bool) → pair_eq s.pair t.pair ≡ b → has_equal_neighbors (t ∷ ts) ≡ has_equal_pairs (t ∷ ts) → (b || has_equal_neighbors (t ∷ ts)) ≡ ((b || list_any (λ k. pair_eq s.pair k) (pairs ts)) || has_equal_pairs (t ∷ ts))
    by true e ih = refl
    by false e ih = ih ∙ ap (λ b. b || has_equal_pairs (t ∷ ts)) (sym (has_key-below pair_cmp s.pair (pairs ts) (below_rest s t ts o e).1))

-- so after any sort by pair the neighbors show whether the bag had equal pairs
pub has_equal_neighbors-sorted : (bag sorted : List WholeSegment) → IsPermutation bag sorted → IsSortedByKey (λ s. s.pair) pair_cmp sorted → has_equal_neighbors sorted ≡ has_equal_pairs bag
has_equal_neighbors-sorted bag sorted p o = has_equal_neighbors-in_order sorted (IsInOrder-from_sort pair_cmp_total (λ s. s.pair) sorted o) ∙ has_equal_pairs-IsPermutation bag sorted p
