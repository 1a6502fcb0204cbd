-- A list in which no segment has a mark is what the pass makes of it, and none of its sums leaves the range.
use Rattle.std.proofs.Common.{◌≡◌, ap, is_gt, Less, refl, sym, ◌∙◌, ◌&&◌, true, false, IsTrue, IsFalse, List, [], ◌∷◌}
use Rattle.std.specs.Prelude.{ℤ, nat_lt}
use Rattle.std.specs.List.{list_all}
use Rattle.std.specs.List.Sorted.{IsStrictlySortedBy}
use Rattle.std.proofs.lemmas.Bool.{and_parts}
use Rattle.overlay_geometry.specs.Points.{Pair, pair_cmp}
use Rattle.overlay_geometry.specs.Coordinates.{is_pair_in_range}
use Rattle.overlay_geometry.proofs.laws.lists.Lists.{AllByRecursion-weaker, list_all-and_parts}
use Rattle.overlay_geometry.proofs.laws.geometry.Points.{pair_cmp_total}
use Rattle.overlay_geometry.proofs.laws.lists.Keys.{IsInOrder, IsStrictlySortedBy-from_test}
use Rattle.overlay_base.specs.Windings.{is_count_in_range, is_not_empty, is_valid}
use Rattle.overlay_base.specs.Segments.{WholeSegment, pairs, is_map}
use Rattle.overlay_base.specs.Planar.{is_splittable}
use Rattle.overlay_base.specs.Join.{join_leaves_range}
use Rattle.overlay_base.proofs.laws.geometry.Pairs.{pair_eq-less}
use Rattle.overlay_base.proofs.laws.joins.Ranges.{additions_leave_from, additions_leave_from-other, additions_leave_range, additions_leave_range-join}

in_order : (ks : List Pair) → IsStrictlySortedBy pair_cmp ks → IsInOrder pair_cmp ks
unfolding IsStrictlySortedBy
in_order [] h = tt
in_order (k ∷ ks) h = (AllByRecursion-weaker (λ j. pair_cmp k j ≡ Less) (λ j. is_gt (pair_cmp k j) ≡ false) (λ j e. ap is_gt e) ks h.0, in_order ks h.1)

none_added : (s : WholeSegment) (ts : List WholeSegment) → IsStrictlySortedBy pair_cmp (pairs (s ∷ ts)) → additions_leave_from s ts ≡ false
unfolding IsStrictlySortedBy
none_added s [] h = refl
none_added s (t ∷ ts) h = additions_leave_from-other s t ts (pair_eq-less s.pair t.pair h.0.0) ∙ none_added t ts h.1

none_in_map : (segments : List WholeSegment) → IsStrictlySortedBy pair_cmp (pairs segments) → additions_leave_range segments ≡ false
none_in_map [] h = refl
none_in_map (s ∷ ss) h = none_added s ss h

counts_in_range : (least greatest : ℤ) (segments : List WholeSegment) → IsTrue (is_splittable least greatest segments) → list_all (λ s. is_count_in_range s.count) segments ≡ true
unfolding is_splittable
counts_in_range least greatest segments h =
    let outer = list_all-and_parts (λ (s : WholeSegment). is_pair_in_range least greatest s.pair && is_valid s.count) (λ (s : WholeSegment). is_not_empty s.count) segments h in
    let inner = list_all-and_parts (λ (s : WholeSegment). is_pair_in_range least greatest s.pair) (λ (s : WholeSegment). is_valid s.count) segments outer.0 in
    (list_all-and_parts (λ (s : WholeSegment). is_count_in_range s.count) (λ (s : WholeSegment). nat_lt s.count.mask 4) segments inner.1).0

pub map_fits : (least greatest : ℤ) (segments : List WholeSegment) → IsTrue (is_splittable least greatest segments) → IsTrue (is_map segments) → IsFalse (join_leaves_range segments)
unfolding is_map
map_fits least greatest segments splittable map =
    let sorted = IsStrictlySortedBy-from_test pair_cmp_total (pairs segments) (and_parts _ _ map).0 in
    sym (additions_leave_range-join segments (in_order (pairs segments) sorted) (counts_in_range least greatest segments splittable)) ∙ none_in_map segments sorted
