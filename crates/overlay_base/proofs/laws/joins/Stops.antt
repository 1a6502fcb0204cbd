-- Joins that were refused: a sum that is too large stays one as the list goes on, so that a list stops at one place, with one store.
use Rattle.std.proofs.Common.{◌≡◌, refl, sym, ap, ◌∙◌, ⊎_elim, arith, ℕ, ◌+◌, ◌-◌, ◌<◌, ◌≤◌, Bool, true, false, ◌||◌, IsTrue, List, [], ◌∷◌, ◌++◌, take, drop}
use Rattle.std.proofs.Math.Seq.{take-add}
use Rattle.std.proofs.lemmas.Bool.{or_left, both_ways, cases_lt}
use Rattle.std.proofs.lemmas.List.{map-append, take-append-drop}
use Rattle.std.proofs.lemmas.List.Folds.{list_any-append}
use Rattle.overlay_geometry.specs.Points.{Pair, pair_eq}
use Rattle.overlay_geometry.specs.Sorting.{stably_sorted}
use Rattle.overlay_base.specs.Windings.{Winding, empty, add}
use Rattle.overlay_base.specs.Segments.{WholeSegment}
use Rattle.overlay_base.specs.Join.{join_leaves_range}
use Rattle.overlay_base.specs.EdgeData.{DataSegment, Hooks, without_data, data_join, IsStoppedJoin, IsRefusedJoin}
use Rattle.overlay_geometry.proofs.laws.lists.Lists.{list_any-implied}
use Rattle.overlay_geometry.proofs.laws.geometry.Points.{pair_cmp_total}
use Rattle.overlay_base.proofs.laws.joins.Ranges.{is_too_large, sums_leave, sums_leave-nil, sums_leave-same, sums_leave-other, join_leaves_range-sums, join_leaves_range-stable}
use Rattle.overlay_base.proofs.laws.lists.StableSorts.{stably_sorted-stable, stably_sorted-IsPermutation}
use Rattle.overlay_base.proofs.laws.joins.DataJoins.{bare, by_pair, by_data_pair, bare-sorted}

-- ---- a list that goes on

or_more : (a b c : Bool) → (b ≡ true → c ≡ true) → (a || b) ≡ true → (a || c) ≡ true
or_more true b c f h = refl
or_more false b c f h = f h

sums_leave-more : (c : Winding) (xs ys : List WholeSegment) (pair : Pair) → sums_leave c xs pair ≡ true → sums_leave c (xs ++ ys) pair ≡ true
sums_leave-more c [] ys pair h = absurd (both_ways (sums_leave c [] pair) (sums_leave-nil c pair) h)
sums_leave-more c (x ∷ xs) ys pair h = by (λ d k. sums_leave-more d xs ys pair k) (pair_eq x.pair pair) refl
  where
    by : ((d : Winding) → sums_leave d xs pair ≡ true → sums_leave d (xs ++ ys) pair ≡ true) → (b : Bool) → pair_eq x.pair pair ≡ b → sums_leave c (x ∷ (xs ++ ys)) pair ≡ true
    by later true e =
        sums_leave-same c x (xs ++ ys) pair e
        ∙ or_more (is_too_large (add c x.count)) (sums_leave (add c x.count) xs pair) (sums_leave (add c x.count) (xs ++ ys) pair) (later (add c x.count)) (sym (sums_leave-same c x xs pair e) ∙ h)
    by later false e = sums_leave-other c x (xs ++ ys) pair e ∙ later c (sym (sums_leave-other c x xs pair e) ∙ h)

join_leaves_range-more : (xs ys : List WholeSegment) → IsTrue (join_leaves_range xs) → IsTrue (join_leaves_range (xs ++ ys))
join_leaves_range-more xs ys h =
    let first = list_any-implied (λ s. sums_leave empty xs s.pair) (λ s. sums_leave empty (xs ++ ys) s.pair) (λ s. sums_leave-more empty xs ys s.pair) xs (sym (join_leaves_range-sums xs) ∙ h) in
    join_leaves_range-sums (xs ++ ys) ∙ list_any-append (λ s. sums_leave empty (xs ++ ys) s.pair) xs ys ∙ or_left _ _ first

module _ {D : Type 0} where
  leaves_more : (xs ys : List (DataSegment D)) → IsTrue (join_leaves_range (without_data xs)) → IsTrue (join_leaves_range (without_data (xs ++ ys)))
  leaves_more xs ys h = ap join_leaves_range (map-append bare xs ys) ∙ join_leaves_range-more (without_data xs) (without_data ys) h

  leaves_longer : (segments : List (DataSegment D)) (n m : ℕ) → n ≤ m → IsTrue (join_leaves_range (without_data (take n segments))) → IsTrue (join_leaves_range (without_data (take m segments)))
  leaves_longer segments n m le h =
      let parts : n + (m - n) ≡ m = omega (arith, le) in
      let prefix : take m segments ≡ take n segments ++ take (m - n) (drop n segments) = ap (λ (k : ℕ). take k segments) (sym parts) ∙ take-add n (m - n) segments in
      ap (λ (l : List (DataSegment D)). join_leaves_range (without_data l)) prefix ∙ leaves_more (take n segments) (take (m - n) (drop n segments)) h

  -- ---- a join that stopped

  -- a stable sort changes no running sum
  leaves_range-sorted : (segments : List (DataSegment D)) → join_leaves_range (without_data (stably_sorted by_data_pair segments)) ≡ join_leaves_range (without_data segments)
  leaves_range-sorted segments =
      ap join_leaves_range (bare-sorted segments)
      ∙ join_leaves_range-stable (without_data segments) (stably_sorted by_pair (without_data segments)) (stably_sorted-IsPermutation by_pair (without_data segments)) (stably_sorted-stable (λ s. s.pair) _ pair_cmp_total (without_data segments))

  module _ {S : Type 0} (hooks : Hooks D S) (from : S) where
    -- so the whole join leaves the range
    pub refused_leaves_range : (segments : List (DataSegment D)) (left : S) → IsRefusedJoin hooks segments from left → IsTrue (join_leaves_range (without_data segments))
    refused_leaves_range segments left stopped =
        let sorted = stably_sorted by_data_pair segments in
        let n = stopped.stop + 1 in
        sym (leaves_range-sorted segments) ∙ ap (λ (l : List (DataSegment D)). join_leaves_range (without_data l)) (sym (take-append-drop n sorted)) ∙ leaves_more (take n sorted) (drop n sorted) stopped.leaves

    not_before : (segments : List (DataSegment D)) (first second : S) (f : IsStoppedJoin hooks segments from first) (s : IsStoppedJoin hooks segments from second) → s.stop ≤ f.stop
    not_before segments first second f s =
        ⊎_elim (λ (l : f.stop < s.stop). absurd (both_ways (join_leaves_range (without_data (take s.stop segments))) s.fits (leaves_longer segments (f.stop + 1) s.stop (omega (arith, l)) f.leaves))) (λ (l : s.stop ≤ f.stop). l) (cases_lt f.stop s.stop)

    -- a list stops at one place, so the store is determined
    stopped_join_is_one : (segments : List (DataSegment D)) (first second : S) → IsStoppedJoin hooks segments from first → IsStoppedJoin hooks segments from second → first ≡ second
    stopped_join_is_one segments first second f s =
        let same : f.stop ≡ s.stop = omega (arith, not_before segments first second f s, not_before segments second first s f) in
        f.store ∙ ap (λ (n : ℕ). (data_join hooks (take n segments) from).1) same ∙ sym s.store

    pub refused_join_is_one : (segments : List (DataSegment D)) (first second : S) → IsRefusedJoin hooks segments from first → IsRefusedJoin hooks segments from second → first ≡ second
    refused_join_is_one segments = stopped_join_is_one (stably_sorted by_data_pair segments)
