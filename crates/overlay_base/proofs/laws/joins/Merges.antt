-- The join with data as a walk from left to right that writes over the list that it reads: what is kept so far, the segment at hand, the store.
use Rattle.std.proofs.Common.{◌≡◌, ℕ, ◌+◌, ◌<◌, ◌≤◌, Bool, true, false, not, ◌&&◌, ◌||◌, Option, Some, None, List, [], ◌∷◌, ◌++◌, length, take, drop, get_or, map, fold, refl, sym, ap, ◌∙◌, arith, append_assoc, add-zero, IsFalse, IsTrue, subst, All}
use Rattle.std.specs.List.{list_all, AllByRecursion}
use Rattle.std.proofs.lemmas.Bool.{and_from, and_parts, not-true, not-false}
use Rattle.std.proofs.Math.Bool.{and-true, or-false, or-true}
use Rattle.std.proofs.lemmas.List.Elements.{recursion_from_All}
use Rattle.std.specs.List.Sorted.{IsSortedByKey}
use Rattle.std.proofs.lemmas.List.{length-map, take-append-drop, take_all, take_more, map-append, take-map, get_or-drop}
use Rattle.std.proofs.lemmas.List.Sums.{fold-append}
use Rattle.overlay_geometry.specs.Points.{pair_cmp, pair_eq}
use Rattle.overlay_geometry.specs.Sorting.{stably_sorted, distinct_in_order}
use Rattle.overlay_base.specs.Windings.{add, is_count_in_range, is_valid}
use Rattle.overlay_base.specs.Segments.{pairs}
use Rattle.overlay_base.specs.EdgeData.{DataSegment, Hooks, kept_sum, without_data, merged, merge_sorted, data_join, IsStoppedJoin}
use Rattle.overlay_base.specs.Join.{join, summed, join_leaves_range, has_equal_neighbors}
use Rattle.overlay_geometry.proofs.laws.geometry.Points.{pair_cmp_total}
use Rattle.overlay_geometry.proofs.laws.lists.Lists.{AllByRecursion-take, drop-later}
use Rattle.overlay_geometry.proofs.laws.lists.Keys.{IsInOrder, IsInOrder-from_sort, IsInOrder-take}
use Rattle.overlay_base.proofs.laws.lists.StableSorts.{stably_sorted-in_order}
use Rattle.overlay_base.proofs.laws.joins.Ranges.{additions_leave_from, additions_leave_from-same, additions_leave_from-other, additions_leave_range, additions_leave_range-join}
use Rattle.overlay_base.proofs.laws.joins.DataJoins.{bare, bare-data_join}
use Rattle.overlay_base.proofs.laws.joins.DataWalks.{kept_of, walked, walked-is, walked_runs}

-- how far the walk has come: what is done and not empty, the sum at hand, the store, whether each sum was in range, whether two neighbors had one pair
pub record Walk (D S : Type 0) : Type 0 where
  pub kept : List (DataSegment D)
  pub held : Option (DataSegment D)
  pub store : S
  pub fits : Bool
  pub joined : Bool

module _ {D S : Type 0} (hooks : Hooks D S) where
  abbrev pub with_next : Walk D S → DataSegment D → DataSegment D → Walk D S
  with_next w first next =
      elim (pair_eq first.pair next.pair) [
        | true ↦
            let sum : DataSegment D × S = merged hooks first next w.store in
            record { kept = w.kept; held = Some sum.0; store = sum.1; fits = w.fits && is_count_in_range (add first.count next.count); joined = true }
        | false ↦ record { kept = w.kept ++ kept_sum first; held = Some next; store = w.store; fits = w.fits; joined = w.joined }
      ]

  -- one more segment
  unfoldable pub step : Walk D S → DataSegment D → Walk D S
  step w next = elim w.held [ None ↦ record w { held = Some next } | Some first ↦ with_next w first next ]

  abbrev pub started : S → Walk D S
  started from = record { kept = []; held = None; store = from; fits = true; joined = false }

  unfoldable pub walk : List (DataSegment D) → S → Walk D S
  walk segments from = fold step (started from) segments

  abbrev pub finished : Walk D S → List (DataSegment D) × S
  finished w = (w.kept ++ elim w.held [ None ↦ [] | Some first ↦ kept_sum first ], w.store)

  abbrev pub at : List (DataSegment D) → DataSegment D → S → Bool → Bool → Walk D S
  at kept first store fits joined = record { kept = kept; held = Some first; store = store; fits = fits; joined = joined }

  pub step-same : (kept : List (DataSegment D)) (first next : DataSegment D) (store : S) (fits joined : Bool) → pair_eq first.pair next.pair ≡ true
      → step (at kept first store fits joined) next ≡ at kept (merged hooks first next store).0 (merged hooks first next store).1 (fits && is_count_in_range (add first.count next.count)) true
  unfolding step
  step-same kept first next store fits joined e =
      ap (λ b. elim b as (λ _. Walk D S) [
        | true ↦ at kept (merged hooks first next store).0 (merged hooks first next store).1 (fits && is_count_in_range (add first.count next.count)) true
        | false ↦ at (kept ++ kept_sum first) next store fits joined
      ]) e

  pub step-other : (kept : List (DataSegment D)) (first next : DataSegment D) (store : S) (fits joined : Bool) → pair_eq first.pair next.pair ≡ false
      → step (at kept first store fits joined) next ≡ at (kept ++ kept_sum first) next store fits joined
  unfolding step
  step-other kept first next store fits joined e =
      ap (λ b. elim b as (λ _. Walk D S) [
        | true ↦ at kept (merged hooks first next store).0 (merged hooks first next store).1 (fits && is_count_in_range (add first.count next.count)) true
        | false ↦ at (kept ++ kept_sum first) next store fits joined
      ]) e

  -- what holds of the walk from either next state holds of the walk
  by_next : (P : Walk D S → Type 0) (kept : List (DataSegment D)) (first next : DataSegment D) (store : S) (fits joined : Bool) (segments : List (DataSegment D))
      → (pair_eq first.pair next.pair ≡ true → P (fold step (at kept (merged hooks first next store).0 (merged hooks first next store).1 (fits && is_count_in_range (add first.count next.count)) true) segments))
      → (pair_eq first.pair next.pair ≡ false → P (fold step (at (kept ++ kept_sum first) next store fits joined) segments))
      → P (fold step (at kept first store fits joined) (next ∷ segments))
  by_next P kept first next store fits joined segments same other = by (pair_eq first.pair next.pair) refl
    where
      by : (b : Bool) → pair_eq first.pair next.pair ≡ b → P (fold step (at kept first store fits joined) (next ∷ segments))
      by true e = subst (λ w. P (fold step w segments)) (sym (step-same kept first next store fits joined e)) (same e)
      by false e = subst (λ w. P (fold step w segments)) (sym (step-other kept first next store fits joined e)) (other e)

  -- ---- the walk is that from right to left

  finished-from : (segments : List (DataSegment D)) (kept : List (DataSegment D)) (first : DataSegment D) (store : S) (fits joined : Bool)
      → finished (fold step (at kept first store fits joined) segments) ≡ (kept ++ (walked_runs hooks first segments store).0, (walked_runs hooks first segments store).1)
  unfolding walked_runs
  finished-from [] kept first store fits joined = refl
  finished-from (next ∷ segments) kept first store fits joined =
      by_next (λ w. finished w ≡ (kept ++ (walked_runs hooks first (next ∷ segments) store).0, (walked_runs hooks first (next ∷ segments) store).1)) kept first next store fits joined segments
      (λ e. rw (e, walked_runs) (finished-from segments kept _ _ _ _))
      (λ e. rw (e, walked_runs) (finished-from segments (kept ++ kept_sum first) next store fits joined ∙ (λ i. (append_assoc kept (kept_sum first) (walked_runs hooks next segments store).0 i, (walked_runs hooks next segments store).1))))

  -- ---- its tests

  and_neither : (a b c : Bool) → ((a && b) && not c) ≡ (a && not (not b || c))
  and_neither true true c = refl
  and_neither true false c = refl
  and_neither false b c = refl

  fits-from : (segments : List (DataSegment D)) (kept : List (DataSegment D)) (first : DataSegment D) (store : S) (fits joined : Bool)
      → (fold step (at kept first store fits joined) segments).fits ≡ (fits && not (additions_leave_from (bare first) (without_data segments)))
  unfolding merged
  fits-from [] kept first store fits joined = sym (and-true fits)
  fits-from (next ∷ segments) kept first store fits joined =
      by_next (λ w. w.fits ≡ (fits && not (additions_leave_from (bare first) (without_data (next ∷ segments))))) kept first next store fits joined segments
      (λ e. fits-from segments kept _ _ _ true ∙ and_neither fits _ _ ∙ sym (ap (λ b. fits && not b) (additions_leave_from-same (bare first) (bare next) (without_data segments) e)))
      (λ e. fits-from segments (kept ++ kept_sum first) next store fits joined ∙ sym (ap (λ b. fits && not b) (additions_leave_from-other (bare first) (bare next) (without_data segments) e)))

  joined-from : (segments : List (DataSegment D)) (kept : List (DataSegment D)) (first : DataSegment D) (store : S) (fits joined : Bool)
      → (fold step (at kept first store fits joined) segments).joined ≡ (joined || has_equal_neighbors (bare first ∷ without_data segments))
  joined-from [] kept first store fits joined = sym (or-false joined)
  joined-from (next ∷ segments) kept first store fits joined =
      by_next (λ w. w.joined ≡ (joined || has_equal_neighbors (bare first ∷ without_data (next ∷ segments)))) kept first next store fits joined segments
      (λ e. joined-from segments kept _ _ _ true ∙ sym (ap (λ b. joined || (b || has_equal_neighbors (without_data (next ∷ segments)))) e ∙ or-true joined))
      (λ e. joined-from segments (kept ++ kept_sum first) next store fits joined ∙ sym (ap (λ b. joined || (b || has_equal_neighbors (without_data (next ∷ segments)))) e))

  -- ---- the whole walk

  pub walk-more : (segments : List (DataSegment D)) (next : DataSegment D) (from : S) → walk (segments ++ next ∷ []) from ≡ step (walk segments from) next
  unfolding walk
  walk-more segments next from = fold-append step (started from) segments (next ∷ [])

  pub walk-first : (first : DataSegment D) (from : S) → walk (first ∷ []) from ≡ at [] first from true false
  unfolding walk step
  walk-first first from = refl

  pub finished-walk : (segments : List (DataSegment D)) (from : S) → finished (walk segments from) ≡ walked hooks segments from
  unfolding walk step walked
  finished-walk [] from = refl
  finished-walk (first ∷ segments) from = finished-from segments [] first from true false

  pub fits-walk : (segments : List (DataSegment D)) (from : S) → (walk segments from).fits ≡ not (additions_leave_range (without_data segments))
  unfolding walk step
  fits-walk [] from = refl
  fits-walk (first ∷ segments) from = fits-from segments [] first from true false

  pub joined-walk : (segments : List (DataSegment D)) (from : S) → (walk segments from).joined ≡ has_equal_neighbors (without_data segments)
  unfolding walk step
  joined-walk [] from = refl
  joined-walk (first ∷ segments) from = joined-from segments [] first from true false

-- segments in order of their pairs, each count in range
pub record AreInOrder {D : Type 0} (segments : List (DataSegment D)) : Type 0 where
  pub sorted : IsInOrder pair_cmp (map (λ s. s.pair) segments)
  pub in_range : AllByRecursion (λ s. is_count_in_range s.count ≡ true) segments

pub AreInOrder-take : {D : Type 0} (n : ℕ) (segments : List (DataSegment D)) → AreInOrder segments → AreInOrder (take n segments)
AreInOrder-take n segments o = record {
  sorted = subst (IsInOrder pair_cmp) (take-map (λ s. s.pair) n segments) (IsInOrder-take pair_cmp n (map (λ s. s.pair) segments) o.sorted);
  in_range = AllByRecursion-take (λ s. is_count_in_range s.count ≡ true) n segments o.in_range;
}

pairs-without_data : {D : Type 0} (segments : List (DataSegment D)) → pairs (without_data segments) ≡ map (λ s. s.pair) segments
pairs-without_data [] = refl
pairs-without_data (s ∷ segments) = ap (λ l. s.pair ∷ l) (pairs-without_data segments)

all_in_range : {D : Type 0} (segments : List (DataSegment D)) → AllByRecursion (λ s. is_count_in_range s.count ≡ true) segments → list_all (λ s. is_count_in_range s.count) (without_data segments) ≡ true
all_in_range [] h = refl
all_in_range (s ∷ segments) h = and_from _ _ h.0 (all_in_range segments h.1)

module _ {D S : Type 0} (hooks : Hooks D S) (segments : List (DataSegment D)) (o : AreInOrder segments) where
  -- of segments in order the walk makes the join, and its sums show whether the join leaves the range
  pub finished-data_join : (from : S) → finished hooks (walk hooks segments from) ≡ data_join hooks segments from
  unfolding data_join
  finished-data_join from = finished-walk hooks segments from ∙ walked-is hooks segments from ∙ ap (λ l. kept_of hooks (merge_sorted hooks l from)) (sym (stably_sorted-in_order (λ s. s.pair) pair_cmp_total segments o.sorted))

  pub fits-join_leaves_range : (from : S) → (walk hooks segments from).fits ≡ not (join_leaves_range (without_data segments))
  fits-join_leaves_range from = fits-walk hooks segments from ∙ ap not (additions_leave_range-join (without_data segments) (subst (IsInOrder pair_cmp) (sym (pairs-without_data segments)) o.sorted) (all_in_range segments o.in_range))

-- ---- a loop's steps

-- f is what an element stands for; all is the list at first, now the list that is being written over, and held the segment at hand, before index
pub record IsWalked {X D S : Type 0} (f : X → DataSegment D) (hooks : Hooks D S) (all now : List X) (from : S) (held : X) (kept index : ℕ) (store : S) (joined : Bool) : Type 0 where
  pub below : kept < index
  pub within : index ≤ length all
  pub same_length : length now ≡ length all
  pub rest : drop index now ≡ drop index all
  pub walked : walk hooks (map f (take index all)) from ≡ at hooks (map f (take kept now)) (f held) store true joined

module _ {X D S : Type 0} (f : X → DataSegment D) (hooks : Hooks D S) (all : List X) (from : S) where
  -- what is at the index is still what was there
  still : (now : List X) (index : ℕ) (x : X) → drop index now ≡ drop index all → index < length now → index < length all → x ≡ get_or now index x → x ≡ get_or all index x
  still now index x rest lt lt' is =
      let a = get_or-drop index now 0 x in
      let b = get_or-drop index all 0 x in
      is ∙ ap (λ n. get_or now n x) (sym (add-zero index)) ∙ sym a ∙ ap (λ l. get_or l 0 x) rest ∙ b ∙ ap (λ n. get_or all n x) (add-zero index)

  map-take_more : (index : ℕ) (x : X) → index < length all → x ≡ get_or all index x → map f (take (index + 1) all) ≡ map f (take index all) ++ f x ∷ []
  map-take_more index x lt is = ap (map f) (take_more all index x lt ∙ ap (λ y. take index all ++ y ∷ []) (sym is)) ∙ map-append f (take index all) (x ∷ [])

  walk-next : (index : ℕ) (x : X) → index < length all → x ≡ get_or all index x → walk hooks (map f (take (index + 1) all)) from ≡ step hooks (walk hooks (map f (take index all)) from) (f x)
  walk-next index x lt is = ap (λ l. walk hooks l from) (map-take_more index x lt is) ∙ walk-more hooks (map f (take index all)) (f x) from

  pub IsWalked-start : (x : X) → 0 < length all → x ≡ get_or all 0 x → IsWalked f hooks all all from x 0 1 from false
  IsWalked-start x lt is = record {
    below = omega arith;
    within = omega arith;
    same_length = refl;
    rest = refl;
    walked = ap (λ l. walk hooks l from) (map-take_more 0 x lt is) ∙ walk-first hooks (f x) from;
  }

  module _ (now : List X) (held x : X) (kept index : ℕ) (store : S) (joined : Bool) (w : IsWalked f hooks all now from held kept index store joined) (lt : index < length now) (is : x ≡ get_or now index x) where
    in_all : index < length all
    in_all = omega (arith, w.same_length)

    stepped : walk hooks (map f (take (index + 1) all)) from ≡ step hooks (at hooks (map f (take kept now)) (f held) store true joined) (f x)
    stepped = walk-next index x in_all (still now index x w.rest lt in_all is) ∙ ap (λ v. step hooks v (f x)) w.walked

    rest-next : (now' : List X) → drop (kept + 1) now' ≡ drop (kept + 1) now → drop (index + 1) now' ≡ drop (index + 1) all
    rest-next now' e = drop-later now' now (kept + 1) (index + 1) (omega (arith, w.below)) e ∙ drop-later now all index (index + 1) (omega arith) w.rest

    pub IsWalked-same : (sum : X) (store' : S) → pair_eq (f held).pair (f x).pair ≡ true → is_count_in_range (add (f held).count (f x).count) ≡ true
        → f sum ≡ (merged hooks (f held) (f x) store).0 → store' ≡ (merged hooks (f held) (f x) store).1 → IsWalked f hooks all now from sum kept (index + 1) store' true
    IsWalked-same sum store' same fits s t = record {
      below = omega (arith, w.below);
      within = omega (arith, in_all);
      same_length = w.same_length;
      rest = rest-next now refl;
      walked =
          stepped ∙ step-same hooks (map f (take kept now)) (f held) (f x) store true joined same
          ∙ (λ i. at hooks (map f (take kept now)) (sym s i) (sym t i) (fits i) true);
    }

    pub IsWalked-other : (now' : List X) (kept' : ℕ) → pair_eq (f held).pair (f x).pair ≡ false → map f (take kept' now') ≡ map f (take kept now) ++ kept_sum (f held)
        → kept' ≤ kept + 1 → drop (kept + 1) now' ≡ drop (kept + 1) now → length now' ≡ length now → IsWalked f hooks all now' from x kept' (index + 1) store joined
    IsWalked-other now' kept' other put bound later len = record {
      below = omega (arith, w.below);
      within = omega (arith, in_all);
      same_length = len ∙ w.same_length;
      rest = rest-next now' later;
      walked = stepped ∙ step-other hooks (map f (take kept now)) (f held) (f x) store true joined other ∙ (λ i. at hooks (sym put i) (f x) store true joined);
    }

    module _ (o : AreInOrder (map f all)) where
      leaves : (n : ℕ) (b : Bool) → (walk hooks (map f (take n all)) from).fits ≡ b → join_leaves_range (without_data (take n (map f all))) ≡ not b
      leaves n b h =
          let a : (walk hooks (take n (map f all)) from).fits ≡ not (join_leaves_range (without_data (take n (map f all)))) = fits-join_leaves_range hooks (take n (map f all)) (AreInOrder-take n (map f all) o) from in
          turned _ b (sym a ∙ ap (λ l. (walk hooks l from).fits) (take-map f n all) ∙ h)
        where
          turned : (a b : Bool) → not a ≡ b → a ≡ not b
          turned true b h = ap not h
          turned false b h = ap not h

      -- the next sum is too large
      pub IsWalked-refused : pair_eq (f held).pair (f x).pair ≡ true → is_count_in_range (add (f held).count (f x).count) ≡ false → IsStoppedJoin hooks (map f all) from store
      IsWalked-refused same out = record {
        stop = index;
        before_end = subst (λ n. index < n) (sym (length-map all f)) in_all;
        fits = leaves index true (ap (λ v. v.fits) w.walked);
        leaves = leaves (index + 1) false (ap (λ v. v.fits) (stepped ∙ step-same hooks (map f (take kept now)) (f held) (f x) store true joined same) ∙ out);
        store =
            sym (ap (λ d. d.1) (sym (finished-data_join hooks (take index (map f all)) (AreInOrder-take index (map f all) o) from)) ∙ ap (λ l. (walk hooks l from).store) (take-map f index all)
            ∙ ap (λ v. v.store) w.walked);
      }

      -- so the sums of the whole list leave the range
      pub leaves_whole : pair_eq (f held).pair (f x).pair ≡ true → is_count_in_range (add (f held).count (f x).count) ≡ false → IsTrue (join_leaves_range (without_data (map f all)))
      unfolding walk
      leaves_whole same out = not-false _ (sym (fits-join_leaves_range hooks (map f all) o from) ∙ unfit)
        where
          sum : DataSegment D × S
          sum = merged hooks (f held) (f x) store

          split : map f all ≡ map f (take (index + 1) all) ++ map f (drop (index + 1) all)
          split = ap (map f) (sym (take-append-drop (index + 1) all)) ∙ map-append f (take (index + 1) all) (drop (index + 1) all)

          unfit : (walk hooks (map f all) from).fits ≡ false
          unfit =
              ap (λ l. (walk hooks l from).fits) split ∙ ap (λ v. v.fits) (fold-append (step hooks) (started hooks from) (map f (take (index + 1) all)) (map f (drop (index + 1) all)))
              ∙ ap (λ v. (fold (step hooks) v (map f (drop (index + 1) all))).fits) (stepped ∙ step-same hooks (map f (take kept now)) (f held) (f x) store true joined same)
              ∙ fits-from hooks (map f (drop (index + 1) all)) (map f (take kept now)) sum.0 sum.1 (is_count_in_range (add (f held).count (f x).count)) true
              ∙ ap (λ b. b && not (additions_leave_from (bare sum.0) (without_data (map f (drop (index + 1) all))))) out

  -- at the end: the segments that are kept, with the one at hand
  pub IsWalked-end : (now now' : List X) (held : X) (kept kept' index : ℕ) (store : S) (joined : Bool) → IsWalked f hooks all now from held kept index store joined → length now ≤ index
      → map f (take kept' now') ≡ map f (take kept now) ++ kept_sum (f held) → AreInOrder (map f all)
      → (map f (take kept' now') ≡ (data_join hooks (map f all) from).0) × (store ≡ (data_join hooks (map f all) from).1) × IsFalse (join_leaves_range (without_data (map f all))) × (joined ≡ has_equal_neighbors (without_data (map f all)))
  IsWalked-end now now' held kept kept' index store joined w le put o =
      let whole : take index all ≡ all = take_all index all (omega (arith, w.same_length)) in
      let walked : walk hooks (map f all) from ≡ at hooks (map f (take kept now)) (f held) store true joined = ap (λ l. walk hooks (map f l) from) (sym whole) ∙ w.walked in
      let done : ((map f (take kept now) ++ kept_sum (f held)), store) ≡ data_join hooks (map f all) from = ap (finished hooks) (sym walked) ∙ finished-data_join hooks (map f all) o from in (
        put ∙ ap (λ d. d.0) done,
        ap (λ d. d.1) done,
        not-true _ (sym (fits-join_leaves_range hooks (map f all) o from) ∙ ap (λ v. v.fits) walked),
        sym (ap (λ v. v.joined) walked) ∙ joined-walk hooks (map f all) from,
      )

-- ---- what a list stands for before and after

pub without_data-map : {X D : Type 0} (f : X → DataSegment D) (xs : List X) → without_data (map f xs) ≡ map (λ x. bare (f x)) xs
without_data-map f [] = refl
without_data-map f (x ∷ xs) = ap (λ l. bare (f x) ∷ l) (without_data-map f xs)

pub AreInOrder-from : {X D : Type 0} (f : X → DataSegment D) (xs : List X) → IsSortedByKey (λ x. (f x).pair) pair_cmp xs → All (λ x. IsTrue (is_valid (f x).count)) xs → AreInOrder (map f xs)
AreInOrder-from f xs h v = record {
  sorted = subst (IsInOrder pair_cmp) (keys xs) (IsInOrder-from_sort pair_cmp_total (λ x. (f x).pair) xs h);
  in_range = counts xs (recursion_from_All (λ x. IsTrue (is_valid (f x).count)) xs v);
}
  where
    keys : (l : List _) → map (λ x. (f x).pair) l ≡ map (λ s. s.pair) (map f l)
    keys [] = refl
    keys (x ∷ l) = ap (λ ks. (f x).pair ∷ ks) (keys l)

    counts : (l : List _) → AllByRecursion (λ x. IsTrue (is_valid (f x).count)) l → AllByRecursion (λ s. is_count_in_range s.count ≡ true) (map f l)
    counts [] a = tt
    counts (x ∷ l) a = ((and_parts _ _ a.0).0, counts l a.1)

-- the list after a join without refusal, in every respect
pub record IsJoined {X D S : Type 0} (f : X → DataSegment D) (hooks : Hooks D S) (all new : List X) (from left : S) (joined : Bool) : Type 0 where
  pub geometry : map (λ x. bare (f x)) new ≡ join (map (λ x. bare (f x)) all)
  pub edge_data : map f new ≡ (data_join hooks (map f all) from).0
  pub store : left ≡ (data_join hooks (map f all) from).1
  pub fits : IsFalse (join_leaves_range (map (λ x. bare (f x)) all))
  pub repeated : joined ≡ has_equal_neighbors (map (λ x. bare (f x)) all)

module _ {X D S : Type 0} (f : X → DataSegment D) (hooks : Hooks D S) where
  pub IsJoined-empty : (all : List X) (from : S) → length all ≡ 0 → IsJoined f hooks all all from from false
  unfolding join summed distinct_in_order data_join stably_sorted merge_sorted join_leaves_range
  IsJoined-empty [] from e = record { geometry = refl; edge_data = refl; store = refl; fits = refl; repeated = refl }
  IsJoined-empty (x ∷ all) from e = absurd (omega arith)

  pub IsJoined-end : (all now now' : List X) (from : S) (held : X) (kept kept' index : ℕ) (store : S) (joined : Bool) → IsWalked f hooks all now from held kept index store joined → length now ≤ index
      → map f (take kept' now') ≡ map f (take kept now) ++ kept_sum (f held) → AreInOrder (map f all) → IsJoined f hooks all (take kept' now') from store joined
  IsJoined-end all now now' from held kept kept' index store joined w le put o =
      let done = IsWalked-end f hooks all from now now' held kept kept' index store joined w le put o in
      let bare_all = without_data-map f all in
      record {
        geometry = sym (without_data-map f (take kept' now')) ∙ ap without_data done.0 ∙ bare-data_join hooks (map f all) from ∙ ap join bare_all;
        edge_data = done.0;
        store = done.1;
        fits = ap join_leaves_range (sym bare_all) ∙ done.2;
        repeated = done.3 ∙ ap has_equal_neighbors bare_all;
      }
