-- Sorting stably by pair and merging neighbors from left to right gives the join.
use Rattle.std.proofs.Common.{◌≡◌, Bool, true, false, cond, List, [], ◌∷◌, map, filter, Ordering, Less, Equal, Greater, is_eq, is_lt, refl, sym, ap, ◌∙◌}
use Rattle.std.specs.Ordering.{ordering_reverse, match_ordering}
use Rattle.std.specs.BTreeSet.{insert_key}
use Rattle.std.specs.List.{AllByRecursion}
use Rattle.std.specs.List.Sorted.{IsStrictlySortedBy}
use Rattle.overlay_geometry.specs.Points.{Pair, pair_cmp, pair_eq}
use Rattle.overlay_geometry.specs.Sorting.{insert_before_ties, stably_sorted, distinct_in_order}
use Rattle.overlay_base.specs.Windings.{Winding, add, empty, is_not_empty}
use Rattle.overlay_base.specs.Segments.{WholeSegment, pairs, winding_at}
use Rattle.overlay_base.specs.Join.{summed, join}
use Rattle.overlay_base.specs.EdgeData.{DataSegment, Hooks, without_data, merged, merge_runs, merge_sorted, data_join}
use Rattle.overlay_base.specs.Laws.{DataJoinIsBeside}
use Rattle.overlay_geometry.proofs.laws.geometry.Points.{pair_cmp_total, pair_same, same_pair_by_eq}
use Rattle.overlay_base.proofs.laws.geometry.Pairs.{holds, holds-distinct, plus}
use Rattle.overlay_geometry.proofs.laws.lists.Keys.{AllByRecursion-less, IsStrictlySortedBy-distinct, has_key-below}
use Rattle.overlay_base.proofs.laws.joins.Bags.{winding_at-here, winding_at-other, winding_at-absent}
use Rattle.overlay_base.proofs.laws.counts.Windings.{add_assoc, add-empty}

-- ---- sums of runs, from right to left

-- a segment before sums: merged with the first if the two have one pair
unfoldable pub onto_sums : WholeSegment → List WholeSegment → List WholeSegment
onto_sums s [] = s ∷ []
onto_sums s (t ∷ ts) = cond (pair_eq s.pair t.pair) (plus s t ∷ ts) (s ∷ t ∷ ts)

unfoldable pub sums_of_runs : List WholeSegment → List WholeSegment
sums_of_runs [] = []
sums_of_runs (s ∷ segments) = onto_sums s (sums_of_runs segments)

plus_assoc : (s t r : WholeSegment) → plus s (plus t r) ≡ plus (plus s t) r
plus_assoc s t r = λ i. record { pair = s.pair; count = sym (add_assoc s.count t.count r.count) i }

same_test : (s t r : Pair) → pair_eq s t ≡ true → pair_eq s r ≡ pair_eq t r
same_test s t r e = ap (λ p. pair_eq p r) (same_pair_by_eq s t e)

pub onto_sums-merged : (s t : WholeSegment) (rest : List WholeSegment) → pair_eq s.pair t.pair ≡ true → onto_sums s (onto_sums t rest) ≡ onto_sums (plus s t) rest
unfolding onto_sums
onto_sums-merged s t [] e = rw e refl
onto_sums-merged s t (r ∷ rest) e = go (pair_eq t.pair r.pair) refl
  where
    go : (b : Bool) → pair_eq t.pair r.pair ≡ b → onto_sums s (onto_sums t (r ∷ rest)) ≡ onto_sums (plus s t) (r ∷ rest)
    go true k = let u : pair_eq s.pair r.pair ≡ true = same_test s.pair t.pair r.pair e ∙ k in rw (k, u, e) (ap (λ z. z ∷ rest) (plus_assoc s t r))
    go false k = let u : pair_eq s.pair r.pair ≡ false = same_test s.pair t.pair r.pair e ∙ k in rw (k, u, e) refl

pub onto_sums-apart : (s t : WholeSegment) (rest : List WholeSegment) → pair_eq s.pair t.pair ≡ false → onto_sums s (onto_sums t rest) ≡ s ∷ onto_sums t rest
unfolding onto_sums
onto_sums-apart s t [] e = rw e refl
onto_sums-apart s t (r ∷ rest) e = go (pair_eq t.pair r.pair) refl
  where
    go : (b : Bool) → pair_eq t.pair r.pair ≡ b → onto_sums s (onto_sums t (r ∷ rest)) ≡ s ∷ onto_sums t (r ∷ rest)
    go true k = rw (k, e) refl
    go false k = rw (k, e) refl

-- ---- a segment put into sums in order

-- a segment in its place among sums: merged with the one on its pair, or before the first that is above it
unfoldable pub placed : WholeSegment → List WholeSegment → List WholeSegment
placed x [] = x ∷ []
placed x (t ∷ ts) = match_ordering (pair_cmp x.pair t.pair) (x ∷ t ∷ ts) (plus x t ∷ ts) (t ∷ placed x ts)

above : (s t : Pair) → pair_cmp s t ≡ Less → pair_cmp t s ≡ Greater
above s t e = pair_cmp_total.antisymm t s ∙ ap ordering_reverse e

onto_sums-placed : (y x : WholeSegment) (rest : List WholeSegment) → pair_cmp y.pair x.pair ≡ Less → onto_sums y (placed x rest) ≡ placed x (onto_sums y rest)
unfolding onto_sums placed
onto_sums-placed y x [] e =
    let u : pair_cmp x.pair y.pair ≡ Greater = above y.pair x.pair e in
    rw (e, u) refl
onto_sums-placed y x (t ∷ rest) e = go (pair_eq y.pair t.pair) refl (pair_cmp x.pair t.pair) refl
  where
    go : (b : Bool) → pair_eq y.pair t.pair ≡ b → (r : Ordering) → pair_cmp x.pair t.pair ≡ r → onto_sums y (placed x (t ∷ rest)) ≡ placed x (onto_sums y (t ∷ rest))
    go true k r h =
        let u : pair_cmp x.pair y.pair ≡ Greater = above y.pair x.pair e in
        let v : pair_cmp x.pair t.pair ≡ Greater = ap (λ p. pair_cmp x.pair p) (sym (same_pair_by_eq y.pair t.pair k)) ∙ u in
        rw (v, k, u) refl
    go false k Less h = let u : pair_cmp x.pair y.pair ≡ Greater = above y.pair x.pair e in rw (h, k, e, u, h) refl
    go false k Equal h = let u : pair_cmp x.pair y.pair ≡ Greater = above y.pair x.pair e in rw (h, k, e, u, h) refl
    go false k Greater h = let u : pair_cmp x.pair y.pair ≡ Greater = above y.pair x.pair e in rw (h, k, u, h) refl

onto_first : (x h : WholeSegment) (rest : List WholeSegment) → is_lt (pair_cmp h.pair x.pair) ≡ false → onto_sums x (h ∷ rest) ≡ placed x (h ∷ rest)
unfolding onto_sums placed
onto_first x h rest e = go (pair_cmp x.pair h.pair) refl
  where
    go : (r : Ordering) → pair_cmp x.pair h.pair ≡ r → onto_sums x (h ∷ rest) ≡ placed x (h ∷ rest)
    go Less k = rw k refl
    go Equal k = rw k refl
    go Greater k =
        let u : pair_cmp h.pair x.pair ≡ Less = pair_cmp_total.antisymm h.pair x.pair ∙ ap ordering_reverse k in
        let v : true ≡ false = sym (ap is_lt u) ∙ e in
        cc

onto_run : (x y : WholeSegment) (rest : List WholeSegment) → is_lt (pair_cmp y.pair x.pair) ≡ false → onto_sums x (onto_sums y rest) ≡ placed x (onto_sums y rest)
unfolding onto_sums
onto_run x y [] e = onto_first x y [] e
onto_run x y (t ∷ rest) e = go (pair_eq y.pair t.pair) refl
  where
    go : (b : Bool) → pair_eq y.pair t.pair ≡ b → onto_sums x (onto_sums y (t ∷ rest)) ≡ placed x (onto_sums y (t ∷ rest))
    go true k = rw k (onto_first x (plus y t) rest e)
    go false k = rw k (onto_first x y (t ∷ rest) e)

abbrev pub by_pair : WholeSegment → WholeSegment → Ordering
by_pair s t = pair_cmp s.pair t.pair

sums-insert : (x : WholeSegment) (segments : List WholeSegment) → sums_of_runs (insert_before_ties by_pair x segments) ≡ placed x (sums_of_runs segments)
unfolding sums_of_runs insert_before_ties onto_sums placed
sums-insert x [] = refl
sums-insert x (y ∷ ys) = go (sums-insert x ys) (pair_cmp y.pair x.pair) refl
  where
    go : sums_of_runs (insert_before_ties by_pair x ys) ≡ placed x (sums_of_runs ys) → (r : Ordering) → pair_cmp y.pair x.pair ≡ r → sums_of_runs (insert_before_ties by_pair x (y ∷ ys)) ≡ placed x (sums_of_runs (y ∷ ys))
    go ih Less e = rw e (ap (onto_sums y) ih ∙ onto_sums-placed y x (sums_of_runs ys) e)
    go ih Equal e = rw e (onto_run x y (sums_of_runs ys) (ap is_lt e))
    go ih Greater e = rw e (onto_run x y (sums_of_runs ys) (ap is_lt e))

-- ---- the same for a bag's sums

abbrev with_counts : (Pair → Winding) → List Pair → List WholeSegment
with_counts w ks = map (λ p. record { pair = p; count = w p }) ks

same_counts : (q : Pair) (w v : Pair → Winding) → ((p : Pair) → pair_cmp q p ≡ Less → v p ≡ w p) → (ks : List Pair) → AllByRecursion (λ p. pair_cmp q p ≡ Less) ks → with_counts v ks ≡ with_counts w ks
same_counts q w v agree [] a = refl
same_counts q w v agree (k ∷ ks) a = λ i. record { pair = k; count = agree k a.0 i } ∷ same_counts q w v agree ks a.1 i

placed-with_counts : (x : WholeSegment) (w v : Pair → Winding) → ((p : Pair) → pair_eq x.pair p ≡ false → v p ≡ w p) → v x.pair ≡ add x.count (w x.pair)
    → (ks : List Pair) → IsStrictlySortedBy pair_cmp ks → (holds ks x.pair ≡ false → w x.pair ≡ empty)
    → with_counts v (insert_key pair_cmp ks x.pair) ≡ placed x (with_counts w ks)
unfolding placed IsStrictlySortedBy
placed-with_counts x w v agree here [] s absent =
    let c : v x.pair ≡ x.count = here ∙ ap (add x.count) (absent refl) ∙ add-empty x.count in
    λ i. record { pair = x.pair; count = c i } ∷ []
placed-with_counts x w v agree here (y ∷ ys) s absent = go (placed-with_counts x w v agree here ys s.1) (pair_cmp x.pair y) refl
  where
    above_agrees : (p : Pair) → pair_cmp x.pair p ≡ Less → v p ≡ w p
    above_agrees p e = agree p (ap is_eq e)

    go : ((holds ys x.pair ≡ false → w x.pair ≡ empty) → with_counts v (insert_key pair_cmp ys x.pair) ≡ placed x (with_counts w ys))
        → (r : Ordering) → pair_cmp x.pair y ≡ r → with_counts v (insert_key pair_cmp (y ∷ ys) x.pair) ≡ placed x (with_counts w (y ∷ ys))
    go ih Less e =
        let after : AllByRecursion (λ p. pair_cmp x.pair p ≡ Less) (y ∷ ys) = (e, AllByRecursion-less pair_cmp_total x.pair y ys e s.0) in
        let c : v x.pair ≡ x.count = here ∙ ap (add x.count) (absent (has_key-below pair_cmp x.pair (y ∷ ys) after)) ∙ add-empty x.count in
        rw e (λ i. record { pair = x.pair; count = c i } ∷ same_counts x.pair w v above_agrees (y ∷ ys) after i)
    go ih Equal e =
        let same : x.pair ≡ y = pair_same x.pair y e in
        let c : v y ≡ add x.count (w y) = ap v (sym same) ∙ here ∙ ap (λ p. add x.count (w p)) same in
        let after : with_counts v ys ≡ with_counts w ys = same_counts y w v (λ p h. above_agrees p (ap (λ q. pair_cmp q p) same ∙ h)) ys s.0 in
        rw e (λ i. record { pair = sym same i; count = c i } ∷ after i)
    go ih Greater e =
        let c : v y ≡ w y = agree y (ap is_eq e) in
        let rest = ih (λ h. absent (rw e h)) in
        rw e (λ i. record { pair = y; count = c i } ∷ rest i)

-- one segment more in a bag
pub summed-more : (x : WholeSegment) (bag : List WholeSegment) → summed (x ∷ bag) ≡ placed x (summed bag)
unfolding summed distinct_in_order
summed-more x bag =
    placed-with_counts x (winding_at bag) (winding_at (x ∷ bag)) (winding_at-other x bag) (winding_at-here x bag)
    (distinct_in_order pair_cmp (pairs bag)) (IsStrictlySortedBy-distinct pair_cmp_total (pairs bag))
    (λ h. winding_at-absent bag x.pair (sym (holds-distinct (pairs bag) x.pair) ∙ h))

-- the runs of a stably sorted bag sum to the sums of its pairs
pub sums_of_sorted : (bag : List WholeSegment) → sums_of_runs (stably_sorted by_pair bag) ≡ summed bag
unfolding sums_of_runs stably_sorted summed distinct_in_order
sums_of_sorted [] = refl
sums_of_sorted (x ∷ bag) = sums-insert x (stably_sorted by_pair bag) ∙ ap (placed x) (sums_of_sorted bag) ∙ sym (summed-more x bag)

-- ---- without its data the join with data is the join

-- a segment without its data
abbrev pub bare : {D : Type 0} → DataSegment D → WholeSegment
bare s = record { pair = s.pair; count = s.count }

abbrev pub by_data_pair : {D : Type 0} → DataSegment D → DataSegment D → Ordering
by_data_pair s t = pair_cmp s.pair t.pair

module _ {D : Type 0} where
  bare-insert : (x : DataSegment D) (segments : List (DataSegment D)) → without_data (insert_before_ties by_data_pair x segments) ≡ insert_before_ties by_pair (bare x) (without_data segments)
  unfolding insert_before_ties
  bare-insert x [] = refl
  bare-insert x (y ∷ ys) = go (bare-insert x ys) (is_lt (pair_cmp y.pair x.pair)) refl
    where
      go : without_data (insert_before_ties by_data_pair x ys) ≡ insert_before_ties by_pair (bare x) (without_data ys) → (b : Bool) → is_lt (pair_cmp y.pair x.pair) ≡ b
          → without_data (insert_before_ties by_data_pair x (y ∷ ys)) ≡ insert_before_ties by_pair (bare x) (without_data (y ∷ ys))
      go ih true e = rw e (ap (λ l. bare y ∷ l) ih)
      go ih false e = rw e refl

  pub bare-sorted : (segments : List (DataSegment D)) → without_data (stably_sorted by_data_pair segments) ≡ stably_sorted by_pair (without_data segments)
  unfolding stably_sorted
  bare-sorted [] = refl
  bare-sorted (x ∷ xs) = bare-insert x (stably_sorted by_data_pair xs) ∙ ap (insert_before_ties by_pair (bare x)) (bare-sorted xs)

  pub bare-filter : (segments : List (DataSegment D)) → without_data (filter (λ s. is_not_empty s.count) segments) ≡ filter (λ s. is_not_empty s.count) (without_data segments)
  bare-filter [] = refl
  bare-filter (x ∷ xs) = go (bare-filter xs) (is_not_empty x.count) refl
    where
      go : without_data (filter (λ s. is_not_empty s.count) xs) ≡ filter (λ s. is_not_empty s.count) (without_data xs) → (b : Bool) → is_not_empty x.count ≡ b
          → without_data (filter (λ s. is_not_empty s.count) (x ∷ xs)) ≡ filter (λ s. is_not_empty s.count) (without_data (x ∷ xs))
      go ih true e = rw e (ap (λ l. bare x ∷ l) ih)
      go ih false e = rw e ih

module _ {D S : Type 0} (hooks : Hooks D S) where
  pub bare-merge_runs : (segments : List (DataSegment D)) (first : DataSegment D) (store : S) → without_data (merge_runs hooks first segments store).0 ≡ onto_sums (bare first) (sums_of_runs (without_data segments))
  unfolding merge_runs merged onto_sums sums_of_runs
  bare-merge_runs [] first store = refl
  bare-merge_runs (next ∷ segments) first store = go (λ f s. bare-merge_runs segments f s) (pair_eq first.pair next.pair) refl
    where
      go : ((f : DataSegment D) (s : S) → without_data (merge_runs hooks f segments s).0 ≡ onto_sums (bare f) (sums_of_runs (without_data segments)))
          → (b : Bool) → pair_eq first.pair next.pair ≡ b → without_data (merge_runs hooks first (next ∷ segments) store).0 ≡ onto_sums (bare first) (sums_of_runs (without_data (next ∷ segments)))
      go ih true e =
          let joined : DataSegment D × S = merged hooks first next store in
          let merge = onto_sums-merged (bare first) (bare next) (sums_of_runs (without_data segments)) e in
          rw (e, merge_runs) (ih joined.0 joined.1) ∙ sym merge
      go ih false e =
          let apart = onto_sums-apart (bare first) (bare next) (sums_of_runs (without_data segments)) e in
          rw (e, merge_runs) (ap (λ l. bare first ∷ l) (ih next store)) ∙ sym apart

  pub bare-merge_sorted : (segments : List (DataSegment D)) (store : S) → without_data (merge_sorted hooks segments store).0 ≡ sums_of_runs (without_data segments)
  unfolding merge_sorted sums_of_runs
  bare-merge_sorted [] store = refl
  bare-merge_sorted (first ∷ segments) store = bare-merge_runs segments first store

  -- sorted stably and merged: the join
  pub bare-data_join : (segments : List (DataSegment D)) (store : S) → without_data (data_join hooks segments store).0 ≡ join (without_data segments)
  unfolding data_join join
  bare-data_join segments store =
      let sorted : List (DataSegment D) = stably_sorted by_data_pair segments in
      bare-filter (merge_sorted hooks sorted store).0
      ∙ ap (λ l. filter (λ s. is_not_empty s.count) l) (bare-merge_sorted sorted store ∙ ap sums_of_runs (bare-sorted segments) ∙ sums_of_sorted (without_data segments))

pub data_join_is_beside : {D S : Type 0} → DataJoinIsBeside D S
data_join_is_beside hooks = bare-data_join hooks
