-- The members of a join: which pairs are in it, and what holds of its counts.
use Rattle.std.proofs.Common.{◌≡◌, ℕ, ◌≤◌, Bool, true, false, cond, ◌||◌, List, [], ◌∷◌, map, filter, length, sum_by, refl, sym, ap, ap₂, subst, ◌∙◌, arith, IsTrue, IsFalse, eqb-true, nat_lt, ◌==◌, bit_or, ltb-true, lt-ltb}
use Rattle.std.specs.List.{AllByRecursion, list_any, list_all}
use Rattle.std.proofs.lemmas.Bool.{and_parts, or_parts, not-false}
use Rattle.std.proofs.lemmas.Nat.{or_lt}
use Rattle.overlay_geometry.specs.Points.{Pair, pair_cmp, pair_eq}
use Rattle.overlay_geometry.specs.Sorting.{distinct_in_order}
use Rattle.overlay_base.specs.Windings.{Winding, empty, add, is_not_empty, is_count_in_range}
use Rattle.overlay_base.specs.Segments.{WholeSegment, pairs, winding_at, are_polygons}
use Rattle.overlay_base.specs.Join.{summed, join, join_leaves_range}
use Rattle.overlay_base.specs.Sums.{gathered}
use Rattle.overlay_base.proofs.laws.counts.Windings.{cond-empty, empty-add, add-empty, add_assoc}
use Rattle.overlay_geometry.proofs.laws.geometry.Points.{same_pair_by_eq}
use Rattle.overlay_base.proofs.laws.geometry.Pairs.{pair_eq-comm, holds}
use Rattle.overlay_geometry.proofs.laws.lists.Lists.{AllByRecursion-filter_all, AllByRecursion-from_list_all, list_all-from_AllByRecursion, list_all-filter, sum_by-map, sum_by-filter_le, sum_by-ones}
use Rattle.overlay_geometry.proofs.laws.lists.Keys.{sum_by-distinct_in_order_le, IsStrictlySortedBy-map_filter}
use Rattle.overlay_base.proofs.laws.joins.Bags.{winding_at-absent, winding_at-other, winding_at-nil, winding_at-cons, winding_at-join, winding_at-gathered, windings_add, count_at}
use Rattle.overlay_base.proofs.laws.joins.Maps.{IsSummed, IsSummed-join, IsSummed-tail, winding_at-head, is_join}
use Rattle.overlay_base.proofs.laws.joins.Ranges.{sums_leave, sums_leave-same, sums_leave-other, join_leaves_range-sums}
use Rattle.overlay_base.proofs.laws.lists.Monoids.{gathered-filter, gathered-same, gathered-unit}

-- ---- pairs

-- a pair is in a map where its winding is not empty
pub holds-summed : (segments : List WholeSegment) → IsSummed segments → (q : Pair) → holds (pairs segments) q ≡ is_not_empty (winding_at segments q)
holds-summed [] o q = sym (ap is_not_empty (winding_at-nil q))
holds-summed (s ∷ ss) o q = by (pair_eq q s.pair) refl (holds-summed ss (IsSummed-tail s ss o) q)
  where
    by : (b : Bool) → pair_eq q s.pair ≡ b → holds (pairs ss) q ≡ is_not_empty (winding_at ss q) → (b || holds (pairs ss) q) ≡ is_not_empty (winding_at (s ∷ ss) q)
    by true e ih = sym (ap (λ p. is_not_empty (winding_at (s ∷ ss) p)) (same_pair_by_eq q s.pair e) ∙ ap is_not_empty (winding_at-head s ss o) ∙ (and_parts _ _ o.none_empty).0)
    by false e ih = ih ∙ sym (ap is_not_empty (winding_at-other s ss q (pair_eq-comm s.pair q ∙ e)))

pub holds-join : (bag : List WholeSegment) (q : Pair) → holds (pairs (join bag)) q ≡ is_not_empty (winding_at bag q)
holds-join bag q = holds-summed (join bag) (IsSummed-join bag) q ∙ ap is_not_empty (winding_at-join bag q)

-- ---- parts of a bag

pub IsSummed-filter : (test : WholeSegment → Bool) (segments : List WholeSegment) → IsSummed segments → IsSummed (filter test segments)
IsSummed-filter test segments o = record { sorted = IsStrictlySortedBy-map_filter (λ (s : WholeSegment). s.pair) pair_cmp test segments o.sorted; none_empty = list_all-filter (λ s. is_not_empty s.count) test segments o.none_empty }

pub winding_at-filter : (test : Pair → Bool) (bag : List WholeSegment) (q : Pair) → winding_at (filter (λ s. test s.pair) bag) q ≡ cond (test q) (winding_at bag q) empty
winding_at-filter test bag q =
    winding_at-gathered (filter (λ s. test s.pair) bag) q ∙ gathered-filter windings_add (count_at q) (λ s. test s.pair) bag
    ∙ gathered-same windings_add _ (λ s. cond (test q) (count_at q s) empty) (λ s. each s (pair_eq s.pair q) refl) bag
    ∙ outside (test q) ∙ ap (λ c. cond (test q) c empty) (sym (winding_at-gathered bag q))
  where
    each : (s : WholeSegment) (b : Bool) → pair_eq s.pair q ≡ b → cond (test s.pair) (cond b s.count empty) empty ≡ cond (test q) (cond b s.count empty) empty
    each s true e = ap (λ p. cond (test p) s.count empty) (same_pair_by_eq s.pair q e)
    each s false e = cond-empty (test s.pair) ∙ sym (cond-empty (test q))

    outside : (b : Bool) → gathered add empty (λ s. cond b (count_at q s) empty) bag ≡ cond b (gathered add empty (count_at q) bag) empty
    outside true = refl
    outside false = gathered-unit windings_add bag

-- the join of the segments whose pairs pass a test is that part of the join
pub join-filter : (test : Pair → Bool) (bag : List WholeSegment) → join (filter (λ s. test s.pair) bag) ≡ filter (λ s. test s.pair) (join bag)
join-filter test bag = sym (is_join (filter (λ s. test s.pair) bag) (filter (λ s. test s.pair) (join bag)) (IsSummed-filter (λ s. test s.pair) (join bag) (IsSummed-join bag))
    (λ q. winding_at-filter test (join bag) q ∙ ap (λ c. cond (test q) c empty) (winding_at-join bag q) ∙ sym (winding_at-filter test bag q)))

-- ---- counts

-- what holds of the empty count and of sums holds of each winding
pub winding_at-keeps : (P : Winding → Type 0) → P empty → ((c d : Winding) → P c → P d → P (add c d)) → (bag : List WholeSegment) → AllByRecursion (λ s. P s.count) bag → (q : Pair) → P (winding_at bag q)
winding_at-keeps P e a [] h q = subst P (sym (winding_at-nil q)) e
winding_at-keeps P e a (s ∷ bag) h q = subst P (sym (winding_at-cons s bag q)) (a _ _ (by (pair_eq s.pair q)) (winding_at-keeps P e a bag h.1 q))
  where
    by : (b : Bool) → P (cond b s.count empty)
    by true = h.0
    by false = e

counted : (P : Winding → Type 0) (f : Pair → Winding) → ((q : Pair) → P (f q)) → (ks : List Pair) → AllByRecursion (λ (s : WholeSegment). P s.count) (map (λ k. record { pair = k; count = f k }) ks)
counted P f h [] = tt
counted P f h (k ∷ ks) = (h k, counted P f h ks)

-- what holds of each winding of a bag holds of the join's counts
pub counts_from_windings : (P : Winding → Type 0) (bag : List WholeSegment) → ((q : Pair) → P (winding_at bag q)) → AllByRecursion (λ s. P s.count) (join bag)
unfolding join summed
counts_from_windings P bag h = AllByRecursion-filter_all (λ s. is_not_empty s.count) (λ (s : WholeSegment). P s.count) (summed bag) (counted P (winding_at bag) h (distinct_in_order pair_cmp (pairs bag)))

pub counts-join : (P : Winding → Type 0) → P empty → ((c d : Winding) → P c → P d → P (add c d)) → (bag : List WholeSegment) → AllByRecursion (λ s. P s.count) bag → AllByRecursion (λ s. P s.count) (join bag)
counts-join P e a bag h = counts_from_windings P bag (winding_at-keeps P e a bag h)

-- the join of polygons is of polygons
pub are_polygons-join : (bag : List WholeSegment) → IsTrue (are_polygons bag) → IsTrue (are_polygons (join bag))
are_polygons-join bag h = list_all-from_AllByRecursion _ (join bag) (counts-join (λ c. (c.mask == 0) ≡ true) refl joined bag (AllByRecursion-from_list_all _ bag h))
  where
    joined : (c d : Winding) → (c.mask == 0) ≡ true → (d.mask == 0) ≡ true → ((add c d).mask == 0) ≡ true
    joined c d p q = ap₂ (λ m n. bit_or m n == 0) (eqb-true _ _ p) (eqb-true _ _ q)

-- masks of two bits stay so
pub masks-join : (bag : List WholeSegment) → list_all (λ s. nat_lt s.count.mask 4) bag ≡ true → list_all (λ s. nat_lt s.count.mask 4) (join bag) ≡ true
masks-join bag h = list_all-from_AllByRecursion _ (join bag) (counts-join (λ c. nat_lt c.mask 4 ≡ true) refl joined bag (AllByRecursion-from_list_all _ bag h))
  where
    joined : (c d : Winding) → nat_lt c.mask 4 ≡ true → nat_lt d.mask 4 ≡ true → nat_lt (add c d).mask 4 ≡ true
    joined c d p q = lt-ltb _ _ (or_lt 2 c.mask d.mask (ltb-true _ _ p) (ltb-true _ _ q))

-- ---- the range

last_sum : (c : Winding) (bag : List WholeSegment) (q : Pair) → is_count_in_range c ≡ true → sums_leave c bag q ≡ false → is_count_in_range (add c (winding_at bag q)) ≡ true
last_sum c [] q r h = ap is_count_in_range (ap (add c) (winding_at-nil q) ∙ add-empty c) ∙ r
last_sum c (s ∷ bag) q r h = by (pair_eq s.pair q) refl (λ d. last_sum d bag q)
  where
    by : (b : Bool) → pair_eq s.pair q ≡ b → ((d : Winding) → is_count_in_range d ≡ true → sums_leave d bag q ≡ false → is_count_in_range (add d (winding_at bag q)) ≡ true) → is_count_in_range (add c (winding_at (s ∷ bag) q)) ≡ true
    by true e ih =
        let parts = or_parts _ _ (sym (sums_leave-same c s bag q e) ∙ h) in
        ap (λ d. is_count_in_range (add c d)) (winding_at-cons s bag q ∙ ap (λ b. add (cond b s.count empty) (winding_at bag q)) e)
        ∙ ap is_count_in_range (sym (add_assoc c s.count (winding_at bag q))) ∙ ih (add c s.count) (not-false _ parts.0) parts.1
    by false e ih =
        ap (λ d. is_count_in_range (add c d)) (winding_at-other s bag q e)
        ∙ ih c r (sym (sums_leave-other c s bag q e) ∙ h)

no_sum_leaves : (f : Pair → Bool) (bag : List WholeSegment) (q : Pair) → list_any (λ s. f s.pair) bag ≡ false → holds (pairs bag) q ≡ true → f q ≡ false
no_sum_leaves f [] q h k = cc
no_sum_leaves f (s ∷ bag) q h k = by (pair_eq q s.pair) refl k (no_sum_leaves f bag q (or_parts _ _ h).1)
  where
    by : (b : Bool) → pair_eq q s.pair ≡ b → (b || holds (pairs bag) q) ≡ true → (holds (pairs bag) q ≡ true → f q ≡ false) → f q ≡ false
    by true e k ih = ap f (same_pair_by_eq q s.pair e) ∙ (or_parts _ _ h).0
    by false e k ih = ih k

-- where no running sum is too large, each winding is in range, and so is each count of the join
pub windings_in_range : (bag : List WholeSegment) → IsFalse (join_leaves_range bag) → (q : Pair) → IsTrue (is_count_in_range (winding_at bag q))
windings_in_range bag h q = by (holds (pairs bag) q) refl
  where
    by : (b : Bool) → holds (pairs bag) q ≡ b → is_count_in_range (winding_at bag q) ≡ true
    by true e = ap is_count_in_range (sym (empty-add (winding_at bag q))) ∙ last_sum empty bag q refl (no_sum_leaves (sums_leave empty bag) bag q (sym (join_leaves_range-sums bag) ∙ h) e)
    by false e = ap is_count_in_range (winding_at-absent bag q e)

pub counts_in_range-join : (bag : List WholeSegment) → IsFalse (join_leaves_range bag) → list_all (λ s. is_count_in_range s.count) (join bag) ≡ true
counts_in_range-join bag h = list_all-from_AllByRecursion _ (join bag) (counts_from_windings (λ c. is_count_in_range c ≡ true) bag (windings_in_range bag h))

-- ---- a join is no larger than the bag

-- a number of each pair, added up
pub sum_by-join_le : (f : Pair → ℕ) (bag : List WholeSegment) → sum_by (λ s. f s.pair) (join bag) ≤ sum_by (λ s. f s.pair) bag
unfolding join summed
sum_by-join_le f bag =
    let keys : List Pair = distinct_in_order pair_cmp (pairs bag) in
    let a = sum_by-filter_le (λ (s : WholeSegment). f s.pair) (λ s. is_not_empty s.count) (summed bag) in
    let b = sum_by-map (λ (s : WholeSegment). f s.pair) (λ pair. record { pair = pair; count = winding_at bag pair }) keys in
    let c = sum_by-distinct_in_order_le pair_cmp f (pairs bag) in
    let d = sum_by-map f (λ (s : WholeSegment). s.pair) bag in
    omega arith

pub length-join_le : (bag : List WholeSegment) → length (join bag) ≤ length bag
length-join_le bag = let h = sum_by-join_le (λ p. 1) bag in let a = sum_by-ones (join bag) in let b = sum_by-ones bag in omega arith
