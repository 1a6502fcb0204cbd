-- Entries sorted by their low and their index.
use Rattle.std.proofs.Common.{◌≡◌, refl, sym, ap, subst, ◌⊎◌, inl, inr, ℕ, zero, suc, ◌+◌, ◌<◌, ◌≤◌, ◌==◌, arith, false, List, [], ◌∷◌, ◌++◌, map, length, IsPermutation, IsSortedByKey, Ordering, is_gt, Bool, true, filter, if◌then◌else◌}
use Rattle.std.specs.Prelude.{ℤ, ◌<ℤ◌}
use Rattle.std.specs.Cmp.{IsTotalOrder}
use Rattle.std.specs.Ordering.{int_cmp, nat_cmp, ordering_then}
use Rattle.std.specs.List.{AllByRecursion, IsDistinct, range_with_len}
use Rattle.std.proofs.lemmas.Int.{ints, by_lt_z}
use Rattle.std.proofs.lemmas.Cmp.{on_total, then_total, nat_cmp_total, int_cmp_total}
use Rattle.std.proofs.lemmas.Map.Keys.{IsDistinct-IsPermutation}
use Rattle.overlay_geometry.specs.Points.{Pair}
use Rattle.overlay_geometry.proofs.laws.lists.Keys.{IsInOrder, IsInOrder-from_sort}
use Rattle.overlay_geometry.proofs.laws.lists.Lists.{AllByRecursion-weaker, AllByRecursion_left}
use Rattle.overlay_tree.specs.steps.IntervalTree.{Entry, entries, StandsBefore, AreRising}
use Rattle.overlay_tree.specs.steps.Swept.{entry_at, alone, unswept}
use Rattle.overlay_tree.specs.steps.NodeOf.{node_entry, tree_nodes}
use Rattle.overlay_tree.specs.declared.split.interval_tree.Node.{Node}
use Rattle.overlay_geometry.proofs.laws.integers.Tests.{eqb-less, eqb-turned}

-- ---- entries in order

-- where an entry is: its low and its index
pub record Place : Type 0 where
  pub low : ℤ
  pub index : ℕ

abbrev pub place_of : Entry → Place
place_of e = record { low = e.low; index = e.index }

abbrev pub place_cmp : Place → Place → Ordering
place_cmp p q = ordering_then (int_cmp p.low q.low) (nat_cmp p.index q.index)

pub place_cmp_total : IsTotalOrder place_cmp
place_cmp_total = then_total (on_total (λ (p : Place). p.low) int_cmp_total) (on_total (λ (p : Place). p.index) nat_cmp_total)

step : (a b : ℤ) (i j : ℕ) → is_gt (ordering_then (int_cmp a b) (nat_cmp i j)) ≡ false → (i == j) ≡ false → (a <ℤ b) ⊎ ((a ≡ b) × (i < j))
step a b i j h n = by_lt_z a b (λ less. inl less) (λ more. inr (grind (arith, ints), grind (arith, ints)))

pub rising_from : (es : List Entry) → IsInOrder place_cmp (map place_of es) → IsDistinct (λ i j. i == j) (map (λ (e : Entry). e.index) es) → AreRising es
unfolding IsDistinct
rising_from [] o d = tt
rising_from (e ∷ es) o d = (each es o.0 d.0, rising_from es o.1 d.1)
  where
    each : (fs : List Entry) → AllByRecursion (λ p. is_gt (place_cmp (place_of e) p) ≡ false) (map place_of fs) → AllByRecursion (λ i. (e.index == i) ≡ false) (map (λ (f : Entry). f.index) fs) → AllByRecursion (StandsBefore e) fs
    each [] h k = tt
    each (f ∷ fs) h k = (step e.low f.low e.index f.index h.0 k.0, each fs h.1 k.1)

pub above : (a n b : ℕ) → b ≤ a → AllByRecursion (λ i. b ≤ i) (range_with_len a n)
above a zero b h = tt
above a (suc n) b h = (h, above (a + 1) n b (omega arith))

range_distinct : (a n : ℕ) → IsDistinct (λ i j. i == j) (range_with_len a n)
unfolding IsDistinct
range_distinct a zero = tt
range_distinct a (suc n) = (AllByRecursion-weaker (λ i. a + 1 ≤ i) (λ i. (a == i) ≡ false) (λ i h. eqb-less a i (omega arith)) (range_with_len (a + 1) n) (above (a + 1) n (a + 1) (omega arith)), range_distinct (a + 1) n)

indexes_of : (ps : List Pair) (is : List ℕ) → map (λ (e : Entry). e.index) (map (entry_at ps) is) ≡ is
indexes_of ps [] = refl
indexes_of ps (i ∷ is) = ap (λ (l : List ℕ). i ∷ l) (indexes_of ps is)

pub entries_of_alone : (ps : List Pair) (is : List ℕ) → entries (map (λ i. alone (entry_at ps i)) is) ≡ map (entry_at ps) is
entries_of_alone ps [] = refl
entries_of_alone ps (i ∷ is) = ap (λ (l : List Entry). entry_at ps i ∷ l) (entries_of_alone ps is)

-- ---- a list without repeats

-- its front has none
pub distinct_front : (xs ys : List ℕ) → IsDistinct (λ i j. i == j) (xs ++ ys) → IsDistinct (λ i j. i == j) xs
unfolding IsDistinct
distinct_front [] ys d = tt
distinct_front (x ∷ xs) ys d = (AllByRecursion_left (λ i. (x == i) ≡ false) xs ys d.0, distinct_front xs ys d.1)

-- the indexes of entries of all pairs
pub all_distinct : (ps : List Pair) (is : List ℕ) → IsPermutation (map (λ (e : Entry). e.index) (unswept ps)) is → IsDistinct (λ i j. i == j) is
all_distinct ps is p =
    IsDistinct-IsPermutation (λ i j. i == j) eqb-turned (range_with_len 0 (length ps)) is (subst (λ (ks : List ℕ). IsPermutation ks is) (indexes_of ps (range_with_len 0 (length ps))) p) (range_distinct 0 (length ps))

-- nodes of code whose entries pass
pub entries_filter : {I : Type 0} (whole : I → ℤ) (p : Entry → Bool) (nodes : List (Node I)) → entries (tree_nodes whole (filter (λ n. p (node_entry whole n)) nodes)) ≡ filter p (entries (tree_nodes whole nodes))
entries_filter whole p [] = refl
entries_filter whole p (n ∷ ns) = by (p (node_entry whole n)) (entries_filter whole p ns)
  where
    by : (b : Bool) → entries (tree_nodes whole (filter (λ n. p (node_entry whole n)) ns)) ≡ filter p (entries (tree_nodes whole ns)) →
        entries (tree_nodes whole (if b then n ∷ filter (λ n. p (node_entry whole n)) ns else filter (λ n. p (node_entry whole n)) ns)) ≡ (if b then node_entry whole n ∷ filter p (entries (tree_nodes whole ns)) else filter p (entries (tree_nodes whole ns)))
    by true e = ap (λ (l : List Entry). node_entry whole n ∷ l) e
    by false e = e

-- nodes of code, as it sorts them
pub places_in_order : {I : Type 0} (whole : I → ℤ) (nodes : List (Node I)) → IsSortedByKey (λ n. place_of (node_entry whole n)) place_cmp nodes → IsInOrder place_cmp (map place_of (entries (tree_nodes whole nodes)))
places_in_order whole nodes sorted = subst (IsInOrder place_cmp) (sym (mapped nodes)) (IsInOrder-from_sort place_cmp_total (λ n. place_of (node_entry whole n)) nodes sorted)
  where
    mapped : (ns : List (Node _)) → map place_of (entries (tree_nodes whole ns)) ≡ map (λ n. place_of (node_entry whole n)) ns
    mapped [] = refl
    mapped (n ∷ ns) = ap (λ (l : List Place). place_of (node_entry whole n) ∷ l) (mapped ns)
