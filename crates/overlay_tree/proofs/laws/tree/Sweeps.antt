-- The sweep over a list: the entries of its segments in a tree, which of them are live, and what a look-up finds.
use Rattle.std.proofs.Common.{◌≡◌, refl, sym, ap, ap₂, subst, ◌∙◌, ◌⊎◌, inl, inr, ℕ, zero, suc, ◌+◌, ◌<◌, ◌≤◌, ◌==◌, arith, Bool, true, false, not, ◌&&◌, IsTrue, List, [], ◌∷◌, map, filter, length, get_or, IsPermutation, IsSortedByKey, is_lt, is_gt, Ordering, Less, Equal, Greater}
use Rattle.std.specs.Prelude.{ℤ, ◌≤ℤ◌, ◌<ℤ◌, int_lt}
use Rattle.std.specs.Int.{int_min, int_max}
use Rattle.std.specs.List.{AllByRecursion, range_with_len}
use Rattle.std.proofs.lemmas.Int.{ints, clamps}
use Rattle.std.proofs.lemmas.Bool.{and_parts, and_from, or_right, or_parts, not-false, both_ways, false_from_ne_true, true_from_ne_false, eqb-true, eq-eqb, cases_Bool, or_cases, cases_order}
use Rattle.std.specs.Ordering.{ordering_reverse}
use Rattle.std.proofs.lemmas.List.Elements.{All-from_recursion, recursion_from_All}
use Rattle.std.proofs.lemmas.List.Sorted.{IsPermutation-map, All-permutation}
use Rattle.overlay_geometry.specs.Points.{Pair, pair_cmp, pair_lt, is_ordered}
use Rattle.overlay_geometry.specs.Ranges.{heights, is_off_range}
use Rattle.overlay_geometry.proofs.laws.geometry.Points.{pair_cmp_total, starts_in_order}
use Rattle.overlay_geometry.proofs.laws.lists.Keys.{IsInOrder, IsInOrder-from_sort}
use Rattle.overlay_base.proofs.laws.geometry.Apart.{apart_in_x, apart_in_y, pairs-map}
use Rattle.overlay_base.specs.Segments.{pairs}
use Rattle.overlay_base.specs.SegmentOf.{segments_of, ends_of}
use Rattle.overlay_base.specs.declared.segm.segment.Segment.{Segment}
use Rattle.std.proofs.lemmas.List.{get_or-map, length-map}
use Rattle.overlay_geometry.proofs.laws.lists.Lists.{Has, AllByRecursion-at, AllByRecursion-from_Has, AllByRecursion-weaker, AllByRecursion-map, AllByRecursion-map_out, AllByRecursion-filter, Has-map, Has-map_out, Has-filter}
use Rattle.overlay_geometry.proofs.laws.lists.Elements.{Has-permutation}
use Rattle.overlay_tree.specs.steps.IntervalTree.{Entry, WholeQuery, is_at_heights, is_taken_up, is_found, is_dropped, found, left_by, inserted, StandsBefore, AreRising, IsAt, IsUpTo}
use Rattle.overlay_tree.specs.steps.TreeSweep.{unlive, query_at, Gone, IsSwept}
use Rattle.overlay_tree.specs.steps.Swept.{nowhere, pair_at, entry_at, entry_of_pair, unswept}
use Rattle.overlay_intersections.proofs.laws.marks.ApartPairs.{AreApart, AreApart-back}
use Rattle.overlay_geometry.proofs.laws.integers.Tests.{lt-test, lt-tested}

-- ---- lists by their indexes

pub AllByRecursion-get : {X : Type 0} (P : X → Type 0) (xs : List X) (i : ℕ) (d : X) → AllByRecursion P xs → i < length xs → P (get_or xs i d)
AllByRecursion-get P [] i d h lt = absurd (omega arith)
AllByRecursion-get P (x ∷ xs) zero d h lt = h.0
AllByRecursion-get P (x ∷ xs) (suc i) d h lt = AllByRecursion-get P xs i d h.1 (omega arith)

pub in_order_at : (ps : List Pair) (i k : ℕ) (d : Pair) → IsInOrder pair_cmp ps → i < k → k < length ps → is_gt (pair_cmp (get_or ps i d) (get_or ps k d)) ≡ false
in_order_at [] i k d o lt w = absurd (omega arith)
in_order_at (p ∷ ps) i zero d o lt w = absurd (omega arith)
in_order_at (p ∷ ps) zero (suc k) d o lt w = AllByRecursion-get (λ u. is_gt (pair_cmp p u) ≡ false) ps k d o.0 (omega arith)
in_order_at (p ∷ ps) (suc i) (suc k) d o lt w = in_order_at ps i k d o.1 (omega arith) (omega arith)

-- a later pair does not begin further left, and is not less
pub later_right : (ps : List Pair) (i k : ℕ) → IsInOrder pair_cmp ps → i < k → k < length ps → (pair_at ps i).a.x ≤ℤ (pair_at ps k).a.x
later_right ps i k o lt w = starts_in_order (pair_at ps i) (pair_at ps k) (in_order_at ps i k nowhere o lt w)

pub later_not_less : (ps : List Pair) (i k : ℕ) → IsInOrder pair_cmp ps → i < k → k < length ps → pair_lt (pair_at ps k) (pair_at ps i) ≡ false
later_not_less ps i k o lt w = by (pair_cmp (pair_at ps i) (pair_at ps k)) (pair_cmp (pair_at ps k) (pair_at ps i)) (pair_cmp_total.antisymm (pair_at ps k) (pair_at ps i)) (in_order_at ps i k nowhere o lt w)
  where
    by : (r t : Ordering) → t ≡ ordering_reverse r → is_gt r ≡ false → is_lt t ≡ false
    by Less t e h = ap is_lt e
    by Equal t e h = ap is_lt e
    by Greater t e h = cc

-- the ends of the segment at an index
pub pair_at-is : {C I D : Type 0} {m : _} {w : _} {o : _} {e : _} {p : _} (xs : List (Segment C I D m w o e p)) (j : ℕ) (x : Segment C I D m w o e p) → j < length xs → x ≡ get_or xs j x → pair_at (pairs (segments_of xs)) j ≡ ends_of x
pair_at-is xs j x lt is = ap (λ (ps : List Pair). pair_at ps j) (pairs-map xs) ∙ get_or-map (λ s. ends_of s) xs j x nowhere lt ∙ ap (λ s. ends_of s) (sym is)

pub length-pairs : {C I D : Type 0} {m : _} {w : _} {o : _} {e : _} {p : _} (xs : List (Segment C I D m w o e p)) → length (pairs (segments_of xs)) ≡ length xs
length-pairs xs = ap length (pairs-map xs) ∙ length-map xs (λ s. ends_of s)

pub pairs_in_order : {C I D : Type 0} {m : _} {w : _} {o : _} {e : _} {p : _} (xs : List (Segment C I D m w o e p)) → IsSortedByKey ends_of pair_cmp xs → IsInOrder pair_cmp (pairs (segments_of xs))
pairs_in_order xs sorted = subst (λ (ps : List Pair). IsInOrder pair_cmp ps) (sym (pairs-map xs)) (IsInOrder-from_sort pair_cmp_total ends_of xs sorted)

-- ---- entries by their indexes

-- the entry of a pair of the list
pub record IsOf (ps : List Pair) (e : Entry) : Type 0 where
  pub within : e.index < length ps
  pub is : unlive e ≡ entry_at ps e.index

pub range_within : (a n m : ℕ) → a + n ≤ m → AllByRecursion (λ i. i < m) (range_with_len a n)
range_within a zero m h = tt
range_within a (suc n) m h = (omega arith, range_within (a + 1) n m (omega arith))

Has-range : (a n i : ℕ) → a ≤ i → i < a + n → Has (range_with_len a n) i
Has-range a zero i h k = absurd (omega arith)
Has-range a (suc n) i h k = elim (first_or_later a i h) [ inl e ↦ inl e | inr more ↦ inr (Has-range (a + 1) n i (omega arith) (omega arith)) ]
  where
    first_or_later : (a i : ℕ) → a ≤ i → (a ≡ i) ⊎ (a < i)
    first_or_later a i h = elim (cases_order a i) [ inl e ↦ inl e | inr (inl l) ↦ inr l | inr (inr m) ↦ absurd (omega arith) ]

unswept_are : (ps : List Pair) → AllByRecursion (λ f. (f.index < length ps) × (f ≡ entry_at ps f.index)) (unswept ps)
unswept_are ps =
    AllByRecursion-map (λ f. (f.index < length ps) × (f ≡ entry_at ps f.index)) (entry_at ps) (range_with_len 0 (length ps))
    (AllByRecursion-weaker (λ i. i < length ps) (λ i. (i < length ps) × (entry_at ps i ≡ entry_at ps i)) (λ i h. (h, refl)) (range_with_len 0 (length ps)) (range_within 0 (length ps) (length ps) (omega arith)))

pub permuted : {X : Type 0} (P : X → Type 0) (xs ys : List X) → IsPermutation xs ys → AllByRecursion P xs → AllByRecursion P ys
permuted P xs ys p h = recursion_from_All P ys (All-permutation P xs ys p (All-from_recursion P xs h))

pub entries_are : (ps : List Pair) (es : List Entry) → IsPermutation (unswept ps) (map unlive es) → AllByRecursion (IsOf ps) es
entries_are ps es p =
    AllByRecursion-weaker (λ e. (e.index < length ps) × (unlive e ≡ entry_at ps e.index)) (IsOf ps) (λ e h. record { within = h.0; is = h.1 }) es
    (AllByRecursion-map_out (λ f. (f.index < length ps) × (f ≡ entry_at ps f.index)) unlive es (permuted (λ f. (f.index < length ps) × (f ≡ entry_at ps f.index)) (unswept ps) (map unlive es) p (unswept_are ps)))

-- each index has an entry
pub entry_there : (ps : List Pair) (es : List Entry) (i : ℕ) → IsPermutation (unswept ps) (map unlive es) → i < length ps → (e : Entry) × Has es e × (e.index ≡ i)
entry_there ps es i p lt =
    let first : Has (map (λ (e : Entry). e.index) (unswept ps)) i = Has-map (λ (e : Entry). e.index) (unswept ps) (entry_at ps i) (Has-map (entry_at ps) (range_with_len 0 (length ps)) i (Has-range 0 (length ps) i (omega arith) (omega arith))) in
    let there = Has-permutation (λ (e : Entry). e.index) (unswept ps) (map unlive es) p i first in
    let r = Has-map_out (λ (e : Entry). e.index) (map unlive es) i there in
    let s = Has-map_out unlive es r.0 r.1 in
    (s.0, s.1, ap (λ (e : Entry). e.index) s.2 ∙ r.2)

-- ---- the start

unlive_list : (ps : List Pair) (is : List ℕ) → map unlive (map (entry_at ps) is) ≡ map (entry_at ps) is
unlive_list ps [] = refl
unlive_list ps (i ∷ is) = ap (λ (es : List Entry). entry_at ps i ∷ es) (unlive_list ps is)

pub IsSwept-start : (ps : List Pair) (es : List Entry) → IsPermutation (unswept ps) es → IsSwept ps es 0
IsSwept-start ps es p =
    let dead = permuted (λ e. e.is_live ≡ false) (unswept ps) es p (AllByRecursion-map (λ e. e.is_live ≡ false) (entry_at ps) (range_with_len 0 (length ps)) (AllByRecursion-from_Has (λ i. false ≡ false) (range_with_len 0 (length ps)) (λ i h. refl))) in
    record {
      base = subst (λ (xs : List Entry). IsPermutation xs (map unlive es)) (unlive_list ps (range_with_len 0 (length ps))) (IsPermutation-map unlive (unswept ps) es p);
      live = AllByRecursion-weaker (λ e. e.is_live ≡ false) (λ e. e.is_live ≡ true → e.index < 0) (λ e n t. absurd (both_ways e.is_live n t)) es dead;
      gone = AllByRecursion-weaker (λ e. e.is_live ≡ false) (Gone ps 0) (λ e n lt. absurd (omega arith)) es dead;
    }

-- ---- what a look-up finds

found_before : (j : ℕ) (q : WholeQuery) (es : List Entry) → AllByRecursion (λ e. e.is_live ≡ true → e.index < j) es → AllByRecursion (λ i. i < j) (found q es)
found_before j q es h =
    AllByRecursion-map (λ i. i < j) (λ (e : Entry). e.index) (filter (is_found q) es)
    (AllByRecursion-filter (is_found q) (λ e. e.index < j) es (AllByRecursion-weaker (λ e. e.is_live ≡ true → e.index < j) (λ e. is_found q e ≡ true → e.index < j) (λ e k t. k (and_parts e.is_live (is_at_heights q e) (and_parts (is_taken_up q e) (not (int_lt e.end_x q.x)) t).0).0) es h))

-- only segments before it
pub all_earlier : (ps : List Pair) (es : List Entry) (j : ℕ) (q : WholeQuery) → IsSwept ps es j → AllByRecursion (λ i. i < j) (found q es)
all_earlier ps es j q swept = found_before j q es swept.live

off_above : (s t : Pair) → int_lt (int_max s.a.y s.b.y) (int_min t.a.y t.b.y) ≡ true → is_off_range (heights s) t ≡ true
off_above s t h =
    let less = lt-tested (int_max s.a.y s.b.y) (int_min t.a.y t.b.y) h in
    or_right _ _ (and_from _ _ (lt-test (int_max s.a.y s.b.y) t.a.y (omega (arith, ints, clamps))) (lt-test (int_max s.a.y s.b.y) t.b.y (omega (arith, ints, clamps))))

-- and all of them that are not apart from it
pub found_all_near : (ps : List Pair) (es : List Entry) (i j : ℕ) → IsSwept ps es j → AllByRecursion (λ s. IsTrue (is_ordered s)) ps → i < j → j < length ps → (AreApart (pair_at ps i) (pair_at ps j) → ⊥) → Has (found (query_at ps j) es) i
found_all_near ps es i j swept ordered lt w near =
    let s = pair_at ps i in
    let t = pair_at ps j in
    let q = query_at ps j in
    let os = AllByRecursion-get (λ s. IsTrue (is_ordered s)) ps i nowhere ordered (omega arith) in
    let ot = AllByRecursion-get (λ s. IsTrue (is_ordered s)) ps j nowhere ordered w in
    let r = entry_there ps es i swept.base (omega arith) in
    let e = r.0 in
    let is : unlive e ≡ entry_of_pair i s = (AllByRecursion-at (IsOf ps) es e (entries_are ps es swept.base) r.1).is ∙ ap (entry_at ps) r.2 in
    let low : e.low ≡ int_min s.a.y s.b.y = ap (λ (f : Entry). f.low) is in
    let high : e.high ≡ int_max s.a.y s.b.y = ap (λ (f : Entry). f.high) is in
    let end_x : e.end_x ≡ s.b.x = ap (λ (f : Entry). f.end_x) is in
    let before : e.index < j = subst (λ (n : ℕ). n < j) (sym r.2) lt in
    let live : e.is_live ≡ true = true_from_ne_false e.is_live (λ n. near (apart_in_x s t os ot (subst (λ (z : ℤ). z <ℤ t.a.x) end_x (AllByRecursion-at (Gone ps j) es e swept.gone r.1 before n j (omega arith) w)))) in
    let reaches : int_lt e.high q.low ≡ false = false_from_ne_true (int_lt e.high q.low) (λ h. near (apart_in_y s t (off_above s t (ap (λ (z : ℤ). int_lt z q.low) (sym high) ∙ h)))) in
    let begins : int_lt q.high e.low ≡ false = false_from_ne_true (int_lt q.high e.low) (λ h. near (AreApart-back t s (apart_in_y t s (off_above t s (ap (int_lt q.high) (sym low) ∙ h))))) in
    let stays : int_lt e.end_x q.x ≡ false = false_from_ne_true (int_lt e.end_x q.x) (λ h. near (apart_in_x s t os ot (lt-tested s.b.x t.a.x (ap (λ (z : ℤ). int_lt z q.x) (sym end_x) ∙ h)))) in
    let passes : is_found q e ≡ true = and_from (is_taken_up q e) (not (int_lt e.end_x q.x)) (and_from e.is_live (is_at_heights q e) live (and_from (not (int_lt e.high q.low)) (not (int_lt q.high e.low)) (ap not reaches) (ap not begins))) (ap not stays) in
    subst (Has (found q es)) r.2 (Has-map (λ (f : Entry). f.index) (filter (is_found q) es) e (Has-filter (is_found q) es e r.1 passes))

-- ---- the next segment

pub low_there : (ps : List Pair) (es : List Entry) (j : ℕ) → IsPermutation (unswept ps) (map unlive es) → AllByRecursion (IsAt j (query_at ps j).low) es
low_there ps es j p = AllByRecursion-weaker (IsOf ps) (IsAt j (query_at ps j).low) (λ e h i. ap (λ (f : Entry). f.low) h.is ∙ ap (λ (n : ℕ). (entry_at ps n).low) i) es (entries_are ps es p)

pub high_there : (ps : List Pair) (es : List Entry) (j : ℕ) → IsPermutation (unswept ps) (map unlive es) → AllByRecursion (IsUpTo j (query_at ps j).high) es
high_there ps es j p = AllByRecursion-weaker (IsOf ps) (IsUpTo j (query_at ps j).high) (λ e h i. ap (λ (f : Entry). f.high) h.is ∙ ap (λ (n : ℕ). (entry_at ps n).high) i) es (entries_are ps es p)

pub unlive_map : (f : Entry → Entry) → ((e : Entry) → unlive (f e) ≡ unlive e) → (es : List Entry) → map unlive (map f es) ≡ map unlive es
unlive_map f h [] = refl
unlive_map f h (e ∷ es) = ap₂ (λ (x : Entry) (xs : List Entry). x ∷ xs) (h e) (unlive_map f h es)

pub rising_map : (f : Entry → Entry) → ((e : Entry) → unlive (f e) ≡ unlive e) → (es : List Entry) → AreRising es → AreRising (map f es)
rising_map f h [] r = tt
rising_map f h (e ∷ es) r = (AllByRecursion-map (StandsBefore (f e)) f es (AllByRecursion-weaker (StandsBefore e) (λ g. StandsBefore (f e) (f g)) (λ g k. kept e g k) es r.0), rising_map f h es r.1)
  where
    lows : (e : Entry) → (f e).low ≡ e.low
    lows e = ap (λ (g : Entry). g.low) (h e)

    indexes : (e : Entry) → (f e).index ≡ e.index
    indexes e = ap (λ (g : Entry). g.index) (h e)

    kept : (e g : Entry) → StandsBefore e g → StandsBefore (f e) (f g)
    kept e g (inl less) = let a = lows e in let b = lows g in inl (omega (arith, ints))
    kept e g (inr same) = let a = indexes e in let b = indexes g in let c = same.1 in inr (lows e ∙ same.0 ∙ sym (lows g), omega arith)

live_next : (q : WholeQuery) (j : ℕ) (e : Entry) → (e.is_live ≡ true → e.index < j) → (inserted j (left_by q e)).is_live ≡ true → e.index < j + 1
live_next q j e h t = elim (or_cases (e.is_live && not (is_dropped q e)) (e.index == j) t) [
  | inl l ↦ let k = h (and_parts e.is_live (not (is_dropped q e)) l).0 in omega arith
  | inr i ↦ let k = eqb-true e.index j i in omega arith
]

before_unless : (i j : ℕ) → i < j + 1 → (i == j) ≡ false → i < j
before_unless i j lt n = elim (cases_order i j) [ inl e ↦ absurd (both_ways (i == j) n (eq-eqb i j e)) | inr (inl l) ↦ l | inr (inr m) ↦ absurd (omega arith) ]

pub IsSwept-more : (ps : List Pair) (es : List Entry) (j : ℕ) → IsSwept ps es j → IsInOrder pair_cmp ps → j < length ps → IsSwept ps (map (inserted j) (map (left_by (query_at ps j)) es)) (j + 1)
IsSwept-more ps es j swept order w =
    let q = query_at ps j in
    record {
      base = subst (IsPermutation (unswept ps)) (sym (unlive_map (inserted j) (λ e. refl) (map (left_by q) es) ∙ unlive_map (left_by q) (λ e. refl) es)) swept.base;
      live = AllByRecursion-map (λ e. e.is_live ≡ true → e.index < j + 1) (inserted j) (map (left_by q) es) (AllByRecursion-map (λ e. (inserted j e).is_live ≡ true → e.index < j + 1) (left_by q) es
          (AllByRecursion-weaker (λ e. e.is_live ≡ true → e.index < j) (λ e. (inserted j (left_by q e)).is_live ≡ true → e.index < j + 1) (λ e h. live_next q j e h) es swept.live));
      gone = AllByRecursion-map (Gone ps (j + 1)) (inserted j) (map (left_by q) es) (AllByRecursion-map (λ e. Gone ps (j + 1) (inserted j e)) (left_by q) es (AllByRecursion-weaker (Gone ps j) (λ e. Gone ps (j + 1) (inserted j (left_by q e))) (λ e h. gone_next e h) es swept.gone));
    }
  where
    gone_next : (e : Entry) → Gone ps j e → Gone ps (j + 1) (inserted j (left_by (query_at ps j) e))
    gone_next e h lt dead k le w' =
        let q = query_at ps j in
        let parts = or_parts (e.is_live && not (is_dropped q e)) (e.index == j) dead in
        let other : e.index < j = before_unless e.index j lt parts.1 in
        elim (cases_Bool e.is_live) [
          | inl live ↦
              let dropped : is_dropped q e ≡ true = not-false (is_dropped q e) (ap (λ (b : Bool). b && not (is_dropped q e)) (sym live) ∙ parts.0) in
              let less = lt-tested e.end_x q.x (and_parts (is_taken_up q e) (int_lt e.end_x q.x) dropped).1 in
              let right = later_right ps j k order (omega arith) w' in
              omega (arith, ints)
          | inr gone ↦ h other gone k (omega arith) w'
        ]
