-- How many entries the look-ups of a sweep take up: each two whose boxes meet once, and each entry once more, where it is dropped.
use Rattle.std.proofs.Common.{◌≡◌, refl, sym, ap, ap₂, subst, ◌∙◌, ℕ, zero, suc, ◌+◌, ◌-◌, ◌*◌, ◌<◌, ◌≤◌, ◌==◌, arith, Bool, true, false, not, ◌&&◌, ◌||◌, cond, IsTrue, List, [], ◌∷◌, ◌++◌, map, length, get_or, take, IsPermutation}
use Rattle.std.specs.Prelude.{min, ◌^◌, ℤ, ◌≤ℤ◌, int_lt, nat_lt, count_by}
use Rattle.std.specs.Int.{int_min, int_max}
use Rattle.std.specs.List.{AllByRecursion, range_with_len}
use Rattle.std.proofs.lemmas.Int.{ints, clamps}
use Rattle.std.proofs.lemmas.Bool.{and_parts, and_from, not-true, true_from_ne_false}
use Rattle.std.proofs.lemmas.List.{take_more}
use Rattle.std.proofs.lemmas.List.FromFn.{sum_by-map-range_with_len_more}
use Rattle.std.proofs.lemmas.List.Sorted.{sum_by-IsPermutation}
use Rattle.std.proofs.lemmas.List.Sums.{sum_by-cons}
use Rattle.overlay_geometry.specs.Points.{Pair, pair_cmp, is_ordered}
use Rattle.overlay_geometry.proofs.laws.lists.Keys.{IsInOrder}
use Rattle.overlay_geometry.proofs.laws.geometry.Points.{ordered_x}
use Rattle.overlay_geometry.proofs.laws.lists.Lists.{AllByRecursion-weaker, AllByRecursion-both, sum_by-map}
use Rattle.overlay_tree.specs.steps.IntervalTree.{Entry, WholeQuery, is_at_heights, is_taken_up, is_found, is_dropped, left_by, inserted}
use Rattle.overlay_tree.specs.steps.Swept.{nowhere, pair_at, entry_at, unswept}
use Rattle.overlay_intersections.specs.Looked.{count_twos, ranges_meet, boxes_meet, tree_looks}
use Rattle.overlay_tree.specs.TreeLooks.{sweep_looks}
use Rattle.overlay_tree.proofs.laws.tree.IntervalTrees.{count_by-append}
use Rattle.overlay_tree.specs.steps.TreeSweep.{unlive, Gone, IsSwept, query_at, live_count, IsCounted}
use Rattle.overlay_tree.proofs.laws.tree.Sweeps.{IsOf, entries_are, later_right, AllByRecursion-get}
use Rattle.overlay_geometry.proofs.laws.integers.Tests.{le-test, lt-test_false, le-tested, lt-tested_false, nat_lt-test, nat_lt-test_false, lt_not_le}
use Rattle.std.proofs.Math.Nat.{add-zero}

-- ---- counts

-- one for a test that passes
abbrev pub one_if : Bool → ℕ
one_if b = cond b 1 0

pub count_by-cons : {X : Type 0} (p : X → Bool) (x : X) (xs : List X) → count_by p (x ∷ xs) ≡ one_if (p x) + count_by p xs
count_by-cons p x xs = sum_by-cons (λ y. one_if (p y)) x xs

one_at_most : (b c : Bool) → (b ≡ true → c ≡ true) → one_if b ≤ one_if c
one_at_most false c h = omega arith
one_at_most true c h = let e = h refl in rw e (omega arith)

-- where one test passes only what another does, it counts no more
pub count_by-implied : {X : Type 0} (p q : X → Bool) (xs : List X) → AllByRecursion (λ x. p x ≡ true → q x ≡ true) xs → count_by p xs ≤ count_by q xs
count_by-implied p q [] h = omega arith
count_by-implied p q (x ∷ xs) h =
    let one = one_at_most (p x) (q x) h.0 in
    let rest = count_by-implied p q xs h.1 in
    let a = count_by-cons p x xs in
    let b = count_by-cons q x xs in
    omega arith

sum_pushed : (a b c d : ℕ) → (a + (b + 0)) + (c + d) ≡ (a + c) + (b + d)
sum_pushed a b c d = omega arith

-- a new last element makes a two with each one before it that passes
count_twos_push : {X : Type 0} (test : X → X → Bool) (xs : List X) (y : X) → count_twos test (xs ++ y ∷ []) ≡ count_twos test xs + count_by (λ x. test x y) xs
unfolding count_twos
count_twos_push test [] y = refl
count_twos_push test (x ∷ xs) y =
    let one : count_by (λ z. test x z) (xs ++ y ∷ []) ≡ count_by (λ z. test x z) xs + (one_if (test x y) + 0) = count_by-append (λ z. test x z) xs (y ∷ []) ∙ ap (λ (n : ℕ). count_by (λ z. test x z) xs + n) (count_by-cons (λ z. test x z) y []) in
    ap₂ (λ (m n : ℕ). m + n) one (count_twos_push test xs y)
    ∙ sum_pushed (count_by (λ z. test x z) xs) (one_if (test x y)) (count_twos test xs) (count_by (λ z. test z y) xs)
    ∙ ap (λ (n : ℕ). count_by (λ z. test x z) xs + count_twos test xs + n) (sym (count_by-cons (λ z. test z y) x xs))

pub count_twos_more : {X : Type 0} (test : X → X → Bool) (xs : List X) (i : ℕ) (d : X) → i < length xs → count_twos test (take (i + 1) xs) ≡ count_twos test (take i xs) + count_by (λ x. test x (get_or xs i d)) (take i xs)
count_twos_more test xs i d h = ap (count_twos test) (take_more xs i d h) ∙ count_twos_push test (take i xs) (get_or xs i d)

-- ---- one look-up

is_live : Entry → Bool
is_live e = e.is_live

-- what is taken up is found or dropped
balanced : (live near past : Bool) → one_if (live && near) + one_if (live && not ((live && near) && past)) ≡ one_if ((live && near) && not past) + one_if live
balanced false near past = refl
balanced true false past = refl
balanced true true true = refl
balanced true true false = refl

sums : (a b c d e f g h : ℕ) → a + b ≡ c + d → e + f ≡ g + h → (a + e) + (b + f) ≡ (c + g) + (d + h)
sums a b c d e f g h k l = omega arith

pub looks_balance : (q : WholeQuery) (es : List Entry) → count_by (is_taken_up q) es + live_count (map (left_by q) es) ≡ count_by (is_found q) es + live_count es
looks_balance q [] = refl
looks_balance q (e ∷ es) =
    ap₂ (λ (m n : ℕ). m + n) (count_by-cons (is_taken_up q) e es) (count_by-cons (λ f. f.is_live) (left_by q e) (map (left_by q) es))
    ∙ sums (one_if (is_taken_up q e)) (one_if (left_by q e).is_live) (one_if (is_found q e)) (one_if e.is_live) (count_by (is_taken_up q) es) (live_count (map (left_by q) es)) (count_by (is_found q) es) (live_count es)
    (balanced e.is_live (is_at_heights q e) (int_lt e.end_x q.x)) (looks_balance q es)
    ∙ ap₂ (λ (m n : ℕ). m + n) (sym (count_by-cons (is_found q) e es)) (sym (count_by-cons (λ f. f.is_live) e es))

-- ---- those found have boxes that meet

meet : (s t : Pair) → s.a.x ≤ℤ s.b.x → t.a.x ≤ℤ t.b.x → s.a.x ≤ℤ t.a.x → t.a.x ≤ℤ s.b.x → int_min t.a.y t.b.y ≤ℤ int_max s.a.y s.b.y → int_min s.a.y s.b.y ≤ℤ int_max t.a.y t.b.y → boxes_meet s t ≡ true
unfolding boxes_meet ranges_meet
meet s t hs ht a b c d =
    and_from _ _ (le-test (int_max (int_min s.a.x s.b.x) (int_min t.a.x t.b.x)) (int_min (int_max s.a.x s.b.x) (int_max t.a.x t.b.x)) (omega (arith, ints, clamps)))
    (le-test (int_max (int_min s.a.y s.b.y) (int_min t.a.y t.b.y)) (int_min (int_max s.a.y s.b.y) (int_max t.a.y t.b.y)) (omega (arith, ints, clamps)))

-- whether an entry is that of a pair before the one at an index whose box meets that one's
abbrev is_near : List Pair → ℕ → Entry → Bool
is_near ps j e = nat_lt e.index j && boxes_meet (pair_at ps e.index) (pair_at ps j)

found_is_near : (ps : List Pair) (j : ℕ) (e : Entry) → IsInOrder pair_cmp ps → AllByRecursion (λ s. IsTrue (is_ordered s)) ps → j < length ps → IsOf ps e → (e.is_live ≡ true → e.index < j) → is_found (query_at ps j) e ≡ true → is_near ps j (unlive e) ≡ true
found_is_near ps j e order ordered w of live h =
    let q = query_at ps j in
    let s = pair_at ps e.index in
    let t = pair_at ps j in
    let outer = and_parts (is_taken_up q e) (not (int_lt e.end_x q.x)) h in
    let inner = and_parts e.is_live (is_at_heights q e) outer.0 in
    let tests = and_parts (not (int_lt e.high q.low)) (not (int_lt q.high e.low)) inner.1 in
    let lt = live inner.0 in
    let low : e.low ≡ int_min s.a.y s.b.y = ap (λ (f : Entry). f.low) of.is in
    let high : e.high ≡ int_max s.a.y s.b.y = ap (λ (f : Entry). f.high) of.is in
    let end_x : e.end_x ≡ s.b.x = ap (λ (f : Entry). f.end_x) of.is in
    let os : s.a.x ≤ℤ s.b.x = ordered_x s (AllByRecursion-get (λ s. IsTrue (is_ordered s)) ps e.index nowhere ordered of.within) in
    let ot : t.a.x ≤ℤ t.b.x = ordered_x t (AllByRecursion-get (λ s. IsTrue (is_ordered s)) ps j nowhere ordered w) in
    let right : s.a.x ≤ℤ t.a.x = later_right ps e.index j order lt w in
    let past : t.a.x ≤ℤ s.b.x = subst (λ (z : ℤ). t.a.x ≤ℤ z) end_x (lt-tested_false e.end_x q.x (not-true _ outer.1)) in
    let under : int_min t.a.y t.b.y ≤ℤ int_max s.a.y s.b.y = subst (λ (z : ℤ). int_min t.a.y t.b.y ≤ℤ z) high (lt-tested_false e.high q.low (not-true _ tests.0)) in
    let over : int_min s.a.y s.b.y ≤ℤ int_max t.a.y t.b.y = subst (λ (z : ℤ). z ≤ℤ int_max t.a.y t.b.y) low (lt-tested_false q.high e.low (not-true _ tests.1)) in
    and_from (nat_lt e.index j) (boxes_meet s t) (nat_lt-test e.index j lt) (meet s t os ot right past under over)

-- what boxes that meet say of two pairs
pub record DoMeet (s t : Pair) : Type 0 where
  pub right : t.a.x ≤ℤ s.b.x
  pub under : int_min t.a.y t.b.y ≤ℤ int_max s.a.y s.b.y
  pub over : int_min s.a.y s.b.y ≤ℤ int_max t.a.y t.b.y

DoMeet-from : (s t : Pair) → s.a.x ≤ℤ s.b.x → t.a.x ≤ℤ t.b.x → boxes_meet s t ≡ true → DoMeet s t
unfolding boxes_meet ranges_meet
DoMeet-from s t hs ht h =
    let both = and_parts _ _ h in
    let x = le-tested (int_max (int_min s.a.x s.b.x) (int_min t.a.x t.b.x)) (int_min (int_max s.a.x s.b.x) (int_max t.a.x t.b.x)) both.0 in
    let y = le-tested (int_max (int_min s.a.y s.b.y) (int_min t.a.y t.b.y)) (int_min (int_max s.a.y s.b.y) (int_max t.a.y t.b.y)) both.1 in
    record { right = omega (arith, ints, clamps); under = omega (arith, ints, clamps); over = omega (arith, ints, clamps) }

lt_is : (i j : ℕ) → nat_lt i j ≡ true → i < j
lt_is i j h = grind arith

-- such an entry is found
near_is_found : (ps : List Pair) (j : ℕ) (e : Entry) → AllByRecursion (λ s. IsTrue (is_ordered s)) ps → j < length ps → IsOf ps e → Gone ps j e → is_near ps j (unlive e) ≡ true → is_found (query_at ps j) e ≡ true
near_is_found ps j e ordered w of gone h =
    let q = query_at ps j in
    let s = pair_at ps e.index in
    let t = pair_at ps j in
    let parts = and_parts (nat_lt e.index j) (boxes_meet s t) h in
    let low : e.low ≡ int_min s.a.y s.b.y = ap (λ (f : Entry). f.low) of.is in
    let high : e.high ≡ int_max s.a.y s.b.y = ap (λ (f : Entry). f.high) of.is in
    let end_x : e.end_x ≡ s.b.x = ap (λ (f : Entry). f.end_x) of.is in
    let os : s.a.x ≤ℤ s.b.x = ordered_x s (AllByRecursion-get (λ s. IsTrue (is_ordered s)) ps e.index nowhere ordered of.within) in
    let ot : t.a.x ≤ℤ t.b.x = ordered_x t (AllByRecursion-get (λ s. IsTrue (is_ordered s)) ps j nowhere ordered w) in
    let meet = DoMeet-from s t os ot parts.1 in
    let right : t.a.x ≤ℤ e.end_x = subst (λ (z : ℤ). t.a.x ≤ℤ z) (sym end_x) meet.right in
    let live : e.is_live ≡ true = true_from_ne_false e.is_live (λ n. lt_not_le e.end_x t.a.x (gone (lt_is e.index j parts.0) n j (omega arith) w) right) in
    let reaches : int_lt e.high q.low ≡ false = lt-test_false e.high q.low (subst (λ (z : ℤ). int_min t.a.y t.b.y ≤ℤ z) (sym high) meet.under) in
    let begins : int_lt q.high e.low ≡ false = lt-test_false q.high e.low (subst (λ (z : ℤ). z ≤ℤ int_max t.a.y t.b.y) (sym low) meet.over) in
    and_from (is_taken_up q e) (not (int_lt e.end_x q.x)) (and_from e.is_live (is_at_heights q e) live (and_from (not (int_lt e.high q.low)) (not (int_lt q.high e.low)) (ap not reaches) (ap not begins))) (ap not (lt-test_false e.end_x q.x right))

near_up_to : (ps : List Pair) (j n : ℕ) → n ≤ j → j ≤ length ps → count_by (is_near ps j) (map (entry_at ps) (range_with_len 0 n)) ≡ count_by (λ s. boxes_meet s (pair_at ps j)) (take n ps)
near_up_to ps j zero h w = refl
near_up_to ps j (suc n) h w =
    let t = pair_at ps j in
    let here : is_near ps j (entry_at ps n) ≡ boxes_meet (pair_at ps n) t = ap (λ (b : Bool). b && boxes_meet (pair_at ps n) t) (nat_lt-test n j (omega arith)) in
    let next : suc n ≡ n + 1 = omega arith in
    ap (λ (k : ℕ). count_by (is_near ps j) (map (entry_at ps) (range_with_len 0 k))) next
    ∙ sum_by-map-range_with_len_more (λ e. one_if (is_near ps j e)) (entry_at ps) 0 n n (omega arith)
    ∙ ap₂ (λ (a b : ℕ). a + b) (near_up_to ps j n (omega arith) w) (ap one_if here)
    ∙ sym (ap (λ (k : ℕ). count_by (λ s. boxes_meet s t) (take k ps)) next
    ∙ ap (count_by (λ s. boxes_meet s t)) (take_more ps n nowhere (omega arith))
    ∙ count_by-append (λ s. boxes_meet s t) (take n ps) (pair_at ps n ∷ [])
    ∙ ap (λ (k : ℕ). count_by (λ s. boxes_meet s t) (take n ps) + k) (count_by-cons (λ s. boxes_meet s t) (pair_at ps n) [] ∙ add-zero (one_if (boxes_meet (pair_at ps n) t))))

near_beyond : (ps : List Pair) (j m : ℕ) → count_by (is_near ps j) (map (entry_at ps) (range_with_len 0 (j + m))) ≡ count_by (is_near ps j) (map (entry_at ps) (range_with_len 0 j))
near_beyond ps j zero = ap (λ (k : ℕ). count_by (is_near ps j) (map (entry_at ps) (range_with_len 0 k))) (add-zero j)
near_beyond ps j (suc m) =
    let none : one_if (is_near ps j (entry_at ps (j + m))) ≡ 0 = ap (λ (b : Bool). one_if (b && boxes_meet (pair_at ps (j + m)) (pair_at ps j))) (nat_lt-test_false (j + m) j (omega arith)) in
    let step = sum_by-map-range_with_len_more (λ e. one_if (is_near ps j e)) (entry_at ps) 0 (j + m) (j + m) (omega arith) in
    let rest = near_beyond ps j m in
    ap (λ (k : ℕ). count_by (is_near ps j) (map (entry_at ps) (range_with_len 0 k))) (next j m) ∙ step ∙ last _ _ _ rest none
  where
    next : (j m : ℕ) → j + suc m ≡ (j + m) + 1
    next j m = omega arith

    last : (a b c : ℕ) → a ≡ c → b ≡ 0 → a + b ≡ c
    last a b c e f = omega arith

near_in_all : (ps : List Pair) (j : ℕ) → j < length ps → count_by (is_near ps j) (unswept ps) ≡ count_by (λ s. boxes_meet s (pair_at ps j)) (take j ps)
near_in_all ps j w =
    let split : length ps ≡ j + (length ps - j) = omega arith in
    ap (λ (k : ℕ). count_by (is_near ps j) (map (entry_at ps) (range_with_len 0 k))) split ∙ near_beyond ps j (length ps - j) ∙ near_up_to ps j j (omega arith) (omega arith)

-- a look-up finds just the earlier pairs whose boxes meet this one's
found_all : (ps : List Pair) (es : List Entry) (j : ℕ) → IsSwept ps es j → IsInOrder pair_cmp ps → AllByRecursion (λ s. IsTrue (is_ordered s)) ps → j < length ps →
    count_by (is_found (query_at ps j)) es ≡ count_by (λ s. boxes_meet s (pair_at ps j)) (take j ps)
found_all ps es j swept order ordered w =
    let facts = AllByRecursion-both (IsOf ps) (λ e. e.is_live ≡ true → e.index < j) es (entries_are ps es swept.base) swept.live in
    let few = count_by-implied (is_found (query_at ps j)) (λ e. is_near ps j (unlive e)) es
    (AllByRecursion-weaker (λ e. IsOf ps e × (e.is_live ≡ true → e.index < j)) (λ e. is_found (query_at ps j) e ≡ true → is_near ps j (unlive e) ≡ true) (λ e h. found_is_near ps j e order ordered w h.0 h.1) es facts) in
    let gone = AllByRecursion-both (IsOf ps) (Gone ps j) es (entries_are ps es swept.base) swept.gone in
    let many = count_by-implied (λ e. is_near ps j (unlive e)) (is_found (query_at ps j)) es
    (AllByRecursion-weaker (λ e. IsOf ps e × Gone ps j e) (λ e. is_near ps j (unlive e) ≡ true → is_found (query_at ps j) e ≡ true) (λ e h. near_is_found ps j e ordered w h.0 h.1) es gone) in
    let moved = sum_by-map (λ e. one_if (is_near ps j e)) unlive es in
    let permuted = sum_by-IsPermutation (λ e. one_if (is_near ps j e)) (unswept ps) (map unlive es) swept.base in
    let all = near_in_all ps j w in
    omega arith

-- ---- one insertion

at_index : (ps : List Pair) (j n : ℕ) → count_by (λ e. e.index == j) (map (entry_at ps) (range_with_len 0 n)) ≤ cond (nat_lt j n) 1 0
at_index ps j zero = omega arith
at_index ps j (suc n) =
    let next : suc n ≡ n + 1 = omega arith in
    let step = ap (λ (k : ℕ). count_by (λ e. e.index == j) (map (entry_at ps) (range_with_len 0 k))) next ∙ sum_by-map-range_with_len_more (λ e. one_if (e.index == j)) (entry_at ps) 0 n n (omega arith) in
    one_more _ _ n j step (at_index ps j n)
  where
    one_more : (a b n j : ℕ) → b ≡ a + one_if (n == j) → a ≤ cond (nat_lt j n) 1 0 → b ≤ cond (nat_lt j (suc n)) 1 0
    one_more a b n j e h = grind arith

pub one_or_none : (b : Bool) → cond b 1 0 ≤ 1
one_or_none true = omega arith
one_or_none false = omega arith

either : (a b : Bool) → one_if (a || b) ≤ one_if a + one_if b
either true b = omega arith
either false b = omega arith

inserted_few : (j : ℕ) (es : List Entry) → live_count (map (inserted j) es) ≤ live_count es + count_by (λ e. e.index == j) es
inserted_few j [] = omega arith
inserted_few j (e ∷ es) =
    let rest = inserted_few j es in
    let one = either e.is_live (e.index == j) in
    let a = count_by-cons (λ f. f.is_live) (inserted j e) (map (inserted j) es) in
    let b = count_by-cons (λ f. f.is_live) e es in
    let c = count_by-cons (λ f. f.index == j) e es in
    omega arith

same_indexes : (q : WholeQuery) (j : ℕ) (es : List Entry) → count_by (λ e. e.index == j) (map (left_by q) es) ≡ count_by (λ e. e.index == j) (map unlive es)
same_indexes q j es = sum_by-map (λ e. one_if (e.index == j)) (left_by q) es ∙ sym (sum_by-map (λ e. one_if (e.index == j)) unlive es)

inserted_one : (ps : List Pair) (es : List Entry) (q : WholeQuery) (j : ℕ) → IsPermutation (unswept ps) (map unlive es) → live_count (map (inserted j) (map (left_by q) es)) ≤ live_count (map (left_by q) es) + 1
inserted_one ps es q j p =
    let few = inserted_few j (map (left_by q) es) in
    let same = same_indexes q j es in
    let permuted = sum_by-IsPermutation (λ e. one_if (e.index == j)) (unswept ps) (map unlive es) p in
    let one = at_index ps j (length ps) in
    let most = one_or_none (nat_lt j (length ps)) in
    omega arith

-- ---- the whole sweep

pub IsCounted-start : (ps : List Pair) (es : List Entry) (old : ℕ) → old ≤ 2 ^ 128 - 1 → AllByRecursion (λ e. e.is_live ≡ false) es → IsCounted ps es 0 old old
unfolding count_twos
IsCounted-start ps es old fits dead =
    let none = no_live es dead in
    record { others = 0; most = omega arith; is = unchanged old (2 ^ 128 - 1) fits }
  where
    no_live : (es : List Entry) → AllByRecursion (λ e. e.is_live ≡ false) es → live_count es ≡ 0
    no_live [] h = refl
    no_live (e ∷ es) h = count_by-cons (λ f. f.is_live) e es ∙ ap₂ (λ (b : Bool) (n : ℕ). one_if b + n) h.0 (no_live es h.1)

    unchanged : (m w : ℕ) → m ≤ w → m ≡ min (m + (0 + 0)) w
    unchanged m w h = omega arith

-- a look-up takes up what it finds or drops, and maybe a few more
pub IsCounted-more : (ps : List Pair) (es : List Entry) (j old now next extra : ℕ) → IsSwept ps es j → IsInOrder pair_cmp ps → AllByRecursion (λ s. IsTrue (is_ordered s)) ps → j < length ps → IsCounted ps es j old now → extra ≤ 31 + 8 * count_by (is_taken_up (query_at ps j)) es →
    next ≡ min (now + (count_by (is_taken_up (query_at ps j)) es + extra)) (2 ^ 128 - 1) → IsCounted ps (map (inserted j) (map (left_by (query_at ps j)) es)) (j + 1) old next
IsCounted-more ps es j old now next extra swept order ordered w counted less h =
    let q = query_at ps j in
    let taken = count_by (is_taken_up q) es in
    let balance = looks_balance q es in
    let all = found_all ps es j swept order ordered w in
    let one = inserted_one ps es q j swept.base in
    let twos = count_twos_more boxes_meet ps j nowhere w in
    let live = live_count es in
    let left = live_count (map (left_by q) es) in
    let found = count_by (is_found q) es in
    let fewer : left ≤ live = left_few q es in
    let gone : taken + extra ≡ found + ((live - left) + extra) = difference taken left found live extra balance fewer in
    record {
      others = counted.others + ((live - left) + extra);
      most =
          let most = counted.most in
          let pairs_now : count_twos boxes_meet (take (j + 1) ps) ≡ count_twos boxes_meet (take j ps) + found = twos ∙ ap (λ (n : ℕ). count_twos boxes_meet (take j ps) + n) (sym all) in
          kept_few counted.others live left (live_count (map (inserted j) (map (left_by q) es))) extra j taken found (count_twos boxes_meet (take j ps)) (count_twos boxes_meet (take (j + 1) ps)) balance fewer most one less pairs_now;
      is = h ∙ ap (λ (n : ℕ). min (n + (taken + extra)) (2 ^ 128 - 1)) counted.is
          ∙ twice old (count_twos boxes_meet (take j ps)) counted.others (taken + extra) found ((live - left) + extra) (count_twos boxes_meet (take (j + 1) ps)) (2 ^ 128 - 1) gone (twos ∙ ap (λ (n : ℕ). count_twos boxes_meet (take j ps) + n) (sym all));
    }
  where
    difference : (t l f v x : ℕ) → t + l ≡ f + v → l ≤ v → t + x ≡ f + ((v - l) + x)
    difference t l f v x e h = omega arith

    kept_few : (d v l n x j t f c c' : ℕ) → t + l ≡ f + v → l ≤ v → d + 9 * v ≤ 40 * j + 8 * c → n ≤ l + 1 → x ≤ 31 + 8 * t → c' ≡ c + f → (d + ((v - l) + x)) + 9 * n ≤ 40 * (j + 1) + 8 * c'
    kept_few d v l n x j t f c c' b h k m i e = omega arith

    twice : (o c d t f g c' w : ℕ) → t ≡ f + g → c' ≡ c + f → min (min (o + (c + d)) w + t) w ≡ min (o + (c' + (d + g))) w
    twice o c d t f g c' w e k = omega arith

    left_few : (q : WholeQuery) (es : List Entry) → live_count (map (left_by q) es) ≤ live_count es
    left_few q [] = omega arith
    left_few q (e ∷ es) =
        let rest = left_few q es in
        let one = fewer_one e.is_live (is_dropped q e) in
        let a = count_by-cons (λ f. f.is_live) (left_by q e) (map (left_by q) es) in
        let b = count_by-cons (λ f. f.is_live) e es in
        omega arith
      where
        fewer_one : (a d : Bool) → one_if (a && not d) ≤ one_if a
        fewer_one true true = omega arith
        fewer_one true false = omega arith
        fewer_one false d = omega arith

-- each two whose boxes meet, and no more looks than a sweep may take
pub record AreLooks (ps : List Pair) (old now : ℕ) : Type 0 where
  pub least : min (old + count_twos boxes_meet ps) (2 ^ 128 - 1) ≤ now
  pub most : now ≤ old + sweep_looks ps

pub IsCounted-end : (ps : List Pair) (es : List Entry) (j old now : ℕ) → length ps ≡ j → IsCounted ps es j old now → AreLooks ps old now
unfolding sweep_looks
IsCounted-end ps es j old now e counted =
    let same = ap (count_twos boxes_meet) (take_all ps j e) in
    let is = counted.is in
    let most = counted.most in
    record {
      least = at_least old (count_twos boxes_meet ps) _ counted.others now (2 ^ 128 - 1) same is;
      most = at_most old (count_twos boxes_meet ps) _ counted.others now (40 * length ps + 9 * count_twos boxes_meet ps) (2 ^ 128 - 1) same is (few_enough counted.others (live_count es) j (length ps) (count_twos boxes_meet ps) _ same most e);
    }
  where
    take_all : (xs : List Pair) (n : ℕ) → length xs ≡ n → take n xs ≡ xs
    take_all [] zero e = refl
    take_all [] (suc n) e = refl
    take_all (x ∷ xs) zero e = absurd (omega arith)
    take_all (x ∷ xs) (suc n) e = ap (λ (l : List Pair). x ∷ l) (take_all xs n (omega arith))

    at_least : (o c c' d n w : ℕ) → c' ≡ c → n ≡ min (o + (c' + d)) w → min (o + c) w ≤ n
    at_least o c c' d n w e h = omega arith

    at_most : (o c c' d n l w : ℕ) → c' ≡ c → n ≡ min (o + (c' + d)) w → c + d ≤ l → n ≤ o + l
    at_most o c c' d n l w e h k = omega arith

    few_enough : (d v j l c c' : ℕ) → c' ≡ c → d + 9 * v ≤ 40 * j + 8 * c' → l ≡ j → c + d ≤ 40 * l + 9 * c
    few_enough d v j l c c' e h f = omega arith

-- the bound of a sweep is less than that of a pass of the tree, by 24 for each segment at least
pub sweep_looks-most : (ps : List Pair) → 24 * length ps + sweep_looks ps ≤ tree_looks ps
unfolding sweep_looks tree_looks
sweep_looks-most ps = omega arith
