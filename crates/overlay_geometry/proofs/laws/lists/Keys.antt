-- Keys in order: insertion into a strictly sorted list, the distinct keys of a list, sorted lists with ties, repeats.
use Rattle.std.proofs.Common.{◌≡◌, ℕ, ◌+◌, ◌≤◌, zero, suc, Bool, true, false, cond, ◌||◌, ◌⊎◌, inl, inr, List, [], ◌∷◌, map, filter, take, sum_by, IsSortedByKey, Ordering, Less, Equal, Greater, is_eq, is_lt, is_gt, refl, sym, ap, ◌∙◌, le_refl, arith}
use Rattle.std.specs.Prelude.{⊤}
use native.Mathlib.Numerals.{unary_clauses}
use Rattle.std.specs.Cmp.{IsTotalOrder}
use Rattle.std.specs.Ordering.{ordering_reverse, match_ordering}
use Rattle.std.specs.BTreeSet.{insert_key}
use Rattle.std.specs.List.{AllByRecursion, IsDistinct, list_any, list_all}
use Rattle.std.specs.List.Sorted.{IsStrictlySortedBy}
use Rattle.std.proofs.lemmas.Bool.{and_parts, and_from, or_parts, or_from}
use Rattle.std.proofs.lemmas.Cmp.{upto, alike_right}
use Rattle.std.proofs.lemmas.List.Sums.{sum_by-cons}
use Rattle.overlay_geometry.specs.Sorting.{is_strictly_sorted, distinct_in_order, has_repeat}
use Rattle.overlay_geometry.proofs.laws.lists.Lists.{Has, AllByRecursion-take, AllByRecursion-from_list_all, list_all-from_AllByRecursion, list_any-from_none, none_from_list_any}

-- ---- results of a comparison

pub is_lt-true : (r : Ordering) → is_lt r ≡ true → r ≡ Less
is_lt-true Less h = refl
is_lt-true Equal h = cc
is_lt-true Greater h = cc

pub is_eq-true : (r : Ordering) → is_eq r ≡ true → r ≡ Equal
is_eq-true Less h = cc
is_eq-true Equal h = refl
is_eq-true Greater h = cc

pub is_eq-reverse : (r : Ordering) → is_eq (ordering_reverse r) ≡ is_eq r
is_eq-reverse Less = refl
is_eq-reverse Equal = refl
is_eq-reverse Greater = refl

-- neither above nor equal is below
pub Less-from_tests : (r : Ordering) → is_gt r ≡ false → is_eq r ≡ false → r ≡ Less
Less-from_tests Less h e = refl
Less-from_tests Equal h e = cc
Less-from_tests Greater h e = cc

-- what holds of each outcome holds of the match
pub by_match : {X : Type 0} (P : X → Type 0) (r : Ordering) (a b c : X) → P a → P b → P c → P (match_ordering r a b c)
by_match P Less a b c h k l = h
by_match P Equal a b c h k l = k
by_match P Greater a b c h k l = l

-- ---- a key put into a list, and the distinct keys

-- what holds of the key and of each key of the list
pub AllByRecursion-insert_key : {K : Type 0} (cmp : K → K → Ordering) (P : K → Type 0) (ks : List K) (k : K) → P k → AllByRecursion P ks → AllByRecursion P (insert_key cmp ks k)
AllByRecursion-insert_key cmp P [] k h l = (h, tt)
AllByRecursion-insert_key cmp P (x ∷ ks) k h l = by_match (AllByRecursion P) (cmp k x) (k ∷ x ∷ ks) (x ∷ ks) (x ∷ insert_key cmp ks k) (h, l) l (l.0, AllByRecursion-insert_key cmp P ks k h l.1)

pub AllByRecursion-distinct_in_order : {K : Type 0} (cmp : K → K → Ordering) (P : K → Type 0) (ks : List K) → AllByRecursion P ks → AllByRecursion P (distinct_in_order cmp ks)
unfolding distinct_in_order
AllByRecursion-distinct_in_order cmp P [] h = tt
AllByRecursion-distinct_in_order cmp P (x ∷ ks) h = AllByRecursion-insert_key cmp P (distinct_in_order cmp ks) x h.0 (AllByRecursion-distinct_in_order cmp P ks h.1)

-- a test that all keys pass
pub list_all-distinct_in_order : {K : Type 0} (cmp : K → K → Ordering) (p : K → Bool) (ks : List K) → list_all p ks ≡ true → list_all p (distinct_in_order cmp ks) ≡ true
list_all-distinct_in_order cmp p ks h = list_all-from_AllByRecursion p _ (AllByRecursion-distinct_in_order cmp (λ k. p k ≡ true) ks (AllByRecursion-from_list_all p ks h))

sum_by-insert_key_le : {K : Type 0} (cmp : K → K → Ordering) (f : K → ℕ) (k : K) (xs : List K) → sum_by f (insert_key cmp xs k) ≤ f k + sum_by f xs
sum_by-insert_key_le cmp f k [] = let e = sum_by-cons f k [] in omega arith
sum_by-insert_key_le cmp f k (x ∷ xs) = by (cmp k x) (sum_by-insert_key_le cmp f k xs)
  where
    by : (r : Ordering) → sum_by f (insert_key cmp xs k) ≤ f k + sum_by f xs → sum_by f (match_ordering r (k ∷ x ∷ xs) (x ∷ xs) (x ∷ insert_key cmp xs k)) ≤ f k + sum_by f (x ∷ xs)
    by Less ih = let e = sum_by-cons f k (x ∷ xs) in omega arith
    by Equal ih = omega arith
    by Greater ih = let e = sum_by-cons f x (insert_key cmp xs k) in let d = sum_by-cons f x xs in omega arith

-- the distinct keys have no larger sum
pub sum_by-distinct_in_order_le : {K : Type 0} (cmp : K → K → Ordering) (f : K → ℕ) (ks : List K) → sum_by f (distinct_in_order cmp ks) ≤ sum_by f ks
unfolding distinct_in_order
sum_by-distinct_in_order_le cmp f [] = le_refl _
sum_by-distinct_in_order_le cmp f (k ∷ ks) =
    let a = sum_by-insert_key_le cmp f k (distinct_in_order cmp ks) in
    let b = sum_by-distinct_in_order_le cmp f ks in
    let e = sum_by-cons f k ks in
    omega arith

-- whether a key is in a list
abbrev pub has_key : {K : Type 0} → (K → K → Ordering) → List K → K → Bool
has_key cmp ks q = list_any (λ k. is_eq (cmp q k)) ks

-- a key below all keys of a list is not in it
pub has_key-below : {K : Type 0} (cmp : K → K → Ordering) (q : K) (ks : List K) → AllByRecursion (λ k. cmp q k ≡ Less) ks → has_key cmp ks q ≡ false
has_key-below cmp q [] a = refl
has_key-below cmp q (k ∷ ks) a = or_from _ _ (ap is_eq a.0) (has_key-below cmp q ks a.1)

module _ {K : Type 0} {cmp : K → K → Ordering} (o : IsTotalOrder cmp) where
  -- ---- strict order

  -- what is below a key is below all later keys
  pub AllByRecursion-less : (k x : K) (xs : List K) → cmp k x ≡ Less → AllByRecursion (λ y. cmp x y ≡ Less) xs → AllByRecursion (λ y. cmp k y ≡ Less) xs
  AllByRecursion-less k x [] h a = tt
  AllByRecursion-less k x (y ∷ ys) h a = (o.trans k x y h a.0, AllByRecursion-less k x ys h a.1)

  pub IsStrictlySortedBy-insert_key : (k : K) (xs : List K) → IsStrictlySortedBy cmp xs → IsStrictlySortedBy cmp (insert_key cmp xs k)
  unfolding IsStrictlySortedBy
  IsStrictlySortedBy-insert_key k [] s = (tt, tt)
  IsStrictlySortedBy-insert_key k (x ∷ xs) s = by (cmp k x) refl (IsStrictlySortedBy-insert_key k xs s.1)
    where
      by : (r : Ordering) → cmp k x ≡ r → IsStrictlySortedBy cmp (insert_key cmp xs k) → IsStrictlySortedBy cmp (match_ordering r (k ∷ x ∷ xs) (x ∷ xs) (x ∷ insert_key cmp xs k))
      by Less e ih = ((e, AllByRecursion-less k x xs e s.0), s)
      by Equal e ih = s
      by Greater e ih = (AllByRecursion-insert_key cmp (λ y. cmp x y ≡ Less) xs k (o.antisymm x k ∙ ap ordering_reverse e) s.0, ih)

  -- the distinct keys are in strict order
  pub IsStrictlySortedBy-distinct : (ks : List K) → IsStrictlySortedBy cmp (distinct_in_order cmp ks)
  unfolding distinct_in_order IsStrictlySortedBy
  IsStrictlySortedBy-distinct [] = tt
  IsStrictlySortedBy-distinct (k ∷ ks) = IsStrictlySortedBy-insert_key k _ (IsStrictlySortedBy-distinct ks)

  -- the test of neighbors and the order of all
  pub is_strictly_sorted-from : (ks : List K) → IsStrictlySortedBy cmp ks → is_strictly_sorted cmp ks ≡ true
  unfolding is_strictly_sorted IsStrictlySortedBy
  is_strictly_sorted-from [] s = refl
  is_strictly_sorted-from (x ∷ []) s = refl
  is_strictly_sorted-from (x ∷ y ∷ ys) s = and_from _ _ (ap is_lt s.0.0) (is_strictly_sorted-from (y ∷ ys) s.1)

  pub IsStrictlySortedBy-from_test : (ks : List K) → is_strictly_sorted cmp ks ≡ true → IsStrictlySortedBy cmp ks
  unfolding is_strictly_sorted IsStrictlySortedBy
  IsStrictlySortedBy-from_test [] h = tt
  IsStrictlySortedBy-from_test (x ∷ []) h = (tt, tt)
  IsStrictlySortedBy-from_test (x ∷ y ∷ ys) h =
      let parts = and_parts _ _ h in
      let rest = IsStrictlySortedBy-from_test (y ∷ ys) parts.1 in
      let less = is_lt-true _ parts.0 in
      ((less, AllByRecursion-less x y ys less rest.0), rest)

  -- ---- the keys of a list

  has_key-insert_key : (k q : K) (xs : List K) → has_key cmp (insert_key cmp xs k) q ≡ has_key cmp (k ∷ xs) q
  has_key-insert_key k q [] = refl
  has_key-insert_key k q (x ∷ xs) = by (cmp k x) refl (has_key-insert_key k q xs)
    where
      exchanged : (a b c : Bool) → (a || (b || c)) ≡ (b || (a || c))
      exchanged false false c = refl
      exchanged false true c = refl
      exchanged true false c = refl
      exchanged true true c = refl

      twice : (a b : Bool) → (a || b) ≡ (a || (a || b))
      twice false b = refl
      twice true b = refl

      by : (r : Ordering) → cmp k x ≡ r → has_key cmp (insert_key cmp xs k) q ≡ has_key cmp (k ∷ xs) q → has_key cmp (match_ordering r (k ∷ x ∷ xs) (x ∷ xs) (x ∷ insert_key cmp xs k)) q ≡ has_key cmp (k ∷ x ∷ xs) q
      by Less e ih = refl
      by Equal e ih = twice (is_eq (cmp q x)) (has_key cmp xs q) ∙ ap (λ r. is_eq r || (is_eq (cmp q x) || has_key cmp xs q)) (sym (alike_right o k x q e))
      by Greater e ih = ap (λ b. is_eq (cmp q x) || b) ih ∙ exchanged (is_eq (cmp q x)) (is_eq (cmp q k)) (has_key cmp xs q)

  -- the distinct keys are the keys of the list
  pub has_key-distinct : (ks : List K) (q : K) → has_key cmp (distinct_in_order cmp ks) q ≡ has_key cmp ks q
  unfolding distinct_in_order
  has_key-distinct [] q = refl
  has_key-distinct (k ∷ ks) q = has_key-insert_key k q (distinct_in_order cmp ks) ∙ ap (λ b. is_eq (cmp q k) || b) (has_key-distinct ks q)

  -- where keys that compare as equal are equal: an element of the list is one of the distinct keys
  module _ (same : (j k : K) → cmp j k ≡ Equal → j ≡ k) where
    Has-insert_key : (ks : List K) (k e : K) → (k ≡ e) ⊎ Has ks e → Has (insert_key cmp ks k) e
    Has-insert_key [] k e i = i
    Has-insert_key (x ∷ ks) k e i = by (cmp k x) refl i (Has-insert_key ks k e)
      where
        by : (r : Ordering) → cmp k x ≡ r → (k ≡ e) ⊎ Has (x ∷ ks) e → ((k ≡ e) ⊎ Has ks e → Has (insert_key cmp ks k) e) → Has (match_ordering r (k ∷ x ∷ ks) (x ∷ ks) (x ∷ insert_key cmp ks k)) e
        by Less c i f = i
        by Equal c (inl h) f = inl (sym (same k x c) ∙ h)
        by Equal c (inr i) f = i
        by Greater c (inl h) f = inr (f (inl h))
        by Greater c (inr (inl h)) f = inl h
        by Greater c (inr (inr i)) f = inr (f (inr i))

    pub Has-distinct_in_order : (ks : List K) (e : K) → Has ks e → Has (distinct_in_order cmp ks) e
    unfolding distinct_in_order
    Has-distinct_in_order [] e i = i
    Has-distinct_in_order (k ∷ ks) e (inl h) = Has-insert_key (distinct_in_order cmp ks) k e (inl h)
    Has-distinct_in_order (k ∷ ks) e (inr i) = Has-insert_key (distinct_in_order cmp ks) k e (inr (Has-distinct_in_order ks e i))

-- ---- a part of a list whose elements have keys in strict order

pub IsStrictlySortedBy-map_filter : {X K : Type 0} (key : X → K) (cmp : K → K → Ordering) (test : X → Bool) (xs : List X) → IsStrictlySortedBy cmp (map key xs) → IsStrictlySortedBy cmp (map key (filter test xs))
unfolding IsStrictlySortedBy
IsStrictlySortedBy-map_filter key cmp test [] h = tt
IsStrictlySortedBy-map_filter key cmp test (x ∷ xs) h = by (test x) (part (λ k. cmp (key x) k ≡ Less) xs h.0) (IsStrictlySortedBy-map_filter key cmp test xs h.1)
  where
    part : (P : _ → Type 0) (xs : List _) → AllByRecursion P (map key xs) → AllByRecursion P (map key (filter test xs))
    part P [] h = tt
    part P (x ∷ xs) h = under (test x) (part P xs h.1)
      where
        under : (b : Bool) → AllByRecursion P (map key (filter test xs)) → AllByRecursion P (map key (cond b (x ∷ filter test xs) (filter test xs)))
        under true ih = (h.0, ih)
        under false ih = ih

    by : (b : Bool) → AllByRecursion (λ k. cmp (key x) k ≡ Less) (map key (filter test xs)) → IsStrictlySortedBy cmp (map key (filter test xs)) → IsStrictlySortedBy cmp (map key (cond b (x ∷ filter test xs) (filter test xs)))
    by true a ih = (a, ih)
    by false a ih = ih

-- ---- keys in order, equal ones side by side

abbrev pub IsInOrder : {K : Type 0} → (K → K → Ordering) → List K → Type 0
IsInOrder cmp [] = ⊤
IsInOrder cmp (k ∷ ks) = AllByRecursion (λ j. is_gt (cmp k j) ≡ false) ks × IsInOrder cmp ks

module _ {K : Type 0} {cmp : K → K → Ordering} (o : IsTotalOrder cmp) where
  later : (j k : K) (ks : List K) → is_gt (cmp j k) ≡ false → AllByRecursion (λ i. is_gt (cmp k i) ≡ false) ks → AllByRecursion (λ i. is_gt (cmp j i) ≡ false) ks
  later j k [] h a = tt
  later j k (i ∷ is) h a = (upto o j k i h a.0, later j k is h a.1)

  turned : (x y : K) → is_lt (cmp y x) ≡ false → is_gt (cmp x y) ≡ false
  turned x y h = ap is_gt (o.antisymm x y) ∙ by (cmp y x) h
    where
      by : (r : Ordering) → is_lt r ≡ false → is_gt (ordering_reverse r) ≡ false
      by Less h = cc
      by Equal h = refl
      by Greater h = refl

  -- what a sort by a key ensures
  pub IsInOrder-from_sort : {X : Type 0} (key : X → K) (xs : List X) → IsSortedByKey key cmp xs → IsInOrder cmp (map key xs)
  IsInOrder-from_sort {X = X} key [] h = tt
  IsInOrder-from_sort {X = X} key (x ∷ xs) h =
      let rest = IsInOrder-from_sort key xs (λ k d p q. simp unary_clauses (simp unary_clauses at (h (suc k) d (omega arith) (omega arith)))) in
      (front xs h rest, rest)
    where
      front : (xs : List X) → IsSortedByKey key cmp (x ∷ xs) → IsInOrder cmp (map key xs) → AllByRecursion (λ j. is_gt (cmp (key x) j) ≡ false) (map key xs)
      front [] h rest = tt
      front (y ∷ ys) h rest =
          let first = turned (key x) (key y) (h 0 x (omega arith) (omega arith)) in
          (first, later (key x) (key y) (map key ys) first rest.0)

  -- a key that is below the first of keys in order is below each
  pub AllByRecursion-less_in_order : (j k : K) (ks : List K) → cmp j k ≡ Less → AllByRecursion (λ i. is_gt (cmp k i) ≡ false) ks → AllByRecursion (λ i. cmp j i ≡ Less) ks
  AllByRecursion-less_in_order j k [] h a = tt
  AllByRecursion-less_in_order j k (i ∷ is) h a = (by (cmp k i) refl a.0, AllByRecursion-less_in_order j k is h a.1)
    where
      by : (r : Ordering) → cmp k i ≡ r → is_gt r ≡ false → cmp j i ≡ Less
      by Less e g = o.trans j k i h e
      by Equal e g = sym (alike_right o k i j e) ∙ h
      by Greater e g = cc

pub IsInOrder-take : {K : Type 0} (cmp : K → K → Ordering) (n : ℕ) (ks : List K) → IsInOrder cmp ks → IsInOrder cmp (take n ks)
IsInOrder-take cmp zero ks h = tt
IsInOrder-take cmp (suc n) [] h = tt
IsInOrder-take cmp (suc n) (k ∷ ks) h = (AllByRecursion-take (λ j. is_gt (cmp k j) ≡ false) n ks h.0, IsInOrder-take cmp n ks h.1)

-- ---- repeats

-- no repeat: the keys are distinct
pub IsDistinct-from_test : {K : Type 0} (eq : K → K → Bool) (ks : List K) → has_repeat eq ks ≡ false → IsDistinct eq ks
unfolding has_repeat IsDistinct
IsDistinct-from_test eq [] h = tt
IsDistinct-from_test eq (k ∷ ks) h = let parts = or_parts _ _ h in (none_from_list_any (eq k) ks parts.0, IsDistinct-from_test eq ks parts.1)

pub has_repeat-distinct : {K : Type 0} (eq : K → K → Bool) (ks : List K) → IsDistinct eq ks → has_repeat eq ks ≡ false
unfolding has_repeat IsDistinct
has_repeat-distinct eq [] h = refl
has_repeat-distinct eq (k ∷ ks) h = or_from _ _ (list_any-from_none (eq k) ks h.0) (has_repeat-distinct eq ks h.1)
