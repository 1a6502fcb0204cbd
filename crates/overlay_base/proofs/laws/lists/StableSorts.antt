-- A stable sort is one list: what is in order, with ties in their old order, is the list that `stably_sorted` gives.
use Rattle.std.proofs.Common.{◌≡◌, ℕ, ◌+◌, ◌<◌, ◌≤◌, Bool, true, false, not, ◌&&◌, List, [], ◌∷◌, map, IsPermutation, length, get_or, refl, sym, ap, subst, ◌∙◌, arith, zero, suc, inl, inr}
use Rattle.std.specs.Prelude.{if◌then◌else◌}
use native.Mathlib.Numerals.{unary_clauses}
use borrow.Rule.Slice.PartMut.{mid_of, put_mid, put_same}
use Rattle.std.specs.List.{AllByRecursion, filter}
use Rattle.std.specs.List.Sorted.{IsSorted, IsSortedBy, IsStable, IsStableBy, IsSortedByKey, IsStableByKey, ties}
use Rattle.std.specs.Cmp.{IsStrictWeakOrder, IsTotalOrder}
use Rattle.std.specs.declared.cmp.Ordering.{Ordering}
use Rattle.std.specs.declared.cmp.Ordering.TheVariants.{Less, Equal, Greater}
use Rattle.std.specs.Ordering.{is_lt, is_gt, ordering_reverse}
use Rattle.std.proofs.lemmas.List.Elements.{filter-append}
use Rattle.std.proofs.lemmas.List.Sorted.{sorted_far, ranks_by, IsPermutation-refl, IsPermutation-cons, IsPermutation-trans, IsPermutation-middle}
use Rattle.overlay_geometry.specs.Sorting.{insert_before_ties, stably_sorted}
use Rattle.overlay_geometry.proofs.laws.lists.Lists.{Pairwise}
use Rattle.overlay_geometry.proofs.laws.lists.Keys.{IsInOrder}
use Rattle.overlay_base.specs.Laws.{StableSortIsUnique, StablySortedIsStable}
use Rattle.std.proofs.lemmas.Bool.{false≢true, cases_Bool}

-- no element of the list is below x
abbrev pub NoneBelow : {X : Type 0} → (X → X → Bool) → X → List X → Type 0
NoneBelow lt x ys = AllByRecursion (λ y. lt y x ≡ false) ys

-- each element is not above those after it
abbrev pub Rises : {X : Type 0} → (X → X → Bool) → List X → Type 0
Rises lt ys = Pairwise (λ x y. lt y x ≡ false) ys

-- x before the first element that is not below it
abbrev pub insert_stable : {X : Type 0} → (X → X → Bool) → X → List X → List X
insert_stable lt x [] = x ∷ []
insert_stable lt x (y ∷ ys) = if lt y x then y ∷ insert_stable lt x ys else x ∷ (y ∷ ys)

-- the stable sort of a list, as a plain definition
abbrev pub stable_sort : {X : Type 0} → (X → X → Bool) → List X → List X
stable_sort lt [] = []
stable_sort lt (x ∷ xs) = insert_stable lt x (stable_sort lt xs)

module _ {X : Type 0} (lt : X → X → Bool) (o : IsStrictWeakOrder lt) where
  irreflexive_by : (x : X) (t : Bool) → lt x x ≡ t → lt x x ≡ false
  irreflexive_by x true e = o.one_way x x e
  irreflexive_by x false e = e

  pub lt-irrefl : (x : X) → lt x x ≡ false
  lt-irrefl x = irreflexive_by x (lt x x) refl

  pub ties-refl : (x : X) → ties lt x x ≡ true
  ties-refl x = rw (lt-irrefl x) refl

  not_below : (a b : Bool) → (not a && not b) ≡ true → a ≡ false
  not_below false b e = refl
  not_below true b e = absurd (false≢true e)

  -- where the list is at least z and x ties with some element of it, z is not below .. x is not below z
  pub tied_not_below : (x z : X) (zs : List X) (w : X) (ws : List X) → NoneBelow lt z zs → filter (ties lt x) zs ≡ w ∷ ws → lt x z ≡ false
  tied_not_below x z [] w ws n e = cc
  tied_not_below x z (y ∷ ys) w ws n e = by_test (λ k. tied_not_below x z ys w ws n.1 k) (ties lt x y) refl
    where
      by_test : (filter (ties lt x) ys ≡ w ∷ ws → lt x z ≡ false) → (t : Bool) → ties lt x y ≡ t → lt x z ≡ false
      by_test later true t =
          let xy : lt x y ≡ false = not_below (lt x y) (lt y x) t in
          o.chain x y z xy n.0
      by_test later false t = later (rw t at e)

  tails_by : (p : X → Bool) (y z : X) (ys zs : List X) → y ≡ z → filter p (y ∷ ys) ≡ filter p (z ∷ zs) → (t : Bool) → p y ≡ t → filter p ys ≡ filter p zs
  tails_by p y z ys zs e h true t = let u : p z ≡ true = ap p (sym e) ∙ t in let k = rw (t, u) at h in cc
  tails_by p y z ys zs e h false t = let u : p z ≡ false = ap p (sym e) ∙ t in rw (t, u) at h

  -- a list in order is determined by its ties
  pub Rises-unique : (ys zs : List X) → Rises lt ys → Rises lt zs → ((x : X) → filter (ties lt x) ys ≡ filter (ties lt x) zs) → ys ≡ zs
  Rises-unique [] [] a b h = refl
  Rises-unique [] (z ∷ zs) a b h = let k = rw (ties-refl z) at (h z) in cc
  Rises-unique (y ∷ ys) [] a b h = let k = rw (ties-refl y) at (h y) in cc
  Rises-unique (y ∷ ys) (z ∷ zs) a b h =
      let hy : y ∷ filter (ties lt y) ys ≡ filter (ties lt y) (z ∷ zs) = rw (ties-refl y) at (h y) in
      let hz : filter (ties lt z) (y ∷ ys) ≡ z ∷ filter (ties lt z) zs = rw (ties-refl z) at (h z) in
      let yz : lt y z ≡ false = tied_not_below y z (z ∷ zs) y (filter (ties lt y) ys) (lt-irrefl z, b.0) (sym hy) in
      let zy : lt z y ≡ false = tied_not_below z y (y ∷ ys) z (filter (ties lt z) zs) (lt-irrefl y, a.0) hz in
      let t : ties lt y z ≡ true = rw (yz, zy) refl in
      let same : y ∷ filter (ties lt y) ys ≡ z ∷ filter (ties lt y) zs = rw t at hy in
      let e : y ≡ z = cc in
      let rest : ys ≡ zs = Rises-unique ys zs a.1 b.1 (λ x. tails_by (ties lt x) y z ys zs e (h x) (ties lt x y) refl) in
      cc

  none_below_at : (y : X) (ys : List X) → ((k : ℕ) (d : X) → k < length ys → lt (get_or ys k d) y ≡ false) → NoneBelow lt y ys
  none_below_at y [] h = tt
  none_below_at y (z ∷ zs) h = (h 0 z (omega arith), none_below_at y zs (λ k d l. h (suc k) d (omega arith)))

  pub Rises-from_far : (ys : List X) → ((i j : ℕ) (d : X) → i ≤ j → j < length ys → lt (get_or ys j d) (get_or ys i d) ≡ false) → Rises lt ys
  Rises-from_far [] h = tt
  Rises-from_far (y ∷ ys) h = (none_below_at y ys (λ k d l. h 0 (suc k) d (omega arith) (omega arith)), Rises-from_far ys (λ i j d a b. h (suc i) (suc j) d (omega arith) (omega arith)))

  not_below_second : (a b : Bool) → (not a && not b) ≡ true → b ≡ false
  not_below_second false false e = refl
  not_below_second false true e = absurd (false≢true e)
  not_below_second true b e = absurd (false≢true e)

  -- what is below x does not tie with what ties with x
  untied : (u x y : X) → lt y x ≡ true → ties lt u x ≡ true → (t : Bool) → ties lt u y ≡ t → ties lt u y ≡ false
  untied u x y l e true t =
      let yu : lt y u ≡ false = not_below_second (lt u y) (lt y u) t in
      let ux : lt u x ≡ false = not_below (lt u x) (lt x u) e in
      absurd (false≢true (sym (o.chain y u x yu ux) ∙ l))
  untied u x y l e false t = t

  insert_filter : (u x : X) (ys : List X) → filter (ties lt u) (insert_stable lt x ys) ≡ filter (ties lt u) (x ∷ ys)
  insert_filter u x [] = refl
  insert_filter u x (y ∷ ys) = go (insert_filter u x ys) (lt y x) refl (ties lt u x) refl
    where
      go : filter (ties lt u) (insert_stable lt x ys) ≡ filter (ties lt u) (x ∷ ys) → (s : Bool) → lt y x ≡ s → (t : Bool) → ties lt u x ≡ t → filter (ties lt u) (insert_stable lt x (y ∷ ys)) ≡ filter (ties lt u) (x ∷ (y ∷ ys))
      go ih false l t e = rw l refl
      go ih true l true e = let n = untied u x y l e (ties lt u y) refl in rw (l, n, ih, e) refl
      go ih true l false e = rw (l, ih, e) refl

  none_below_insert : (y x : X) (ys : List X) → lt x y ≡ false → NoneBelow lt y ys → NoneBelow lt y (insert_stable lt x ys)
  none_below_insert y x [] l n = (l, tt)
  none_below_insert y x (z ∷ zs) l n = go (none_below_insert y x zs l n.1) (lt z x) refl
    where
      go : NoneBelow lt y (insert_stable lt x zs) → (t : Bool) → lt z x ≡ t → NoneBelow lt y (insert_stable lt x (z ∷ zs))
      go ih true e = rw e (n.0, ih)
      go ih false e = rw e (l, n)

  none_below_more : (x y : X) (ys : List X) → lt y x ≡ false → NoneBelow lt y ys → NoneBelow lt x ys
  none_below_more x y [] l n = tt
  none_below_more x y (z ∷ zs) l n = (o.chain z y x n.0 l, none_below_more x y zs l n.1)

  insert_rises : (x : X) (ys : List X) → Rises lt ys → Rises lt (insert_stable lt x ys)
  insert_rises x [] r = (tt, tt)
  insert_rises x (y ∷ ys) r = go (insert_rises x ys r.1) (lt y x) refl
    where
      go : Rises lt (insert_stable lt x ys) → (t : Bool) → lt y x ≡ t → Rises lt (insert_stable lt x (y ∷ ys))
      go ih true e = rw e (none_below_insert y x ys (o.one_way y x e) r.0, ih)
      go ih false e = rw e ((e, none_below_more x y ys e r.0), r)

  sort_rises : (xs : List X) → Rises lt (stable_sort lt xs)
  sort_rises [] = tt
  sort_rises (x ∷ xs) = insert_rises x (stable_sort lt xs) (sort_rises xs)

  cons_filter : (u x : X) (ys zs : List X) → filter (ties lt u) ys ≡ filter (ties lt u) zs → filter (ties lt u) (x ∷ ys) ≡ filter (ties lt u) (x ∷ zs)
  cons_filter u x ys zs e = rw e refl

  sort_filter : (u : X) (xs : List X) → filter (ties lt u) (stable_sort lt xs) ≡ filter (ties lt u) xs
  sort_filter u [] = refl
  sort_filter u (x ∷ xs) = insert_filter u x (stable_sort lt xs) ∙ cons_filter u x (stable_sort lt xs) xs (sort_filter u xs)

  -- what std's stable sort ensures is this definition
  pub stable_sort-is : (xs ys : List X) → IsSortedBy lt ys → IsStableBy lt xs ys → ys ≡ stable_sort lt xs
  stable_sort-is xs ys a b = Rises-unique ys (stable_sort lt xs) (Rises-from_far ys (sorted_far lt o ys a)) (sort_rises xs) (λ x. b x ∙ sym (sort_filter x xs))

-- ---- the same by a comparison

insert_before_ties-is : {X : Type 0} (cmp : X → X → Ordering) (x : X) (ys : List X) → insert_before_ties cmp x ys ≡ insert_stable (λ a b. is_lt (cmp a b)) x ys
unfolding insert_before_ties
insert_before_ties-is cmp x [] = refl
insert_before_ties-is cmp x (y ∷ ys) = ap (λ (l : List _). if is_lt (cmp y x) then y ∷ l else x ∷ (y ∷ ys)) (insert_before_ties-is cmp x ys)

pub stably_sorted-is : {X : Type 0} (cmp : X → X → Ordering) (xs : List X) → stably_sorted cmp xs ≡ stable_sort (λ a b. is_lt (cmp a b)) xs
unfolding stably_sorted
stably_sorted-is cmp [] = refl
stably_sorted-is cmp (x ∷ xs) = insert_before_ties-is cmp x (stably_sorted cmp xs) ∙ ap (insert_stable (λ a b. is_lt (cmp a b)) x) (stably_sorted-is cmp xs)

-- what std's stable sort ensures, by a comparison and by a key
pub sorted_by-is : {X : Type 0} (cmp : X → X → Ordering) → IsStrictWeakOrder (λ a b. is_lt (cmp a b)) → (xs ys : List X) → IsSortedBy (λ a b. is_lt (cmp a b)) ys → IsStableBy (λ a b. is_lt (cmp a b)) xs ys → ys ≡ stably_sorted cmp xs
sorted_by-is cmp o xs ys a b = stable_sort-is (λ a b. is_lt (cmp a b)) o xs ys a b ∙ sym (stably_sorted-is cmp xs)

pub sorted_by_key-is : {X K : Type 0} (key : X → K) (cmp : K → K → Ordering) → IsTotalOrder cmp → (xs ys : List X) → IsSortedByKey key cmp ys → IsStableByKey key cmp xs ys → ys ≡ stably_sorted (λ a b. cmp (key a) (key b)) xs
sorted_by_key-is key cmp o xs ys a b = sorted_by-is (λ a b. cmp (key a) (key b)) (ranks_by o key) xs ys a b

-- ---- a list in order is its own stable sort

module _ {X K : Type 0} (key : X → K) {cmp : K → K → Ordering} (o : IsTotalOrder cmp) where
  not_less : (x y : K) → is_gt (cmp x y) ≡ false → is_lt (cmp y x) ≡ false
  not_less x y h = ap is_lt (o.antisymm y x) ∙ by (cmp x y) h
    where
      by : (r : Ordering) → is_gt r ≡ false → is_lt (ordering_reverse r) ≡ false
      by Less h = refl
      by Equal h = refl
      by Greater h = cc

  insert-in_order : (x : X) (xs : List X) → IsInOrder cmp (map key (x ∷ xs)) → insert_before_ties (λ a b. cmp (key a) (key b)) x xs ≡ x ∷ xs
  unfolding insert_before_ties
  insert-in_order x [] h = refl
  insert-in_order x (y ∷ ys) h = ap (λ b. if b then y ∷ insert_before_ties (λ a b. cmp (key a) (key b)) x ys else x ∷ y ∷ ys) (not_less (key x) (key y) h.0.0)

  -- a list in order is its own stable sort
  pub stably_sorted-in_order : (xs : List X) → IsInOrder cmp (map key xs) → stably_sorted (λ a b. cmp (key a) (key b)) xs ≡ xs
  unfolding stably_sorted
  stably_sorted-in_order [] h = refl
  stably_sorted-in_order (x ∷ xs) h = ap (insert_before_ties (λ a b. cmp (key a) (key b)) x) (stably_sorted-in_order xs h.1) ∙ insert-in_order x xs h

-- ---- it has the elements of the list

IsPermutation-insert_before_ties : {X : Type 0} (cmp : X → X → Ordering) (x : X) (ys : List X) → IsPermutation (x ∷ ys) (insert_before_ties cmp x ys)
unfolding insert_before_ties
IsPermutation-insert_before_ties cmp x [] = IsPermutation-refl (x ∷ [])
IsPermutation-insert_before_ties cmp x (y ∷ ys) = by (is_lt (cmp y x)) (IsPermutation-insert_before_ties cmp x ys)
  where
    by : (b : Bool) → IsPermutation (x ∷ ys) (insert_before_ties cmp x ys) → IsPermutation (x ∷ y ∷ ys) (if b then y ∷ insert_before_ties cmp x ys else x ∷ y ∷ ys)
    by true ih = IsPermutation-trans (x ∷ y ∷ ys) (y ∷ x ∷ ys) (y ∷ insert_before_ties cmp x ys) (IsPermutation-middle (x ∷ []) y ys) (IsPermutation-cons y (x ∷ ys) (insert_before_ties cmp x ys) ih)
    by false ih = IsPermutation-refl (x ∷ y ∷ ys)

pub stably_sorted-IsPermutation : {X : Type 0} (cmp : X → X → Ordering) (xs : List X) → IsPermutation xs (stably_sorted cmp xs)
unfolding stably_sorted
stably_sorted-IsPermutation cmp [] = IsPermutation-refl []
stably_sorted-IsPermutation cmp (x ∷ xs) =
    IsPermutation-trans (x ∷ xs) (x ∷ stably_sorted cmp xs) (insert_before_ties cmp x (stably_sorted cmp xs)) (IsPermutation-cons x xs (stably_sorted cmp xs) (stably_sorted-IsPermutation cmp xs)) (IsPermutation-insert_before_ties cmp x (stably_sorted cmp xs))

-- ---- as contracts name it

module _ {X : Type 0} (lt : X → X → Bool) where
  none_below_at_first : (y : X) (ys : List X) (d : X) → 0 < length ys → NoneBelow lt y ys → lt (get_or ys 0 d) y ≡ false
  none_below_at_first y [] d l n = absurd (omega arith)
  none_below_at_first y (z ∷ zs) d l n = n.0

  sorted_from_Rises : (ys : List X) → Rises lt ys → (k : ℕ) (d : X) → k + 1 < length ys → lt (get_or ys (k + 1) d) (get_or ys k d) ≡ false
  sorted_from_Rises [] r k d l = absurd (omega arith)
  sorted_from_Rises (y ∷ ys) r zero d l = none_below_at_first y ys d (omega arith) r.0
  sorted_from_Rises (y ∷ ys) r (suc k) d l = simp unary_clauses (simp unary_clauses at (sorted_from_Rises ys r.1 k d (omega arith)))

pub stable_sort_is_unique : {X : Type 0} → StableSortIsUnique X
stable_sort_is_unique cmp o = sorted_by-is cmp o

pub stably_sorted_is_stable : {X : Type 0} → StablySortedIsStable X
stably_sorted_is_stable {X} cmp o xs =
    let lt : X → X → Bool = λ a b. is_lt (cmp a b) in
    let sorted : IsSorted cmp (stable_sort lt xs) = λ k d _ l. sorted_from_Rises lt (stable_sort lt xs) (sort_rises lt o xs) k d l in
    let stable : IsStable cmp xs (stable_sort lt xs) = λ u. sort_filter lt o u xs in
    let both : IsSorted cmp (stably_sorted cmp xs) × IsStable cmp xs (stably_sorted cmp xs) = rw (stably_sorted-is cmp xs) (sorted, stable) in
    (both.0, both.1, stably_sorted-IsPermutation cmp xs)

pub stably_sorted-stable : {X K : Type 0} (key : X → K) (cmp : K → K → Ordering) → IsTotalOrder cmp → (xs : List X) → IsStableByKey key cmp xs (stably_sorted (λ a b. cmp (key a) (key b)) xs)
stably_sorted-stable key cmp o xs = (stably_sorted_is_stable (λ a b. cmp (key a) (key b)) (ranks_by o key) xs).1

-- a sort of what a function makes of the elements
module _ {X Y : Type 0} (f : X → Y) (cmp : Y → Y → Ordering) where
  map-insert_before_ties : (x : X) (ys : List X) → map f (insert_before_ties (λ a b. cmp (f a) (f b)) x ys) ≡ insert_before_ties cmp (f x) (map f ys)
  unfolding insert_before_ties
  map-insert_before_ties x [] = refl
  map-insert_before_ties x (y ∷ ys) = by (is_lt (cmp (f y) (f x))) (map-insert_before_ties x ys)
    where
      by : (b : Bool) → map f (insert_before_ties (λ a b. cmp (f a) (f b)) x ys) ≡ insert_before_ties cmp (f x) (map f ys)
          → map f (if b then y ∷ insert_before_ties (λ a b. cmp (f a) (f b)) x ys else x ∷ y ∷ ys) ≡ (if b then f y ∷ insert_before_ties cmp (f x) (map f ys) else f x ∷ f y ∷ map f ys)
      by true ih = ap (λ l. f y ∷ l) ih
      by false ih = refl

  pub map-stably_sorted : (xs : List X) → map f (stably_sorted (λ a b. cmp (f a) (f b)) xs) ≡ stably_sorted cmp (map f xs)
  unfolding stably_sorted
  map-stably_sorted [] = refl
  map-stably_sorted (x ∷ xs) = map-insert_before_ties x (stably_sorted (λ a b. cmp (f a) (f b)) xs) ∙ ap (insert_before_ties cmp (f x)) (map-stably_sorted xs)

-- what holds of all keys holds of the sorted ones
pub AllByRecursion-insert : {K : Type 0} (cmp : K → K → Ordering) (P : K → Type 0) (x : K) (ks : List K) → P x → AllByRecursion P ks → AllByRecursion P (insert_before_ties cmp x ks)
unfolding insert_before_ties
AllByRecursion-insert cmp P x [] p a = (p, tt)
AllByRecursion-insert cmp P x (y ∷ ys) p a = elim (cases_Bool (is_lt (cmp y x))) [
  | inl e ↦ rw e (a.0, AllByRecursion-insert cmp P x ys p a.1)
  | inr e ↦ rw e (p, a)
]

pub AllByRecursion-stably_sorted : {K : Type 0} (cmp : K → K → Ordering) (P : K → Type 0) (ks : List K) → AllByRecursion P ks → AllByRecursion P (stably_sorted cmp ks)
unfolding stably_sorted
AllByRecursion-stably_sorted cmp P [] a = tt
AllByRecursion-stably_sorted cmp P (x ∷ ks) a = AllByRecursion-insert cmp P x (stably_sorted cmp ks) a.0 (AllByRecursion-stably_sorted cmp P ks a.1)

-- ---- a list whose parts are sorted

module _ {X K : Type 0} (key : X → K) (cmp : K → K → Ordering) where
  stable-put_mid : (a k : ℕ) (xs ys : List X) → IsStableByKey key cmp (mid_of a k xs) ys → IsStableByKey key cmp xs (put_mid a k xs ys)
  stable-put_mid a k xs ys s =
      let kept : IsStableByKey key cmp (put_mid a k xs (mid_of a k xs)) (put_mid a k xs ys) = λ u. simp filter-append (rw (s u) refl) in
      subst (λ l. IsStableByKey key cmp l (put_mid a k xs ys)) (put_same a k xs) kept

  -- where a list has the ties of another in their order, a stable sort of a part keeps them
  pub stable-part : (xs ys zs : List X) (a k : ℕ) → IsStableByKey key cmp xs ys → IsStableByKey key cmp (mid_of a k ys) zs → IsStableByKey key cmp xs (put_mid a k ys zs)
  stable-part xs ys zs a k s t = λ u. stable-put_mid a k ys zs t u ∙ s u

  -- and the two have one stable sort
  pub stably_sorted-same : IsTotalOrder cmp → (xs ys : List X) → IsStableByKey key cmp xs ys → stably_sorted (λ a b. cmp (key a) (key b)) ys ≡ stably_sorted (λ a b. cmp (key a) (key b)) xs
  stably_sorted-same o xs ys s =
      let sorted = stably_sorted_is_stable (λ a b. cmp (key a) (key b)) (ranks_by o key) ys in
      sorted_by_key-is key cmp o xs _ sorted.0 (λ u. sorted.1 u ∙ s u)
