-- Elements of lists, lists that are known by them, and what holds of the rest of a list.
use Rattle.std.proofs.Common.{◌≡◌, refl, sym, ap, subst, ◌∙◌, ◌⊎◌, inl, inr, ℕ, ◌<◌, ◌≤◌, zero, suc, arith, Bool, true, List, [], ◌∷◌, ◌++◌, map, drop, length, get_or, Ordering, Less}
use Rattle.std.specs.Prelude.{flat_map, All, IsPermutation}
use Rattle.std.specs.Cmp.{IsTotalOrder}
use Rattle.std.specs.List.{AllByRecursion, Contains, dedup, dedup_from}
use Rattle.std.specs.List.Sorted.{IsStrictlySortedBy}
use Rattle.std.proofs.lemmas.Bool.{cond_both}
use Rattle.std.proofs.lemmas.Cmp.{tied_itself}
use Rattle.std.proofs.lemmas.List.Elements.{All-from_recursion, recursion_from_All}
use Rattle.std.proofs.lemmas.List.Filters.{All-dedup}
use Rattle.std.proofs.lemmas.List.Sorted.{All-permutation, IsPermutation-sym}
use Rattle.overlay_geometry.proofs.laws.lists.Lists.{Has, AllByRecursion-at, AllByRecursion-from_Has, AllByRecursion-flat_map, AllByRecursion-map, Has-map, Has-map_out}
use Rattle.overlay_geometry.proofs.laws.lists.Keys.{IsInOrder}

-- ---- membership

pub Contains-from_Has : {X : Type 0} (xs : List X) (x : X) → Has xs x → Contains xs x
Contains-from_Has [] x m = absurd m
Contains-from_Has (y ∷ ys) x (inl e) = (0, omega arith, e)
Contains-from_Has (y ∷ ys) x (inr m) = let c = Contains-from_Has ys x m in (suc c.0, omega (arith, c.1), c.2)

pub Has-from_Contains : {X : Type 0} (xs : List X) (x : X) → Contains xs x → Has xs x
Has-from_Contains {X} xs x c = at xs c.0 c.1 c.2
  where
    at : (ys : List X) (k : ℕ) → k < length ys → get_or ys k x ≡ x → Has ys x
    at [] k h e = absurd (omega (arith, h))
    at (y ∷ ys) zero h e = inl e
    at (y ∷ ys) (suc k) h e = inr (at ys k (omega (arith, h)) e)

pub Has-append_out : {X : Type 0} (xs ys : List X) (x : X) → Has (xs ++ ys) x → Has xs x ⊎ Has ys x
Has-append_out [] ys x i = inr i
Has-append_out (z ∷ xs) ys x (inl e) = inl (inl e)
Has-append_out (z ∷ xs) ys x (inr i) = elim (Has-append_out xs ys x i) [ inl h ↦ inl (inr h) | inr h ↦ inr h ]

pub Has-flat_map_out : {X Y : Type 0} (f : X → List Y) (xs : List X) (y : Y) → Has (flat_map f xs) y → (x : X) × Has xs x × Has (f x) y
Has-flat_map_out {X} f xs y i =
    AllByRecursion-at (λ z. (x : X) × Has xs x × Has (f x) z) (flat_map f xs) y
    (AllByRecursion-flat_map f (λ z. (x : X) × Has xs x × Has (f x) z) xs
    (AllByRecursion-from_Has (λ x. AllByRecursion (λ z. (x : X) × Has xs x × Has (f x) z) (f x)) xs (λ x h. AllByRecursion-from_Has (λ z. (x : X) × Has xs x × Has (f x) z) (f x) (λ z k. (x, h, k))))) i

module _ {X Y : Type 0} (f : X → Y) where
  -- what f makes of the elements stays in a permutation
  pub Has-permutation : (xs ys : List X) → IsPermutation xs ys → (y : Y) → Has (map f xs) y → Has (map f ys) y
  Has-permutation xs ys s y i =
      let there : All (λ x. Has (map f ys) (f x)) ys = All-from_recursion (λ x. Has (map f ys) (f x)) ys (AllByRecursion-from_Has (λ x. Has (map f ys) (f x)) ys (λ x h. Has-map f ys x h)) in
      let here = recursion_from_All (λ x. Has (map f ys) (f x)) xs (All-permutation (λ x. Has (map f ys) (f x)) ys xs (IsPermutation-sym xs ys s) there) in
      let r = Has-map_out f xs y i in
      subst (Has (map f ys)) r.2 (AllByRecursion-at (λ x. Has (map f ys) (f x)) xs r.0 here r.1)

  -- and where repeats are dropped, if f makes the same of what counts as a repeat
  Has-dedup_from : (E : X → X → Bool) → ((x y : X) → E x y ≡ true → f x ≡ f y) → (xs : List X) (k : X) (y : Y) → Has (map f (k ∷ xs)) y → Has (map f (dedup_from E k xs)) y
  Has-dedup_from E same [] k y i = i
  Has-dedup_from E same (x ∷ xs) k y i =
      cond_both (E x k) (dedup_from E k xs) (k ∷ dedup_from E x xs) (λ ls. Has (map f ls) y)
      (λ t. Has-dedup_from E same xs k y (elim i [ inl e ↦ inl e | inr (inl e) ↦ inl (sym (same x k t) ∙ e) | inr (inr h) ↦ inr h ]))
      (λ _. elim i [ inl e ↦ inl e | inr h ↦ inr (Has-dedup_from E same xs x y h) ])

  pub Has-dedup : (E : X → X → Bool) → ((x y : X) → E x y ≡ true → f x ≡ f y) → (xs : List X) (y : Y) → Has (map f xs) y → Has (map f (dedup E xs)) y
  Has-dedup E same [] y i = i
  Has-dedup E same (x ∷ xs) y i = Has-dedup_from E same xs x y i

  pub Has-dedup_out : (E : X → X → Bool) (xs : List X) (y : Y) → Has (map f (dedup E xs)) y → Has (map f xs) y
  Has-dedup_out E xs y i =
      let there = All-from_recursion (λ x. Has (map f xs) (f x)) xs (AllByRecursion-from_Has (λ x. Has (map f xs) (f x)) xs (λ x h. Has-map f xs x h)) in
      let here = recursion_from_All (λ x. Has (map f xs) (f x)) (dedup E xs) (All-dedup E (λ x. Has (map f xs) (f x)) xs there) in
      let r = Has-map_out f (dedup E xs) y i in
      subst (Has (map f xs)) r.2 (AllByRecursion-at (λ x. Has (map f xs) (f x)) (dedup E xs) r.0 here r.1)

-- ---- strictly sorted lists

module _ {K : Type 0} {cmp : K → K → Ordering} (o : IsTotalOrder cmp) where
  less_is_strict : (j k : K) → cmp j k ≡ Less → cmp k j ≡ Less → ⊥
  less_is_strict j k h l = cc (o.antisymm j k, h, l)

  -- such a list is known by its elements
  pub same_from_elements : (xs ys : List K) → IsStrictlySortedBy cmp xs → IsStrictlySortedBy cmp ys → ((k : K) → Has xs k → Has ys k) → ((k : K) → Has ys k → Has xs k) → xs ≡ ys
  unfolding IsStrictlySortedBy
  same_from_elements [] [] s t f g = refl
  same_from_elements [] (y ∷ ys) s t f g = absurd (g y (inl refl))
  same_from_elements (x ∷ xs) [] s t f g = absurd (f x (inl refl))
  same_from_elements (x ∷ xs) (y ∷ ys) s t f g =
      let e : x ≡ y = first (f x (inl refl)) (g y (inl refl)) in
      let rest = same_from_elements xs ys s.1 t.1 (later x y xs ys e s.0 f) (later y x ys xs (sym e) t.0 g) in
      rw (e, rest) refl
    where
      first : Has (y ∷ ys) x → Has (x ∷ xs) y → x ≡ y
      first (inl h) k = sym h
      first (inr h) (inl k) = k
      first (inr h) (inr k) = absurd (less_is_strict x y (AllByRecursion-at (λ z. cmp x z ≡ Less) xs y s.0 k) (AllByRecursion-at (λ z. cmp y z ≡ Less) ys x t.0 h))

      later : (x y : K) (xs ys : List K) → x ≡ y → AllByRecursion (λ z. cmp x z ≡ Less) xs → ((k : K) → Has (x ∷ xs) k → Has (y ∷ ys) k) → (k : K) → Has xs k → Has ys k
      later x y xs ys e a f k i = elim (f k (inr i)) [
        | inl h ↦ let less = AllByRecursion-at (λ z. cmp x z ≡ Less) xs k a i in absurd (cc (tied_itself o x, less, ap (cmp x) (e ∙ h)))
        | inr h ↦ h
      ]

pub IsStrictlySortedBy-map : {X K : Type 0} (f : X → K) (cmp : K → K → Ordering) (xs : List X) → IsStrictlySortedBy (λ x y. cmp (f x) (f y)) xs → IsStrictlySortedBy cmp (map f xs)
unfolding IsStrictlySortedBy
IsStrictlySortedBy-map f cmp [] s = tt
IsStrictlySortedBy-map f cmp (x ∷ xs) s = (AllByRecursion-map (λ k. cmp (f x) k ≡ Less) f xs s.0, IsStrictlySortedBy-map f cmp xs s.1)

-- ---- the rest of a list, from an index on

pub IsInOrder-drop : {K : Type 0} (cmp : K → K → Ordering) (n : ℕ) (ks : List K) → IsInOrder cmp ks → IsInOrder cmp (drop n ks)
IsInOrder-drop cmp zero ks h = h
IsInOrder-drop cmp (suc n) [] h = h
IsInOrder-drop cmp (suc n) (k ∷ ks) h = IsInOrder-drop cmp n ks h.1

pub AllByRecursion-drop : {X : Type 0} (P : X → Type 0) (n : ℕ) (xs : List X) → AllByRecursion P xs → AllByRecursion P (drop n xs)
AllByRecursion-drop P zero xs h = h
AllByRecursion-drop P (suc n) [] h = tt
AllByRecursion-drop P (suc n) (x ∷ xs) h = AllByRecursion-drop P n xs h.1

pub AllByRecursion-drop_later : {X : Type 0} (P : X → Type 0) (m n : ℕ) (xs : List X) → m ≤ n → AllByRecursion P (drop m xs) → AllByRecursion P (drop n xs)
AllByRecursion-drop_later P zero n xs le h = AllByRecursion-drop P n xs h
AllByRecursion-drop_later P (suc m) zero xs le h = absurd (omega arith)
AllByRecursion-drop_later P (suc m) (suc n) [] le h = tt
AllByRecursion-drop_later P (suc m) (suc n) (x ∷ xs) le h = AllByRecursion-drop_later P m n xs (omega arith) h
