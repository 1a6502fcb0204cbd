-- Stable sorts: of two blocks where none of the second comes before one of the first, through a function that keeps the order, and
-- strictly.
use Rattle.std.proofs.Common.{◌≡◌, ap, refl, subst, ◌∙◌, inl, inr, Ordering}
use Rattle.std.specs.Prelude.{true, false, ◌⊎◌, List, [], ◌∷◌, ◌++◌, map}
use Rattle.std.specs.List.{AllByRecursion}
use Rattle.std.specs.Ordering.{is_lt}
use Rattle.std.proofs.lemmas.Bool.{cases_Bool, both_ways}
use Rattle.overlay_geometry.specs.Sorting.{insert_before_ties, stably_sorted}
use Rattle.overlay_geometry.proofs.laws.lists.Lists.{Pairwise, Has}
use Rattle.overlay_base.proofs.laws.lists.StableSorts.{AllByRecursion-insert, AllByRecursion-stably_sorted}

module _ {K : Type 0} (cmp : K → K → Ordering) where
  Has-insert_here : (x : K) (ks : List K) → Has (insert_before_ties cmp x ks) x
  unfolding insert_before_ties
  Has-insert_here x [] = inl refl
  Has-insert_here x (y ∷ ys) = elim (cases_Bool (is_lt (cmp y x))) [ inl e ↦ rw e (inr (Has-insert_here x ys)) | inr e ↦ rw e (inl refl) ]

  Has-insert_later : (x z : K) (ks : List K) → Has ks z → Has (insert_before_ties cmp x ks) z
  unfolding insert_before_ties
  Has-insert_later x z [] m = absurd m
  Has-insert_later x z (y ∷ ys) m = elim (cases_Bool (is_lt (cmp y x))) [
    | inl e ↦ rw e (elim m [ inl same ↦ inl same | inr n ↦ inr (Has-insert_later x z ys n) ])
    | inr e ↦ rw e (inr m)
  ]

  pub Has-stably_sorted : (z : K) (ks : List K) → Has ks z → Has (stably_sorted cmp ks) z
  unfolding stably_sorted
  Has-stably_sorted z [] m = absurd m
  Has-stably_sorted z (x ∷ ks) (inl e) = subst (λ k. Has (insert_before_ties cmp x (stably_sorted cmp ks)) k) e (Has-insert_here x (stably_sorted cmp ks))
  Has-stably_sorted z (x ∷ ks) (inr m) = Has-insert_later x z (stably_sorted cmp ks) (Has-stably_sorted z ks m)

  -- ---- two blocks

  insert-append : (x : K) (xs ys : List K) → AllByRecursion (λ y. is_lt (cmp y x) ≡ false) ys → insert_before_ties cmp x (xs ++ ys) ≡ insert_before_ties cmp x xs ++ ys
  unfolding insert_before_ties
  insert-append x [] [] a = refl
  insert-append x [] (y ∷ ys) a = rw a.0 refl
  insert-append x (z ∷ zs) ys a = elim (cases_Bool (is_lt (cmp z x))) [
    | inl e ↦ rw e (ap (λ l. z ∷ l) (insert-append x zs ys a))
    | inr e ↦ rw e refl
  ]

  pub stably_sorted-append : (xs ys : List K) → AllByRecursion (λ x. AllByRecursion (λ y. is_lt (cmp y x) ≡ false) ys) xs → stably_sorted cmp (xs ++ ys) ≡ stably_sorted cmp xs ++ stably_sorted cmp ys
  unfolding stably_sorted
  stably_sorted-append [] ys a = refl
  stably_sorted-append (x ∷ xs) ys a =
      ap (insert_before_ties cmp x) (stably_sorted-append xs ys a.1)
      ∙ insert-append x (stably_sorted cmp xs) (stably_sorted cmp ys) (AllByRecursion-stably_sorted cmp (λ y. is_lt (cmp y x) ≡ false) ys a.0)

  -- ---- keys, each two of them different in order

  module _ (M : K → Type 0) (trans : (x y z : K) → M x → M y → M z → is_lt (cmp x y) ≡ true → is_lt (cmp y z) ≡ true → is_lt (cmp x z) ≡ true) where
    rising_rest : (x y : K) (ys : List K) → M x → M y → AllByRecursion M ys → is_lt (cmp x y) ≡ true → AllByRecursion (λ z. is_lt (cmp y z) ≡ true) ys → AllByRecursion (λ z. is_lt (cmp x z) ≡ true) ys
    rising_rest x y [] mx my ms h a = tt
    rising_rest x y (z ∷ zs) mx my ms h a = (trans x y z mx my ms.0 h a.0, rising_rest x y zs mx my ms.1 h a.1)

    rising_insert : (x : K) (ys : List K) → M x → AllByRecursion M ys → AllByRecursion (λ y. (is_lt (cmp x y) ≡ true) ⊎ (is_lt (cmp y x) ≡ true)) ys → Pairwise (λ a b. is_lt (cmp a b) ≡ true) ys → Pairwise (λ a b. is_lt (cmp a b) ≡ true) (insert_before_ties cmp x ys)
    unfolding insert_before_ties
    rising_insert x [] mx ms d r = (tt, tt)
    rising_insert x (y ∷ ys) mx ms d r = elim (cases_Bool (is_lt (cmp y x))) [
      | inl e ↦ rw e (AllByRecursion-insert cmp (λ z. is_lt (cmp y z) ≡ true) x ys e r.0, rising_insert x ys mx ms.1 d.1 r.1)
      | inr e ↦ rw e (elim d.0 [
        | inl less ↦ ((less, rising_rest x y ys mx ms.0 ms.1 less r.0), r)
        | inr more ↦ absurd (both_ways (is_lt (cmp y x)) e more)
      ])
    ]

    pub rising_sorted : (ks : List K) → AllByRecursion M ks → Pairwise (λ x y. (is_lt (cmp x y) ≡ true) ⊎ (is_lt (cmp y x) ≡ true)) ks → Pairwise (λ a b. is_lt (cmp a b) ≡ true) (stably_sorted cmp ks)
    unfolding stably_sorted
    rising_sorted [] ms d = tt
    rising_sorted (x ∷ ks) ms d = rising_insert x (stably_sorted cmp ks) ms.0 (AllByRecursion-stably_sorted cmp M ks ms.1) (AllByRecursion-stably_sorted cmp (λ y. (is_lt (cmp x y) ≡ true) ⊎ (is_lt (cmp y x) ≡ true)) ks d.0) (rising_sorted ks ms.1 d.1)

-- ---- through a function that keeps the order

module _ {X Y : Type 0} (f : X → Y) (over : X → X → Ordering) (cmp : Y → Y → Ordering) (M : X → Type 0) (keeps : (x y : X) → M x → M y → cmp (f x) (f y) ≡ over x y) where
  map-insert_before_ties : (x : X) (ys : List X) → M x → AllByRecursion M ys → insert_before_ties cmp (f x) (map f ys) ≡ map f (insert_before_ties over x ys)
  unfolding insert_before_ties
  map-insert_before_ties x [] mx ms = refl
  map-insert_before_ties x (y ∷ ys) mx ms = elim (cases_Bool (is_lt (over y x))) [
    | inl e ↦ rw (ap is_lt (keeps y x ms.0 mx) ∙ e, e) (ap (λ l. f y ∷ l) (map-insert_before_ties x ys mx ms.1))
    | inr e ↦ rw (ap is_lt (keeps y x ms.0 mx) ∙ e, e) refl
  ]

  pub stably_sorted-map : (xs : List X) → AllByRecursion M xs → stably_sorted cmp (map f xs) ≡ map f (stably_sorted over xs)
  unfolding stably_sorted
  stably_sorted-map [] ms = refl
  stably_sorted-map (x ∷ xs) ms =
      ap (insert_before_ties cmp (f x)) (stably_sorted-map xs ms.1) ∙ map-insert_before_ties x (stably_sorted over xs) ms.0 (AllByRecursion-stably_sorted over M xs ms.1)
