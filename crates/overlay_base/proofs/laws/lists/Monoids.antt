-- Sums over lists in a commutative monoid: of parts, of lists in another order, of filtered lists.
use Rattle.std.proofs.Common.{◌≡◌, ℕ, ◌<◌, Bool, true, false, cond, List, [], ◌∷◌, ◌++◌, map, length, get_or, set, swap, filter, IsPermutation, refl, sym, ap, ◌∙◌, arith, zero, suc}
use Rattle.std.proofs.lemmas.List.Sorted.{IsPermutation-keeps}
use Rattle.overlay_base.specs.Sums.{IsCommutativeMonoid, gathered}

module _ {M : Type 0} {op : M → M → M} {unit : M} (laws : IsCommutativeMonoid op unit) where
  pub left_comm : (a b c : M) → op a (op b c) ≡ op b (op a c)
  left_comm a b c = sym (laws.assoc a b c) ∙ ap (λ m. op m c) (laws.comm a b) ∙ laws.assoc b a c

  pub four : (a b c d : M) → op (op a b) (op c d) ≡ op (op a c) (op b d)
  four a b c d = laws.assoc a b (op c d) ∙ ap (op a) (left_comm b c d) ∙ sym (laws.assoc a c (op b d))

  module _ {X : Type 0} where
    pub gathered-append : (f : X → M) (xs ys : List X) → gathered op unit f (xs ++ ys) ≡ op (gathered op unit f xs) (gathered op unit f ys)
    gathered-append f [] ys = sym (laws.unit_left _)
    gathered-append f (x ∷ xs) ys = ap (op (f x)) (gathered-append f xs ys) ∙ sym (laws.assoc _ _ _)

    pub gathered-unit : (xs : List X) → gathered op unit (λ (x : X). unit) xs ≡ unit
    gathered-unit [] = refl
    gathered-unit (x ∷ xs) = laws.unit_left _ ∙ gathered-unit xs

    pub gathered-op : (f g : X → M) (xs : List X) → gathered op unit (λ x. op (f x) (g x)) xs ≡ op (gathered op unit f xs) (gathered op unit g xs)
    gathered-op f g [] = sym (laws.unit_left unit)
    gathered-op f g (x ∷ xs) = ap (op (op (f x) (g x))) (gathered-op f g xs) ∙ four _ _ _ _

    pub gathered-same : (f g : X → M) → ((x : X) → f x ≡ g x) → (xs : List X) → gathered op unit f xs ≡ gathered op unit g xs
    gathered-same f g h xs = λ i. gathered op unit (λ x. h x i) xs

    -- what a filter leaves out counts as the unit
    pub gathered-filter : (f : X → M) (test : X → Bool) (xs : List X) → gathered op unit f (filter test xs) ≡ gathered op unit (λ x. cond (test x) (f x) unit) xs
    gathered-filter f test [] = refl
    gathered-filter f test (x ∷ xs) = by (test x) (gathered-filter f test xs)
      where
        by : (b : Bool) → gathered op unit f (filter test xs) ≡ gathered op unit (λ x. cond (test x) (f x) unit) xs
            → gathered op unit f (cond b (x ∷ filter test xs) (filter test xs)) ≡ op (cond b (f x) unit) (gathered op unit (λ x. cond (test x) (f x) unit) xs)
        by true ih = ap (op (f x)) ih
        by false ih = ih ∙ sym (laws.unit_left _)

    -- an element in another's place
    exchanged : (f : X → M) (x : X) (d : X) (xs : List X) (j : ℕ) → j < length xs → op (f (get_or xs j d)) (gathered op unit f (set xs j x)) ≡ op (f x) (gathered op unit f xs)
    exchanged f x d [] j h = absurd (omega arith)
    exchanged f x d (y ∷ ys) zero h = left_comm _ _ _
    exchanged f x d (y ∷ ys) (suc j) h = left_comm _ _ _ ∙ ap (op (f y)) (exchanged f x d ys j (omega arith)) ∙ left_comm _ _ _

    swapped : (f : X → M) (d : X) (xs : List X) (i j : ℕ) → i < length xs → j < length xs → gathered op unit f (set (set xs i (get_or xs j d)) j (get_or xs i d)) ≡ gathered op unit f xs
    swapped f d [] i j p q = refl
    swapped f d (x ∷ xs) zero zero p q = refl
    swapped f d (x ∷ xs) zero (suc j) p q = exchanged f x d xs j (omega arith)
    swapped f d (x ∷ xs) (suc i) zero p q = exchanged f x d xs i (omega arith)
    swapped f d (x ∷ xs) (suc i) (suc j) p q = ap (op (f x)) (swapped f d xs i j (omega arith) (omega arith))

    -- the order of a list does not count
    pub gathered-IsPermutation : (f : X → M) (xs ys : List X) → IsPermutation xs ys → gathered op unit f ys ≡ gathered op unit f xs
    gathered-IsPermutation f xs ys = IsPermutation-keeps xs (λ l. gathered op unit f l ≡ gathered op unit f xs) refl (λ l i j p q h. swap_step l i j p q ∙ h) ys
      where
        swap_step : (l : List X) (i j : ℕ) → i < length l → j < length l → gathered op unit f (swap l i j) ≡ gathered op unit f l
        swap_step [] i j p q = refl
        swap_step (x ∷ xs) i j p q = swapped f x (x ∷ xs) i j p q

pub gathered-map : {M X Y : Type 0} (op : M → M → M) (unit : M) (f : Y → M) (k : X → Y) (xs : List X) → gathered op unit f (map k xs) ≡ gathered op unit (λ x. f (k x)) xs
gathered-map op unit f k [] = refl
gathered-map op unit f k (x ∷ xs) = ap (op (f (k x))) (gathered-map op unit f k xs)

-- a function that keeps sums goes through
pub gathered-through : {M N X : Type 0} (op : M → M → M) (unit : M) (op₁ : N → N → N) (unit₁ : N) (h : M → N) → h unit ≡ unit₁ → ((a b : M) → h (op a b) ≡ op₁ (h a) (h b)) → (f : X → M) (xs : List X) → h (gathered op unit f xs) ≡ gathered op₁ unit₁ (λ x. h (f x)) xs
gathered-through op unit op₁ unit₁ h z a f [] = z
gathered-through op unit op₁ unit₁ h z a f (x ∷ xs) = a _ _ ∙ ap (op₁ (h (f x))) (gathered-through op unit op₁ unit₁ h z a f xs)
