-- Lists and choices from them: an element that comes first by an order, and as many holes as pigeons.
use Rattle.std.proofs.Common.{◌≡◌, ◌∙◌, refl, sym, subst, arith, ◌⊎◌, ⊎_elim, inl, inr, ◌+◌, ◌<◌, ◌≤◌, List, [], ◌∷◌, length}
use Rattle.overlay_geometry.proofs.laws.lists.Lists.{Has, AllByRecursion-at, Pairwise}

-- ---- a first element

-- Of a list in which all have a property, some element comes first by an order that is total and transitive among those that have it.
pub first_of : {X : Type 0} (R : X → X → Type 0) (P : X → Type 0) → ((x y : X) → P x → P y → R x y ⊎ R y x) → ((x y z : X) → P x → P y → P z → R x y → R y z → R x z) →
    (x : X) (xs : List X) → ((y : X) → Has (x ∷ xs) y → P y) → (m : X) × Has (x ∷ xs) m × ((y : X) → Has (x ∷ xs) y → R m y)
first_of {X} R P total trans x [] all = (x, inl refl, alone)
  where
    alone : (y : X) → Has (x ∷ []) y → R x y
    alone y (inl e) = ⊎_elim (λ h. subst (λ z. R x z) e h) (λ h. subst (λ z. R x z) e h) (total x x (all x (inl refl)) (all x (inl refl)))
    alone y (inr n) = absurd n
first_of {X} R P total trans x (y ∷ ys) all = let later = first_of R P total trans y ys (λ z i. all z (inr i)) in by later (total x later.0 (all x (inl refl)) (all later.0 (inr later.1)))
  where
    own : R x x
    own = ⊎_elim (λ h. h) (λ h. h) (total x x (all x (inl refl)) (all x (inl refl)))

    by : (later : (m : X) × Has (y ∷ ys) m × ((z : X) → Has (y ∷ ys) z → R m z)) → R x later.0 ⊎ R later.0 x → (m : X) × Has (x ∷ y ∷ ys) m × ((z : X) → Has (x ∷ y ∷ ys) z → R m z)
    by later (inl h) = (x, inl refl, front)
      where
        front : (z : X) → Has (x ∷ y ∷ ys) z → R x z
        front z (inl e) = subst (λ w. R x w) e own
        front z (inr i) = trans x later.0 z (all x (inl refl)) (all later.0 (inr later.1)) (all z (inr i)) h (later.2 z i)
    by later (inr h) = (later.0, inr later.1, back)
      where
        back : (z : X) → Has (x ∷ y ∷ ys) z → R later.0 z
        back z (inl e) = subst (λ w. R later.0 w) e h
        back z (inr i) = later.2 z i

-- so of a list that is not empty
pub first_where : {X : Type 0} (R : X → X → Type 0) (P : X → Type 0) → ((x y : X) → P x → P y → R x y ⊎ R y x) → ((x y z : X) → P x → P y → P z → R x y → R y z → R x z) →
    (xs : List X) (x : X) → Has xs x → ((y : X) → Has xs y → P y) → (m : X) × Has xs m × ((y : X) → Has xs y → R m y)
first_where R P total trans [] x i all = absurd i
first_where R P total trans (y ∷ ys) x i all = first_of R P total trans y ys all

-- ---- holes

-- a list without one of its elements
pub without : {X : Type 0} (xs : List X) (x : X) → Has xs x → List X
without [] x i = absurd i
without (y ∷ ys) x (inl e) = ys
without (y ∷ ys) x (inr i) = y ∷ without ys x i

length-without : {X : Type 0} (xs : List X) (x : X) (i : Has xs x) → length (without xs x i) + 1 ≡ length xs
unfolding without
length-without [] x i = absurd i
length-without (y ∷ ys) x (inl e) = omega arith
length-without (y ∷ ys) x (inr i) = let k = length-without ys x i in omega (arith, k)

Has-without : {X : Type 0} (xs : List X) (x y : X) (i : Has xs x) → Has xs y → (x ≡ y) ⊎ Has (without xs x i) y
unfolding without
Has-without [] x y i j = absurd i
Has-without (z ∷ zs) x y (inl e) (inl f) = inl (sym e ∙ f)
Has-without (z ∷ zs) x y (inl e) (inr j) = inr j
Has-without (z ∷ zs) x y (inr i) (inl f) = inr (inl f)
Has-without (z ∷ zs) x y (inr i) (inr j) = ⊎_elim inl (λ k. inr (inr k)) (Has-without zs x y i j)

-- Where each of some things that differ has a hole, and no two have one hole, there are as many holes as things.
pub few_pigeons : {X Y : Type 0} (R : X → Y → Type 0) (xs : List X) (ys : List Y) → Pairwise (λ x y. (x ≡ y) → ⊥) xs → ((x : X) → Has xs x → (y : Y) × Has ys y × R x y) →
    ((w x : X) (y : Y) → Has xs w → Has xs x → R w y → R x y → w ≡ x) → length xs ≤ length ys
few_pigeons R [] ys differ has one = omega arith
few_pigeons {X} {Y} R (x ∷ xs) ys differ has one = more (few_pigeons R xs (without ys hole.0 hole.1) differ.1 rest (λ v w y i j. one v w y (inr i) (inr j))) (length-without ys hole.0 hole.1)
  where
    hole : (y : Y) × Has ys y × R x y
    hole = has x (inl refl)

    rest : (w : X) → Has xs w → (y : Y) × Has (without ys hole.0 hole.1) y × R w y
    rest w i =
        let own = has w (inr i) in
        ⊎_elim
        (λ e. absurd (AllByRecursion-at (λ v. (x ≡ v) → ⊥) xs w differ.0 i (one x w own.0 (inl refl) (inr i) (subst (λ y. R x y) e hole.2) own.2)))
        (λ j. (own.0, j, own.2))
        (Has-without ys hole.0 own.0 hole.1 own.1)

    more : length xs ≤ length (without ys hole.0 hole.1) → length (without ys hole.0 hole.1) + 1 ≡ length ys → length (x ∷ xs) ≤ length ys
    more h e = omega (arith, h, e)

-- and more holes, where one is left
pub fewer_pigeons : {X Y : Type 0} (R : X → Y → Type 0) (xs : List X) (ys : List Y) (left : Y) → Has ys left → ((x : X) → Has xs x → R x left → ⊥) → Pairwise (λ x y. (x ≡ y) → ⊥) xs →
    ((x : X) → Has xs x → (y : Y) × Has ys y × R x y) → ((w x : X) (y : Y) → Has xs w → Has xs x → R w y → R x y → w ≡ x) → length xs < length ys
fewer_pigeons {X} {Y} R xs ys left i none differ has one =
    let few = few_pigeons R xs (without ys left i) differ rest one in
    let removed = length-without ys left i in
    omega (arith, few, removed)
  where
    rest : (x : X) → Has xs x → (y : Y) × Has (without ys left i) y × R x y
    rest x j =
        let own = has x j in
        ⊎_elim (λ e. absurd (none x j (subst (λ y. R x y) (sym e) own.2))) (λ k. (own.0, k, own.2)) (Has-without ys left own.0 i own.1)
