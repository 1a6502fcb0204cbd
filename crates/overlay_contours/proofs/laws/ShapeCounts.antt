-- Shapes, one after another: no two of them both wind around a place.
use Rattle.std.proofs.Common.{◌≡◌, ℕ, zero, suc, ◌+◌, ◌<◌, ◌≤◌, ◌==◌, ◌⊎◌, inl, inr, Bool, true, false, cond, not, if◌then◌else◌, List, [], ◌∷◌, length, refl, sym, ap, ap₂, ◌∙◌, arith}
use Rattle.std.specs.Prelude.{ℤ, pos, negsuc, ◌+ℤ◌, ◌*ℤ◌, count_by}
use Rattle.std.specs.List.{AllByRecursion}
use Rattle.std.specs.Ordering.{int_eq}
use Rattle.std.proofs.lemmas.Int.{ints}
use Rattle.std.proofs.lemmas.List.Sums.{sum_by-cons}
use Rattle.std.proofs.lemmas.Grind.{flat_map-append}
use Rattle.overlay_geometry.proofs.laws.lists.Lists.{AllByRecursion-weaker}
use Rattle.overlay_shapes.specs.Gathered.{all_walks, all_links, group_at}
use Rattle.overlay_shapes.proofs.laws.CutWalks.{count_by-both}

-- ---- numbers, no two of them other than 0

abbrev pub total : {X : Type 0} → (X → ℤ) → List X → ℤ
total w [] = pos 0
total w (x ∷ xs) = w x +ℤ total w xs

abbrev pub is_some : ℤ → Bool
is_some z = not (int_eq z (pos 0))

abbrev flag : Bool → ℕ
flag b = cond b 1 0

-- each times all later ones is 0
abbrev pub AreApart : {X : Type 0} → (X → ℤ) → List X → Type 0
AreApart w [] = Unit {0}
AreApart w (x ∷ xs) = (w x *ℤ total w xs ≡ pos 0) × AreApart w xs

pub zero_product : (a b : ℤ) → a *ℤ b ≡ pos 0 → (a ≡ pos 0) ⊎ (b ≡ pos 0)
zero_product (pos zero) b e = inl refl
zero_product a (pos zero) e = inr refl
zero_product (pos (suc m)) (pos (suc n)) e = absurd (omega (arith, ints, e))
zero_product (pos (suc m)) (negsuc n) e = absurd (omega (arith, ints, e))
zero_product (negsuc m) (pos (suc n)) e = absurd (omega (arith, ints, e))
zero_product (negsuc m) (negsuc n) e = absurd (omega (arith, ints, e))

none_counted : {X : Type 0} (w : X → ℤ) (xs : List X) → AllByRecursion (λ x. w x ≡ pos 0) xs → count_by (λ x. is_some (w x)) xs ≡ 0
none_counted w [] a = refl
none_counted w (x ∷ xs) a =
    let m = sum_by-cons (λ y. flag (is_some (w y))) x xs in
    let z : flag (is_some (w x)) ≡ 0 = ap (λ (v : ℤ). flag (is_some v)) a.0 in
    let r = none_counted w xs a.1 in
    omega (arith, m, z, r)

-- each is 0 or their sum, and one is not 0 exactly if the sum is not
pub one_apart : {X : Type 0} (w : X → ℤ) (xs : List X) → AreApart w xs → AllByRecursion (λ x. (w x ≡ pos 0) ⊎ (w x ≡ total w xs)) xs × (count_by (λ x. is_some (w x)) xs ≡ (if int_eq (total w xs) (pos 0) then 0 else 1))
one_apart w [] a = (tt, refl)
one_apart w (x ∷ xs) a =
    let rest = one_apart w xs a.1 in
    let m = sum_by-cons (λ y. flag (is_some (w y))) x xs in
    elim (zero_product (w x) (total w xs) a.0) [
      | inl z ↦
          let same : total w (x ∷ xs) ≡ total w xs = ap (λ v. v +ℤ total w xs) z ∙ (let e : pos 0 +ℤ total w xs ≡ total w xs = omega (arith, ints) in e) in
          let none : flag (is_some (w x)) ≡ 0 = ap (λ (v : ℤ). flag (is_some v)) z in (
            (inl z, AllByRecursion-weaker (λ y. (w y ≡ pos 0) ⊎ (w y ≡ total w xs)) (λ y. (w y ≡ pos 0) ⊎ (w y ≡ total w (x ∷ xs))) (λ y h. elim h [ inl e ↦ inl e | inr e ↦ inr (e ∙ sym same) ]) xs rest.0),
            m ∙ ap (λ n. n + count_by (λ y. is_some (w y)) xs) none ∙ (let e : 0 + count_by (λ y. is_some (w y)) xs ≡ count_by (λ y. is_some (w y)) xs = omega arith in e) ∙ rest.1 ∙ ap (λ (v : ℤ). if int_eq v (pos 0) then 0 else 1) (sym same),
          )
      | inr z ↦
          let same : total w (x ∷ xs) ≡ w x = ap (λ v. w x +ℤ v) z ∙ (let e : w x +ℤ pos 0 ≡ w x = omega (arith, ints) in e) in
          let zeros : AllByRecursion (λ y. w y ≡ pos 0) xs = AllByRecursion-weaker (λ y. (w y ≡ pos 0) ⊎ (w y ≡ total w xs)) (λ y. w y ≡ pos 0) (λ y h. elim h [ inl e ↦ e | inr e ↦ e ∙ z ]) xs rest.0 in
          let none = none_counted w xs zeros in (
            (inr (sym same), AllByRecursion-weaker (λ y. w y ≡ pos 0) (λ y. (w y ≡ pos 0) ⊎ (w y ≡ total w (x ∷ xs))) (λ y e. inl e) xs zeros),
            m ∙ (let n = none in let e : flag (is_some (w x)) + count_by (λ y. is_some (w y)) xs ≡ flag (is_some (w x)) = omega (arith, n) in e) ∙ turned (int_eq (w x) (pos 0)) ∙ ap (λ (v : ℤ). if int_eq v (pos 0) then 0 else 1) (sym same),
          )
    ]
  where
    turned : (b : Bool) → flag (not b) ≡ (if b then 0 else 1)
    turned true = refl
    turned false = refl

-- ---- links of shapes, by how often they are in each

abbrev pub times_in : ℕ → List (List ℕ) → ℕ
times_in i walks = count_by (λ j. j == i) (all_links walks)

abbrev pub times_of : ℕ → List (List (List ℕ)) → ℕ
times_of i groups = times_in i (all_walks groups)

pub times-more : (i : ℕ) (g : List (List ℕ)) (gs : List (List (List ℕ))) → times_of i (g ∷ gs) ≡ times_in i g + times_of i gs
times-more i g gs = ap (count_by (λ j. j == i)) (flat_map-append (λ (w : List ℕ). w) g (all_walks gs)) ∙ count_by-both (λ j. j == i) (all_links g) (all_links (all_walks gs))

pub all_none : (i : ℕ) (gs : List (List (List ℕ))) → times_of i gs ≡ 0 → AllByRecursion (λ g. times_in i g ≡ 0) gs
all_none i [] e = tt
all_none i (g ∷ gs) e = let m = times-more i g gs in (omega (arith, m, e), all_none i gs (omega (arith, m, e)))

both_none : (i j : ℕ) (gs : List (List (List ℕ))) → AllByRecursion (λ g. times_in i g ≡ 0) gs → AllByRecursion (λ g. times_in j g ≡ 0) gs → AllByRecursion (λ g. times_in i g ≡ times_in j g) gs
both_none i j [] a b = tt
both_none i j (g ∷ gs) a b = (a.0 ∙ sym b.0, both_none i j gs a.1 b.1)

-- two links of one shape are as often in each
pub alike_in : (i j : ℕ) (gs : List (List (List ℕ))) (k : ℕ) → k < length gs → 0 < times_in i (group_at gs k) → 0 < times_in j (group_at gs k) → times_of i gs ≤ 1 → times_of j gs ≤ 1 → AllByRecursion (λ g. times_in i g ≡ times_in j g) gs
alike_in i j [] k h a b c d = absurd (omega (arith, h))
alike_in i j (g ∷ gs) zero h a b c d =
    let m = times-more i g gs in
    let n = times-more j g gs in
    (omega (arith, m, n, a, b, c, d), both_none i j gs (all_none i gs (omega (arith, m, a, c))) (all_none j gs (omega (arith, n, b, d))))
alike_in i j (g ∷ gs) (suc k) h a b c d =
    let m = times-more i g gs in
    let n = times-more j g gs in
    let u = times_at i gs k (omega (arith, h)) in
    let v = times_at j gs k (omega (arith, h)) in
    (omega (arith, m, n, a, b, c, d, u, v), alike_in i j gs k (omega (arith, h)) a b (omega (arith, m, c)) (omega (arith, n, d)))
  where
    times_at : (l : ℕ) (hs : List (List (List ℕ))) (q : ℕ) → q < length hs → times_in l (group_at hs q) ≤ times_of l hs
    times_at l [] q p = absurd (omega (arith, p))
    times_at l (y ∷ hs) zero p = let e = times-more l y hs in omega (arith, e)
    times_at l (y ∷ hs) (suc q) p = let e = times-more l y hs in let r = times_at l hs q (omega (arith, p)) in omega (arith, e, r)

-- so all later ones together
pub alike_of : (i j : ℕ) (gs : List (List (List ℕ))) → AllByRecursion (λ g. times_in i g ≡ times_in j g) gs → times_of i gs ≡ times_of j gs
alike_of i j [] a = refl
alike_of i j (g ∷ gs) a = times-more i g gs ∙ ap₂ (λ (m n : ℕ). m + n) a.0 (alike_of i j gs a.1) ∙ sym (times-more j g gs)
