-- Sums of whole numbers over a list, and the weights of a list in terms of them.
use Rattle.std.proofs.Common.{◌≡◌, ap, refl, arith}
use Rattle.std.specs.Prelude.{ℤ, pos, ◌+ℤ◌, ◌-ℤ◌, Bool, true, false, cond, ◌&&◌, ◌||◌, List, [], ◌∷◌, filter}
use Rattle.std.proofs.lemmas.Int.{ints}
use Rattle.overlay_base.specs.Windings.{total}
use Rattle.overlay_base.specs.Segments.{WholeSegment, total_weight}

-- z where the test says so, else 0
abbrev pub when : Bool → ℤ → ℤ
when b z = cond b z (pos 0)

abbrev pub sum_of : {X : Type 0} → (X → ℤ) → List X → ℤ
sum_of g [] = pos 0
sum_of g (x ∷ xs) = g x +ℤ sum_of g xs

pub sum_of-add : {X : Type 0} (f g h : X → ℤ) (xs : List X) → ((x : X) → f x ≡ g x +ℤ h x) → sum_of f xs ≡ sum_of g xs +ℤ sum_of h xs
sum_of-add f g h [] e = omega (arith, ints)
sum_of-add f g h (x ∷ xs) e = omega (arith, ints, e x, sum_of-add f g h xs e)

pub sum_of-filter : {X : Type 0} (test : X → Bool) (g : X → ℤ) (xs : List X) → sum_of g (filter test xs) ≡ sum_of (λ x. when (test x) (g x)) xs
sum_of-filter test g [] = refl
sum_of-filter test g (x ∷ xs) = elim (test x) as (λ b. sum_of g (cond b (x ∷ filter test xs) (filter test xs)) ≡ when b (g x) +ℤ sum_of (λ y. when (test y) (g y)) xs) [ true ↦ ap (λ z. g x +ℤ z) (sum_of-filter test g xs) | false ↦ omega (arith, ints, sum_of-filter test g xs) ]

-- the weights of a list, number by number
pub total_weight_is : (segments : List WholeSegment) → total_weight segments ≡ record { subj = sum_of (λ s. s.count.subj) segments; clip = sum_of (λ s. s.count.clip) segments; mask = 0 }
unfolding total_weight total
total_weight_is [] = refl
total_weight_is (s ∷ ss) = rw (total_weight_is ss) refl

pub sum_of-sub : {X : Type 0} (f g h : X → ℤ) (xs : List X) → ((x : X) → f x ≡ g x -ℤ h x) → sum_of f xs ≡ sum_of g xs -ℤ sum_of h xs
sum_of-sub f g h [] e = omega (arith, ints)
sum_of-sub f g h (x ∷ xs) e = omega (arith, ints, e x, sum_of-sub f g h xs e)

-- where two functions are equal at each element, so are their sums
pub sum_of-same : {X : Type 0} (f g : X → ℤ) (xs : List X) → ((x : X) → f x ≡ g x) → sum_of f xs ≡ sum_of g xs
sum_of-same f g [] e = refl
sum_of-same f g (x ∷ xs) e = omega (arith, ints, e x, sum_of-same f g xs e)

-- ---- `when`

pub when-or : (a b c : Bool) (z : ℤ) → a ≡ (b || c) → (b && c) ≡ false → when a z ≡ when b z +ℤ when c z
when-or a true true z e d = absurd (cc)
when-or a true false z e d = rw e (omega (arith, ints))
when-or a false true z e d = rw e (omega (arith, ints))
when-or a false false z e d = rw e (omega (arith, ints))

pub and_true : (b : Bool) → (b && true) ≡ b
and_true true = refl
and_true false = refl

pub and_false : (b : Bool) → (b && false) ≡ false
and_false true = refl
and_false false = refl
