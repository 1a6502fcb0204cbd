-- Parity: whether a test holds of an odd number of elements.
use Rattle.std.proofs.Common.{◌≡◌, refl, arith}
use Rattle.std.specs.Prelude.{ℕ, ◌+◌, ◌%◌, Bool, true, false, not, cond, List, [], ◌∷◌, filter, length}
use Rattle.overlay_sweep.specs.Fill.{flag_value}
use Rattle.overlay_base.specs.Rules.{differ}

-- whether a test holds of an odd number of elements
abbrev pub odd_of : {X : Type 0} → (X → Bool) → List X → Bool
odd_of test [] = false
odd_of test (x ∷ xs) = differ (test x) (odd_of test xs)

one_more : (n : ℕ) (b : Bool) → n % 2 ≡ flag_value b 1 → (n + 1) % 2 ≡ flag_value (not b) 1
one_more n true h = omega arith
one_more n false h = omega arith

-- the remainder of a count at division by two
pub odd_of_is : {X : Type 0} (test : X → Bool) (xs : List X) → length (filter test xs) % 2 ≡ flag_value (odd_of test xs) 1
odd_of_is test [] = refl
odd_of_is test (x ∷ xs) =
    elim (test x) as (λ b. length (cond b (x ∷ filter test xs) (filter test xs)) % 2 ≡ flag_value (differ b (odd_of test xs)) 1) [
      | true ↦ let h = one_more (length (filter test xs)) (odd_of test xs) (odd_of_is test xs) in omega (arith, h)
      | false ↦ odd_of_is test xs
    ]
