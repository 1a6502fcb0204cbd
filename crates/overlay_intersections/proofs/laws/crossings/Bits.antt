-- A test of a signed number on its bits.
use Rattle.std.proofs.Common.{◌≡◌, ◌≢◌, sym, true, false, ap, ◌∙◌, ℕ, arith, to_z, of_z, to_z-of_z, FitsSigned, w64}
use Rattle.std.specs.Prelude.{ℤ, pos, nat_eq}
use Rattle.std.specs.Ordering.{int_eq}
use Rattle.std.proofs.lemmas.Int.{ints}
use Rattle.std.proofs.lemmas.Nat.{pow_pos}
use Rattle.std.proofs.lemmas.Bool.{eq-eqb, ne_eqb}
use mir.Val.{hbits}

pub zero_test : (z : ℤ) → FitsSigned w64 z → nat_eq (of_z w64 z) 0 ≡ int_eq z (pos 0)
zero_test z f =
    let none : FitsSigned w64 (pos 0) = record { sfits = pow_pos (hbits w64) } in
    let back : of_z w64 z ≡ of_z w64 (pos 0) → z ≡ pos 0 = λ e. sym (to_z-of_z f) ∙ ap (to_z w64) e ∙ to_z-of_z none in
    let forth : z ≡ pos 0 → of_z w64 z ≡ of_z w64 (pos 0) = ap (of_z w64) in
    same_test (of_z w64 z) 0 z (pos 0) back forth
  where
    same_test : (m n : ℕ) (a b : ℤ) → (m ≡ n → a ≡ b) → (a ≡ b → m ≡ n) → nat_eq m n ≡ int_eq a b
    same_test m n a b back forth = grind (arith, ints)

pub zero_bits : (z : ℤ) → FitsSigned w64 z → of_z w64 z ≡ 0 → int_eq z (pos 0) ≡ true
zero_bits z f e = sym (zero_test z f) ∙ eq-eqb (of_z w64 z) 0 e

pub some_bits : (z : ℤ) → FitsSigned w64 z → of_z w64 z ≢ 0 → int_eq z (pos 0) ≡ false
some_bits z f n = sym (zero_test z f) ∙ ne_eqb (of_z w64 z) 0 n
