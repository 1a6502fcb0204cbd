-- What tests of numbers say, both ways, and the order that they test.
use Rattle.std.proofs.Common.{◌≡◌, ℕ, ◌<◌, ◌≤◌, ◌==◌, arith, true, false}
use Rattle.std.specs.Prelude.{ℤ, pos, ◌-ℤ◌, ◌≤ℤ◌, ◌<ℤ◌, int_le, int_lt, nat_lt}
use Rattle.std.specs.Ordering.{int_eq}
use Rattle.std.proofs.lemmas.Int.{ints, by_lt_z}

-- ---- tests of whole numbers

pub le-test : (u v : ℤ) → u ≤ℤ v → int_le u v ≡ true
le-test u v h = grind (arith, ints)

pub le-test_false : (u v : ℤ) → v <ℤ u → int_le u v ≡ false
le-test_false u v h = grind (arith, ints)

pub lt-test : (u v : ℤ) → u <ℤ v → int_lt u v ≡ true
lt-test u v h = grind (arith, ints)

pub lt-test_false : (u v : ℤ) → v ≤ℤ u → int_lt u v ≡ false
lt-test_false u v h = grind (arith, ints)

pub eq-test : (u v : ℤ) → u ≡ v → int_eq u v ≡ true
eq-test u v e = grind (arith, ints)

pub le-tested : (u v : ℤ) → int_le u v ≡ true → u ≤ℤ v
le-tested u v e = grind (arith, ints)

pub le-tested_false : (u v : ℤ) → int_le u v ≡ false → v <ℤ u
le-tested_false u v e = grind (arith, ints)

pub lt-tested : (u v : ℤ) → int_lt u v ≡ true → u <ℤ v
lt-tested u v e = grind (arith, ints)

pub lt-tested_false : (u v : ℤ) → int_lt u v ≡ false → v ≤ℤ u
lt-tested_false u v e = grind (arith, ints)

pub eq-tested : (u v : ℤ) → int_eq u v ≡ true → u ≡ v
eq-tested u v e = grind (arith, ints)

-- ---- tests of naturals

pub nat_lt-test : (m n : ℕ) → m < n → nat_lt m n ≡ true
nat_lt-test m n h = grind arith

pub nat_lt-test_false : (m n : ℕ) → n ≤ m → nat_lt m n ≡ false
nat_lt-test_false m n h = grind arith

pub eqb-less : (m n : ℕ) → m < n → (m == n) ≡ false
eqb-less m n h = grind arith

pub eqb-turned : (m n : ℕ) → (m == n) ≡ (n == m)
eqb-turned m n = grind arith

-- ---- order

pub le_itself : (u : ℤ) → u ≤ℤ u
le_itself u = omega (arith, ints)

pub le_equal : (u v : ℤ) → u ≡ v → u ≤ℤ v
le_equal u v e = omega (arith, ints)

pub le_weak : (u v : ℤ) → u <ℤ v → u ≤ℤ v
le_weak u v h = omega (arith, ints)

pub le_through : (u v w : ℤ) → u ≤ℤ v → v ≤ℤ w → u ≤ℤ w
le_through u v w h k = omega (arith, ints)

pub lt_through : (u v w : ℤ) → u <ℤ v → v ≤ℤ w → u <ℤ w
lt_through u v w h k = omega (arith, ints)

pub lt_before : (u v : ℤ) → u <ℤ v → u ≤ℤ (v -ℤ pos 1)
lt_before u v h = omega (arith, ints)

pub lt_not_le : (u v : ℤ) → u <ℤ v → v ≤ℤ u → ⊥
lt_not_le u v h k = omega (arith, ints)

pub by_sign : {P : Type 0} (z : ℤ) → (z <ℤ pos 0 → P) → (z ≡ pos 0 → P) → (pos 0 <ℤ z → P) → P
by_sign z f g h = by_lt_z z (pos 0) f (λ (up : pos 0 ≤ℤ z). by_lt_z (pos 0) z h (λ (down : z ≤ℤ pos 0). g (omega (arith, ints))))
