-- Sums, differences and products of whole numbers.
use Rattle.std.proofs.Common.{◌≡◌, refl, ℕ, arith}
use Rattle.std.specs.Prelude.{ℤ, pos, negsuc, ◌+ℤ◌, ◌-ℤ◌, ◌*ℤ◌, neg_ℤ, ◌≤ℤ◌, unsigned_abs}
use Rattle.std.proofs.lemmas.Int.{ints}
use Rattle.overlay_geometry.proofs.laws.geometry.Polynomials.{as_D, diffs, D-eq, mul-le_left}

-- ---- sums and differences

pub zero_plus : (u : ℤ) → pos 0 +ℤ u ≡ u
zero_plus u = omega (arith, ints)

pub plus_comm : (u v : ℤ) → u +ℤ v ≡ v +ℤ u
plus_comm u v = omega (arith, ints)

pub plus_le : (u v w z : ℤ) → u ≤ℤ v → w ≤ℤ z → (u +ℤ w) ≤ℤ (v +ℤ z)
plus_le u v w z h k = omega (arith, ints)

pub plus_nonneg : (u v : ℤ) → pos 0 ≤ℤ u → pos 0 ≤ℤ v → pos 0 ≤ℤ (u +ℤ v)
plus_nonneg u v h k = omega (arith, ints)

pub minus_itself : (u : ℤ) → u -ℤ u ≡ pos 0
minus_itself u = omega (arith, ints)

pub minus_turned : (u v : ℤ) → u -ℤ v ≡ neg_ℤ (v -ℤ u)
minus_turned u v = omega (arith, ints)

pub minus_from : (z u v : ℤ) → v -ℤ u ≡ (v -ℤ z) -ℤ (u -ℤ z)
minus_from z u v = omega (arith, ints)

pub neg_zero : (u v : ℤ) → u ≡ neg_ℤ v → v ≡ pos 0 → u ≡ pos 0
neg_zero u v e h = omega (arith, ints)

pub neg_swap : (u v : ℤ) → u ≡ neg_ℤ v → v ≡ neg_ℤ u
neg_swap u v e = omega (arith, ints)

pub pos_nonneg : (n : ℕ) → pos 0 ≤ℤ pos n
pos_nonneg n = omega (arith, ints)

pub abs_nonneg : (u : ℤ) → pos 0 ≤ℤ u → pos (unsigned_abs u) ≡ u
abs_nonneg (pos n) h = refl
abs_nonneg (negsuc n) h = absurd (omega (arith, ints))

-- ---- products

pub times_zero : (u : ℤ) → u *ℤ pos 0 ≡ pos 0
times_zero u = omega (arith, ints)

pub zero_times : (u : ℤ) → pos 0 *ℤ u ≡ pos 0
zero_times u = omega (arith, ints)

pub times_nothing : (u v : ℤ) → v ≡ pos 0 → u *ℤ v ≡ pos 0
times_nothing u v e = rw e (omega (arith, ints))

pub times_comm : (u v : ℤ) → u *ℤ v ≡ v *ℤ u
times_comm u v = omega (arith, ints)

pub minus_times : (u v w : ℤ) → (u -ℤ v) *ℤ w ≡ u *ℤ w -ℤ v *ℤ w
minus_times u v w = rw (as_D u, as_D v, as_D w) (simp diffs (D-eq _ _ _ _ (omega arith)))

pub scaled_le : (u v : ℤ) (n : ℕ) → u ≤ℤ v → (u *ℤ pos n) ≤ℤ (v *ℤ pos n)
scaled_le u v n h = let m = mul-le_left (pos n) u v (omega (arith, ints)) h in omega (arith, ints, m)
