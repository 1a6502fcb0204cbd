-- Powers of two in signed numbers of 64 bits.
use Rattle.std.proofs.Common.{◌≡◌, ℕ, ◌*◌, ◌%◌, ◌<◌, ◌≤◌, ◌^◌, arith, ap, ◌∙◌, lit<, w64, to_z}
use Rattle.std.specs.Prelude.{pos}
use Rattle.std.proofs.Math.Nat.{pow-le-pow_right}
use Rattle.std.proofs.lemmas.Int.{to_z_pos}
use Rattle.std.proofs.Math.Nat.{mod-eq_of_lt}

-- one, shifted left by at most 62 bits
pub shifted_one : (k : ℕ) → k ≤ 62 → to_z w64 (1 * 2 ^ k % 2 ^ 64) ≡ pos (2 ^ k)
shifted_one k h =
    let small : 2 ^ k ≤ 2 ^ 62 = pow-le-pow_right (lit< tt) h in
    let fits : 1 * 2 ^ k < 2 ^ 64 = omega arith in
    let one : 1 * 2 ^ k ≡ 2 ^ k = omega arith in
    ap (to_z w64) (mod-eq_of_lt fits ∙ one) ∙ to_z_pos w64 (2 ^ k) (omega arith)
