-- A search by halves: where it ends, and how many orders it compares.
use Rattle.std.proofs.Common.{arith}
use Rattle.std.specs.Prelude.{ℕ, zero, suc, ◌+◌, ◌-◌, ◌*◌, ◌^◌, ◌<◌, ◌≤◌}
use Rattle.std.proofs.Math.Nat.{two-pow-succ}

pub below_power : (k : ℕ) → k < 2 ^ k
below_power zero = omega arith
below_power (suc k) = omega (arith, below_power k, two-pow-succ k)

-- a search among so many that an index reaches counts far fewer
pub short_count : (many asked : ℕ) → 2 ^ asked ≤ 2 * many → many < 2 ^ 64 → asked + 1 < 2 ^ 64
short_count many zero few short = omega arith
short_count many (suc zero) few short = omega arith
short_count many (suc (suc k)) few short = omega (arith, few, short, below_power k, two-pow-succ k, two-pow-succ (suc k))
