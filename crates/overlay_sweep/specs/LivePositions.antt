-- Where a place lies among entries from below, where some have ended.
use Rattle.std.specs.Prelude.{◌≡◌, ℕ, Bool, true, false, ◌-◌, ◌<◌, ◌≤◌, ◌⊎◌}

-- the next entry from an index on that has not ended, if there is one, does not come before the place
pub record HasNext (lasts before : ℕ → Bool) (many at : ℕ) : Type 0 where
  pub next : ℕ
  pub order : at ≤ next
  pub within : next ≤ many
  pub ended : (k : ℕ) → at ≤ k → k < next → lasts k ≡ false
  pub is : (next ≡ many) ⊎ ((lasts next ≡ true) × (before next ≡ false))

-- the entry just below an index, if there is one, has not ended and comes before the place, and the next one above that has not ended does not
pub record IsLivePosition (lasts before : ℕ → Bool) (many at : ℕ) : Type 0 where
  pub within : at ≤ many
  pub last_is : (at ≡ 0) ⊎ ((lasts (at - 1) ≡ true) × (before (at - 1) ≡ true))
  pub behind : HasNext lasts before many at
