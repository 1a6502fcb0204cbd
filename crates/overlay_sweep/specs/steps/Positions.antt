-- Where a place lies among entries ordered from below.
use Rattle.std.specs.Prelude.{◌≡◌, ℕ, suc, Bool, true, false, ◌-◌, ◌<◌, ◌≤◌, ◌⊎◌, List, ◌∷◌, ◌++◌, take, drop, length}

-- the entry just below a position, if there is one, comes before the place, and the one at it does not
pub record IsPosition (before : ℕ → Bool) (many at : ℕ) : Type 0 where
  pub within : at ≤ many
  pub last_is : (at ≡ 0) ⊎ (before (at - 1) ≡ true)
  pub first_is : (at ≡ many) ⊎ (before at ≡ false)

-- the first entry from an index on that has not ended fails a test
abbrev pub IsElsewhere : (ℕ → Bool) → (ℕ → Bool) → ℕ → ℕ → Type 0
IsElsewhere lasts there many from = (next : ℕ) → from ≤ next → next < many → ((k : ℕ) → from ≤ k → k < next → lasts k ≡ false) → lasts next ≡ true → there next ≡ false

-- an entry was put in at an index, or in place of one that had ended
abbrev pub IsPutIn : {E : Type 0} → (ℕ → Bool) → ℕ → E → List E → List E → Type 0
IsPutIn lasts at entry old new =
    (new ≡ take at old ++ entry ∷ drop at old) ⊎ ((at < length old) × (lasts at ≡ false) × (new ≡ take at old ++ entry ∷ drop (suc at) old))
