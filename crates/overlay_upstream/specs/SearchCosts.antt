-- What a search of a list by halves compares.
use Rattle.std.specs.Prelude.{ℕ, suc, ◌*◌, ◌^◌, ◌≤◌}

-- A search by halves among n entries compares the least d for which 2 * n is no more than 2 ^ d: none among none, and else one more than
-- the logarithm of n to base 2, rounded up.
abbrev pub IsSearchAmong : ℕ → ℕ → Type 0
IsSearchAmong n d = (2 * n ≤ 2 ^ d) × ((e : ℕ) → 2 * n ≤ 2 ^ e → d ≤ e)
