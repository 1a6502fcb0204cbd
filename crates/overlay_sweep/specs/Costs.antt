-- What a sweep compares among its live segments.
use Rattle.std.specs.Prelude.{ℕ, suc, Bool, MatchBool, ◌+◌, ◌*◌, ◌/◌, ◌^◌, ◌≤◌, List, length}
use Rattle.overlay_base.specs.Segments.{WholeSegment}

-- no balanced tree of n entries is higher than d
abbrev pub IsHighest : ℕ → ℕ → Type 0
IsHighest n d = (h : ℕ) → 2 ^ (h / 2) ≤ n + 1 → h ≤ d

-- A sweep over n segments takes at most three searches of d orders for each of them. Over one row this holds of each d for which 2 * n is
-- no more than 2 ^ d, and else of each d that no balanced tree of n entries is higher than.
abbrev pub IsSweepWithin : Bool → ℕ → ℕ → Type 0
IsSweepWithin is_row n asked = (d : ℕ) → MatchBool is_row (2 * n ≤ 2 ^ d) (IsHighest n d) → asked ≤ 3 * n * d

-- A search for which a collection dropped entries compares at most d orders, and d more for each of these: it was of so many entries, and
-- so many are left. An insert adds one entry.
abbrev pub IsSearchCost : (ℕ → ℕ → Type 0) → ℕ → ℕ → ℕ → Type 0
IsSearchCost IsMost was left asked = (n d : ℕ) → was ≤ n → IsMost n d → asked + left * d ≤ suc was * d

abbrev pub IsInsertCost : (ℕ → ℕ → Type 0) → ℕ → ℕ → ℕ → Type 0
IsInsertCost IsMost was left asked = (n d : ℕ) → was ≤ n → IsMost n d → asked + left * d ≤ suc (suc was) * d

-- what a whole sweep over an arrangement compares: at most that many orders
abbrev pub IsSweepCost : Bool → List WholeSegment → ℕ → Type 0
IsSweepCost is_row segments asked = IsSweepWithin is_row (length segments) asked
