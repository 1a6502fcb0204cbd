-- Cycles of numbers, along the ones that lead on from them.
use Rattle.std.specs.Prelude.{◌≡◌, ℕ, ◌<◌, Bool, true, false, if◌then◌else◌, List, map, length, All, Contains, slice_index, slice_index_or}
use Rattle.overlay_build.specs.DirectedWalks.{rotated}
use Rattle.overlay_shapes.specs.Classes.{AreLinked}

-- each number leads to one of them, and no two lead to the same one
pub record IsOneToOne (next : List ℕ) : Type 0 where
  pub within : (i : ℕ) → i < length next → slice_index next i < length next
  pub apart : (i j : ℕ) → i < length next → j < length next → slice_index next i ≡ slice_index next j → i ≡ j

-- Each number of a cycle leads to the one after it, and the last one to the first.
pub record IsCycle (next cycle : List ℕ) : Type 0 where
  pub within : All (λ i. i < length next) cycle
  pub along : map (λ i. slice_index next i) cycle ≡ rotated cycle

abbrev pub LeadsTo : List ℕ → ℕ → ℕ → Type 0
LeadsTo next i j = (i < length next) × (slice_index next i ≡ j)

-- from each of some numbers steps lead to each other one
abbrev pub AreOnOneCycle : List ℕ → List ℕ → Type 0
AreOnOneCycle next walk = (i j : ℕ) → Contains walk i → Contains walk j → AreLinked (LeadsTo next) i j

-- 1 for a number that is used
abbrev pub times_used : List Bool → ℕ → ℕ
times_used used i = if slice_index_or used i false then 1 else 0

-- what leads to a number that is used is used too
abbrev pub AreUsedBack : List ℕ → List Bool → Type 0
AreUsedBack next used = (i : ℕ) → i < length next → slice_index_or used (slice_index next i) false ≡ true → slice_index_or used i false ≡ true
