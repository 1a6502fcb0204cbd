-- The rows that tests keep live: level segments from x 0 to x 10, one above the other.
use Rattle.std.specs.Prelude.{◌≡◌, ℕ, ◌+◌, ◌*◌, ℤ, pos, ◌≤ℤ◌, IsTrue, List}
use Rattle.std.specs.List.{Contains}
use Rattle.overlay_geometry.specs.Points.{Pair}
use Rattle.overlay_base.specs.Segments.{WholeSegment}
use Rattle.overlay_sweep.specs.ChainWindings.{is_live}

-- the pair of row k, at the height 2k
abbrev pub level_pair : ℕ → Pair
level_pair k = record { a = record { x = pos 0; y = pos (2 * k) }; b = record { x = pos 10; y = pos (2 * k) } }

-- row k with its sum
abbrev pub level_row : ℕ → WholeSegment
level_row k = record { pair = level_pair k; count = record { subj = pos (k + 1); clip = pos 0; mask = 0 } }

-- from x on nothing but rows is live
abbrev pub AreRows : ℤ → List WholeSegment → Type 0
AreRows x sums = (s : WholeSegment) (y : ℤ) → x ≤ℤ y → IsTrue (is_live y s.pair) → Contains sums s → (k : ℕ) × (s ≡ level_row k)
