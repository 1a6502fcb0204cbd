-- The rows of a list of rows, where one changes.
use Rattle.std.specs.Prelude.{◌≡◌, ℕ, Bool, true, ◌+◌, ◌-◌, ◌<◌, ◌≤◌, ◌⊎◌, ℤ, ◌≤ℤ◌, int_lt, List, [], filter, length, slice_set, All}
use Rattle.std.specs.List.{remove}
use Rattle.overlay_base.specs.Segments.{WholeSegment}
use Rattle.overlay_sweep.specs.LiveRows.{segment_at, lasts_past, row_at}

-- Segments were dropped, none of which lasts past x.
pub record KeepsLasting (x : ℤ) (old new : List WholeSegment) : Type 0 where
  pub kept : filter (λ s. int_lt x s.pair.b.x) new ≡ filter (λ s. int_lt x s.pair.b.x) old
  pub begun : (z : ℤ) → All (λ s. s.pair.a.x ≤ℤ z) old → All (λ s. s.pair.a.x ≤ℤ z) new
  pub fewer : length new ≤ length old

-- the last one of a row lasts past x, and comes before a place or not
pub record EndsWith (x : ℤ) (before : WholeSegment → Bool) (is : Bool) (row : List WholeSegment) : Type 0 where
  pub some : 1 ≤ length row
  pub lasts : lasts_past x row (length row - 1) ≡ true
  pub is_before : before (segment_at row (length row - 1)) ≡ is

-- Segments were dropped from the end of a row, up to one that lasts past x.
pub record IsTrimmed (x : ℤ) (before : WholeSegment → Bool) (is : Bool) (at : ℕ) (old new : List (List WholeSegment)) : Type 0 where
  pub row : List WholeSegment
  pub set : new ≡ slice_set old at row
  pub keeps : KeepsLasting x (row_at old at) row
  pub ends : EndsWith x before is row

-- All segments of a row were dropped, and the row with them.
pub record IsRowDropped (x : ℤ) (at : ℕ) (old new : List (List WholeSegment)) : Type 0 where
  pub removed : new ≡ remove old at
  pub keeps : KeepsLasting x (row_at old at) []

-- each row has some, but for one that may have none
abbrev pub HaveSomeBut : ℕ → List (List WholeSegment) → Type 0
HaveSomeBut at rows = (i : ℕ) → i < length rows → (i ≡ at) ⊎ (1 ≤ length (row_at rows i))

-- one from an index of a row on lasts past x, or it is the last row
abbrev pub IsNextNear : ℤ → List (List WholeSegment) → ℕ → ℕ → Type 0
IsNextNear x rows row at = (length rows ≤ row + 1) ⊎ ((k : ℕ) × (at ≤ k) × (k < length (row_at rows row)) × (lasts_past x (row_at rows row) k ≡ true))
