-- Cells of a grid, and points in chains: the points of each slot are one chain, and cells share slots.
use Rattle.std.specs.Int.{w64, cast_unsigned, int_wrapping_add, int_wrapping_mul, int_min, int_max}
use Rattle.std.specs.Int.RustNames.{bit_and}
use Rattle.std.specs.Prelude.{◌≡◌, ◌<◌, ◌≤◌, ◌&&◌, ◌+◌, ◌*◌, ◌-ℤ◌, ℕ, ℤ, pos, unsigned_abs, Bool, Some, List, int_le, int_lt, length, slice_get, slice_index_or}
use Rattle.overlay_geometry.specs.Points.{Point, Pair}
use Rattle.overlay_snapping.specs.steps.PointTrees.{column_of}
use Rattle.overlay_snapping.specs.declared.snap.cells.CellSize.{CellSize}
use Rattle.overlay_snapping.specs.declared.snap.cells.CellBox.{CellBox}

-- the left lower and the right upper corner of the box of an ordered pair
abbrev pub least_corner : Pair → Point
least_corner s = record { x = s.a.x; y = int_min s.a.y s.b.y }

abbrev pub greatest_corner : Pair → Point
greatest_corner s = record { x = s.b.x; y = int_max s.a.y s.b.y }

-- whether a column, or a row, is one from the first on and before the end
abbrev pub is_among : ℤ → ℤ → ℤ → Bool
is_among first end z = int_le first z && int_lt z end

-- whether the cell of p is one of these
abbrev pub has_cell : CellBox → CellSize → Point → Bool
has_cell cells size p = is_among cells.left cells.right (column_of size.width p.x) && is_among cells.bottom cells.top (column_of size.height p.y)

-- how many cells there are
abbrev pub cell_count : CellBox → ℕ
cell_count cells = unsigned_abs (cells.right -ℤ cells.left) * unsigned_abs (cells.top -ℤ cells.bottom)

-- the slot of the cell in a column and a row
unfoldable pub slot_of : ℕ → ℤ → ℤ → ℕ
slot_of mask column row = bit_and (cast_unsigned w64 (int_wrapping_add w64 column (int_wrapping_mul w64 row (pos 2654435761)))) mask

-- that of the cell of p
abbrev pub slot_at : ℕ → CellSize → Point → ℕ
slot_at mask size p = slot_of mask (column_of size.width p.x) (column_of size.height p.y)

-- Points in chains, one for each slot. A number is a place plus one, or 0 where a chain ends: a head is the last place of its slot, and
-- what follows a place is the last one before it that has the same slot.
pub record AreChained (mask : ℕ) (size : CellSize) (points : List Point) (heads nexts : List ℕ) : Type 0 where
  pub slots : mask < length heads
  pub heads_within : (slot : ℕ) → slice_index_or heads slot 0 ≤ length points
  pub falling : (j : ℕ) → slice_index_or nexts j 0 ≤ j
  -- no place of a slot lies behind its head, nor between a place and what follows it
  pub none_behind : (i : ℕ) (c : Point) → slice_get points i ≡ Some c → slice_index_or heads (slot_at mask size c) 0 ≤ i → ⊥
  pub none_between : (i j : ℕ) (c d : Point) → slice_get points i ≡ Some c → slice_get points j ≡ Some d → slot_at mask size c ≡ slot_at mask size d → slice_index_or nexts j 0 ≤ i → i < j → ⊥
  -- a head is in its slot, and what follows a place in that of the place
  pub heads_own : (slot i : ℕ) (c : Point) → slice_get points i ≡ Some c → slice_index_or heads slot 0 ≡ i + 1 → slot_at mask size c ≡ slot
  pub nexts_own : (i j : ℕ) (c d : Point) → slice_get points i ≡ Some c → slice_get points j ≡ Some d → slice_index_or nexts j 0 ≡ i + 1 → slot_at mask size c ≡ slot_at mask size d
