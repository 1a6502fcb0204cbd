-- How many cells are in a box of cells.
use Rattle.std.specs.Prelude.{◌≡◌, refl, ℤ, pos}
use Rattle.overlay_base.proofs.examples.Words.{neg}
use Rattle.overlay_snapping.specs.steps.Cells.{cell_count}
use Rattle.overlay_snapping.specs.declared.snap.cells.CellBox.{CellBox}
use Rattle.overlay_snapping.proofs.examples.Computing.{computing}

abbrev box : ℤ → ℤ → ℤ → ℤ → CellBox
box left right bottom top = record { left = left; right = right; bottom = bottom; top = top }

-- columns -2 to 4 and rows 0 to 2
seven_by_three : cell_count (box (neg 2) (pos 5) (pos 0) (pos 3)) ≡ 21
unfolding computing
seven_by_three = refl

-- the first column is the end too
no_columns : cell_count (box (pos 4) (pos 4) (pos 0) (pos 9)) ≡ 0
unfolding computing
no_columns = refl
