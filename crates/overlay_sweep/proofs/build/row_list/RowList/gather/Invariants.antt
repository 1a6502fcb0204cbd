use Rattle.std.proofs.Common.{◌≡◌}
use Rattle.std.specs.Prelude.{take}
use Rattle.overlay_sweep.specs.LiveOf.{row_sums, rows_in}
use Rattle.overlay_sweep.specs.LiveRows.{joined}
use Rattle.overlay_sweep.proofs.build.row_list.RowList.gather.Given as goal

abbrev pub invariant-loop-row : goal.invariant-loop-row
invariant-loop-row g l = row_sums l.all ≡ joined (take l.row (rows_in l.self))
