use Rattle.std.proofs.Common.{take}
use Rattle.overlay_grid.specs.steps.SortKeys.{IsPicked}
use Rattle.overlay_grid.proofs.split.group_sort.pick.Given as goal

abbrev pub invariant-loop-at : goal.invariant-loop-at
invariant-loop-at g l = IsPicked l.group (take l.at l.keys) l.row.items
