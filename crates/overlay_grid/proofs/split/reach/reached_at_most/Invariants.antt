use Rattle.std.proofs.Common.{◌≤◌, ◌-◌, ◌^◌, min}
use Rattle.overlay_grid.specs.GroupsOf.{group_in}
use Rattle.overlay_grid.specs.ColumnLooks.{looks_of_groups}
use Rattle.overlay_grid.proofs.split.reach.reached_at_most.Given as goal

abbrev pub invariant-loop-column : goal.invariant-loop-column
invariant-loop-column g l = min (looks_of_groups l.axis (group_in g.I.OverlayInt.whole l.groups) l.column) (2 ^ 64 - 1) ≤ l.count
