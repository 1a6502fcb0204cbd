use Rattle.std.proofs.Common.{◌≡◌, ◌+◌, ◌-◌, ◌^◌, min}
use Rattle.std.specs.Prelude.{sum_by}
use Rattle.std.specs.List.{range_with_len}
use Rattle.overlay_grid.specs.Grid.{pos_of}
use Rattle.overlay_grid.specs.GroupsOf.{group_of, grid_of}
use Rattle.overlay_grid.specs.steps.FragmentFinder.{looks_of_border}
use Rattle.overlay_grid.proofs.split.border_contacts.count_at_borders.Given as goal

abbrev pub invariant-loop-column : goal.invariant-loop-column
invariant-loop-column g l =
    l.count ≡ min (sum_by (λ column. looks_of_border (pos_of (grid_of l.buffer) (column + 1)) (group_of l.buffer column) (group_of l.buffer (column + 1))) (range_with_len 0 l.column)) (2 ^ 64 - 1)
