use Rattle.std.proofs.Common.{◌≡◌}
use Rattle.overlay_grid.specs.GroupsOf.{group_of, grid_of}
use Rattle.overlay_grid.proofs.laws.grid.GridGroups.{AreSorted}
use Rattle.overlay_grid.proofs.split.fragment_buffer.FragmentBuffer.sort_along.Given as goal

abbrev pub invariant-loop-column : goal.invariant-loop-column
invariant-loop-column g l = record { layout : grid_of l.self ≡ grid_of l.fn.self; sorted : AreSorted l.axis (group_of l.fn.self) (group_of l.self) l.column }
