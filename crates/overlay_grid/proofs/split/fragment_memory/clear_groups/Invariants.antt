use Rattle.std.proofs.Common.{◌≡◌, ◌<◌, ℕ, [], length}
use Rattle.overlay_grid.specs.GroupsOf.{group_in}
use Rattle.overlay_grid.proofs.split.fragment_memory.clear_groups.Given as goal

abbrev pub invariant-loop-column : goal.invariant-loop-column
invariant-loop-column g l = record {
  count : length l.groups.items ≡ length l.fn.groups.items;
  emptied : (column : ℕ) → column < l.column → group_in g.I.OverlayInt.whole l.groups.items column ≡ [];
}
