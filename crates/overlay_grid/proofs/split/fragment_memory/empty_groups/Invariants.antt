use Rattle.std.proofs.Common.{◌≡◌, ◌≤◌, length, ℕ, []}
use Rattle.overlay_grid.specs.GroupsOf.{group_in}
use Rattle.overlay_grid.proofs.split.fragment_memory.empty_groups.Given as goal

abbrev pub invariant-loop : goal.invariant-loop
invariant-loop g l = record { count : length l.groups.items ≡ l.counter; within : l.counter ≤ l.count; empty : (column : ℕ) → group_in g.I.OverlayInt.whole l.groups.items column ≡ [] }
