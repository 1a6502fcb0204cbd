use Rattle.std.proofs.Common.{◌≡◌, ◌%◌, ◌^◌, map}
use Rattle.std.specs.List.{range_with_len}
use Rattle.overlay_grid.proofs.split.group_sort.list_keys.Given as goal

abbrev pub invariant-loop-place : goal.invariant-loop-place
invariant-loop-place g l = map (λ key. key % 2 ^ 32) l.keys.items ≡ range_with_len 0 l.place
