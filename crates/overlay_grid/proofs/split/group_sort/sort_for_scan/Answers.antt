use Rattle.std.proofs.lemmas.List.Sorted.{IsPermutation-trans}
use Rattle.overlay_grid.proofs.laws.grid.GridReach.{group_upward}
use Rattle.overlay_grid.proofs.split.group_sort.sort_for_scan.Goals as goal

pub returns-then-is_scanned_upward-clause-looks : goal.returns-then-is_scanned_upward-clause-looks
returns-then-is_scanned_upward-clause-looks g c = group_upward _ c.in_ok-sort_group.ensures.sorted

pub returns-clause-permutation : goal.returns-clause-permutation
returns-clause-permutation g c = IsPermutation-trans _ _ _ c.sort_group.ensures.permutation c.sort_for_fewer.ensures.permutation
