use Rattle.std.proofs.lemmas.List.Sorted.{IsPermutation-trans}
use Rattle.overlay_grid.proofs.split.group_sort.sort_group.Goals as goal
use Rattle.overlay_grid.proofs.split.group_sort.sort_group.Goals.{then-len-le-PLACES+in_ok-sort_by_keys+else-are_in_order-2, else-len-le-PLACES}

pub returns-clause-permutation : goal.returns-clause-permutation
returns-clause-permutation g c =
    elim c.if-len-le-PLACES.branch [
      | then-len-le-PLACES+in_ok-sort_by_keys+else-are_in_order-2 w ↦ IsPermutation-trans _ _ _ w.in_ok-sort_by_keys.ensures.permutation (rw w.group-is at c.sort_by_least.ensures.permutation)
      | else-len-le-PLACES w ↦ rw w.group-is at c.sort_by_least.ensures.permutation
    ]
