use Rattle.std.proofs.lemmas.List.Sorted.{IsPermutation-trans}
use Rattle.overlay_grid.proofs.split.sort_within.sort_within.Goals as goal

pub returns-in_err-sort_along-2-clause-permutation : goal.returns-in_err-sort_along-2-clause-permutation
returns-in_err-sort_along-2-clause-permutation g c column = IsPermutation-trans _ _ _ (c.sort_along.ensures.permutation column) (c.sort_along-2.ensures.permutation column)

pub returns-then-is_within-2-clause-permutation : goal.returns-then-is_within-2-clause-permutation
returns-then-is_within-2-clause-permutation g c column = IsPermutation-trans _ _ _ (c.sort_along.ensures.permutation column) (c.sort_along-2.ensures.permutation column)

pub returns-clause-permutation : goal.returns-clause-permutation
returns-clause-permutation g c column = IsPermutation-trans _ _ _ (c.sort_along.ensures.permutation column) (c.sort_along-2.ensures.permutation column)
