use Rattle.std.proofs.Common.{◌≡◌, ◌++◌, ◌∙◌, length, take, drop}
use Rattle.std.proofs.lemmas.List.{take_at}
use Rattle.std.proofs.lemmas.List.Sorted.{IsPermutation-trans}
use Rattle.std.proofs.lemmas.Result.{on_ok_weaker}
use Rattle.overlay_geometry.specs.Points.{pair_cmp}
use Rattle.overlay_geometry.proofs.laws.geometry.Points.{pair_cmp_total}
use Rattle.overlay_base.specs.SegmentOf.{ends_of}
use Rattle.overlay_base.proofs.laws.lists.StableSorts.{stably_sorted-same}
use Rattle.overlay_base.proofs.segm.sort.sort_by_ab_in_parts.Goals as goal

-- the list is its slice with the parts sorted
written : (g : _) (c : goal.After-sort_by_ab g) → take c.args.list.now.len (c.sort_parts.new.list ++ drop (length c.sort_parts.new.list) c.args.list.now.items) ≡ c.sort_parts.new.list
written g c = take_at c.sort_parts.new.list _ _ (c.sort_parts.auto.list ∙ c.as_mut_slice.ensures.len)

-- which has the stable sort of the list
pub returns-clause-sorted : goal.returns-clause-sorted
returns-clause-sorted g c =
    let same = stably_sorted-same ends_of pair_cmp pair_cmp_total c.as_mut_slice.result.now c.sort_parts.new.list c.sort_parts.ensures.stable in
    simp (written g c, same, c.as_mut_slice.ensures.value) at c.sort_by_ab.ensures.sorted

-- and its elements
pub returns-clause-permutation : goal.returns-clause-permutation
returns-clause-permutation g c =
    let moved = rw c.as_mut_slice.ensures.value at c.sort_parts.ensures.permutation in
    on_ok_weaker c.sort_by_ab.result (λ p. IsPermutation-trans _ _ _ (rw (written g c) moved) p) c.sort_by_ab.ensures.permutation
