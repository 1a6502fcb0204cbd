use Rattle.std.proofs.Common.{rules}
use Rattle.std.proofs.lemmas.List.Sorted.{answers_always}
use Rattle.overlay_geometry.specs.Points.{pair_cmp}
use Rattle.overlay_base.specs.SegmentOf.{ends_of}
use Rattle.overlay_geometry.proofs.laws.geometry.Points.{pair_cmp_total}
use Rattle.overlay_base.proofs.laws.lists.StableSorts.{sorted_by_key-is}
use Rattle.overlay_base.proofs.segm.sort.sort_by_ab.Goals as goal

-- std's sort by the ends, whose order is that of whole numbers
pub returns-in-Ok-clause-in_order : goal.returns-in-Ok-clause-in_order
returns-in-Ok-clause-in_order g c =
    simp g.met.I.OverlayInt.ordered at (c.in-Ok.ensures.sorted (λ s. s.x_segment) (answers_always _ _ _ (λ f a r f' h. search rules)))

-- is the one stable sort
pub returns-in-Ok-clause-sorted : goal.returns-in-Ok-clause-sorted
returns-in-Ok-clause-sorted g c =
    sorted_by_key-is ends_of pair_cmp pair_cmp_total _ _
    (simp g.met.I.OverlayInt.ordered at (c.in-Ok.ensures.sorted (λ s. s.x_segment) (answers_always _ _ _ (λ f a r f' h. search rules))))
    (simp g.met.I.OverlayInt.ordered at (c.in-Ok.ensures.stable (λ s. s.x_segment) (answers_always _ _ _ (λ f a r f' h. search rules))))

pub returns-in-Ok-clause-permutation : goal.returns-in-Ok-clause-permutation
returns-in-Ok-clause-permutation g c = c.in-Ok.ensures.permutation

pub returns-in-Err-clause-emptied : goal.returns-in-Err-clause-emptied
returns-in-Err-clause-emptied g c = search rules
