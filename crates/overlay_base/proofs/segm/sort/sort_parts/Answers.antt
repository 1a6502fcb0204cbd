use Rattle.std.proofs.Common.{rules, arith}
use Rattle.std.proofs.lemmas.List.Sorted.{answers_always, IsPermutation-trans, IsPermutation-put_mid}
use Rattle.std.proofs.lemmas.Grind.{common_steps}
use Rattle.overlay_geometry.specs.Points.{pair_cmp}
use Rattle.overlay_base.specs.SegmentOf.{ends_of}
use Rattle.overlay_base.proofs.laws.lists.StableSorts.{stable-part}
use Rattle.overlay_base.proofs.segm.sort.sort_parts.Goals as goal
use Rattle.overlay_base.proofs.segm.sort.sort_parts.Goals.{then-from-place+then-place-list+in_ok-sort_by_key, else-from-place}

-- a refused sort of a part moves elements as one that is done
pub returns-in_err-sort_by_key-clause-permutation : goal.returns-in_err-sort_by_key-clause-permutation
returns-in_err-sort_by_key-clause-permutation g c =
    IsPermutation-trans _ _ _ c.loop-place.invariant.permutation (IsPermutation-put_mid c.loop-place.from _ _ _ c.sort_by_key.ensures.permutation)

pub returns-in_err-sort_by_key-clause-stable : goal.returns-in_err-sort_by_key-clause-stable
returns-in_err-sort_by_key-clause-stable g c =
    stable-part ends_of pair_cmp c.args.list.now c.loop-place.list c.sort_by_key.new.self _ _ c.loop-place.invariant.stable
    (simp g.met.I.OverlayInt.ordered at (c.sort_by_key.ensures.stable (λ s. s.x_segment) (answers_always _ _ _ (λ f a r f' h. search rules))))

pub loop-place-preserved : goal.loop-place-preserved
loop-place-preserved g c = elim c.if-from-place.branch [
  | then-from-place+then-place-list+in_ok-sort_by_key w ↦ rw w.list-is (record {
    permutation = IsPermutation-trans _ _ _ c.loop-place.invariant.permutation (IsPermutation-put_mid c.loop-place.from _ _ _ w.sort_by_key.ensures.permutation);
    stable = stable-part ends_of pair_cmp c.args.list.now c.loop-place.list w.sort_by_key.new.self _ _ c.loop-place.invariant.stable
        (simp g.met.I.OverlayInt.ordered at (w.sort_by_key.ensures.stable (λ s. s.x_segment) (answers_always _ _ _ (λ f a r f' h. search rules))));
  })
  | else-from-place w ↦ rw w.list-is c.loop-place.invariant
]

pub offset_bounds-list-from : goal.offset_bounds-list-from
offset_bounds-list-from g c = grind (arith, common_steps)
