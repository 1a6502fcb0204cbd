use Rattle.std.proofs.Common.{arith}
use Rattle.std.specs.Ordering.{nat_cmp}
use Rattle.overlay_base.proofs.laws.lists.StableSorts.{stable-part}
use Rattle.overlay_build.specs.declared.build.link_ends.PackedEnd.{PackedEnd}
use Rattle.overlay_build.proofs.build.end_parts.sort_parts.Goals as goal
use Rattle.overlay_build.proofs.build.end_parts.sort_parts.Goals.{then-greatest-least_keys+in_ok-sort_part, else-greatest-least_keys}

-- a refused sort of a part keeps the ends of each point in order as one that is done
pub returns-in_err-sort_part : goal.returns-in_err-sort_part
returns-in_err-sort_part c = stable-part (λ (e : PackedEnd). e.key) nat_cmp c.args.ends.now c.loop-place.ends c.sort_part.new.part _ _ c.loop-place.invariant.stable c.sort_part.ensures

pub loop-place-preserved : goal.loop-place-preserved
loop-place-preserved c = elim c.if-greatest-least_keys.branch [
  | then-greatest-least_keys+in_ok-sort_part w ↦ rw (w.ends-is, w.from-is) (record {
    within = omega arith;
    stable = stable-part (λ (e : PackedEnd). e.key) nat_cmp c.args.ends.now c.loop-place.ends w.sort_part.new.part _ _ c.loop-place.invariant.stable w.sort_part.ensures;
  })
  | else-greatest-least_keys w ↦ rw (w.ends-is, w.from-is) (record {
    within = (let within = c.loop-place.invariant.within in omega (arith, within));
    stable = c.loop-place.invariant.stable;
  })
]

pub returns : goal.returns
returns c = stable-part (λ (e : PackedEnd). e.key) nat_cmp c.args.ends.now c.loop-place.ends c.sort_part-2.new.part _ _ c.loop-place.invariant.stable c.sort_part-2.ensures
