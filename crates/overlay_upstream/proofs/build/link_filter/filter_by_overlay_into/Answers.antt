use Rattle.std.proofs.lemmas.List.{take_all}
use Rattle.std.proofs.Common.{refl, arith}
use Rattle.std.proofs.lemmas.Grind.{common_steps}
use Rattle.overlay_upstream.proofs.build.link_filter.filter_by_overlay_into.Goals as goal

pub returns-clause-states : goal.returns-clause-states
returns-clause-states g c =
    let all = take_all c.loop-link.link-index c.args.links.now c.loop-link-test.false in
    rw all at c.loop-link.invariant

pub bounds-links-link-index : goal.bounds-links-link-index
bounds-links-link-index g c = c.loop-link-test.true

pub returns-then-is_err-clause-states : goal.returns-then-is_err-clause-states
returns-then-is_err-clause-states g c = tt

pub returns-then-is_err-clause-fault : goal.returns-then-is_err-clause-fault
returns-then-is_err-clause-fault g c = refl

pub returns-clause-fault : goal.returns-clause-fault
returns-clause-fault g c = tt

pub returns-clause-emptied : goal.returns-clause-emptied
returns-clause-emptied g c = tt

pub returns-then-is_err-clause-emptied : goal.returns-then-is_err-clause-emptied
returns-then-is_err-clause-emptied g c = c.clear-then-is_err.ensures.items

pub loop-link-preserved : goal.loop-link-preserved
loop-link-preserved g c = grind (arith, common_steps)
