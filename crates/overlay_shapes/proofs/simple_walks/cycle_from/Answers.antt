use Rattle.overlay_shapes.proofs.laws.Cycles.{cycle_begun, one_further, is_cycle, begun_used, used_back, fewer_unused}
use Rattle.std.proofs.Common.{◌<◌, sym, subst}
use Rattle.overlay_shapes.proofs.simple_walks.cycle_from.Goals as goal

pub loop-used-init : goal.loop-used-init
loop-used-init c = rw c.new-cycle.ensures.items (cycle_begun c.args.next.now c.args.used.now c.args.first c.requires.flags c.requires.first)

pub loop-used-preserved : goal.loop-used-preserved
loop-used-preserved c =
    let before = c.loop-used in
    rw c.in_ok-push.ensures.items (one_further c.args.next.now c.args.used.now before.used before.cycle.items c.args.first before.at c.requires.next before.invariant c.loop-used-test.true)

pub loop-used-smaller : goal.loop-used-smaller
loop-used-smaller c =
    let before = c.loop-used in
    fewer_unused before.used before.at (subst (λ n. before.at < n) (sym before.invariant.flags) before.invariant.low) c.loop-used-test.true

pub returns-clause-cycle : goal.returns-clause-cycle
returns-clause-cycle c =
    let done = c.loop-used in
    is_cycle c.args.next.now c.args.used.now done.used done.cycle.items c.args.first done.at c.requires.next c.requires.back c.requires.unused done.invariant c.loop-used-test.false

pub returns-clause-counted : goal.returns-clause-counted
returns-clause-counted c = c.loop-used.invariant.counted

pub returns-clause-begun : goal.returns-clause-begun
returns-clause-begun c =
    let done = c.loop-used in
    begun_used c.args.next.now c.args.used.now done.used done.cycle.items c.args.first done.at c.requires.next c.requires.back c.requires.unused done.invariant c.loop-used-test.false

pub returns-clause-back : goal.returns-clause-back
returns-clause-back c =
    let done = c.loop-used in
    used_back c.args.next.now c.args.used.now done.used done.cycle.items c.args.first done.at c.requires.next c.requires.back c.requires.unused done.invariant c.loop-used-test.false
