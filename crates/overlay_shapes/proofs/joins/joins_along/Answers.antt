use Rattle.overlay_shapes.proofs.laws.JoinSteps.{none_joined, one_joined, all_joined}
use Rattle.overlay_shapes.proofs.joins.joins_along.Goals as goal

pub loop-index-init : goal.loop-index-init
loop-index-init c = rw c.new-joins.ensures.items (none_joined c.args.next.now)

pub loop-index-preserved : goal.loop-index-preserved
loop-index-preserved c = rw c.in_ok-push.ensures.items (one_joined c.args.next.now c.loop-index.index c.loop-index.joins.items c.loop-index.invariant)

pub returns-clause-joins : goal.returns-clause-joins
returns-clause-joins c = all_joined c.args.next.now c.loop-index.index c.loop-index.joins.items c.loop-index.invariant c.loop-index.auto.index-end c.loop-index-test.false
