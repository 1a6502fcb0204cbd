use Rattle.overlay_shapes.proofs.laws.JoinSteps.{AreJoinedBelow}
use Rattle.overlay_shapes.proofs.joins.joins_along.Given as goal

abbrev pub invariant-loop-index : goal.invariant-loop-index
invariant-loop-index l = AreJoinedBelow l.next l.index l.joins.items
