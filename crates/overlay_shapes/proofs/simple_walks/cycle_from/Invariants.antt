use Rattle.std.proofs.Common.{not}
use Rattle.std.specs.Prelude.{count_by}
use Rattle.overlay_shapes.proofs.laws.Cycles.{IsOnCycle}
use Rattle.overlay_shapes.proofs.simple_walks.cycle_from.Given as goal

abbrev pub invariant-loop-used : goal.invariant-loop-used
invariant-loop-used l = IsOnCycle l.next l.fn.used l.used l.cycle.items l.first l.at

abbrev pub decreases-loop-used : goal.decreases-loop-used
decreases-loop-used l = count_by not l.used
