use Rattle.std.proofs.Common.{length, ◌-◌, ◌≤◌, ◌+◌}
use Rattle.polygons.proofs.explain.common_start.Given as goal

abbrev pub invariant-loop-i : goal.invariant-loop-i
invariant-loop-i l = l.common ≤ l.i

abbrev pub decreases-loop-i : goal.decreases-loop-i
decreases-loop-i l = (length l.a - l.i) + (length l.b - l.j)
