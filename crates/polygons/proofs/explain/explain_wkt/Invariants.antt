use Rattle.std.proofs.Common.{length, ◌-◌}
use Rattle.polygons.proofs.explain.explain_wkt.Given as goal

abbrev pub decreases-loop-start : goal.decreases-loop-start
decreases-loop-start l = length l.line - l.at
