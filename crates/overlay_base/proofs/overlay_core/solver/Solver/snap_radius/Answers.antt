use Rattle.std.proofs.Common.{rules}
use Rattle.overlay_base.proofs.overlay_core.solver.Solver.snap_radius.Goals as goal

pub returns-clause-exponent : goal.returns-clause-exponent
returns-clause-exponent c = search rules

pub returns-clause-step : goal.returns-clause-step
returns-clause-step c = search rules
