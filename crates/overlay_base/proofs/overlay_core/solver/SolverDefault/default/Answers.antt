use Rattle.std.proofs.Common.{rules}
use Rattle.overlay_base.proofs.overlay_core.solver.SolverDefault.default.Goals as goal

pub returns : goal.returns
returns c = search rules
