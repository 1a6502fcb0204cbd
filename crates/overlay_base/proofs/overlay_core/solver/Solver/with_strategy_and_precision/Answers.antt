use Rattle.std.proofs.Common.{rules}
use Rattle.overlay_base.proofs.overlay_core.solver.Solver.with_strategy_and_precision.Goals as goal

pub returns-clause-strategy : goal.returns-clause-strategy
returns-clause-strategy c = search rules
