use Rattle.std.proofs.Common.{refl}
use Rattle.overlay_split.proofs.split.solver.SplitSolver.with_snap_limit.Goals as goal

pub returns-clause-limit : goal.returns-clause-limit
returns-clause-limit g c = refl
