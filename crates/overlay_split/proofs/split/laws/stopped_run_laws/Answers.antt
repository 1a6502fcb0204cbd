use Rattle.overlay_split.proofs.laws.passes.StoppedRuns.{stopped_run_leaves_range, stopped_run_is_one}
use Rattle.overlay_split.proofs.split.laws.stopped_run_laws.Goals as goal

pub returns-clause-leaves_range : goal.returns-clause-leaves_range
returns-clause-leaves_range g c = stopped_run_leaves_range

pub returns-clause-one : goal.returns-clause-one
returns-clause-one g c = stopped_run_is_one
