use Rattle.overlay_split.proofs.laws.paths.Potentials.{settling_lowers}
use Rattle.overlay_split.proofs.laws.paths.Runs.{run_ends}
use Rattle.overlay_split.proofs.laws.planar.PlanarRuns.{run_is_one}
use Rattle.overlay_split.proofs.split.laws.ending_laws.Goals as goal

pub returns-clause-settling : goal.returns-clause-settling
returns-clause-settling c = settling_lowers

pub returns-clause-ends : goal.returns-clause-ends
returns-clause-ends c = run_ends

pub returns-clause-one : goal.returns-clause-one
returns-clause-one c = run_is_one
