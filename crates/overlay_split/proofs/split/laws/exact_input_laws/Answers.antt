use Rattle.overlay_split.proofs.laws.planar.ExactInputs.{exact_input_keeps_counts}
use Rattle.overlay_split.proofs.laws.planar.ExactAnswers.{exact_input_has_one_answer}
use Rattle.overlay_split.proofs.laws.planar.PlanarRuns.{exact_runs_agree}
use Rattle.overlay_split.proofs.split.laws.exact_input_laws.Goals as goal

pub returns-clause-counts : goal.returns-clause-counts
returns-clause-counts c = exact_input_keeps_counts

pub returns-clause-agree : goal.returns-clause-agree
returns-clause-agree c = exact_runs_agree

pub returns-clause-answer : goal.returns-clause-answer
returns-clause-answer c = exact_input_has_one_answer
