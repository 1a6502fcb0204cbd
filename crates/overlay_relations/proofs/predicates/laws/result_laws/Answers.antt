use Rattle.overlay_relations.proofs.laws.ExactResults.{results_cross_exactly}
use Rattle.overlay_relations.proofs.predicates.laws.result_laws.Goals as goal

pub returns : goal.returns
returns c = results_cross_exactly
