use Rattle.overlay_relations.proofs.laws.ExactRegions.{exact_boundaries_decide}
use Rattle.overlay_relations.proofs.predicates.laws.exact_laws.Goals as goal

pub returns : goal.returns
returns c = exact_boundaries_decide
