use Rattle.overlay_relations.proofs.laws.CrossingParts.{crossing_boundaries_meet_all}
use Rattle.overlay_relations.proofs.laws.Matrices.{matrix_by_regions}
use Rattle.overlay_relations.proofs.contacts.laws.matrix_laws.Goals as goal

pub returns-clause-regions : goal.returns-clause-regions
returns-clause-regions c = matrix_by_regions

pub returns-clause-crossings : goal.returns-clause-crossings
returns-clause-crossings c = crossing_boundaries_meet_all
