use Rattle.overlay_relations.proofs.laws.CrossingEdges.{crossing_boundaries_meet}
use Rattle.overlay_relations.proofs.laws.CrossingParts.{inexact_boundaries_cross}
use Rattle.overlay_relations.proofs.predicates.laws.crossing_laws.Goals as goal

pub returns-clause-meet : goal.returns-clause-meet
returns-clause-meet c = crossing_boundaries_meet

pub returns-clause-cross : goal.returns-clause-cross
returns-clause-cross c = inexact_boundaries_cross
