use Rattle.overlay_relations.proofs.laws.SharedPoints.{boundaries_are_edges}
use Rattle.overlay_relations.proofs.contacts.laws.boundary_laws.Goals as goal

pub returns : goal.returns
returns c = boundaries_are_edges
