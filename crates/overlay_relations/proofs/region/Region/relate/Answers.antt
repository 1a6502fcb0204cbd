use Rattle.overlay_relations.specs.Regions.{boundary_of}
use Rattle.overlay_relations.specs.steps.MatrixOutcomes.{IsBoundaryMatrix}
use Rattle.overlay_relations.proofs.region.Region.relate.Goals as goal

pub returns-clause-matrix : goal.returns-clause-matrix
returns-clause-matrix g c =
    let is : IsBoundaryMatrix (boundary_of c.args.self.now) (boundary_of c.args.other.now) c.in_ok-relation.relation = c.in_ok-relation.ensures.matrix in
    λ subject_rule clip_rule subject clip a b. is subject_rule clip_rule subject clip a b
