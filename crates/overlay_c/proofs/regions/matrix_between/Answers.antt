use Rattle.overlay_c.proofs.RegionRelations.{matrix_of_regions}
use Rattle.overlay_c.proofs.regions.matrix_between.Goals as goal

pub returns-in-Ok-clause-matrix : goal.returns-in-Ok-clause-matrix
returns-in-Ok-clause-matrix c = matrix_of_regions c.args.first.now c.args.second.now c.in-Ok.relation c.matrix_record.result c.matrix_record.ensures c.in-Ok.ensures.matrix
