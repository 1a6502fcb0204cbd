use Rattle.std.proofs.lemmas.Result.{IfOk-weaker}
use Rattle.overlay_c.specs.Regions.{IsMatrixOfRegions, IsMatrixOfRegionsAt}
use Rattle.overlay_c.proofs.RegionRelations.{matrix_at}
use Rattle.overlay_c.proofs.engine.Engine.region_matrix.Goals as goal

pub returns-clause-matrix : goal.returns-clause-matrix
returns-clause-matrix c =
    IfOk-weaker c.matrix_between.result (λ m. IsMatrixOfRegions c.index.result.now c.index-2.result.now m) (λ m. IsMatrixOfRegionsAt c.args.first c.args.second m c.args.self.now)
    (λ m is x y. matrix_at c.args.self.now.regions.items c.args.first c.args.second c.index.result.now c.index-2.result.now c.requires.first c.requires.second c.index.ensures c.index-2.ensures m is x y) c.matrix_between.ensures.matrix
