use Rattle.std.proofs.Common.{◌∙◌, to_z-of_z, FitsSigned, w64}
use Rattle.std.proofs.Common.{ap₂}
use Rattle.overlay_geometry.specs.Points.{turn, cross_product}
use Rattle.overlay_geometry.proofs.geom.triangle.turn.Goals as goal

pub returns : goal.returns
unfolding turn
returns g c =
    let fit : FitsSigned w64 c.cross_product.result = record { sfits = c.cross_product.type_inv } in
    simp to_z-of_z (c.cross_product.ensures.value ∙ ap₂ cross_product c.between.ensures c.between-2.ensures)
