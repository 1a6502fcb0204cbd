use Rattle.std.proofs.Common.{◌∙◌, ap₂, to_z-of_z, FitsSigned, w64}
use Rattle.overlay_geometry.specs.Points.{turn, cross_product}
use Rattle.overlay_intersections.proofs.split.cross.crossing_point.crossing_d.Goals as goal

pub returns-clause-value : goal.returns-clause-value
unfolding turn
returns-clause-value g c =
    let fit : FitsSigned w64 c.cross_product.result = record { sfits = c.cross_product.type_inv } in
    simp to_z-of_z (c.cross_product.ensures.value ∙ ap₂ cross_product c.between.ensures c.between-2.ensures)
