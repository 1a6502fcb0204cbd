use Rattle.std.proofs.Common.{◌∙◌, ap₂, to_z-of_z, FitsSigned, w64}
use Rattle.overlay_geometry.specs.Points.{dot_product}
use Rattle.overlay_intersections.proofs.split.cross_solver.past.Goals as goal

pub returns : goal.returns
returns g c =
    let fit : FitsSigned w64 c.dot_product.result = record { sfits = c.dot_product.type_inv } in
    simp to_z-of_z (c.dot_product.ensures ∙ ap₂ dot_product c.between.ensures c.between-2.ensures)
