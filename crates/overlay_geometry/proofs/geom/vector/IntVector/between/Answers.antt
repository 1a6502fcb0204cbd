use Rattle.std.proofs.Common.{ap₂, to_z-of_z, FitsSigned, w64}
use Rattle.std.specs.Prelude.{ℤ}
use Rattle.overlay_geometry.specs.Points.{Point}
use Rattle.overlay_geometry.proofs.geom.vector.IntVector.between.Goals as goal

pub returns : goal.returns
returns g c =
    let x_fit : FitsSigned w64 c.difference.result = record { sfits = c.difference.type_inv } in
    let y_fit : FitsSigned w64 c.difference-2.result = record { sfits = c.difference-2.type_inv } in
    let way : ℤ → ℤ → Point = λ x y. record { x = x; y = y } in
    simp to_z-of_z (ap₂ way c.difference.ensures.value c.difference-2.ensures.value)
