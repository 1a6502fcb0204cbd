use Rattle.std.proofs.Common.{◌∙◌, ap, to_z-of_z, FitsSigned, w64, ◌+◌}
use Rattle.std.specs.Prelude.{pos}
use Rattle.overlay_geometry.specs.Points.{Point, sqr_distance, squared}
use Rattle.overlay_geometry.proofs.geom.point.IntPoint.sqr_distance.Goals as goal

pub returns : goal.returns
unfolding sqr_distance
returns g c =
    let fit : FitsSigned w64 c.sqr_length.result = record { sfits = c.sqr_length.type_inv } in
    simp to_z-of_z (c.sqr_length.ensures ∙ ap (λ (v : Point). pos (squared v.x + squared v.y)) c.between.ensures)
