use Rattle.std.proofs.Common.{◌∙◌, ap₂}
use Rattle.overlay_geometry.specs.Points.{turn, cross_product}
use Rattle.overlay_snapping.specs.Pixels.{is_narrow}
use Rattle.overlay_snapping.proofs.snap.pixel.is_near_line.Goals as goal

pub returns : goal.returns
unfolding turn
returns g c = c.is_narrow.ensures ∙ ap₂ (λ v w. is_narrow v (cross_product v w)) c.between-way.ensures c.between.ensures
