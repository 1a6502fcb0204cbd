use Rattle.std.proofs.Common.{refl}
use Rattle.overlay_geometry.proofs.geom.point.IntPoint.new.Goals as goal

pub returns : goal.returns
returns g c = refl
