use Rattle.std.proofs.Common.{refl}
use Rattle.overlay_geometry.proofs.geom.id_point.IdPoint.new.Goals as goal

pub returns-clause-id : goal.returns-clause-id
returns-clause-id g c = refl

pub returns-clause-point : goal.returns-clause-point
returns-clause-point g c = refl
