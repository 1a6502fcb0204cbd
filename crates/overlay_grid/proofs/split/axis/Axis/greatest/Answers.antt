use Rattle.std.proofs.Common.{refl}
use Rattle.overlay_grid.proofs.split.axis.Axis.greatest.Goals as goal

pub returns-in-X : goal.returns-in-X
returns-in-X g c = rw c.in-X.is refl

pub returns-in-Y : goal.returns-in-Y
returns-in-Y g c = rw c.in-Y.is refl
