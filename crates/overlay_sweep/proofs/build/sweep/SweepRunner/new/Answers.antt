use Rattle.std.proofs.Common.{refl}
use Rattle.overlay_sweep.proofs.build.sweep.SweepRunner.new.Goals as goal

pub returns : goal.returns
returns g c = refl
