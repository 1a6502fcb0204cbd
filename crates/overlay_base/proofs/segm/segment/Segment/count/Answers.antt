use Rattle.std.proofs.Common.{refl}
use Rattle.overlay_base.proofs.segm.segment.Segment.count.Goals as goal

pub returns : goal.returns
returns g c = refl
