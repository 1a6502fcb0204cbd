use Rattle.std.proofs.Common.{refl}
use Rattle.overlay_base.proofs.segm.segment.Segment.x_segment.Goals as goal

pub returns : goal.returns
returns g c = refl
