use Rattle.std.proofs.Common.{rules}
use Rattle.overlay_base.proofs.segm.winding.WindingCount.invert_count.Goals as goal

pub returns-in-Clip : goal.returns-in-Clip
returns-in-Clip g c = search rules
