use Rattle.std.proofs.Common.{rules}
use Rattle.overlay_base.proofs.segm.winding.WindingCount.direct_count.Goals as goal

pub returns-in-Subject : goal.returns-in-Subject
returns-in-Subject g c = search rules
