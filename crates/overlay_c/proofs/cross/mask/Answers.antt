use Rattle.std.proofs.Common.{rules}
use Rattle.overlay_c.proofs.cross.mask.Goals as goal

pub returns-in-Overlay : goal.returns-in-Overlay
returns-in-Overlay c = search rules
