use Rattle.std.proofs.Common.{rules}
use Rattle.overlay_c.proofs.width.is_narrow.Goals as goal

pub returns : goal.returns
returns c = search rules
