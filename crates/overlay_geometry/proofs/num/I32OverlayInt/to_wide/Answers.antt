use Rattle.std.proofs.Common.{rules}
use Rattle.overlay_geometry.proofs.num.I32OverlayInt.to_wide.Goals as goal

pub returns : goal.returns
returns c = search rules
