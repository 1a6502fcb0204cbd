use Rattle.std.proofs.Common.{rules}
use Rattle.overlay_contours.proofs.arrangement.Arrangement.passes.Goals as goal

pub returns : goal.returns
returns g c = search rules
