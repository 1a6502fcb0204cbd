use Rattle.std.proofs.Common.{rules}
use Rattle.overlay_contours.proofs.overlay.Overlay.clear.Goals as goal

pub returns-clause-clip : goal.returns-clause-clip
returns-clause-clip g c = search rules
