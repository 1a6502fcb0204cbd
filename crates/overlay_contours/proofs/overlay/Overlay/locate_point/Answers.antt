use Rattle.std.proofs.Common.{rules}
use Rattle.overlay_contours.proofs.overlay.Overlay.locate_point.Goals as goal

pub returns-in-Clip : goal.returns-in-Clip
returns-in-Clip g c = search rules
