use Rattle.std.proofs.Common.{rules}
use Rattle.overlay_contours.proofs.overlay.Overlay.set_rounding.Goals as goal

pub returns-clause-rounding : goal.returns-clause-rounding
returns-clause-rounding g c = search rules
