use Rattle.std.proofs.Common.{rules}
use Rattle.overlay_contours.proofs.overlay.Overlay.overlay_by_rules.Goals as goal

pub returns-clause-splitting : goal.returns-clause-splitting
returns-clause-splitting g c = search rules
