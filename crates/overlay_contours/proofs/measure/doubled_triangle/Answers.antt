use Rattle.std.proofs.Common.{rules}
use Rattle.overlay_contours.proofs.measure.doubled_triangle.Goals as goal

pub returns-clause-area : goal.returns-clause-area
returns-clause-area g c = search rules
