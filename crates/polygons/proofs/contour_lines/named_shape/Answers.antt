use Rattle.std.proofs.Common.{arith}
use Rattle.std.proofs.lemmas.Grind.{common_steps}
use Rattle.polygons.proofs.contour_lines.named_shape.Goals as goal

pub returns-in-contour : goal.returns-in-contour
returns-in-contour c = grind (arith, common_steps)
