use Rattle.std.proofs.Common.{arith}
use Rattle.std.proofs.lemmas.Grind.{common_steps}
use Rattle.polygons.proofs.contour_lines.is_shape_line.Goals as goal

pub returns-in-Some-shape : goal.returns-in-Some-shape
returns-in-Some-shape c = grind (arith, common_steps)
