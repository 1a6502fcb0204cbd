use Rattle.std.proofs.Common.{arith}
use Rattle.std.proofs.lemmas.Grind.{common_steps}
use Rattle.polygons.proofs.contour_output.write_report.Goals as goal

pub returns-in_ok-writeln-2 : goal.returns-in_ok-writeln-2
returns-in_ok-writeln-2 g c = grind (arith, common_steps)
