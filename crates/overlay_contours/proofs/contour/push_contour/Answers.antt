use Rattle.std.proofs.Common.{arith}
use Rattle.std.proofs.lemmas.Grind.{common_steps}
use Rattle.overlay_contours.proofs.contour.push_contour.Goals as goal

pub returns-clause-sides : goal.returns-clause-sides
returns-clause-sides g c = grind (arith, common_steps)

pub returns-in_default-clause-sides : goal.returns-in_default-clause-sides
returns-in_default-clause-sides g c = grind (arith, common_steps)

pub loop-point-preserved : goal.loop-point-preserved
loop-point-preserved g c = grind (arith, common_steps)
