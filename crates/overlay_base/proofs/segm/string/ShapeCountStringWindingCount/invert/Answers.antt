use Rattle.std.proofs.Common.{arith}
use Rattle.std.proofs.lemmas.Grind.{common_steps}
use Rattle.overlay_base.proofs.segm.string.ShapeCountStringWindingCount.invert.Goals as goal

pub returns : goal.returns
returns c = grind (arith, common_steps)
