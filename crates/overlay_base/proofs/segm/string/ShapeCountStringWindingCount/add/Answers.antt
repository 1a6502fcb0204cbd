use Rattle.std.proofs.Common.{rules}
use Rattle.overlay_base.proofs.segm.string.ShapeCountStringWindingCount.add.Goals as goal

pub returns-in-Some-clause-sum : goal.returns-in-Some-clause-sum
returns-in-Some-clause-sum c = search rules
