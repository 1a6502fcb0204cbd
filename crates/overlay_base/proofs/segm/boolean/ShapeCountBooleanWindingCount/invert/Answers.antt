use Rattle.std.proofs.Common.{rules}
use Rattle.overlay_base.proofs.segm.boolean.ShapeCountBooleanWindingCount.invert.Goals as goal

pub returns : goal.returns
returns c = search rules
