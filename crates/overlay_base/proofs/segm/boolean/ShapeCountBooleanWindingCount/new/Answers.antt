use Rattle.std.proofs.Common.{rules}
use Rattle.overlay_base.proofs.segm.boolean.ShapeCountBooleanWindingCount.new.Goals as goal

pub returns : goal.returns
returns c = search rules
