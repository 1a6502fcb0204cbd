use Rattle.std.proofs.Common.{rules}
use Rattle.overlay_base.proofs.segm.boolean.ShapeCountBooleanWindingCount.is_not_empty.Goals as goal

pub returns-then-self-ne0 : goal.returns-then-self-ne0
returns-then-self-ne0 c = search rules

pub returns-else-self-ne0 : goal.returns-else-self-ne0
returns-else-self-ne0 c = search rules
