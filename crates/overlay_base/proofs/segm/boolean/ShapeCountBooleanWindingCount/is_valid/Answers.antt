use Rattle.std.proofs.Common.{rules}
use Rattle.overlay_base.proofs.segm.boolean.ShapeCountBooleanWindingCount.is_valid.Goals as goal

pub returns-then-self-ne2147483648 : goal.returns-then-self-ne2147483648
returns-then-self-ne2147483648 c = search rules

pub returns-else-self-ne2147483648 : goal.returns-else-self-ne2147483648
returns-else-self-ne2147483648 c = search rules
