use Rattle.std.proofs.Common.{rules}
use Rattle.overlay_base.proofs.segm.boolean.ShapeCountBooleanWindingCount.add.Goals as goal

pub returns-in-Some-Some-clause-in_range : goal.returns-in-Some-Some-clause-in_range
returns-in-Some-Some-clause-in_range c = search rules

pub returns-in_default-4-clause-in_range : goal.returns-in_default-4-clause-in_range
returns-in_default-4-clause-in_range c = search rules
