use Rattle.std.proofs.Common.{rules}
use Rattle.overlay_base.proofs.segm.string.ShapeCountStringWindingCount.new.Goals as goal

pub returns-in-Greater : goal.returns-in-Greater
returns-in-Greater c = search rules

pub returns-in-Less : goal.returns-in-Less
returns-in-Less c = search rules
