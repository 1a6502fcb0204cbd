use Rattle.std.proofs.Common.{rules}
use Rattle.overlay_base.proofs.segm.boolean.ShapeCountBooleanWindingCount.numbers.Goals as goal

pub returns-clause-subj : goal.returns-clause-subj
returns-clause-subj c = search rules
