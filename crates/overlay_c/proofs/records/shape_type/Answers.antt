use Rattle.std.proofs.Common.{rules}
use Rattle.overlay_c.proofs.records.shape_type.Goals as goal

pub returns-in-0 : goal.returns-in-0
returns-in-0 c = search rules

pub returns-in_default : goal.returns-in_default
returns-in_default c = search rules
