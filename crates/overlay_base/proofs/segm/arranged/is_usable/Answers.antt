use Rattle.std.proofs.Common.{rules}
use Rattle.overlay_base.proofs.segm.arranged.is_usable.Goals as goal

pub returns-then-is_valid : goal.returns-then-is_valid
returns-then-is_valid g c = search rules

pub returns-else-is_valid : goal.returns-else-is_valid
returns-else-is_valid g c = search rules
