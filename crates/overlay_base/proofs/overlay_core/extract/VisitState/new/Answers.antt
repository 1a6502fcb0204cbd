use Rattle.std.proofs.Common.{rules}
use Rattle.overlay_base.proofs.overlay_core.extract.VisitState.new.Goals as goal

pub returns-then-skipped : goal.returns-then-skipped
returns-then-skipped c = search rules

pub returns-else-skipped : goal.returns-else-skipped
returns-else-skipped c = search rules
