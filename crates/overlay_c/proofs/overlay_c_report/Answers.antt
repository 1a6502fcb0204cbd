use Rattle.std.proofs.Common.{rules}
use Rattle.overlay_c.proofs.overlay_c_report.Goals as goal

pub returns-clause-reach : goal.returns-clause-reach
returns-clause-reach c = search rules
