use Rattle.std.proofs.Common.{rules}
use Rattle.overlay_base.proofs.overlay_core.snap_radius.SnapRadius.increment.Goals as goal

pub returns-clause-exponent : goal.returns-clause-exponent
returns-clause-exponent c = search rules
