use Rattle.std.proofs.Common.{rules}
use Rattle.overlay_base.proofs.overlay_core.overlay_rule.OverlayRuleDisplay.fmt.Goals as goal

pub returns-in-Table-clause-writes : goal.returns-in-Table-clause-writes
returns-in-Table-clause-writes g c = search rules
