use Rattle.std.proofs.Common.{rules}
use Rattle.overlay_base.proofs.overlay_core.fill_rule.FillRuleDisplay.fmt.Goals as goal

pub returns-clause-writes : goal.returns-clause-writes
returns-clause-writes g c = search rules
