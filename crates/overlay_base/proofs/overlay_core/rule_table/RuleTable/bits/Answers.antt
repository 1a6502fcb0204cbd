use Rattle.std.proofs.Common.{rules}
use Rattle.overlay_base.proofs.overlay_core.rule_table.RuleTable.bits.Goals as goal

pub returns-clause-bits : goal.returns-clause-bits
returns-clause-bits c = search rules
