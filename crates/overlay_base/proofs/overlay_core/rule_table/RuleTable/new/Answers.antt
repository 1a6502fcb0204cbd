use Rattle.std.proofs.Common.{rules}
use Rattle.overlay_base.proofs.overlay_core.rule_table.RuleTable.new.Goals as goal

pub returns-then-bits-lt16 : goal.returns-then-bits-lt16
returns-then-bits-lt16 c = search rules

pub returns-else-bits-lt16 : goal.returns-else-bits-lt16
returns-else-bits-lt16 c = search rules
