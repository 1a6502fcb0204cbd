use Rattle.std.proofs.Common.{rules}
use Rattle.overlay_base.proofs.overlay_core.rule_table.RuleTable.is_included.Goals as goal

pub returns : goal.returns
returns c = search rules
