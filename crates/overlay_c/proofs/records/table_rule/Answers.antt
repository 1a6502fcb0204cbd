use Rattle.std.proofs.Common.{rules}
use Rattle.overlay_c.proofs.records.table_rule.Goals as goal

pub returns-in-None : goal.returns-in-None
returns-in-None c = search rules
