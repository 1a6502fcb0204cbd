use Rattle.std.proofs.Common.{rules}
use Rattle.overlay_c.proofs.records.rounding.Goals as goal

pub returns-in-0 : goal.returns-in-0
returns-in-0 c = search rules
