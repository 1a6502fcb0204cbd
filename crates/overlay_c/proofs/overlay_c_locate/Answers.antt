use Rattle.std.proofs.Common.{rules}
use Rattle.overlay_c.proofs.overlay_c_locate.Goals as goal

pub returns-clause-location : goal.returns-clause-location
returns-clause-location c = search rules
