use Rattle.std.proofs.Common.{rules}
use Rattle.overlay_c.proofs.overlay_c_links.Goals as goal

pub returns-clause-copied : goal.returns-clause-copied
returns-clause-copied c = search rules
