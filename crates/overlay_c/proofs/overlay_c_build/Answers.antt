use Rattle.std.proofs.Common.{rules}
use Rattle.overlay_c.proofs.overlay_c_build.Goals as goal

pub returns-clause-done : goal.returns-clause-done
returns-clause-done c = search rules

pub returns-clause-no_links : goal.returns-clause-no_links
returns-clause-no_links c = search rules
