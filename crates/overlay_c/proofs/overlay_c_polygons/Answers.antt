use Rattle.std.proofs.Common.{rules}
use Rattle.overlay_c.proofs.overlay_c_polygons.Goals as goal

pub returns-clause-done : goal.returns-clause-done
returns-clause-done c = search rules
