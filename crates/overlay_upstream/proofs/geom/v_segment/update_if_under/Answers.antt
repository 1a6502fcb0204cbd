use Rattle.std.proofs.Common.{rules}
use Rattle.overlay_upstream.proofs.geom.v_segment.update_if_under.Goals as goal

pub returns-then-is_lowest-clause-lower : goal.returns-then-is_lowest-clause-lower
returns-then-is_lowest-clause-lower g c = search rules

pub returns-else-is_lowest-clause-lower : goal.returns-else-is_lowest-clause-lower
returns-else-is_lowest-clause-lower g c = search rules
