use Rattle.std.proofs.Common.{rules}
use Rattle.overlay_geometry.proofs.geom.point.IntPoint.is_in_range.Goals as goal

pub returns-then-is_in_range : goal.returns-then-is_in_range
returns-then-is_in_range g c = search rules

pub returns-else-is_in_range : goal.returns-else-is_in_range
returns-else-is_in_range g c = search rules
