use Rattle.std.proofs.Common.{rules}
use Rattle.polygons.proofs.run.contour_shape.Goals as goal

pub returns-else-is_among : goal.returns-else-is_among
returns-else-is_among c = search rules

pub returns-then-is_among : goal.returns-then-is_among
returns-then-is_among c = search rules
