use Rattle.std.proofs.Common.{rules}
use Rattle.overlay_shapes.proofs.ray.Ray.cmp_around.Goals as goal

pub returns-in-true-false : goal.returns-in-true-false
returns-in-true-false g c = search rules
