use Rattle.std.proofs.Common.{arith}
use Rattle.overlay_snapping.proofs.snap.point_tree.PointTree.points.Goals as goal

pub returns : goal.returns
returns g c = grind arith
