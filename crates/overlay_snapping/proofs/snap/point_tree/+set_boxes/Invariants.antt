use Rattle.std.proofs.Common.{length}
use Rattle.overlay_snapping.proofs.snap.point_tree.+set_boxes.Given as goal

abbrev pub decreases-set_boxes : goal.decreases-set_boxes
decreases-set_boxes g l = length l.points.now
