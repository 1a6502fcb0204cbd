use Rattle.std.proofs.Common.{length}
use Rattle.overlay_snapping.proofs.snap.point_tree.+append_met_among.Given as goal

abbrev pub decreases-append_met_among : goal.decreases-append_met_among
decreases-append_met_among g l = length l.points.now
