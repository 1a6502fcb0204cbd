use Rattle.std.proofs.Common.{◌≤◌, length}
use Rattle.overlay_snapping.proofs.snap.point_grid.PointGrid.is_in_slot.Given as goal

abbrev pub invariant-loop-at : goal.invariant-loop-at
invariant-loop-at g l = l.at ≤ length l.self.points.items

abbrev pub decreases-loop-at : goal.decreases-loop-at
decreases-loop-at g l = l.at
