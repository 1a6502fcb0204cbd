use Rattle.std.proofs.Common.{◌≤◌, ◌-◌, length}
use Rattle.overlay_snapping.specs.steps.InOrder.{AreLeft}
use Rattle.overlay_snapping.proofs.snap.ordered_points.first_not_left.Given as goal

abbrev pub invariant-loop-place : goal.invariant-loop-place
invariant-loop-place g l = l.place ≤ length l.points

abbrev pub decreases-loop-place : goal.decreases-loop-place
decreases-loop-place g l = l.place

-- all points so far lie left
abbrev pub invariant-loop-place-2 : goal.invariant-loop-place-2
invariant-loop-place-2 g l = (l.place ≤ length l.points) × AreLeft g.I.OverlayInt.whole l.points l.place (g.I.OverlayInt.whole l.x)

abbrev pub decreases-loop-place-2 : goal.decreases-loop-place-2
decreases-loop-place-2 g l = length l.points - l.place
