use Rattle.std.proofs.Common.{◌≡◌, ◌++◌, take}
use Rattle.overlay_snapping.proofs.snap.meetings.append.Given as goal

abbrev pub invariant-loop-point : goal.invariant-loop-point
invariant-loop-point g l = l.list.items ≡ l.fn.list.items ++ take l.point-index l.points
