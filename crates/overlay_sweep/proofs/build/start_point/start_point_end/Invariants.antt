use Rattle.std.proofs.Common.{◌≡◌, ℕ, ◌-◌, ◌<◌, ◌≤◌, length, get_or}
use Rattle.overlay_geometry.specs.Points.{Pair}
use Rattle.overlay_base.specs.Segments.{pairs}
use Rattle.overlay_geometry.specs.PointOf.{point_of}
use Rattle.overlay_base.specs.SegmentOf.{segments_of}
use Rattle.overlay_sweep.proofs.build.start_point.start_point_end.Given as goal

abbrev pub invariant-loop-next : goal.invariant-loop-next
invariant-loop-next g l = (l.index < l.next) × (l.next ≤ length l.segments)
    × ((k : ℕ) (d : Pair) → l.index ≤ k → k < l.next → (get_or (pairs (segments_of l.segments)) k d).a ≡ point_of g.I.OverlayInt.whole l.start)

abbrev pub decreases-loop-next : goal.decreases-loop-next
decreases-loop-next g l = length l.segments - l.next
