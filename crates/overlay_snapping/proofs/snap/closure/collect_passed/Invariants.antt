use Rattle.std.proofs.Common.{◌≡◌, map, take}
use Rattle.overlay_geometry.specs.PointOf.{point_of}
use Rattle.overlay_base.specs.SegmentOf.{pairs_in}
use Rattle.overlay_snapping.specs.PointFinderOf.{points_of, points_in}
use Rattle.overlay_snapping.specs.steps.Closing.{ArePassedBy}
use Rattle.overlay_snapping.proofs.snap.closure.collect_passed.Given as goal

-- what the movers so far pass by
abbrev pub invariant-loop-index : goal.invariant-loop-index
invariant-loop-index g l =
    let whole = g.I.OverlayInt.whole in
    record {
      passed : ArePassedBy (pairs_in l.segments) (points_in l.fn.points) (take l.index-index l.movers) (map (point_of whole) l.passed.items);
      same : points_of l.points ≡ points_of l.fn.points;
    }
