use Rattle.std.proofs.Common.{◌≡◌}
use Rattle.overlay_base.specs.SegmentOf.{pairs_in}
use Rattle.overlay_snapping.specs.PointFinderOf.{points_of, points_in}
use Rattle.overlay_snapping.specs.steps.Recorded.{AreRecorded}
use Rattle.overlay_snapping.proofs.laws.closure.Movers.{AreMoversBelow}
use Rattle.overlay_snapping.proofs.snap.closure.collect_movers.Given as goal

abbrev pub invariant-loop-index : goal.invariant-loop-index
invariant-loop-index g l =
    record {
      movers : AreMoversBelow (pairs_in l.segments) (points_in l.fn.hot) l.index l.movers.items;
      recorded : AreRecorded (pairs_in l.segments) (points_in l.fn.hot) l.meetings;
      same : points_of l.hot ≡ points_of l.fn.hot;
    }
