use Rattle.std.proofs.Common.{List, length}
use Rattle.overlay_geometry.specs.Points.{Point, Pair}
use Rattle.overlay_base.specs.EdgeData.{IsMadeFrom}
use Rattle.overlay_base.specs.HooksOf.{hooks_of}
use Rattle.overlay_base.specs.SegmentOf.{segments_of, data_segments_of}
use Rattle.overlay_intersections.specs.MarkOf.{marks_of}
use Rattle.overlay_cuts.specs.CutOf.{AreMarksBy}
use Rattle.overlay_cuts.proofs.laws.passes.CutWalks.{IsCutSoFar}
use Rattle.overlay_cuts.proofs.split.pass.cut_at.Given as goal

abbrev pub invariant-loop-first : goal.invariant-loop-first
invariant-loop-first g l =
    let hooks = hooks_of g.C.WindingCount.counted g.D.OverlayEdgeData in
    let whole = g.I.OverlayInt.whole in
    let items = l.fn.list.items in
    record {
      cut : (on : Pair → List Point) → AreMarksBy on (segments_of items) (marks_of whole l.fn.marks) → IsCutSoFar hooks on (data_segments_of items) l.fn.store (marks_of whole l.rest) (data_segments_of l.list.items) l.store;
      made : IsMadeFrom hooks l.fn.store l.store;
    }

abbrev pub decreases-loop-first : goal.decreases-loop-first
decreases-loop-first g l = length l.rest
