use Rattle.std.proofs.Common.{take}
use Rattle.std.specs.Prelude.{All, IsTrue}
use Rattle.overlay_base.specs.SegmentOf.{segments_of, winding_of}
use Rattle.overlay_base.specs.Windings.{is_valid}
use Rattle.overlay_intersections.specs.MarkOf.{marks_of}
use Rattle.overlay_snapping.specs.HotOf.{KnowsHot}
use Rattle.overlay_snapping.specs.steps.Batches.{ForCuts, IsCutSoFar}
use Rattle.overlay_snapping.proofs.laws.cuts.Added.{AreMarksFrom}
use Rattle.overlay_snapping.proofs.snap.batches.joined_pieces.Given as goal

abbrev pub invariant-loop-index : goal.invariant-loop-index
invariant-loop-index g l =
    let segments = segments_of l.segments.items in
    record {
      rest : AreMarksFrom segments l.index (marks_of g.I.OverlayInt.whole l.rest);
      known : KnowsHot segments l.finder;
      cut : ForCuts segments (λ on. IsCutSoFar on (take l.index segments) (segments_of l.pieces.items));
      valid : All (λ s. IsTrue (is_valid (winding_of s))) l.pieces.items;
    }
