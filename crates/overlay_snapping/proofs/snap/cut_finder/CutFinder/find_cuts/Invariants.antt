use Rattle.overlay_base.specs.SegmentOf.{segments_of}
use Rattle.overlay_intersections.specs.MarkOf.{marks_of}
use Rattle.overlay_snapping.specs.HotOf.{KnowsHot}
use Rattle.overlay_snapping.proofs.laws.cuts.Added.{AreCutsBelow, AreMarksFrom}
use Rattle.overlay_snapping.proofs.snap.cut_finder.CutFinder.find_cuts.Given as goal

abbrev pub invariant-loop-index : goal.invariant-loop-index
invariant-loop-index g l =
    let whole = g.I.OverlayInt.whole in
    record {
      cuts : AreCutsBelow (segments_of l.segments) l.index (marks_of whole l.cuts.items);
      rest : AreMarksFrom (segments_of l.segments) l.index (marks_of whole l.rest);
      known : KnowsHot (segments_of l.segments) l.self;
    }
