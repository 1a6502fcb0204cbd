use Rattle.std.proofs.Common.{List, length, ◌<◌}
use Rattle.std.specs.List.{AllByRecursion}
use Rattle.overlay_geometry.specs.Points.{Point, Pair}
use Rattle.overlay_base.specs.SegmentOf.{segments_of, pairs_in}
use Rattle.overlay_intersections.specs.MarkOf.{marks_of}
use Rattle.overlay_cuts.specs.CutOf.{AreMarksBy}
use Rattle.overlay_split.specs.steps.ChangedBoxes.{rects_of}
use Rattle.overlay_cuts.proofs.laws.passes.MarkBlocks.{AreRising}
use Rattle.overlay_split.proofs.laws.passes.AroundMarks.{AreAroundBut}
use Rattle.overlay_split.proofs.split.changed.boxes_around.Given as goal

abbrev pub invariant-loop-first : goal.invariant-loop-first
invariant-loop-first g l =
    let whole = g.I.OverlayInt.whole in
    record {
      rising : AreRising (marks_of whole l.rest);
      within : AllByRecursion (λ m. m.index < length l.segments) (marks_of whole l.rest);
      around : (on : Pair → List Point) → AreMarksBy on (segments_of l.segments) (marks_of whole l.fn.marks) → AreAroundBut on (pairs_in l.segments) (rects_of whole l.boxes.items) (marks_of whole l.rest);
    }

abbrev pub decreases-loop-first : goal.decreases-loop-first
decreases-loop-first g l = length l.rest
