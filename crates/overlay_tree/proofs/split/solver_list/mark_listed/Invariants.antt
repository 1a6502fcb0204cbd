use Rattle.std.proofs.Common.{◌≡◌, ◌++◌, take}
use Rattle.overlay_base.specs.Segments.{pairs}
use Rattle.overlay_base.specs.SegmentOf.{segments_of}
use Rattle.overlay_intersections.specs.PlacingOf.{placing_of}
use Rattle.overlay_intersections.specs.MarkOf.{marks_of}
use Rattle.overlay_tree.specs.steps.ListScan.{marks_listed, crosses_listed}
use Rattle.overlay_tree.proofs.split.solver_list.mark_listed.Given as goal

abbrev pub invariant-loop-later : goal.invariant-loop-later
invariant-loop-later g l = record {
  marks : marks_of g.I.OverlayInt.whole l.marks.items ≡ marks_of g.I.OverlayInt.whole l.fn.marks.items ++ marks_listed (placing_of l.placing) (pairs (segments_of l.segments)) l.index (take l.later-index l.met);
  rounded : l.rounded ≡ crosses_listed (pairs (segments_of l.segments)) l.index (take l.later-index l.met);
}
