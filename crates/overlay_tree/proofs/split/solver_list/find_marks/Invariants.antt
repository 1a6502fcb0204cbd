use Rattle.overlay_base.specs.Segments.{pairs}
use Rattle.overlay_base.specs.SegmentOf.{segments_of}
use Rattle.overlay_intersections.specs.PlacingOf.{placing_of}
use Rattle.overlay_intersections.specs.MarkOf.{marks_of}
use Rattle.overlay_tree.proofs.laws.list.ListLooks.{AreWalking}
use Rattle.overlay_tree.proofs.split.solver_list.find_marks.Given as goal

abbrev pub invariant-loop-index : goal.invariant-loop-index
invariant-loop-index g l = AreWalking (placing_of l.placing) (pairs (segments_of l.segments)) (marks_of g.I.OverlayInt.whole l.marks.items) l.rounded l.fn.looked l.looked l.index
