use Rattle.std.proofs.Common.{◌≤◌}
use Rattle.std.specs.Prelude.{IfSome}
use Rattle.overlay_base.specs.Segments.{pairs}
use Rattle.overlay_base.specs.SegmentOf.{segments_of}
use Rattle.overlay_intersections.specs.PlacingOf.{placing_of}
use Rattle.overlay_intersections.specs.MarkOf.{marks_of}
use Rattle.overlay_tree.specs.steps.NodeOf.{tree_nodes}
use Rattle.overlay_tree.specs.steps.TreeSweep.{IsUnderWay}
use Rattle.overlay_tree.proofs.laws.tree.SweptMarks.{IsMarked}
use Rattle.overlay_tree.proofs.split.solver_tree.find_marks_up_to.Given as goal

abbrev pub invariant-loop-index : goal.invariant-loop-index
invariant-loop-index g l = record {
  way : IsUnderWay (pairs (segments_of l.segments)) (tree_nodes g.I.OverlayInt.whole l.nodes.items) l.fn.looked l.looked l.index l.until;
  marked : IsMarked (placing_of l.placing) (pairs (segments_of l.segments)) (marks_of g.I.OverlayInt.whole l.marks.items) l.rounded l.index;
  within : IfSome l.limit (λ most. l.looked ≤ most);
}
