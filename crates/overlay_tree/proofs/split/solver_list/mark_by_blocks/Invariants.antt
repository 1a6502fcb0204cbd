use Rattle.std.proofs.Common.{◌<◌, ◌≤◌, ◌-◌}
use Rattle.overlay_base.specs.Segments.{pairs}
use Rattle.overlay_base.specs.SegmentOf.{segments_of}
use Rattle.overlay_intersections.specs.PlacingOf.{placing_of}
use Rattle.overlay_intersections.specs.MarkOf.{marks_of}
use Rattle.overlay_tree.proofs.laws.list.ListScans.{IsScanned}
use Rattle.overlay_tree.proofs.split.solver_list.mark_by_blocks.Given as goal

abbrev pub invariant-whole : goal.invariant-whole
invariant-whole g l = record {
  scan : IsScanned (placing_of l.placing) l.index (pairs (segments_of l.segments)) (marks_of g.I.OverlayInt.whole l.fn.marks.items) (marks_of g.I.OverlayInt.whole l.marks.items) l.rounded l.start l.from;
  after : l.index < l.from;
  within : l.from ≤ l.end;
}

abbrev pub decreases-whole : goal.decreases-whole
decreases-whole g l = l.end - l.from
