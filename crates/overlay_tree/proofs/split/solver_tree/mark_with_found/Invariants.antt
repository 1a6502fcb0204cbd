use Rattle.std.proofs.Common.{◌≡◌, ◌++◌, take}
use Rattle.overlay_base.specs.Segments.{pairs}
use Rattle.overlay_base.specs.SegmentOf.{segments_of}
use Rattle.overlay_intersections.specs.PlacingOf.{placing_of}
use Rattle.overlay_intersections.specs.MarkOf.{marks_of}
use Rattle.overlay_tree.specs.steps.Swept.{marks_with_found, crosses_found}
use Rattle.overlay_tree.proofs.split.solver_tree.mark_with_found.Given as goal

abbrev pub invariant-loop-earlier : goal.invariant-loop-earlier
invariant-loop-earlier g l =
    (marks_of g.I.OverlayInt.whole l.marks.items ≡ marks_of g.I.OverlayInt.whole l.fn.marks.items ++ marks_with_found (placing_of l.placing) (pairs (segments_of l.segments)) l.index (take l.earlier-index l.found))
    × (l.rounded ≡ crosses_found (pairs (segments_of l.segments)) l.index (take l.earlier-index l.found))
