use Rattle.std.proofs.Common.{drop, map}
use Rattle.overlay_intersections.specs.MarkOf.{marks_of}
use Rattle.overlay_grid.specs.FragmentOf.{fragment_of}
use Rattle.overlay_grid.proofs.laws.grid.BorderMarks.{AreHeightsSeen}
use Rattle.overlay_grid.proofs.split.border_contacts.mark_heights.Given as goal

abbrev pub invariant-loop-place : goal.invariant-loop-place
invariant-loop-place g l = AreHeightsSeen (fragment_of g.I.OverlayInt.whole l.vertical) (map g.I.OverlayInt.whole l.heights) (marks_of g.I.OverlayInt.whole l.fn.marks.items) (marks_of g.I.OverlayInt.whole l.marks.items) l.fn.looked l.looked (drop l.place (map g.I.OverlayInt.whole l.heights))
