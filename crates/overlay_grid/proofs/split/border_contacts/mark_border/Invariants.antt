use Rattle.std.proofs.Common.{drop, map}
use Rattle.overlay_intersections.specs.MarkOf.{marks_of}
use Rattle.overlay_grid.specs.FragmentOf.{fragments_of}
use Rattle.overlay_grid.proofs.laws.grid.BorderMarks.{IsBorderSeen}
use Rattle.overlay_grid.proofs.split.border_contacts.mark_border.Given as goal

abbrev pub invariant-loop-index : goal.invariant-loop-index
invariant-loop-index g l = IsBorderSeen (g.I.OverlayInt.whole l.border) (map g.I.OverlayInt.whole l.right_ends) (fragments_of g.I.OverlayInt.whole l.group) (marks_of g.I.OverlayInt.whole l.fn.marks.items) (marks_of g.I.OverlayInt.whole l.marks.items) l.fn.looked l.looked (drop l.index (fragments_of g.I.OverlayInt.whole l.group))
