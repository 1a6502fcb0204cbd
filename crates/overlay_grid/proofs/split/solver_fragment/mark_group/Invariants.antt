use Rattle.std.proofs.Common.{drop}
use Rattle.overlay_intersections.specs.PlacingOf.{placing_of}
use Rattle.overlay_intersections.specs.MarkOf.{marks_of}
use Rattle.overlay_grid.specs.FragmentOf.{fragments_of}
use Rattle.overlay_grid.proofs.laws.grid.FoundFragments.{IsSearched}
use Rattle.overlay_grid.proofs.split.solver_fragment.mark_group.Given as goal

abbrev pub invariant-loop-first : goal.invariant-loop-first
invariant-loop-first g l = IsSearched (placing_of l.placing) l.axis (fragments_of g.I.OverlayInt.whole l.group) (marks_of g.I.OverlayInt.whole l.fn.marks.items) (marks_of g.I.OverlayInt.whole l.marks.items) l.rounded l.fn.looked l.looked (drop l.first (fragments_of g.I.OverlayInt.whole l.group))
