use Rattle.std.proofs.Common.{◌+◌, ◌-◌, drop, length}
use Rattle.overlay_intersections.specs.PlacingOf.{placing_of}
use Rattle.overlay_intersections.specs.MarkOf.{marks_of}
use Rattle.overlay_grid.specs.FragmentOf.{fragment_of, fragments_of}
use Rattle.overlay_grid.proofs.laws.grid.FoundFragments.{IsScanned}
use Rattle.overlay_grid.proofs.split.solver_fragment.mark_with_rest.Given as goal

abbrev pub invariant-loop-later : goal.invariant-loop-later
invariant-loop-later g l =
    IsScanned (placing_of l.placing) l.axis (fragment_of g.I.OverlayInt.whole l.fragment) (drop (l.first + 1) (fragments_of g.I.OverlayInt.whole l.group)) (marks_of g.I.OverlayInt.whole l.fn.marks.items) (marks_of g.I.OverlayInt.whole l.marks.items) l.rounded l.fn.looked l.looked (drop l.later (fragments_of g.I.OverlayInt.whole l.group))

abbrev pub decreases-loop-later : goal.decreases-loop-later
decreases-loop-later g l = length l.group - l.later
