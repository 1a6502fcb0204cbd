use Rattle.std.proofs.Common.{◌≡◌, ◌++◌, take}
use Rattle.overlay_intersections.specs.PlacingOf.{placing_of}
use Rattle.overlay_intersections.specs.MarkOf.{marks_of}
use Rattle.overlay_grid.specs.FragmentOf.{fragment_of, fragments_of}
use Rattle.overlay_grid.specs.steps.FragmentFinder.{marks_with_places, is_rounded_at}
use Rattle.overlay_grid.proofs.split.solver_fragment.mark_found.Given as goal

abbrev pub invariant-loop-index : goal.invariant-loop-index
invariant-loop-index g l = record {
  marks : marks_of g.I.OverlayInt.whole l.marks.items ≡ marks_of g.I.OverlayInt.whole l.fn.marks.items ++ marks_with_places (placing_of l.placing) (fragment_of g.I.OverlayInt.whole l.fragment) (fragments_of g.I.OverlayInt.whole l.group) (take l.index l.found);
  rounded : l.rounded ≡ is_rounded_at (fragment_of g.I.OverlayInt.whole l.fragment) (fragments_of g.I.OverlayInt.whole l.group) (take l.index l.found);
}
