use Rattle.std.proofs.Common.{◌≡◌, ◌++◌, drop, map}
use Rattle.overlay_grid.specs.FragmentOf.{fragments_of}
use Rattle.overlay_grid.specs.steps.FragmentFinder.{heights_at}
use Rattle.overlay_grid.proofs.split.fragment_buffer.push_right_ends.Given as goal

abbrev pub invariant-loop-index : goal.invariant-loop-index
invariant-loop-index g l =
    map g.I.OverlayInt.whole l.right_ends.items ++ heights_at (g.I.OverlayInt.whole l.x) (drop l.index (fragments_of g.I.OverlayInt.whole l.group))
    ≡ map g.I.OverlayInt.whole l.fn.right_ends.items ++ heights_at (g.I.OverlayInt.whole l.x) (fragments_of g.I.OverlayInt.whole l.group)
