use Rattle.std.proofs.Common.{drop}
use Rattle.overlay_grid.specs.FragmentOf.{fragments_of}
use Rattle.overlay_grid.proofs.laws.grid.GridReach.{IsCovering}
use Rattle.overlay_grid.proofs.split.reach.reached_in_group_at_most.Given as goal

abbrev pub invariant-loop-first : goal.invariant-loop-first
invariant-loop-first g l = let fs = fragments_of g.I.OverlayInt.whole l.group in IsCovering l.axis fs l.count (drop l.first fs)
