use Rattle.overlay_base.specs.SegmentOf.{pairs_in}
use Rattle.overlay_tree.proofs.laws.list.ListReach.{AreWithin}
use Rattle.overlay_tree.proofs.split.solver_list.are_few_in_reach.Given as goal

abbrev pub invariant-loop-index : goal.invariant-loop-index
invariant-loop-index g l = AreWithin (pairs_in l.segments) l.most l.left l.index
