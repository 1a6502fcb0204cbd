use Rattle.std.proofs.Common.{length}
use Rattle.overlay_tree.proofs.split.interval_tree.+sum_up.Given as goal

abbrev pub decreases-sum_up : goal.decreases-sum_up
decreases-sum_up g l = length l.nodes.now
