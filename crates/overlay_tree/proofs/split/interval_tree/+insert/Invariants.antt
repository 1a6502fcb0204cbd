use Rattle.std.proofs.Common.{length}
use Rattle.overlay_tree.proofs.split.interval_tree.+insert.Given as goal

abbrev pub decreases-insert : goal.decreases-insert
decreases-insert g l = length l.nodes.now
