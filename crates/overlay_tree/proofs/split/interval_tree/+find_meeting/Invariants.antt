use Rattle.std.proofs.Common.{◌+◌, ◌*◌, length}
use Rattle.overlay_tree.proofs.split.interval_tree.+find_meeting.Given as goal

abbrev pub decreases-find_meeting : goal.decreases-find_meeting
decreases-find_meeting g l = 2 * length l.nodes.now + 1

abbrev pub decreases-find_in_subtree : goal.decreases-find_in_subtree
decreases-find_in_subtree g l = 2 * length l.nodes.now
