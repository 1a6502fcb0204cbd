use Rattle.std.proofs.Common.{◌<◌, IsTrue}
use Rattle.overlay_base.specs.Join.{has_equal_pairs}
use Rattle.overlay_base.specs.SegmentOf.{segments_of}
use Rattle.overlay_base.proofs.segm.early.are_many_equal.Given as goal

abbrev pub invariant-loop-index : goal.invariant-loop-index
invariant-loop-index g l = 0 < l.equal → IsTrue (has_equal_pairs (segments_of l.list))
