use Rattle.std.proofs.Common.{◌≡◌, ◌++◌, drop}
use Rattle.overlay_base.specs.BalanceTest.{end_counts}
use Rattle.overlay_base.specs.SegmentOf.{segments_of}
use Rattle.overlay_base.specs.EndCountOf.{end_counts_of}
use Rattle.overlay_base.proofs.segm.balance.end_counts.Given as goal

abbrev pub invariant-loop-segment : goal.invariant-loop-segment
invariant-loop-segment g l = end_counts_of g.I.OverlayInt.whole l.ends.items ++ end_counts (drop l.segment-index (segments_of l.segments)) ≡ end_counts (segments_of l.segments)
