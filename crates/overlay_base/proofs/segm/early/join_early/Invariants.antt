use Rattle.std.proofs.Common.{All, IsTrue, drop}
use Rattle.overlay_base.specs.Windings.{is_valid}
use Rattle.overlay_base.specs.SegmentOf.{winding_of, segments_of}
use Rattle.overlay_base.proofs.laws.joins.Early.{IsKeptOf}
use Rattle.overlay_base.proofs.segm.early.join_early.Given as goal

abbrev pub invariant-loop-segment : goal.invariant-loop-segment
invariant-loop-segment g l = record {
  kept : IsKeptOf (segments_of l.segment-items) (drop l.segment-index (segments_of l.segment-items)) (segments_of l.kept.items);
  valid : All (λ s. IsTrue (is_valid (winding_of s))) l.kept.items;
}
