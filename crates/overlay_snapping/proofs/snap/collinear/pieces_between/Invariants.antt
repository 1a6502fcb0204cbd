use Rattle.std.proofs.Common.{map, drop}
use Rattle.overlay_base.specs.SegmentOf.{segments_of}
use Rattle.overlay_snapping.specs.steps.LineWalks.{end_of, walk_of, CanGoOn}
use Rattle.overlay_snapping.proofs.laws.collinear.Walking.{IsWalked}
use Rattle.overlay_snapping.proofs.snap.collinear.pieces_between.Given as goal

abbrev pub invariant-loop-end : goal.invariant-loop-end
invariant-loop-end g l = record {
  walked : IsWalked (segments_of l.list) (drop l.end-index (map end_of l.end-items)) (walk_of l.walk);
  can_go_on : CanGoOn l.walk;
}
