use Rattle.std.proofs.Common.{◌≡◌, ◌==◌, drop}
use Rattle.std.specs.List.{list_all}
use Rattle.overlay_base.specs.SegmentOf.{segments_of}
use Rattle.overlay_snapping.proofs.snap.collinear.has_some_mask.Given as goal

abbrev pub invariant-loop-segment : goal.invariant-loop-segment
invariant-loop-segment g l = list_all (λ s. s.count.mask == 0) (drop l.segment-index (segments_of l.list)) ≡ list_all (λ s. s.count.mask == 0) (segments_of l.list)
