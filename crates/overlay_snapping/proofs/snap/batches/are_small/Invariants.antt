use Rattle.std.proofs.Common.{◌<◌, ◌≤◌, ◌+◌, ◌^◌, drop}
use Rattle.overlay_base.specs.SegmentOf.{segments_of}
use Rattle.overlay_base.specs.steps.Early.{magnitudes}
use Rattle.overlay_snapping.proofs.snap.batches.are_small.Given as goal

abbrev pub invariant-loop-segment : goal.invariant-loop-segment
invariant-loop-segment g l = l.sum < 2 ^ 31 → magnitudes (segments_of l.list) ≤ l.sum + magnitudes (drop l.segment-index (segments_of l.list))
