use Rattle.std.proofs.Common.{◌≡◌, ◌++◌, map, drop}
use Rattle.overlay_base.specs.SegmentOf.{segments_of}
use Rattle.overlay_snapping.specs.steps.LineWalks.{end_of, ends_of_each}
use Rattle.overlay_snapping.proofs.snap.collinear.line_ends.Given as goal

abbrev pub invariant-loop-segment : goal.invariant-loop-segment
invariant-loop-segment g l = map end_of l.ends.items ++ ends_of_each (drop l.segment-index (segments_of l.list)) ≡ ends_of_each (segments_of l.list)
