use Rattle.std.proofs.Common.{◌≡◌, take}
use Rattle.overlay_base.specs.SegmentOf.{segments_of}
use Rattle.i_overlay.proofs.number_lists.keep_segments.Given as goal

abbrev pub invariant-loop-segment : goal.invariant-loop-segment
invariant-loop-segment g l = segments_of l.kept.items ≡ segments_of (take l.segment-index l.list)
