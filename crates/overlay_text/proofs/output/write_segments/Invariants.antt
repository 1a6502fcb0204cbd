use Rattle.std.proofs.Common.{◌≡◌, ◌++◌, take, string_bytes}
use Rattle.overlay_base.specs.SegmentOf.{segments_of}
use Rattle.overlay_text.specs.Output.{segment_lines}
use Rattle.overlay_text.proofs.output.write_segments.Given as goal

abbrev pub invariant-loop-segment : goal.invariant-loop-segment
invariant-loop-segment g l =
    string_bytes l.text ≡ string_bytes l.initial.text ++ segment_lines (segments_of (take l.segment-index l.segments))
