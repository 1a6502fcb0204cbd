use Rattle.std.proofs.Common.{◌≡◌, map, take, length}
use Rattle.overlay_base.specs.SegmentOf.{segments_of}
use Rattle.overlay_c.specs.Records.{line_told_by}
use Rattle.overlay_c.proofs.lines.write_records.Given as goal

abbrev pub invariant-loop-index : goal.invariant-loop-index
invariant-loop-index g l =
    (length l.out ≡ length l.segments) × (map line_told_by (take l.index l.out) ≡ segments_of (take l.index l.segments))
