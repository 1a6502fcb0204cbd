use Rattle.std.proofs.Common.{◌≡◌, map, take, length}
use Rattle.overlay_base.specs.SegmentOf.{segments_of}
use Rattle.overlay_base.specs.Segments.{pairs}
use Rattle.overlay_c.specs.Records.{link_by}
use Rattle.overlay_c.proofs.records.write_filled.Given as goal

abbrev pub invariant-loop-index : goal.invariant-loop-index
invariant-loop-index g l =
    (length l.out ≡ length l.segments)
    × (map (λ r. (link_by r).pair) (take l.index l.out) ≡ pairs (segments_of (take l.index l.segments)))
    × (map (λ r. r.fill) (take l.index l.out) ≡ take l.index l.fills)
