use Rattle.std.proofs.Common.{◌≡◌, take, true}
use Rattle.std.specs.List.{list_all}
use Rattle.overlay_base.specs.SegmentOf.{data_segments_of}
use Rattle.overlay_c.specs.Records.{asks}
use Rattle.overlay_c.specs.Tags.{tagged_by}
use Rattle.overlay_c.proofs.tags.load.Given as goal

abbrev pub invariant-loop-given : goal.invariant-loop-given
invariant-loop-given g l =
    (list_all (λ r. asks (g.I.OverlayInt.whole g.I.OverlayInt.MIN_COORD) (g.I.OverlayInt.whole g.I.OverlayInt.MAX_COORD) r.segment) (take l.given-index l.records) ≡ true)
    × (data_segments_of l.list.items ≡ tagged_by (take l.given-index l.records))
