use Rattle.std.proofs.Common.{◌≡◌, map, take, true}
use Rattle.std.specs.List.{list_all}
use Rattle.overlay_base.specs.SegmentOf.{segments_of}
use Rattle.overlay_c.specs.Records.{asks, asked_by}
use Rattle.overlay_c.proofs.cores.load.Given as goal

abbrev pub invariant-loop-given : goal.invariant-loop-given
invariant-loop-given g l =
    (list_all (asks (g.I.OverlayInt.whole g.I.OverlayInt.MIN_COORD) (g.I.OverlayInt.whole g.I.OverlayInt.MAX_COORD)) (take l.given-index l.records) ≡ true)
    × (segments_of l.list.items ≡ map asked_by (take l.given-index l.records))
