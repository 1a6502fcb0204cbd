use Rattle.std.proofs.Common.{◌≡◌, drop}
use Rattle.std.specs.List.{list_all}
use Rattle.overlay_base.specs.SegmentOf.{segments_of}
use Rattle.overlay_base.proofs.laws.joins.Rests.{is_usable}
use Rattle.overlay_base.proofs.segm.arranged.is_splittable.Given as goal

abbrev pub invariant-loop-segment : goal.invariant-loop-segment
invariant-loop-segment g l =
    let least = g.I.OverlayInt.whole g.I.OverlayInt.MIN_COORD in
    let greatest = g.I.OverlayInt.whole g.I.OverlayInt.MAX_COORD in
    list_all (is_usable least greatest) (drop l.segment-index (segments_of l.segments)) ≡ list_all (is_usable least greatest) (segments_of l.segments)
