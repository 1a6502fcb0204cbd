use Rattle.std.proofs.Common.{◌≡◌, drop}
use Rattle.std.specs.List.{list_all}
use Rattle.overlay_base.specs.Segments.{pairs}
use Rattle.overlay_geometry.specs.Meeting.{are_apart}
use Rattle.overlay_geometry.specs.PairOf.{pair_of}
use Rattle.overlay_base.specs.SegmentOf.{segments_of}
use Rattle.overlay_base.proofs.segm.arranged.is_apart_from_all.Given as goal

abbrev pub invariant-loop-segment : goal.invariant-loop-segment
invariant-loop-segment g l =
    let all = pairs (segments_of l.later) in
    let target = pair_of g.I.OverlayInt.whole l.target in
    list_all (λ t. are_apart target t) (drop l.segment-index all) ≡ list_all (λ t. are_apart target t) all
