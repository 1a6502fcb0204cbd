use Rattle.std.proofs.Common.{sym, ap, ◌∙◌, ◌∷◌, ◌+◌, drop}
use Rattle.overlay_base.specs.Segments.{pairs}
use Rattle.overlay_geometry.specs.PairOf.{pair_of}
use Rattle.overlay_base.specs.SegmentOf.{segments_of}
use Rattle.overlay_base.proofs.laws.geometry.Apart.{pairs-next, pairs-none, pairs-nil, sorted_more, sorted_fails, sorted_end, sorted_none}
use Rattle.overlay_base.proofs.segm.arranged.is_strictly_sorted.Goals as goal

pub returns-in_default : goal.returns-in_default
returns-in_default g c = sorted_none _ (pairs-nil c.args.segments.now c.in_default.ensures.cases)

pub returns-then-not-is_before : goal.returns-then-not-is_before
returns-then-not-is_before g c =
    let next = pairs-next c.in-Some.later.now c.loop-segment.segment-index c.segment-item.result c.loop-segment-test.true c.segment-item.is ∙ ap (λ x. pair_of g.I.OverlayInt.whole x ∷ drop (c.loop-segment.segment-index + 1) (pairs (segments_of c.in-Some.later.now))) (sym c.x_segment-next.ensures) in
    sorted_fails (pairs (segments_of c.args.segments.now)) _ _ (pair_of g.I.OverlayInt.whole c.loop-segment.last) (pair_of g.I.OverlayInt.whole c.x_segment-next.result) c.loop-segment.invariant next (sym c.is_before.ensures ∙ c.if-not-is_before.true)

pub loop-segment-preserved : goal.loop-segment-preserved
loop-segment-preserved g c =
    let next = pairs-next c.in-Some.later.now c.loop-segment.segment-index c.segment-item.result c.loop-segment-test.true c.segment-item.is ∙ ap (λ x. pair_of g.I.OverlayInt.whole x ∷ drop (c.loop-segment.segment-index + 1) (pairs (segments_of c.in-Some.later.now))) (sym c.x_segment-next.ensures) in
    sorted_more (pairs (segments_of c.args.segments.now)) _ _ (pair_of g.I.OverlayInt.whole c.loop-segment.last) (pair_of g.I.OverlayInt.whole c.x_segment-next.result) c.loop-segment.invariant next (sym c.is_before.ensures ∙ c.if-not-is_before.false)

pub returns : goal.returns
returns g c = sorted_end (pairs (segments_of c.args.segments.now)) _ (pair_of g.I.OverlayInt.whole c.loop-segment.last) c.loop-segment.invariant (pairs-none c.in-Some.later.now c.loop-segment.segment-index c.loop-segment-test.false)
