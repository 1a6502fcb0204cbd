use Rattle.std.proofs.Common.{sym, ◌∙◌}
use Rattle.overlay_base.specs.SegmentOf.{segments_of, segment_of}
use Rattle.overlay_base.proofs.laws.joins.Rests.{is_usable, rest-more, rest-none, passes, fails, none_left, is_splittable-is}
use Rattle.overlay_base.proofs.segm.arranged.is_splittable.Goals as goal

pub loop-segment-preserved : goal.loop-segment-preserved
loop-segment-preserved g c =
    let next = rest-more (λ s. segment_of s) c.args.segments.now c.loop-segment.segment-index c.segment-item.result c.loop-segment-test.true c.segment-item.is in
    passes (is_usable (g.I.OverlayInt.whole g.I.OverlayInt.MIN_COORD) (g.I.OverlayInt.whole g.I.OverlayInt.MAX_COORD)) (segments_of c.args.segments.now) _ _ _ c.loop-segment.invariant next (sym c.is_usable.ensures ∙ c.if-not-is_usable.false)

pub returns-then-not-is_usable : goal.returns-then-not-is_usable
returns-then-not-is_usable g c =
    let next = rest-more (λ s. segment_of s) c.args.segments.now c.loop-segment.segment-index c.segment-item.result c.loop-segment-test.true c.segment-item.is in
    fails (is_usable (g.I.OverlayInt.whole g.I.OverlayInt.MIN_COORD) (g.I.OverlayInt.whole g.I.OverlayInt.MAX_COORD)) (segments_of c.args.segments.now) _ _ _ c.loop-segment.invariant next (sym c.is_usable.ensures ∙ c.if-not-is_usable.true)
    ∙ sym (is_splittable-is _ _ (segments_of c.args.segments.now))

pub returns : goal.returns
returns g c =
    none_left (is_usable (g.I.OverlayInt.whole g.I.OverlayInt.MIN_COORD) (g.I.OverlayInt.whole g.I.OverlayInt.MAX_COORD)) (segments_of c.args.segments.now) _ c.loop-segment.invariant (rest-none (λ s. segment_of s) c.args.segments.now c.loop-segment.segment-index c.loop-segment-test.false)
    ∙ sym (is_splittable-is _ _ (segments_of c.args.segments.now))
