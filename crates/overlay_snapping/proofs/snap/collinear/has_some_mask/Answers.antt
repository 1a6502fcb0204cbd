use Rattle.std.proofs.Common.{◌≡◌, ◌==◌, sym, ap, subst}
use Rattle.overlay_base.specs.SegmentOf.{segment_of, segments_of}
use Rattle.overlay_base.proofs.laws.joins.Rests.{rest-more, rest-none, passes, none_left}
use Rattle.overlay_snapping.proofs.snap.collinear.has_some_mask.Goals as goal

pub loop-segment-preserved : goal.loop-segment-preserved
loop-segment-preserved g c =
    let next = rest-more (λ s. segment_of s) c.args.list.now c.loop-segment.segment-index c.segment-item.result c.loop-segment-test.true c.segment-item.is in
    let none = subst (λ k. (g.C.WindingCount.winding k).mask ≡ 0) c.count.ensures (c.has_mask.ensures c.if-has_mask.false) in
    passes (λ s. s.count.mask == 0) (segments_of c.args.list.now) _ _ _ c.loop-segment.invariant next (ap (λ n. n == 0) none)

pub returns : goal.returns
returns g c = λ _. sym (none_left (λ s. s.count.mask == 0) (segments_of c.args.list.now) _ c.loop-segment.invariant (rest-none (λ s. segment_of s) c.args.list.now c.loop-segment.segment-index c.loop-segment-test.false))
