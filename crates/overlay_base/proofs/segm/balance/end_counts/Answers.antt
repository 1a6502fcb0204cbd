use Rattle.std.proofs.Common.{sym, ap, ◌∙◌, ◌++◌, ◌∷◌, []}
use Rattle.overlay_base.specs.SegmentOf.{segment_of}
use Rattle.overlay_base.proofs.laws.joins.Rests.{rest-more, rest-none}
use Rattle.overlay_base.proofs.laws.rays.EndCounts.{end_counts-more, end_counts-nil}
use Rattle.overlay_base.proofs.segm.balance.end_counts.Goals as goal

pub loop-segment-preserved : goal.loop-segment-preserved
loop-segment-preserved g c =
    let next = rest-more (λ s. segment_of s) c.args.segments.now c.loop-segment.segment-index c.segment-item.result c.loop-segment-test.true c.segment-item.is in
    let pushed = c.in_ok-push-2.ensures.items ∙ ap (λ xs. xs ++ c.counts_at_ends-start.result.1 ∷ []) c.in_ok-push.ensures.items in
    end_counts-more g.I.OverlayInt.whole c.loop-segment.ends.items _ c.counts_at_ends-start.result.0 c.counts_at_ends-start.result.1 (segment_of c.segment-item.result) _ _ _ c.loop-segment.invariant next pushed c.counts_at_ends-start.ensures.first c.counts_at_ends-start.ensures.second

pub returns-clause-ends : goal.returns-clause-ends
returns-clause-ends g c =
    let end = rest-none (λ s. segment_of s) c.args.segments.now c.loop-segment.segment-index c.loop-segment-test.false in
    sym (end_counts-nil _) ∙ rw end at c.loop-segment.invariant
