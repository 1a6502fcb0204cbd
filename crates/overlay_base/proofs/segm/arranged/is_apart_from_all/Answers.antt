use Rattle.std.proofs.Common.{sym, ap, ◌∙◌, subst, IsTrue, drop, ◌+◌}
use Rattle.std.specs.Prelude.{int_lt}
use Rattle.overlay_base.specs.Segments.{pairs}
use Rattle.overlay_geometry.specs.Ranges.{heights, is_off_range}
use Rattle.overlay_geometry.specs.Meeting.{are_apart}
use Rattle.overlay_geometry.specs.PairOf.{pair_of}
use Rattle.overlay_base.specs.SegmentOf.{segments_of, segment_of, ends_of}
use Rattle.overlay_base.proofs.laws.joins.Rests.{rest-more, passes, fails, none_left, is_splittable-drop, first_in_range}
use Rattle.overlay_base.proofs.laws.geometry.Apart.{apart_in_y, are_ordered, pairs-next, pairs-none, rest_apart_from}
use Rattle.overlay_base.proofs.segm.arranged.is_apart_from_all.Goals as goal
use Rattle.overlay_base.proofs.segm.arranged.is_apart_from_all.Goals.{else-not-is_not_intersect_y_range-via-then-not-is_not_intersect_y_range+else-not-are_apart, else-not-is_not_intersect_y_range-via-else-not-is_not_intersect_y_range}

pub are_apart-requires-clause-second : goal.are_apart-requires-clause-second
are_apart-requires-clause-second g c =
    let next = rest-more (λ s. segment_of s) c.args.later.now c.loop-segment.segment-index c.segment-item.result c.loop-segment-test.true c.segment-item.is in
    first_in_range g.I.OverlayInt.whole g.I.OverlayInt.MIN_COORD g.I.OverlayInt.MAX_COORD c.x_segment-other.result (segment_of c.segment-item.result) (drop (c.loop-segment.segment-index + 1) (segments_of c.args.later.now))
    (ap (λ x. pair_of g.I.OverlayInt.whole x) (sym c.x_segment-other.ensures)) (rw next at (is_splittable-drop _ _ c.loop-segment.segment-index (segments_of c.args.later.now) c.requires.splittable))

pub returns-then-not-are_apart : goal.returns-then-not-are_apart
returns-then-not-are_apart g c =
    let all = pairs (segments_of c.args.later.now) in
    let next = pairs-next c.args.later.now c.loop-segment.segment-index c.segment-item.result c.loop-segment-test.true c.segment-item.is in
    fails (λ t. are_apart (pair_of g.I.OverlayInt.whole c.args.target.now) t) all _ _ _ c.loop-segment.invariant next
    (ap (λ x. are_apart (pair_of g.I.OverlayInt.whole c.args.target.now) (pair_of g.I.OverlayInt.whole x)) (sym c.x_segment-other.ensures) ∙ sym c.are_apart.ensures ∙ c.if-not-are_apart.true)

pub returns-then-begins_past_end : goal.returns-then-begins_past_end
returns-then-begins_past_end g c =
    let all = pairs (segments_of c.args.later.now) in
    let next = pairs-next c.args.later.now c.loop-segment.segment-index c.segment-item.result c.loop-segment-test.true c.segment-item.is in
    let past = ap (λ x. int_lt (g.I.OverlayInt.whole c.args.target.now.b.x) (g.I.OverlayInt.whole x.a.x)) (sym c.x_segment-other.ensures) ∙ sym c.begins_past_end.ensures ∙ c.if-begins_past_end.true in
    sym (sym c.loop-segment.invariant ∙ rest_apart_from (pair_of g.I.OverlayInt.whole c.args.target.now) (ends_of c.segment-item.result) all c.loop-segment.segment-index c.requires.ordered (are_ordered c.args.later.now) c.requires.sorted next past)

pub returns : goal.returns
returns g c =
    none_left (λ t. are_apart (pair_of g.I.OverlayInt.whole c.args.target.now) t) (pairs (segments_of c.args.later.now)) _ c.loop-segment.invariant (pairs-none c.args.later.now c.loop-segment.segment-index c.loop-segment-test.false)

pub loop-segment-preserved : goal.loop-segment-preserved
loop-segment-preserved g c =
    let all = pairs (segments_of c.args.later.now) in
    let target = pair_of g.I.OverlayInt.whole c.args.target.now in
    let next = pairs-next c.args.later.now c.loop-segment.segment-index c.segment-item.result c.loop-segment-test.true c.segment-item.is in
    let other = ap (λ x. are_apart target (pair_of g.I.OverlayInt.whole x)) (sym c.x_segment-other.ensures) in
    elim c.else-not-is_not_intersect_y_range.branch [
      | else-not-is_not_intersect_y_range-via-then-not-is_not_intersect_y_range+else-not-are_apart w ↦
          passes (λ t. are_apart target t) all _ _ _ c.loop-segment.invariant next (other ∙ sym w.are_apart.ensures ∙ w.if-not-are_apart.false)
      | else-not-is_not_intersect_y_range-via-else-not-is_not_intersect_y_range w ↦
          let off : IsTrue (is_off_range (heights target) (pair_of g.I.OverlayInt.whole c.x_segment-other.result)) = subst (λ range. IsTrue (is_off_range range (pair_of g.I.OverlayInt.whole c.x_segment-other.result))) c.y_range-heights.ensures (sym c.is_not_intersect_y_range.ensures ∙ w.if-not-is_not_intersect_y_range.false) in
          passes (λ t. are_apart target t) all _ _ _ c.loop-segment.invariant next (other ∙ apart_in_y target (pair_of g.I.OverlayInt.whole c.x_segment-other.result) off)
    ]
