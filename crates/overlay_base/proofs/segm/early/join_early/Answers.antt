use Rattle.std.proofs.Common.{rules, ◌<◌, ◌^◌, ◌≤◌, List, drop, length, IsTrue, subst, arith}
use Rattle.std.proofs.lemmas.List.Elements.{filter_from_retain, All-filter, All-same}
use Rattle.overlay_base.specs.declared.segm.segment.Segment.{Segment}
use Rattle.overlay_base.specs.Windings.{is_not_empty, is_valid}
use Rattle.overlay_base.specs.Join.{has_equal_pairs}
use Rattle.overlay_base.specs.SegmentOf.{segment_of, segments_of, winding_of}
use Rattle.overlay_base.specs.steps.Early.{magnitudes}
use Rattle.overlay_base.proofs.laws.joins.Rests.{rest-more, rest-none}
use Rattle.overlay_base.proofs.laws.joins.Early.{IsKeptOf, IsKeptOf-start, IsKeptOf-more, join-kept, magnitudes-kept, small_counts_stay}
use Rattle.overlay_base.proofs.segm.early.join_early.Goals as goal

pub loop-segment-init : goal.loop-segment-init
loop-segment-init g c = rw (c.new-kept.ensures.items) (record { kept = IsKeptOf-start _; valid = λ k d h. absurd (omega arith) })

pub keep_or_add-requires-clause-valid : goal.keep_or_add-requires-clause-valid
keep_or_add-requires-clause-valid g c = c.loop-segment.invariant.valid

pub loop-segment-preserved : goal.loop-segment-preserved
loop-segment-preserved g c =
    let next = rest-more (λ s. segment_of s) c.deref-segment-items.result.now c.loop-segment.segment-index c.segment-item.result c.loop-segment-test.true c.segment-item.is in
    record { kept = IsKeptOf-more _ _ _ _ _ _ c.loop-segment.invariant.kept next c.in_ok-keep_or_add.ensures.added; valid = c.in_ok-keep_or_add.ensures.valid }

pub returns-clause-joined : goal.returns-clause-joined
returns-clause-joined g c =
    let items = c.args.list.now.items in
    let small = subst (λ (l : List (Segment _ _ _ _ _ _ _ _)). magnitudes (segments_of l) < 2 ^ 31) c.deref-else-not-are_many_equal.ensures.value (c.are_small.ensures c.if-not-are_small.false) in
    let repeated = subst (λ (l : List (Segment _ _ _ _ _ _ _ _)). IsTrue (has_equal_pairs (segments_of l))) c.deref.ensures.value (c.are_many_equal.ensures c.if-not-are_many_equal.false) in
    let kept = subst (λ (l : List (Segment _ _ _ _ _ _ _ _)). IsKeptOf (segments_of l) (drop c.loop-segment.segment-index (segments_of l)) (segments_of c.loop-segment.kept.items)) c.deref-segment-items.ensures.value c.loop-segment.invariant.kept in
    let none = rest-none (λ s. segment_of s) items c.loop-segment.segment-index (subst (λ (l : List (Segment _ _ _ _ _ _ _ _)). length l ≤ c.loop-segment.segment-index) c.deref-segment-items.ensures.value c.loop-segment-test.false) in
    let left = filter_from_retain _ (λ s. is_not_empty (winding_of s)) (λ f s b f' r. search rules) _ _ _ c.retain.ensures.filtered in
    λ _. record {
      same = join-kept (λ s. segment_of s) items c.loop-segment.kept.items _ _ kept left none;
      valid = All-same (λ s. IsTrue (is_valid (winding_of s))) _ _ left (All-filter (λ s. is_not_empty (winding_of s)) (λ s. IsTrue (is_valid (winding_of s))) _ c.loop-segment.invariant.valid);
      repeated = repeated;
      fits = small_counts_stay (segments_of items) small;
      fits_then = small_counts_stay _ (let b = magnitudes-kept (λ s. segment_of s) items c.loop-segment.kept.items _ _ kept left in omega arith);
    }
