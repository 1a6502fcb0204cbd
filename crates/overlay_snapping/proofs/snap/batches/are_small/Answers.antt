use Rattle.std.proofs.Common.{rules, ◌≡◌, ◌<◌, ◌+◌, ◌^◌, ◌∙◌, ap, arith, drop, ltb-true, w32, FitsSigned, to_z-of_z}
use Rattle.std.specs.Prelude.{unsigned_abs}
use Rattle.overlay_base.specs.SegmentOf.{segment_of, segments_of, winding_of}
use Rattle.overlay_base.specs.steps.Early.{magnitude, magnitudes}
use Rattle.overlay_base.proofs.laws.joins.Early.{magnitudes-cons}
use Rattle.overlay_base.proofs.laws.joins.Rests.{rest-more, rest-none}
use Rattle.overlay_snapping.proofs.snap.batches.are_small.Goals as goal

pub loop-segment-preserved : goal.loop-segment-preserved
loop-segment-preserved g c =
    let next = rest-more (λ s. segment_of s) c.args.list.now c.loop-segment.segment-index c.segment-item.result c.loop-segment-test.true c.segment-item.is in
    let subj_fits : FitsSigned w32 c.numbers-subj.result.0 = search rules in
    let subj : c.from.result ≡ unsigned_abs (winding_of c.segment-item.result).subj =
    c.from.ensures ∙ simp to_z-of_z at c.unsigned_abs.ensures.value ∙ ap unsigned_abs (c.numbers-subj.ensures.subj ∙ ap (λ n. (g.C.WindingCount.winding n).subj) c.count.ensures) in
    let clip_fits : FitsSigned w32 c.numbers-subj.result.1 = search rules in
    let clip : c.from-in-loop-segment.result ≡ unsigned_abs (winding_of c.segment-item.result).clip =
    c.from-in-loop-segment.ensures ∙ simp to_z-of_z at c.unsigned_abs-in-loop-segment.ensures.value ∙ ap unsigned_abs (c.numbers-subj.ensures.clip ∙ ap (λ n. (g.C.WindingCount.winding n).clip) c.count.ensures) in
    let parts : magnitudes (drop c.loop-segment.segment-index (segments_of c.args.list.now)) ≡ magnitude (winding_of c.segment-item.result) + magnitudes (drop (c.loop-segment.segment-index + 1) (segments_of c.args.list.now)) =
    ap magnitudes next ∙ magnitudes-cons (segment_of c.segment-item.result) (drop (c.loop-segment.segment-index + 1) (segments_of c.args.list.now)) in
    λ h. omega (arith, c.loop-segment.invariant)

pub returns : goal.returns
returns g c =
    let end = rest-none (λ s. segment_of s) c.args.list.now c.loop-segment.segment-index c.loop-segment-test.false in
    let none : magnitudes (drop c.loop-segment.segment-index (segments_of c.args.list.now)) ≡ 0 = ap magnitudes end in
    λ h. let k : c.loop-segment.sum < 2 ^ 31 = ltb-true _ _ h in omega (arith, c.loop-segment.invariant)
