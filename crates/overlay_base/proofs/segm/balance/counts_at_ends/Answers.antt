use Rattle.std.proofs.Common.{◌≡◌, rules, arith, ap, ◌∙◌, FitsSigned, w32}
use Rattle.std.proofs.lemmas.Int.{ints}
use Rattle.overlay_geometry.specs.PointOf.{point_of}
use Rattle.overlay_base.specs.SegmentOf.{winding_of, ends_of}
use Rattle.overlay_base.proofs.laws.rays.EndCounts.{inverse_at}
use Rattle.overlay_base.proofs.segm.balance.counts_at_ends.Goals as goal

pub overflow_sub-end : goal.overflow_sub-end
overflow_sub-end g c =
    let fits : FitsSigned w32 c.numbers-subj.result.0 = search rules in
    omega (arith, ints, c.from-subj.ensures)

pub overflow_sub-end-2 : goal.overflow_sub-end-2
overflow_sub-end-2 g c =
    let fits : FitsSigned w32 c.numbers-subj.result.1 = search rules in
    omega (arith, ints, c.from-clip.ensures)

pub returns-clause-second : goal.returns-clause-second
returns-clause-second g c =
    let subj_fits : FitsSigned w32 c.numbers-subj.result.0 = search rules in
    let clip_fits : FitsSigned w32 c.numbers-subj.result.1 = search rules in
    let subj : c.numbers-subj.result.0 ≡ (winding_of c.args.segment.now).subj = c.numbers-subj.ensures.subj ∙ ap (λ x. (g.C.WindingCount.winding x).subj) c.count.ensures in
    let clip : c.numbers-subj.result.1 ≡ (winding_of c.args.segment.now).clip = c.numbers-subj.ensures.clip ∙ ap (λ x. (g.C.WindingCount.winding x).clip) c.count.ensures in
    inverse_at g.I.OverlayInt.whole _ (ends_of c.args.segment.now).b (winding_of c.args.segment.now) (ap (λ x. point_of g.I.OverlayInt.whole x.b) c.x_segment-a.ensures) (omega (arith, ints, c.from-subj.ensures, subj)) (omega (arith, ints, c.from-clip.ensures, clip))
