use Rattle.std.proofs.Common.{◌≡◌, ◌∙◌, ap, sym, arith}
use Rattle.std.proofs.lemmas.Bool.{both_ways}
use Rattle.overlay_geometry.specs.PointOf.{point_of}
use Rattle.overlay_geometry.specs.PairOf.{pair_of}
use Rattle.overlay_geometry.specs.Points.{Pair, point_eq}
use Rattle.overlay_base.specs.SegmentOf.{segment_of}
use Rattle.overlay_geometry.proofs.laws.geometry.Points.{same_by_eq, point_eq_same}
use Rattle.overlay_sweep.proofs.laws.live.StartPoints.{point_eq_is, pair_at, same_start_first, same_start_more}
use Rattle.overlay_sweep.proofs.build.start_point.start_point_end.Goals as goal

pub loop-next-init : goal.loop-next-init
loop-next-init g c = (
  omega arith,
  omega (arith, c.requires),
  same_start_first _ _ c.args.index (λ d.
      ap (λ (s : Pair). s.a) (pair_at segment_of c.args.segments.now c.args.index c.index-segments-index.result d c.requires c.index-segments-index.is ∙ ap (pair_of g.I.OverlayInt.whole) (sym c.x_segment.ensures))),
)

pub loop-next-preserved : goal.loop-next-preserved
loop-next-preserved g c =
    let test = point_eq_is g.I.PartialEq.eq g.I.Ord.cmp g.I.OverlayInt.whole g.met.I.Ord.matches_eq g.met.I.OverlayInt.ordered c.x_segment-in-loop-next.result.a c.x_segment.result.a in (
      omega (arith, c.loop-next.invariant.0),
      omega (arith, c.loop-next-test.true),
      same_start_more _ _ c.args.index c.loop-next.next c.loop-next.invariant.2 (λ d.
          ap (λ (s : Pair). s.a) (pair_at segment_of c.args.segments.now c.loop-next.next c.index-segments-next.result d c.loop-next-test.true c.index-segments-next.is ∙ ap (pair_of g.I.OverlayInt.whole) (sym c.x_segment-in-loop-next.ensures))
          ∙ same_by_eq _ _ (sym test ∙ sym c.eq.ensures ∙ c.if-eq.true)),
    )

pub returns-else-eq-clause-same : goal.returns-else-eq-clause-same
returns-else-eq-clause-same g c = λ k d h l. c.loop-next.invariant.2 k d h l ∙ sym (c.loop-next.invariant.2 c.args.index d (omega arith) c.loop-next.invariant.0)

pub returns-else-eq-clause-other : goal.returns-else-eq-clause-other
returns-else-eq-clause-other g c = λ d h e.
    let test = point_eq_is g.I.PartialEq.eq g.I.Ord.cmp g.I.OverlayInt.whole g.met.I.Ord.matches_eq g.met.I.OverlayInt.ordered c.x_segment-in-loop-next.result.a c.x_segment.result.a in
    let own = ap (λ (s : Pair). s.a) (pair_at segment_of c.args.segments.now c.loop-next.next c.index-segments-next.result d c.loop-next-test.true c.index-segments-next.is ∙ ap (pair_of g.I.OverlayInt.whole) (sym c.x_segment-in-loop-next.ensures)) in
    let first = c.loop-next.invariant.2 c.args.index d (omega arith) c.loop-next.invariant.0 in
    let same : point_of g.I.OverlayInt.whole c.x_segment-in-loop-next.result.a ≡ point_of g.I.OverlayInt.whole c.x_segment.result.a = sym own ∙ e ∙ first in
    both_ways _ (sym c.eq.ensures ∙ c.if-eq.false) (test ∙ ap (λ v. point_eq v (point_of g.I.OverlayInt.whole c.x_segment.result.a)) same ∙ point_eq_same (point_of g.I.OverlayInt.whole c.x_segment.result.a))
