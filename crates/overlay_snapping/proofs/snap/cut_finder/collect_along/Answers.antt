use Rattle.std.proofs.Common.{◌∙◌, refl, sym, subst, []}
use Rattle.overlay_geometry.specs.InRange.{IsPointInRange}
use Rattle.overlay_geometry.specs.Points.{lies_on}
use Rattle.overlay_geometry.specs.PointOf.{point_of}
use Rattle.overlay_geometry.specs.PairOf.{pair_of}
use Rattle.overlay_intersections.specs.declared.split.line_mark.LineMark.{LineMark}
use Rattle.overlay_snapping.proofs.laws.cuts.Collected.{collected_more, passed_over, collected_all}
use Rattle.overlay_snapping.proofs.snap.cut_finder.collect_along.Goals as goal
use Rattle.overlay_snapping.proofs.snap.cut_finder.collect_along.Goals.{then-lies_on+in_ok-push, else-lies_on}

pub lies_on-requires-clause-point : goal.lies_on-requires-clause-point
lies_on-requires-clause-point g c =
    subst (λ (n : LineMark _). IsPointInRange g.I.OverlayInt.whole g.I.OverlayInt.MIN_COORD g.I.OverlayInt.MAX_COORD n.point) (sym c.mark-item.is) (c.requires.own c.loop-mark.mark-index c.mark-item.result c.loop-mark-test.true)

pub loop-mark-preserved : goal.loop-mark-preserved
loop-mark-preserved g c =
    let whole = g.I.OverlayInt.whole in
    let s = pair_of whole c.args.segment.now in
    let m = c.mark-item.result in
    elim c.if-lies_on.branch [
      | then-lies_on+in_ok-push w ↦
          rw w.between-is
          (collected_more (λ (m : LineMark _). lies_on s (point_of whole m.point)) (λ m. point_of whole m.point) c.args.own.now c.loop-mark.mark-index m c.loop-mark-test.true c.mark-item.is (point_of whole) [] _ _ _
          (sym c.lies_on.ensures ∙ w.if-lies_on.true) refl w.in_ok-push.ensures.items c.loop-mark.invariant)
      | else-lies_on w ↦
          rw w.between-is
          (passed_over (λ (m : LineMark _). lies_on s (point_of whole m.point)) (λ m. point_of whole m.point) c.args.own.now c.loop-mark.mark-index m c.loop-mark-test.true c.mark-item.is [] _ (sym c.lies_on.ensures ∙ w.if-lies_on.false) c.loop-mark.invariant)
    ]

pub returns : goal.returns
returns g c =
    let whole = g.I.OverlayInt.whole in
    let s = pair_of whole c.args.segment.now in
    collected_all (λ (m : LineMark _). lies_on s (point_of whole m.point)) (λ m. point_of whole m.point) c.args.own.now c.loop-mark.mark-index [] _ c.loop-mark-test.false c.loop-mark.invariant
