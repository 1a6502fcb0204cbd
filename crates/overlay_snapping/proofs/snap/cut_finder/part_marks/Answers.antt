use Rattle.std.proofs.Common.{◌≡◌, ◌∙◌, refl, sym, ap, subst, length, not, map, [], ◌<◌}
use Rattle.overlay_geometry.specs.InRange.{IsPointInRange}
use Rattle.overlay_geometry.specs.Points.{Pair, lies_on}
use Rattle.overlay_geometry.specs.PointOf.{point_of}
use Rattle.overlay_geometry.specs.PairOf.{pair_of}
use Rattle.overlay_base.specs.SegmentOf.{pairs_in}
use Rattle.overlay_intersections.specs.MarkOf.{mark_of}
use Rattle.overlay_intersections.specs.declared.split.line_mark.LineMark.{LineMark}
use Rattle.overlay_snapping.specs.steps.Cutting.{origin, lies_at}
use Rattle.overlay_snapping.proofs.laws.cuts.Collected.{collected_more, passed_over, collected_all}
use Rattle.overlay_snapping.proofs.laws.cuts.Reads.{segment_read}
use Rattle.overlay_snapping.proofs.snap.cut_finder.part_marks.Goals as goal
use Rattle.overlay_snapping.proofs.snap.cut_finder.part_marks.Goals.{then-lies_on+in_ok-push, else-lies_on+in_ok-push-2}

pub bounds-segments-mark : goal.bounds-segments-mark
bounds-segments-mark g c = subst (λ (n : LineMark _). n.index < length c.args.segments.now) (sym c.mark-item.is) (c.requires.indices c.loop-mark.mark-index c.mark-item.result c.loop-mark-test.true)

pub lies_on-requires-clause-in_range : goal.lies_on-requires-clause-in_range
lies_on-requires-clause-in_range g c =
    let inside = subst (λ (n : LineMark _). n.index < length c.args.segments.now) (sym c.mark-item.is) (c.requires.indices c.loop-mark.mark-index c.mark-item.result c.loop-mark-test.true) in
    rw (c.x_segment.ensures, c.index-segments-mark.is) (c.requires.in_range c.mark-item.result.index c.index-segments-mark.result inside)

pub lies_on-requires-clause-point : goal.lies_on-requires-clause-point
lies_on-requires-clause-point g c =
    subst (λ (n : LineMark _). IsPointInRange g.I.OverlayInt.whole g.I.OverlayInt.MIN_COORD g.I.OverlayInt.MAX_COORD n.point) (sym c.mark-item.is) (c.requires.points c.loop-mark.mark-index c.mark-item.result c.loop-mark-test.true)

pub loop-mark-preserved : goal.loop-mark-preserved
loop-mark-preserved g c =
    let whole = g.I.OverlayInt.whole in
    let marks = c.args.marks.now in
    let i = c.loop-mark.mark-index in
    let within = c.loop-mark-test.true in
    let m = c.mark-item.result in
    let inside = subst (λ (n : LineMark _). n.index < length c.args.segments.now) (sym c.mark-item.is) (c.requires.indices i m within) in
    let segments = pairs_in c.args.segments.now in
    let base = map (point_of whole) c.args.on.now.items in
    let segment = segment_read c.args.segments.now m.index c.index-segments-mark.result (record { a = origin; b = origin }) inside c.index-segments-mark.is in
    let lies : lies_at segments (mark_of whole m) ≡ c.lies_on.result = ap (λ (s : Pair). lies_on s (point_of whole m.point)) (segment ∙ ap (pair_of whole) (sym c.x_segment.ensures)) ∙ sym c.lies_on.ensures in
    elim c.if-lies_on.branch [
      | then-lies_on+in_ok-push w ↦
          rw (w.on-is, w.off-is) (record {
            on = collected_more (λ m. lies_at segments (mark_of whole m)) (λ m. point_of whole m.point) marks i m within c.mark-item.is (point_of whole) base _ _ _ (lies ∙ w.if-lies_on.true) refl w.in_ok-push.ensures.items c.loop-mark.invariant.on;
            off = passed_over (λ m. not (lies_at segments (mark_of whole m))) (λ m. point_of whole m.point) marks i m within c.mark-item.is [] _ (ap not (lies ∙ w.if-lies_on.true)) c.loop-mark.invariant.off;
          })
      | else-lies_on+in_ok-push-2 w ↦
          rw (w.on-is, w.off-is) (record {
            on = passed_over (λ m. lies_at segments (mark_of whole m)) (λ m. point_of whole m.point) marks i m within c.mark-item.is base _ (lies ∙ w.if-lies_on.false) c.loop-mark.invariant.on;
            off = collected_more (λ m. not (lies_at segments (mark_of whole m))) (λ m. point_of whole m.point) marks i m within c.mark-item.is (point_of whole) [] _ _ _ (ap not (lies ∙ w.if-lies_on.false)) refl w.in_ok-push-2.ensures.items c.loop-mark.invariant.off;
          })
    ]

pub returns : goal.returns
returns g c =
    let whole = g.I.OverlayInt.whole in
    let segments = pairs_in c.args.segments.now in
    record {
      on = collected_all (λ m. lies_at segments (mark_of whole m)) (λ m. point_of whole m.point) c.args.marks.now c.loop-mark.mark-index (map (point_of whole) c.args.on.now.items) _ c.loop-mark-test.false c.loop-mark.invariant.on;
      off = collected_all (λ m. not (lies_at segments (mark_of whole m))) (λ m. point_of whole m.point) c.args.marks.now c.loop-mark.mark-index [] _ c.loop-mark-test.false c.loop-mark.invariant.off;
    }
