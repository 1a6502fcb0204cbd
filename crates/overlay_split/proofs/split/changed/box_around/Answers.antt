use Rattle.std.proofs.Common.{sym, subst, arith}
use Rattle.std.proofs.lemmas.List.Elements.{AllWithin-more, recursion_from_All}
use Rattle.std.proofs.lemmas.List.{get_or_default}
use Rattle.overlay_geometry.specs.PairOf.{pair_of}
use Rattle.overlay_geometry.specs.PointOf.{point_of}
use Rattle.overlay_geometry.specs.RangeOf.{rect_of}
use Rattle.overlay_geometry.proofs.laws.lists.Lists.{AllByRecursion-map}
use Rattle.overlay_split.specs.steps.ChangedBoxes.{LiesIn}
use Rattle.overlay_split.proofs.laws.passes.RectSweeps.{box_holds_a, box_holds_b}
use Rattle.overlay_split.proofs.split.changed.box_around.Goals as goal

pub loop-place-init : goal.loop-place-init
loop-place-init g c =
    let s = pair_of g.I.OverlayInt.whole c.args.segment.now in
    record {
      a = subst (λ r. LiesIn r s.a) (sym c.box_of-rect.ensures) (box_holds_a s c.requires);
      b = subst (λ r. LiesIn r s.b) (sym c.box_of-rect.ensures) (box_holds_b s c.requires);
      others = λ k d low high. absurd (omega (arith, high));
    }

pub loop-place-preserved : goal.loop-place-preserved
loop-place-preserved g c =
    let whole = g.I.OverlayInt.whole in
    let marks = c.args.marks.now in
    let place = c.loop-place.place in
    let mark = c.index-marks-place.result in
    let r = rect_of whole c.widened-rect.result in
    record {
      a = c.widened-rect.ensures.others _ c.loop-place.invariant.a;
      b = c.widened-rect.ensures.others _ c.loop-place.invariant.b;
      others = AllWithin-more (λ m. LiesIn r (point_of whole m.point)) marks 0 place (λ k d low high. c.widened-rect.ensures.others _ (c.loop-place.invariant.others k d low high))
          (λ d. subst (λ m. LiesIn r (point_of whole m.point)) (get_or_default marks place mark d c.loop-place-test.true) c.widened-rect.ensures.point);
    }

pub returns : goal.returns
returns g c =
    let whole = g.I.OverlayInt.whole in
    let marks = c.args.marks.now in
    let r = rect_of whole c.loop-place.rect in
    record {
      a = c.loop-place.invariant.a;
      b = c.loop-place.invariant.b;
      others = AllByRecursion-map (LiesIn r) (λ m. point_of whole m.point) marks
          (recursion_from_All (λ m. LiesIn r (point_of whole m.point)) marks (λ k d lt. c.loop-place.invariant.others k d (omega arith) (let end = c.loop-place-test.false in omega (arith, lt, end))));
    }
