use Rattle.std.proofs.Common.{◌≡◌, sym, ap, subst, ◌∙◌, ◌∷◌, [], List, arith}
use Rattle.std.proofs.lemmas.Grind.{common_steps, elements}
use Rattle.overlay_geometry.specs.PointOf.{point_of}
use Rattle.overlay_geometry.specs.InRange.{IsPointInRange}
use Rattle.overlay_contours.specs.ContoursOf.{points_of}
use Rattle.overlay_contours.specs.Corners.{corners}
use Rattle.overlay_contours.proofs.laws.Corners.{first_and_rest, one_point, last_point}
use Rattle.overlay_contours.proofs.corners.corners_of_contour.Goals as goal

pub returns-in_default-clause-corners : goal.returns-in_default-clause-corners
unfolding corners
returns-in_default-clause-corners g c =
    let whole = g.I.OverlayInt.whole in
    let none : c.args.contour.now ≡ [] = grind (arith, common_steps, c.in_default.ensures.cases) in
    ap (points_of whole) c.new-corners.ensures.items ∙ sym (ap (λ (l : List _). corners (points_of whole l)) none)

pub push_corner-requires-clause-next : goal.push_corner-requires-clause-next
push_corner-requires-clause-next g c =
    let whole = g.I.OverlayInt.whole in
    let I = g.I.OverlayInt in
    let later = (first_and_rest (IsPointInRange whole I.MIN_COORD I.MAX_COORD) c.args.contour.now c.in-Some.first.now c.in-Some.later.now c.in-Some.ensures.cases.0 c.requires).1 in
    subst (IsPointInRange whole I.MIN_COORD I.MAX_COORD) (sym c.next-item.is) (later c.loop-next.next-index c.next-item.result c.loop-next-test.true)

pub loop-next-preserved : goal.loop-next-preserved
loop-next-preserved g c =
    let I = g.I.OverlayInt in
    let whole = I.whole in
    let later = (first_and_rest (IsPointInRange whole I.MIN_COORD I.MAX_COORD) c.args.contour.now c.in-Some.first.now c.in-Some.later.now c.in-Some.ensures.cases.0 c.requires).1 in
    record {
      corners =
          one_point (point_of whole) c.in-Some.later.now c.loop-next.next-index c.next-item.result (point_of whole c.loop-next.before) (point_of whole c.loop-next.at) (point_of whole c.in-Some.first.now ∷ []) (points_of whole c.loop-next.corners.items) (points_of whole c.push_corner.new.corners.items) _
          c.loop-next-test.true c.next-item.is c.in_ok-push_corner.ensures.corners c.loop-next.invariant.corners;
      before_in_range = c.loop-next.invariant.at_in_range;
      at_in_range = subst (IsPointInRange whole I.MIN_COORD I.MAX_COORD) (sym c.next-item.is) (later c.loop-next.next-index c.next-item.result c.loop-next-test.true);
    }

pub push_corner-requires-2-clause-next : goal.push_corner-requires-2-clause-next
push_corner-requires-2-clause-next g c =
    let I = g.I.OverlayInt in
    (first_and_rest (IsPointInRange I.whole I.MIN_COORD I.MAX_COORD) c.args.contour.now c.in-Some.first.now c.in-Some.later.now c.in-Some.ensures.cases.0 c.requires).0

pub returns-clause-corners : goal.returns-clause-corners
returns-clause-corners g c =
    let whole = g.I.OverlayInt.whole in
    last_point (point_of whole) c.in-Some.later.now c.loop-next.next-index (point_of whole c.loop-next.before) (point_of whole c.loop-next.at) (point_of whole c.in-Some.first.now) (points_of whole c.loop-next.corners.items) (points_of whole c.push_corner-2.new.corners.items)
    c.loop-next-test.false c.in_ok-push_corner-2.ensures.corners c.loop-next.invariant.corners
    ∙ sym (ap (λ (l : List _). corners (points_of whole l)) c.in-Some.ensures.cases.0)

pub loop-next-init : goal.loop-next-init
loop-next-init g c = grind (arith, elements)
