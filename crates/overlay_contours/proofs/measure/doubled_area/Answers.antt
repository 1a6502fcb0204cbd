use Rattle.std.proofs.Common.{◌≡◌, sym, ap, subst, ◌∙◌, ◌*◌, ◌≤◌, [], ◌∷◌, ◌++◌, List, arith, FitsSigned, w64, to_z, of_z, to_z-of_z}
use Rattle.std.specs.Prelude.{ℤ, pos, ◌+ℤ◌, unsigned_abs}
use Rattle.overlay_geometry.specs.Coordinates.{greatest_product}
use Rattle.std.proofs.lemmas.Grind.{common_steps}
use Rattle.std.specs.Int.{w128}
use Rattle.std.proofs.lemmas.Int.{ints, fits_signed_from_abs}
use Rattle.overlay_geometry.specs.InRange.{IsPointInRange}
use Rattle.overlay_geometry.specs.PointOf.{point_of}
use Rattle.overlay_contours.specs.Areas.{doubled_area}
use Rattle.overlay_contours.specs.ContoursOf.{points_of}
use Rattle.overlay_contours.proofs.laws.Areas.{area_on, area_begin, area_step, area_end, area_bound, in_range_at}
use Rattle.overlay_contours.proofs.laws.Corners.{first_and_rest}
use Rattle.overlay_contours.proofs.measure.doubled_area.Goals as goal

pub returns-in_default : goal.returns-in_default
unfolding doubled_area
returns-in_default g c =
    let none : c.args.contour.now ≡ [] = grind (arith, common_steps, c.in_default.ensures.cases) in
    sym (ap (λ (l : List _). doubled_area (points_of g.I.OverlayInt.whole l)) none)

pub loop-point-init : goal.loop-point-init
loop-point-init g c =
    let I = g.I.OverlayInt in
    let whole = I.whole in
    let later = points_of whole c.in-Some.later.now in
    let first = point_of whole c.in-Some.first.now in
    record {
      area = area_begin first (area_on first (later ++ first ∷ []));
      bound = omega (arith, ints);
      in_range = (first_and_rest (IsPointInRange whole I.MIN_COORD I.MAX_COORD) c.args.contour.now c.in-Some.first.now c.in-Some.later.now c.in-Some.ensures.cases.0 (in_range_at whole I.MIN_COORD I.MAX_COORD c.args.contour.now c.requires)).0;
    }

pub doubled_triangle-requires-clause-r : goal.doubled_triangle-requires-clause-r
doubled_triangle-requires-clause-r g c =
    let I = g.I.OverlayInt in
    let whole = I.whole in
    let later = (first_and_rest (IsPointInRange whole I.MIN_COORD I.MAX_COORD) c.args.contour.now c.in-Some.first.now c.in-Some.later.now c.in-Some.ensures.cases.0 (in_range_at whole I.MIN_COORD I.MAX_COORD c.args.contour.now c.requires)).1 in
    subst (IsPointInRange whole I.MIN_COORD I.MAX_COORD) (sym c.point-item.is) (later c.loop-point.point-index c.point-item.result c.loop-point-test.true)

pub loop-point-preserved : goal.loop-point-preserved
loop-point-preserved g c =
    let I = g.I.OverlayInt in
    let whole = I.whole in
    let later = (first_and_rest (IsPointInRange whole I.MIN_COORD I.MAX_COORD) c.args.contour.now c.in-Some.first.now c.in-Some.later.now c.in-Some.ensures.cases.0 (in_range_at whole I.MIN_COORD I.MAX_COORD c.args.contour.now c.requires)).1 in
    let summed : ℤ = c.loop-point.area in
    let triangle : ℤ = c.doubled_triangle.result in
    let triangle_fits : FitsSigned w64 triangle = fits_signed_from_abs w64 triangle (omega (arith, c.doubled_triangle.ensures.bound)) in
    let from : c.from-area.result ≡ triangle = simp to_z-of_z at c.from-area.ensures in
    let most = area_bound summed triangle c.loop-point.point-index (2 * greatest_product) (rw c.loop-point.area-is at c.loop-point.invariant.bound) c.doubled_triangle.ensures.bound in
    let fits : FitsSigned w128 (summed +ℤ triangle) = fits_signed_from_abs w128 (summed +ℤ triangle) (omega (arith, most, c.loop-point-test.true)) in
    let wide : FitsSigned w128 triangle = fits_signed_from_abs w128 triangle (omega (arith, c.doubled_triangle.ensures.bound)) in
    let is : to_z w128 (of_z w128 (to_z w128 c.loop-point.area-bits +ℤ to_z w128 (of_z w128 c.from-area.result))) ≡ summed +ℤ triangle = rw (from, c.loop-point.area-is) (simp to_z-of_z) in
    record {
      area =
          area_step (point_of whole) c.in-Some.later.now c.loop-point.point-index c.point-item.result (point_of whole c.in-Some.first.now) (point_of whole c.loop-point.before) summed _ _ c.loop-point-test.true c.point-item.is
          (is ∙ ap (λ (z : ℤ). summed +ℤ z) c.doubled_triangle.ensures.area) (rw c.loop-point.area-is at c.loop-point.invariant.area);
      bound = rw is most;
      in_range = subst (IsPointInRange whole I.MIN_COORD I.MAX_COORD) (sym c.point-item.is) (later c.loop-point.point-index c.point-item.result c.loop-point-test.true);
    }

pub returns : goal.returns
returns g c =
    let whole = g.I.OverlayInt.whole in
    rw c.loop-point.area-is
    (area_end (point_of whole) c.in-Some.later.now c.loop-point.point-index (point_of whole c.in-Some.first.now) (point_of whole c.loop-point.before) c.loop-point.area c.loop-point-test.false (rw c.loop-point.area-is at c.loop-point.invariant.area)
    ∙ sym (ap (λ (l : List _). doubled_area (points_of whole l)) c.in-Some.ensures.cases.0))
