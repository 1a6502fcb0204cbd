use Rattle.std.proofs.Common.{◌≡◌, refl, sym, subst, List, [], Some, ◌≤◌, ◌+◌, arith, FitsSigned, to_z, of_z, to_z-of_z}
use Rattle.std.specs.Prelude.{ℤ, ◌+ℤ◌, unsigned_abs}
use Rattle.std.specs.Int.{w128}
use Rattle.std.proofs.lemmas.Int.{ints, fits_signed_from_abs}
use Rattle.std.proofs.lemmas.Grind.{common_steps}
use Rattle.overlay_geometry.specs.InRange.{IsPointInRange}
use Rattle.overlay_geometry.specs.PointOf.{point_of}
use Rattle.overlay_contours.proofs.laws.Areas.{in_range_at}
use Rattle.overlay_contours.proofs.laws.Corners.{first_and_rest}
use Rattle.overlay_contours.proofs.laws.Locations.{counted_more, counted_all, steps_along, next_step, last_step}
use Rattle.overlay_contours.specs.Contours.{steps_of}
use Rattle.overlay_contours.specs.ContoursOf.{points_of}
use Rattle.overlay_contours.specs.steps.Locating.{IsWindingOf}
use Rattle.overlay_contours.proofs.location.winding_of_contour.Goals as goal

pub winding_of_step-requires-clause-to : goal.winding_of_step-requires-clause-to
winding_of_step-requires-clause-to g c =
    let I = g.I.OverlayInt in
    let whole = I.whole in
    let later = (first_and_rest (IsPointInRange whole I.MIN_COORD I.MAX_COORD) c.args.contour.now c.in-Some.first.now c.in-Some.later.now c.in-Some.ensures.cases.0 (in_range_at whole I.MIN_COORD I.MAX_COORD c.args.contour.now c.requires.contour)).1 in
    subst (IsPointInRange whole I.MIN_COORD I.MAX_COORD) (sym c.to-item.is) (later c.loop-to.to-index c.to-item.result c.loop-to-test.true)

pub loop-to-preserved : goal.loop-to-preserved
loop-to-preserved g c =
    let I = g.I.OverlayInt in
    let whole = I.whole in
    let o = point_of whole c.in-Some.first.now in
    let later = (first_and_rest (IsPointInRange whole I.MIN_COORD I.MAX_COORD) c.args.contour.now c.in-Some.first.now c.in-Some.later.now c.in-Some.ensures.cases.0 (in_range_at whole I.MIN_COORD I.MAX_COORD c.args.contour.now c.requires.contour)).1 in
    let counted : ℤ = c.loop-to.winding in
    let one : ℤ = c.in_ok-winding.field-0 in
    let before = rw c.loop-to.winding-is at c.loop-to.invariant.bound in
    let one_fits : FitsSigned w128 one = fits_signed_from_abs w128 one (omega (arith, c.in_ok-winding.ensures.bound)) in
    let most : unsigned_abs (counted +ℤ one) ≤ c.loop-to.to-index + 1 = omega (arith, ints, before, c.in_ok-winding.ensures.bound) in
    let fits : FitsSigned w128 (counted +ℤ one) = fits_signed_from_abs w128 (counted +ℤ one) (omega (arith, most, c.loop-to-test.true)) in
    let is : to_z w128 (of_z w128 (to_z w128 c.loop-to.winding-bits +ℤ to_z w128 (of_z w128 c.in_ok-winding.field-0))) ≡ counted +ℤ one = rw c.loop-to.winding-is (simp to_z-of_z) in
    record {
      counted = rw is
          (counted_more (steps_along (point_of whole) c.in-Some.later.now 0 o o) (steps_along (point_of whole) c.in-Some.later.now c.loop-to.to-index o (point_of whole c.loop-to.from)) _ _ (point_of whole c.args.point) counted one (rw c.loop-to.winding-is at c.loop-to.invariant.counted)
          (next_step (point_of whole) c.in-Some.later.now c.loop-to.to-index c.to-item.result o (point_of whole c.loop-to.from) c.loop-to-test.true c.to-item.is) c.in_ok-winding.ensures.winding);
      bound = rw is most;
      in_range = subst (IsPointInRange whole I.MIN_COORD I.MAX_COORD) (sym c.to-item.is) (later c.loop-to.to-index c.to-item.result c.loop-to-test.true);
    }

pub returns-clause-winding : goal.returns-clause-winding
returns-clause-winding g c =
    let whole = g.I.OverlayInt.whole in
    let o = point_of whole c.in-Some.first.now in
    let p = point_of whole c.args.point in
    let counted : ℤ = c.loop-to.winding in
    let one : ℤ = c.in_ok-winding_of_step.field-0 in
    let before = rw c.loop-to.winding-is at c.loop-to.invariant.bound in
    let one_fits : FitsSigned w128 one = fits_signed_from_abs w128 one (omega (arith, c.in_ok-winding_of_step.ensures.bound)) in
    let most : unsigned_abs (counted +ℤ one) ≤ c.loop-to.to-index + 1 = omega (arith, ints, before, c.in_ok-winding_of_step.ensures.bound) in
    let fits : FitsSigned w128 (counted +ℤ one) = fits_signed_from_abs w128 (counted +ℤ one) (omega (arith, most, c.loop-to.auto.to-index-end)) in
    let is : to_z w128 (of_z w128 (to_z w128 c.loop-to.winding-bits +ℤ to_z w128 (of_z w128 c.in_ok-winding_of_step.field-0))) ≡ counted +ℤ one = rw c.loop-to.winding-is (simp to_z-of_z) in
    let all = steps_along (point_of whole) c.in-Some.later.now 0 o o in
    let done =
    counted_all all [] p (counted +ℤ one)
    (counted_more all (steps_along (point_of whole) c.in-Some.later.now c.loop-to.to-index o (point_of whole c.loop-to.from)) _ [] p counted one (rw c.loop-to.winding-is at c.loop-to.invariant.counted)
    (last_step (point_of whole) c.in-Some.later.now c.loop-to.to-index o (point_of whole c.loop-to.from) c.loop-to-test.false) c.in_ok-winding_of_step.ensures.winding)
    refl in
    rw is (subst (λ (l : List _). IsWindingOf (steps_of (points_of whole l)) p (Some (counted +ℤ one))) (sym c.in-Some.ensures.cases.0) done)

pub returns-in_default-clause-winding : goal.returns-in_default-clause-winding
returns-in_default-clause-winding g c = grind (arith, common_steps)

pub returns-in_err-winding-clause-winding : goal.returns-in_err-winding-clause-winding
returns-in_err-winding-clause-winding g c = grind (arith, common_steps)

pub returns-in_err-winding_of_step-clause-winding : goal.returns-in_err-winding_of_step-clause-winding
returns-in_err-winding_of_step-clause-winding g c = grind (arith, common_steps)
