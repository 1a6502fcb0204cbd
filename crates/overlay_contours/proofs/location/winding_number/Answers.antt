use Rattle.std.proofs.Common.{◌≡◌, sym, subst, ◌≤◌, ◌+◌, ◌*◌, ◌^◌, List, arith, FitsSigned, to_z, of_z, to_z-of_z}
use Rattle.std.specs.Prelude.{ℤ, ◌+ℤ◌, unsigned_abs}
use Rattle.std.specs.Int.{w128}
use Rattle.std.proofs.lemmas.Int.{ints, fits_signed_from_abs}
use Rattle.overlay_geometry.specs.Coordinates.{is_point_in_range}
use Rattle.overlay_geometry.specs.PointOf.{point_of}
use Rattle.overlay_contours.specs.ContoursIn.{LiesInRange}
use Rattle.overlay_contours.specs.ContoursOf.{points_of}
use Rattle.overlay_contours.proofs.laws.Corners.{list_passes_at}
use Rattle.overlay_contours.proofs.laws.Locations.{counted_more, steps_past, next_contour}
use Rattle.overlay_contours.proofs.location.winding_number.Goals as goal

pub winding_of_contour-requires-clause-contour : goal.winding_of_contour-requires-clause-contour
winding_of_contour-requires-clause-contour g c =
    let I = g.I.OverlayInt in
    subst (λ (l : List _). LiesInRange I.whole I.MIN_COORD I.MAX_COORD l) (sym c.deref.ensures.value)
    (list_passes_at (λ (v : _). points_of I.whole v.items) (is_point_in_range (I.whole I.MIN_COORD) (I.whole I.MAX_COORD)) c.args.contours.now c.loop-contour.contour-index c.contour-item.result c.loop-contour-test.true c.contour-item.is c.requires.contours)

pub loop-contour-preserved : goal.loop-contour-preserved
loop-contour-preserved g c =
    let whole = g.I.OverlayInt.whole in
    let points = λ (v : _). points_of whole v.items in
    let contours = c.args.contours.now in
    let index = c.loop-contour.contour-index in
    let counted : ℤ = c.loop-contour.winding in
    let more : ℤ = c.in_ok-winding.field-0 in
    let before = rw c.loop-contour.winding-is at c.loop-contour.invariant.bound in
    let more_fits : FitsSigned w128 more = fits_signed_from_abs w128 more (omega (arith, c.in_ok-winding.ensures.bound)) in
    let most : unsigned_abs (counted +ℤ more) ≤ (index + 1) * 2 ^ 64 = omega (arith, ints, before, c.in_ok-winding.ensures.bound) in
    let fits : FitsSigned w128 (counted +ℤ more) = fits_signed_from_abs w128 (counted +ℤ more) (omega (arith, most, c.loop-contour-test.true)) in
    let is : to_z w128 (of_z w128 (to_z w128 c.loop-contour.winding-bits +ℤ to_z w128 (of_z w128 c.in_ok-winding.field-0))) ≡ counted +ℤ more = rw c.loop-contour.winding-is (simp to_z-of_z) in
    record {
      counted = rw is
          (counted_more (steps_past points contours 0) (steps_past points contours index) _ _ (point_of whole c.args.point) counted more (rw c.loop-contour.winding-is at c.loop-contour.invariant.counted)
          (next_contour points contours index c.contour-item.result c.loop-contour-test.true c.contour-item.is) (rw c.deref.ensures.value at c.in_ok-winding.ensures.winding));
      bound = rw is most;
    }
