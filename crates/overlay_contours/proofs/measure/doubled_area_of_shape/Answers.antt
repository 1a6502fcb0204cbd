use Rattle.std.proofs.Common.{◌≡◌, drop, sym, ap, subst, ◌∙◌, ◌+◌, ◌%◌, ◌^◌, List, FitsSigned, to_z, of_z}
use Rattle.std.specs.Prelude.{ℤ, ◌+ℤ◌}
use Rattle.std.specs.Int.{w128, int_wrap}
use Rattle.std.proofs.lemmas.Int.{int_wrap_fits, wrapping_add_onto}
use Rattle.std.proofs.Math.Facts.{sfits_to_z}
use Rattle.overlay_geometry.specs.Coordinates.{is_point_in_range}
use Rattle.overlay_contours.specs.Areas.{doubled_area, doubled_area_of_all}
use Rattle.overlay_contours.specs.ContoursIn.{LiesInRange}
use Rattle.overlay_contours.specs.ContoursOf.{points_of, contours_of}
use Rattle.overlay_contours.proofs.laws.AreaSums.{area_next, area_done, sum_fits}
use Rattle.overlay_contours.proofs.laws.Corners.{list_passes_at}
use Rattle.overlay_contours.proofs.measure.doubled_area_of_shape.Goals as goal

pub doubled_area-area-requires : goal.doubled_area-area-requires
doubled_area-area-requires g c =
    let I = g.I.OverlayInt in
    subst (λ (l : List _). LiesInRange I.whole I.MIN_COORD I.MAX_COORD l) (sym c.deref.ensures.value)
    (list_passes_at (λ (v : _). points_of I.whole v.items) (is_point_in_range (I.whole I.MIN_COORD) (I.whole I.MAX_COORD)) c.args.shape.now c.loop-contour.contour-index c.contour-item.result c.loop-contour-test.true c.contour-item.is c.requires)

pub loop-contour-preserved : goal.loop-contour-preserved
loop-contour-preserved g c =
    let whole = g.I.OverlayInt.whole in
    let points = λ (v : _). points_of whole v.items in
    let area : ℤ = c.loop-contour.area in
    let more : ℤ = c.doubled_area-area.result in
    let fits : FitsSigned w128 more = record { sfits = c.doubled_area-area.type_inv } in
    let is : to_z w128 ((c.loop-contour.area-bits + of_z w128 c.doubled_area-area.result) % 2 ^ 128) ≡ int_wrap w128 (area +ℤ more) = wrapping_add_onto w128 c.loop-contour.area-bits more c.loop-contour.auto.area.fits fits ∙ ap (λ (z : ℤ). int_wrap w128 (z +ℤ more)) c.loop-contour.area-is in
    let summed = is ∙ ap (λ (z : ℤ). int_wrap w128 (area +ℤ z)) (c.doubled_area-area.ensures ∙ ap (λ (l : List _). doubled_area (points_of whole l)) c.deref.ensures.value) in
    ap (λ (z : ℤ). int_wrap w128 (z +ℤ doubled_area_of_all (contours_of whole (drop (c.loop-contour.contour-index + 1) c.args.shape.now)))) summed
    ∙ area_next points c.args.shape.now c.loop-contour.contour-index c.contour-item.result area (int_wrap w128 (doubled_area_of_all (contours_of whole c.args.shape.now))) c.loop-contour-test.true c.contour-item.is (rw c.loop-contour.area-is at c.loop-contour.invariant)

pub returns : goal.returns
returns g c few =
    let I = g.I.OverlayInt in
    let whole = I.whole in
    let points = λ (v : _). points_of whole v.items in
    let area : ℤ = c.loop-contour.area in
    let fits : FitsSigned w128 area = subst (λ (z : ℤ). FitsSigned w128 z) c.loop-contour.area-is (sfits_to_z c.loop-contour.auto.area) in
    let all = doubled_area_of_all (contours_of whole c.args.shape.now) in
    let summed : int_wrap w128 area ≡ int_wrap w128 all = ap (int_wrap w128) (sym (area_done points c.args.shape.now c.loop-contour.contour-index area c.loop-contour-test.false)) ∙ (rw c.loop-contour.area-is at c.loop-contour.invariant) in
    c.loop-contour.area-is ∙ sym (int_wrap_fits w128 area fits) ∙ summed ∙ sum_fits (whole I.MIN_COORD) (whole I.MAX_COORD) g.met.I.OverlayInt.lowest g.met.I.OverlayInt.highest (contours_of whole c.args.shape.now) c.requires few
