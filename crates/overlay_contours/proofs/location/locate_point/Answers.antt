use Rattle.std.proofs.Common.{sym, ◌∙◌, true, false, arith, FitsSigned, to_z-of_z, rules}
use Rattle.std.specs.Int.{w128}
use Rattle.std.proofs.lemmas.Int.{fits_signed_from_abs}
use Rattle.overlay_geometry.specs.PointOf.{point_of}
use Rattle.overlay_contours.specs.ContoursOf.{contours_of}
use Rattle.overlay_contours.proofs.laws.Locations.{located}
use Rattle.overlay_contours.proofs.location.locate_point.Goals as goal

pub returns-in-Some : goal.returns-in-Some
returns-in-Some g c =
    let whole = g.I.OverlayInt.whole in
    let fits : FitsSigned w128 c.in-Some.winding = fits_signed_from_abs w128 c.in-Some.winding (omega (arith, c.in-Some.ensures.bound)) in
    located c.args.fill_rule (contours_of whole c.args.contours.now) (point_of whole c.args.point) c.in-Some.winding c.in-Some.ensures.winding true (sym (simp to_z-of_z at c.is_inside.ensures) ∙ c.if-is_inside.true)

pub returns-in-Some-2 : goal.returns-in-Some-2
returns-in-Some-2 g c =
    let whole = g.I.OverlayInt.whole in
    let fits : FitsSigned w128 c.in-Some.winding = fits_signed_from_abs w128 c.in-Some.winding (omega (arith, c.in-Some.ensures.bound)) in
    located c.args.fill_rule (contours_of whole c.args.contours.now) (point_of whole c.args.point) c.in-Some.winding c.in-Some.ensures.winding false (sym (simp to_z-of_z at c.is_inside.ensures) ∙ c.if-is_inside.false)

pub returns-in-None : goal.returns-in-None
returns-in-None g c = search rules
