use Rattle.std.proofs.Common.{sym, ◌∙◌, arith}
use Rattle.std.proofs.lemmas.Int.{ints}
use Rattle.overlay_geometry.specs.PointOf.{point_of}
use Rattle.overlay_geometry.specs.Points.{Pair}
use Rattle.overlay_contours.proofs.laws.Locations.{on_step, winds_right, winds_left, passes_on_line, passes_before, passes_after, passes_before_turned, passes_after_turned}
use Rattle.overlay_contours.proofs.location.winding_of_step.Goals as goal

pub returns-in-Equal-clause-winding : goal.returns-in-Equal-clause-winding
returns-in-Equal-clause-winding g c =
    let whole = g.I.OverlayInt.whole in
    let s : Pair = record { a = point_of whole c.args.from; b = point_of whole c.args.to } in
    let p = point_of whole c.args.point in
    on_step s p (sym c.clock_order.ensures ∙ c.in-Equal.is) (sym c.is_in_box.ensures ∙ c.if-is_in_box.true)

pub returns-in-Greater-clause-winding : goal.returns-in-Greater-clause-winding
returns-in-Greater-clause-winding g c =
    let whole = g.I.OverlayInt.whole in
    let s : Pair = record { a = point_of whole c.args.from; b = point_of whole c.args.to } in
    let p = point_of whole c.args.point in
    winds_right s p (sym c.clock_order.ensures ∙ c.in-Greater.is) (omega (arith, ints, c.to_wide-start.ensures, c.to_wide-end.ensures, c.to_wide-x.ensures, c.if-start-x.true)) (omega (arith, ints, c.to_wide-start.ensures, c.to_wide-end.ensures, c.to_wide-x.ensures, c.if-x-end.true))

pub returns-in-Less-clause-winding : goal.returns-in-Less-clause-winding
returns-in-Less-clause-winding g c =
    let whole = g.I.OverlayInt.whole in
    let s : Pair = record { a = point_of whole c.args.from; b = point_of whole c.args.to } in
    let p = point_of whole c.args.point in
    winds_left s p (sym c.clock_order.ensures ∙ c.in-Less.is) (omega (arith, ints, c.to_wide-start.ensures, c.to_wide-end.ensures, c.to_wide-x.ensures, c.if-end-x.true)) (omega (arith, ints, c.to_wide-start.ensures, c.to_wide-end.ensures, c.to_wide-x.ensures, c.if-x-start.true))

pub returns-in_default-clause-winding : goal.returns-in_default-clause-winding
returns-in_default-clause-winding g c =
    let whole = g.I.OverlayInt.whole in
    let s : Pair = record { a = point_of whole c.args.from; b = point_of whole c.args.to } in
    let p = point_of whole c.args.point in
    passes_on_line s p (sym c.clock_order.ensures ∙ c.in-Equal.is) (sym c.is_in_box.ensures ∙ c.if-is_in_box.false)

pub returns-in_default-2-clause-winding : goal.returns-in_default-2-clause-winding
returns-in_default-2-clause-winding g c =
    let whole = g.I.OverlayInt.whole in
    let s : Pair = record { a = point_of whole c.args.from; b = point_of whole c.args.to } in
    let p = point_of whole c.args.point in
    passes_after s p (sym c.clock_order.ensures ∙ c.in-Greater.is) (omega (arith, ints, c.to_wide-start.ensures, c.to_wide-end.ensures, c.to_wide-x.ensures, c.if-x-end.false))

pub returns-in_default-3-clause-winding : goal.returns-in_default-3-clause-winding
returns-in_default-3-clause-winding g c =
    let whole = g.I.OverlayInt.whole in
    let s : Pair = record { a = point_of whole c.args.from; b = point_of whole c.args.to } in
    let p = point_of whole c.args.point in
    passes_before s p (sym c.clock_order.ensures ∙ c.in-Greater.is) (omega (arith, ints, c.to_wide-start.ensures, c.to_wide-end.ensures, c.to_wide-x.ensures, c.if-start-x.false))

pub returns-in_default-4-clause-winding : goal.returns-in_default-4-clause-winding
returns-in_default-4-clause-winding g c =
    let whole = g.I.OverlayInt.whole in
    let s : Pair = record { a = point_of whole c.args.from; b = point_of whole c.args.to } in
    let p = point_of whole c.args.point in
    passes_after_turned s p (sym c.clock_order.ensures ∙ c.in-Less.is) (omega (arith, ints, c.to_wide-start.ensures, c.to_wide-end.ensures, c.to_wide-x.ensures, c.if-x-start.false))

pub returns-in_default-5-clause-winding : goal.returns-in_default-5-clause-winding
returns-in_default-5-clause-winding g c =
    let whole = g.I.OverlayInt.whole in
    let s : Pair = record { a = point_of whole c.args.from; b = point_of whole c.args.to } in
    let p = point_of whole c.args.point in
    passes_before_turned s p (sym c.clock_order.ensures ∙ c.in-Less.is) (omega (arith, ints, c.to_wide-start.ensures, c.to_wide-end.ensures, c.to_wide-x.ensures, c.if-end-x.false))
