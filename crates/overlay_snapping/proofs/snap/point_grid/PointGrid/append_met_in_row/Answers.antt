use Rattle.std.proofs.Common.{◌≡◌, ◌∙◌, sym, ap, inl, inr, map, arith, rules}
use Rattle.std.specs.Prelude.{◌≤ℤ◌}
use Rattle.std.specs.Int.{w64, cast_signed}
use Rattle.std.specs.Int.RustNames.{FitsSigned}
use Rattle.std.proofs.lemmas.Int.{ints, by_lt_z, to_z-of_z}
use Rattle.overlay_geometry.specs.Points.{Point}
use Rattle.overlay_geometry.specs.PointOf.{point_of}
use Rattle.overlay_geometry.specs.PairOf.{pair_of}
use Rattle.overlay_snapping.specs.PointGridOf.{points_in}
use Rattle.overlay_snapping.specs.steps.PointTrees.{column_of}
use Rattle.overlay_snapping.specs.steps.Cells.{slot_of, slot_at}
use Rattle.overlay_snapping.proofs.laws.cells.Added.{adds_nothing, adds_fewer, adds_then}
use Rattle.overlay_snapping.proofs.laws.cells.Boxes.{among_parts}
use Rattle.overlay_snapping.proofs.snap.point_grid.PointGrid.append_met_in_row.Goals as goal

pub loop-column-init : goal.loop-column-init
loop-column-init g c =
    let left : FitsSigned w64 c.args.cells.now.left = search rules in
    adds_nothing (pair_of g.I.OverlayInt.whole c.args.segment.now) (points_in c.args.self.now) _ (map (point_of g.I.OverlayInt.whole) c.args.met.now.items)
    (λ q h. let low = h.0 in let high = h.1 in absurd (omega (arith, ints, low, high, left)))

pub loop-column-preserved : goal.loop-column-preserved
loop-column-preserved g c =
    let whole = g.I.OverlayInt.whole in
    let s = pair_of whole c.args.segment.now in
    let points = points_in c.args.self.now in
    let size = c.args.self.now.size in
    let mask = c.args.self.now.mask in
    let here = cast_signed w64 c.loop-column.column-bits in
    let fits = c.loop-column.auto.column-fits in
    let inside = c.loop-column-test.true in
    let row_fits : FitsSigned w64 c.args.row = search rules in
    let slot = simp (to_z-of_z, row_fits, fits) at c.slot_of.ensures in
    adds_then s points _ (λ (q : Point). slot_at mask size q ≡ c.slot_of.result) _ (map (point_of whole) c.args.met.now.items) (map (point_of whole) c.loop-column.met.items) (map (point_of whole) c.append_met_in_slot.new.met.items)
    (λ q h.
    let z = column_of size.width q.x in
    let high = h.1 in
    let below : z ≤ℤ here = omega (arith, ints, high, fits, inside) in
    by_lt_z z here (λ less. inl (h.0, less, h.2)) (λ more.
    let at : z ≡ here = omega (arith, ints, more, below) in
    inr (ap (λ x. slot_of mask x (column_of size.height q.y)) at ∙ ap (λ y. slot_of mask here y) (h.2 ∙ to_z-of_z w64 c.args.row row_fits) ∙ sym slot)))
    c.loop-column.invariant c.in_ok-append_met_in_slot.ensures

pub returns : goal.returns
returns g c =
    let whole = g.I.OverlayInt.whole in
    let past = c.loop-column-test.false in
    let right : FitsSigned w64 c.args.cells.now.right = search rules in
    let row_fits : FitsSigned w64 c.args.row = search rules in
    adds_fewer (pair_of whole c.args.segment.now) (points_in c.args.self.now) _ _ (map (point_of whole) c.args.met.now.items) (map (point_of whole) c.loop-column.met.items)
    (λ q k m h.
    let p = among_parts c.args.cells.now.left c.args.cells.now.right (column_of c.args.self.now.size.width q.x) h.0 in
    let high = p.1 in
    (p.0, omega (arith, ints, high, past, right), h.1 ∙ sym (to_z-of_z w64 c.args.row row_fits)))
    c.loop-column.invariant
