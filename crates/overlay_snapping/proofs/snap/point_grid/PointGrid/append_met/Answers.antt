use Rattle.std.proofs.Common.{◌≡◌, inl, inr, map, arith, rules}
use Rattle.std.specs.Prelude.{◌≤ℤ◌, IsTrue}
use Rattle.std.specs.Int.{w64, cast_signed}
use Rattle.std.specs.Int.RustNames.{FitsSigned}
use Rattle.std.proofs.lemmas.Bool.{and_parts}
use Rattle.std.proofs.lemmas.Int.{ints, by_lt_z}
use Rattle.overlay_geometry.specs.Points.{Point}
use Rattle.overlay_geometry.specs.PointOf.{point_of}
use Rattle.overlay_geometry.specs.PairOf.{pair_of}
use Rattle.overlay_snapping.specs.PointGridOf.{points_in}
use Rattle.overlay_snapping.specs.steps.PointTrees.{column_of}
use Rattle.overlay_snapping.specs.steps.Cells.{is_among}
use Rattle.overlay_snapping.proofs.laws.cells.Added.{adds_nothing, adds_fewer, adds_then}
use Rattle.overlay_snapping.proofs.laws.cells.Boxes.{among_parts}
use Rattle.overlay_snapping.proofs.snap.point_grid.PointGrid.append_met.Goals as goal

pub loop-row-init : goal.loop-row-init
loop-row-init g c =
    let bottom : FitsSigned w64 c.args.cells.now.bottom = search rules in
    adds_nothing (pair_of g.I.OverlayInt.whole c.args.segment.now) (points_in c.args.self.now) _ (map (point_of g.I.OverlayInt.whole) c.args.met.now.items)
    (λ q h. let low = h.1 in let high = h.2 in absurd (omega (arith, ints, low, high, bottom)))

pub loop-row-preserved : goal.loop-row-preserved
loop-row-preserved g c =
    let whole = g.I.OverlayInt.whole in
    let s = pair_of whole c.args.segment.now in
    let points = points_in c.args.self.now in
    let size = c.args.self.now.size in
    let cells = c.args.cells.now in
    let here = cast_signed w64 c.loop-row.row-bits in
    let fits = c.loop-row.auto.row-fits in
    let inside = c.loop-row-test.true in
    adds_then s points _ (λ (q : Point). IsTrue (is_among cells.left cells.right (column_of size.width q.x)) × (column_of size.height q.y ≡ here)) _ (map (point_of whole) c.args.met.now.items) (map (point_of whole) c.loop-row.met.items) (map (point_of whole) c.append_met_in_row.new.met.items)
    (λ q h.
    let z = column_of size.height q.y in
    let high = h.2 in
    let below : z ≤ℤ here = omega (arith, ints, high, fits, inside) in
    by_lt_z z here (λ less. inl (h.0, h.1, less)) (λ more. inr (h.0, omega (arith, ints, more, below))))
    c.loop-row.invariant c.in_ok-append_met_in_row.ensures

pub returns : goal.returns
returns g c =
    let whole = g.I.OverlayInt.whole in
    let past = c.loop-row-test.false in
    let cells = c.args.cells.now in
    let size = c.args.self.now.size in
    let top : FitsSigned w64 cells.top = search rules in
    adds_fewer (pair_of whole c.args.segment.now) (points_in c.args.self.now) _ _ (map (point_of whole) c.args.met.now.items) (map (point_of whole) c.loop-row.met.items)
    (λ q k m h.
    let p = and_parts (is_among cells.left cells.right (column_of size.width q.x)) (is_among cells.bottom cells.top (column_of size.height q.y)) h in
    let r = among_parts cells.bottom cells.top (column_of size.height q.y) p.1 in
    let high = r.1 in
    (p.0, r.0, omega (arith, ints, high, past, top)))
    c.loop-row.invariant
