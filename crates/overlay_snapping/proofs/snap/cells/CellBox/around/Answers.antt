use Rattle.std.proofs.Common.{◌∙◌, ap, rules}
use Rattle.std.specs.Prelude.{ℤ, pos, ◌+ℤ◌}
use Rattle.std.specs.Int.{w64}
use Rattle.std.specs.Int.RustNames.{FitsSigned}
use Rattle.std.proofs.lemmas.Int.{to_z-of_z}
use Rattle.overlay_geometry.specs.Points.{Point}
use Rattle.overlay_geometry.specs.PointOf.{point_of}
use Rattle.overlay_geometry.specs.PairOf.{pair_of}
use Rattle.overlay_snapping.specs.steps.PointTrees.{column_of}
use Rattle.overlay_snapping.proofs.laws.cells.Boxes.{right_fits, top_fits, has_cell-from_box}
use Rattle.overlay_snapping.proofs.snap.cells.CellBox.around.Goals as goal

pub overflow_add-result : goal.overflow_add-result
overflow_add-result g c =
    let whole = g.I.OverlayInt.whole in
    let z = c.cell_of-greatest.result.column in
    let f : FitsSigned w64 z = search rules in
    let next = right_fits (whole g.I.OverlayInt.MIN_COORD) (whole g.I.OverlayInt.MAX_COORD) (pair_of whole c.args.segment.now) g.met.I.OverlayInt.highest c.requires.in_range.a_in_range c.requires.in_range.b_in_range
    c.args.size (point_of whole c.greatest_corner.result) z f c.greatest_corner.ensures c.cell_of-greatest.ensures.column in
    rw (to_z-of_z w64 z f) next

pub overflow_add-result-2 : goal.overflow_add-result-2
overflow_add-result-2 g c =
    let whole = g.I.OverlayInt.whole in
    let z = c.cell_of-greatest.result.row in
    let f : FitsSigned w64 z = search rules in
    let next = top_fits (whole g.I.OverlayInt.MIN_COORD) (whole g.I.OverlayInt.MAX_COORD) (pair_of whole c.args.segment.now) g.met.I.OverlayInt.highest c.requires.in_range.a_in_range c.requires.in_range.b_in_range
    c.args.size (point_of whole c.greatest_corner.result) z f c.greatest_corner.ensures c.cell_of-greatest.ensures.row in
    rw (to_z-of_z w64 z f) next

pub returns : goal.returns
returns g c =
    let whole = g.I.OverlayInt.whole in
    let s = pair_of whole c.args.segment.now in
    let size = c.args.size in
    let least = whole g.I.OverlayInt.MIN_COORD in
    let greatest = whole g.I.OverlayInt.MAX_COORD in
    let high = g.met.I.OverlayInt.highest in
    let a = c.requires.in_range.a_in_range in
    let b = c.requires.in_range.b_in_range in
    let low = point_of whole c.least_corner.result in
    let up = point_of whole c.greatest_corner.result in
    let left : FitsSigned w64 c.cell_of-least.result.column = search rules in
    let bottom : FitsSigned w64 c.cell_of-least.result.row = search rules in
    let right : FitsSigned w64 c.cell_of-greatest.result.column = search rules in
    let top : FitsSigned w64 c.cell_of-greatest.result.row = search rules in
    let right_next = right_fits least greatest s high a b size up c.cell_of-greatest.result.column right c.greatest_corner.ensures c.cell_of-greatest.ensures.column in
    let top_next = top_fits least greatest s high a b size up c.cell_of-greatest.result.row top c.greatest_corner.ensures c.cell_of-greatest.ensures.row in
    has_cell-from_box size _ s c.requires.ordered
    (to_z-of_z w64 c.cell_of-least.result.column left ∙ c.cell_of-least.ensures.column ∙ ap (λ (q : Point). column_of size.width q.x) c.least_corner.ensures)
    (rw (to_z-of_z w64 c.cell_of-greatest.result.column right) (to_z-of_z w64 (c.cell_of-greatest.result.column +ℤ pos 1) right_next) ∙ ap (λ (z : ℤ). z +ℤ pos 1) (c.cell_of-greatest.ensures.column ∙ ap (λ (q : Point). column_of size.width q.x) c.greatest_corner.ensures))
    (to_z-of_z w64 c.cell_of-least.result.row bottom ∙ c.cell_of-least.ensures.row ∙ ap (λ (q : Point). column_of size.height q.y) c.least_corner.ensures)
    (rw (to_z-of_z w64 c.cell_of-greatest.result.row top) (to_z-of_z w64 (c.cell_of-greatest.result.row +ℤ pos 1) top_next) ∙ ap (λ (z : ℤ). z +ℤ pos 1) (c.cell_of-greatest.ensures.row ∙ ap (λ (q : Point). column_of size.height q.y) c.greatest_corner.ensures))
