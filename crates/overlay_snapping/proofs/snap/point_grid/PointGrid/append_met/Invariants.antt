use Rattle.std.proofs.Common.{map, IsTrue}
use Rattle.std.specs.Prelude.{◌≤ℤ◌, ◌<ℤ◌}
use Rattle.overlay_geometry.specs.PointOf.{point_of}
use Rattle.overlay_geometry.specs.PairOf.{pair_of}
use Rattle.overlay_snapping.specs.PointGridOf.{points_in}
use Rattle.overlay_snapping.specs.steps.PointTrees.{column_of}
use Rattle.overlay_snapping.specs.steps.Cells.{is_among}
use Rattle.overlay_snapping.specs.steps.Met.{AddsMet}
use Rattle.overlay_snapping.proofs.snap.point_grid.PointGrid.append_met.Given as goal

-- the rows so far are done
abbrev pub invariant-loop-row : goal.invariant-loop-row
invariant-loop-row g l =
    let whole = g.I.OverlayInt.whole in
    AddsMet (pair_of whole l.segment) (points_in l.self)
    (λ c. IsTrue (is_among l.cells.left l.cells.right (column_of l.self.size.width c.x)) × (l.cells.bottom ≤ℤ column_of l.self.size.height c.y) × (column_of l.self.size.height c.y <ℤ l.row))
    (map (point_of whole) l.fn.met.items) (map (point_of whole) l.met.items)
