use Rattle.std.proofs.Common.{◌≡◌, map}
use Rattle.std.specs.Prelude.{◌≤ℤ◌, ◌<ℤ◌}
use Rattle.overlay_geometry.specs.PointOf.{point_of}
use Rattle.overlay_geometry.specs.PairOf.{pair_of}
use Rattle.overlay_snapping.specs.PointGridOf.{points_in}
use Rattle.overlay_snapping.specs.steps.PointTrees.{column_of}
use Rattle.overlay_snapping.specs.steps.Met.{AddsMet}
use Rattle.overlay_snapping.proofs.snap.point_grid.PointGrid.append_met_in_row.Given as goal

-- the columns so far are done
abbrev pub invariant-loop-column : goal.invariant-loop-column
invariant-loop-column g l =
    let whole = g.I.OverlayInt.whole in
    AddsMet (pair_of whole l.segment) (points_in l.self) (λ c. (l.cells.left ≤ℤ column_of l.self.size.width c.x) × (column_of l.self.size.width c.x <ℤ l.column) × (column_of l.self.size.height c.y ≡ l.row))
    (map (point_of whole) l.fn.met.items) (map (point_of whole) l.met.items)
