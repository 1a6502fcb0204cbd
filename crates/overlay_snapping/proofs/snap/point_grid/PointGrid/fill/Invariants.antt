use Rattle.std.proofs.Common.{◌≡◌, ◌≤◌, ◌↔◌, false, length, map, take}
use Rattle.std.specs.Prelude.{Contains}
use Rattle.overlay_geometry.specs.Points.{Point}
use Rattle.overlay_geometry.specs.PointOf.{point_of}
use Rattle.overlay_snapping.specs.PointGridOf.{points_in}
use Rattle.overlay_snapping.proofs.snap.point_grid.PointGrid.fill.Given as goal

-- the grid has the points so far
abbrev pub invariant-loop-point : goal.invariant-loop-point
invariant-loop-point g l =
    record {
      uncrowded : l.self.is_crowded ≡ false;
      same : (c : Point) → Contains (points_in l.self) c ↔ Contains (map (point_of g.I.OverlayInt.whole) (take l.point-index l.points)) c;
      few : length l.self.points.items ≤ l.point-index;
      room : length l.self.nexts.items ≡ length l.points;
    }
