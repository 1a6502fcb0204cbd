-- The points of a finder of points as whole numbers.
use Rattle.std.specs.Prelude.{List, map}
use Rattle.overlay_geometry.specs.Points.{Point}
use Rattle.overlay_geometry.specs.PointOf.{point_of}
use Rattle.overlay_geometry.specs.declared.geom.point.IntPoint.{IntPoint}
use Rattle.overlay_snapping.specs.declared.snap.point_finder.PointFinder.{PointFinder}

-- the points of a finder, maybe with repeats
abbrev pub points_of : {I : Type 0} {w : _} {o : _} {e : _} {p : _} → PointFinder I w o e p → List (IntPoint I)
points_of finder = finder.grid.points.items

abbrev pub points_in : {I : Type 0} {w : _} {o : _} {e : _} {p : _} → PointFinder I w o e p → List Point
points_in {w = w} finder = map (point_of w.whole) (points_of finder)
