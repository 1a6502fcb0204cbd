-- Points of code in order.
use Rattle.std.specs.Prelude.{◌≡◌, ℤ, List, map}
use Rattle.overlay_geometry.specs.PointOf.{point_of}
use Rattle.overlay_geometry.specs.Points.{point_cmp}
use Rattle.overlay_geometry.specs.Sorting.{stably_sorted}
use Rattle.overlay_geometry.specs.declared.geom.point.IntPoint.{IntPoint}

-- Points of code in rising order.
abbrev pub HasPointsInOrder : {I : Type 0} → (I → ℤ) → List (IntPoint I) → List (IntPoint I) → Type 0
HasPointsInOrder whole points list = map (point_of whole) list ≡ stably_sorted point_cmp (map (point_of whole) points)
