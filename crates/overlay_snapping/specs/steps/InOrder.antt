-- Points in order, and those of them that lie left of a coordinate.
use Rattle.std.specs.Prelude.{◌≡◌, ◌<◌, ◌<ℤ◌, ℕ, ℤ, true, List, Some, map, slice_get}
use Rattle.overlay_geometry.specs.Points.{point_cmp}
use Rattle.overlay_geometry.specs.PointOf.{point_of}
use Rattle.overlay_geometry.specs.Sorting.{is_strictly_sorted}
use Rattle.overlay_geometry.specs.declared.geom.point.IntPoint.{IntPoint}

-- points by x, then by y, each once
abbrev pub AreInOrder : {I : Type 0} → (I → ℤ) → List (IntPoint I) → Type 0
AreInOrder whole points = is_strictly_sorted point_cmp (map (point_of whole) points) ≡ true

-- all points before an index lie left of x
abbrev pub AreLeft : {I : Type 0} → (I → ℤ) → List (IntPoint I) → ℕ → ℤ → Type 0
AreLeft {I = I} whole points place x = (i : ℕ) (p : IntPoint I) → i < place → slice_get points i ≡ Some p → whole p.x <ℤ x
