-- A point as two whole numbers.
use Rattle.std.specs.Prelude.{ℤ}
use Rattle.overlay_geometry.specs.Points.{Point}
use Rattle.overlay_geometry.specs.declared.geom.point.IntPoint.{IntPoint}

abbrev pub point_of : {I : Type 0} → (I → ℤ) → IntPoint I → Point
point_of whole p = record { x = whole p.x; y = whole p.y }
