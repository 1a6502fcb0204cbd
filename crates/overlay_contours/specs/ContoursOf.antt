-- Contours of code as lists of whole points.
use Rattle.std.specs.Prelude.{ℤ, List, map, Vec}
use Rattle.std.specs.Global.{Global}
use Rattle.overlay_geometry.specs.Points.{Point}
use Rattle.overlay_geometry.specs.PointOf.{point_of}
use Rattle.overlay_geometry.specs.declared.geom.point.IntPoint.{IntPoint}

abbrev pub points_of : {I : Type 0} → (I → ℤ) → List (IntPoint I) → List Point
points_of whole points = map (point_of whole) points

abbrev pub contours_of : {I : Type 0} → (I → ℤ) → List (Vec (IntPoint I) Global) → List (List Point)
contours_of whole contours = map (λ c. points_of whole c.items) contours

-- of several lists of contours
abbrev pub contours_of_each : {I : Type 0} → (I → ℤ) → List (Vec (Vec (IntPoint I) Global) Global) → List (List (List Point))
contours_of_each whole all = map (λ contours. contours_of whole contours.items) all
