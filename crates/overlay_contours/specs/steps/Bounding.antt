-- The box around points, if there are any.
use Rattle.std.specs.Prelude.{◌≡◌, List, [], Option, IfNone, IfSome}
use Rattle.overlay_geometry.specs.Points.{Point}
use Rattle.overlay_geometry.specs.Ranges.{Rect}
use Rattle.overlay_contours.specs.Boxes.{IsBoundingBox}

pub record AreBounds (points : List Point) (bounds : Option Rect) : Type 0 where
  pub none : IfNone bounds (points ≡ [])
  pub least : IfSome bounds (λ box. IsBoundingBox points box)
