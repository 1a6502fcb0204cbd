-- Boxes that may be missing, as whole numbers.
use Rattle.std.specs.Prelude.{ℤ, Option, None, Some}
use Rattle.overlay_geometry.specs.Ranges.{Rect}
use Rattle.overlay_geometry.specs.RangeOf.{rect_of}
use Rattle.overlay_geometry.specs.declared.geom.rect.IntRect.{IntRect}

abbrev pub rect_if_any : {I : Type 0} → (I → ℤ) → Option (IntRect I) → Option Rect
rect_if_any whole None = None
rect_if_any whole (Some r) = Some (rect_of whole r)
