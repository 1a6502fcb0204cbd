-- A range and a rectangle as whole numbers.
use Rattle.std.specs.Prelude.{ℤ}
use Rattle.overlay_geometry.specs.Ranges.{WholeRange, Rect}
use Rattle.overlay_geometry.specs.declared.geom.line_range.LineRange.{LineRange}
use Rattle.overlay_geometry.specs.declared.geom.rect.IntRect.{IntRect}

abbrev pub range_of : {I : Type 0} → (I → ℤ) → LineRange I → WholeRange
range_of whole range = record { least = whole range.min; greatest = whole range.max }

abbrev pub rect_of : {I : Type 0} → (I → ℤ) → IntRect I → Rect
rect_of whole rect = record { min_x = whole rect.min_x; max_x = whole rect.max_x; min_y = whole rect.min_y; max_y = whole rect.max_y }
