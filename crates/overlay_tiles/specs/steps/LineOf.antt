-- A line of code as a line at a whole number.
use Rattle.std.specs.Prelude.{ℤ}
use Rattle.overlay_tiles.specs.Tiles.{upright, level, Line as WholeLine}
use Rattle.overlay_tiles.specs.declared.line.Line.{Line}
use Rattle.overlay_tiles.specs.declared.line.Line.TheVariants.{Upright, Level}

abbrev pub line_of : {I : Type 0} → (I → ℤ) → Line I → WholeLine
line_of whole (Upright x) = upright (whole x)
line_of whole (Level y) = level (whole y)
