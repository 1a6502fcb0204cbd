-- An offset as a quotient of whole numbers.
use Rattle.std.specs.Prelude.{unsigned_abs}
use Rattle.overlay_intersections.specs.Crossing.{Quotient}
use Rattle.overlay_intersections.specs.declared.split.cross.offset.Offset.{Offset}

abbrev pub quotient_of : Offset → Quotient
quotient_of offset = record { top = offset.top; bottom = unsigned_abs offset.bottom }
