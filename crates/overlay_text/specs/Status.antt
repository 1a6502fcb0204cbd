-- The exit status of a run that stops.
use Rattle.std.specs.Prelude.{ℕ}
use Rattle.overlay_text.specs.declared.stop.Stop.{Stop}
use Rattle.overlay_text.specs.declared.stop.Stop.TheVariants.{Usage, NotTwoSegments, NoRule, Line, SubjectNotExact, ClipNotExact, Refused, Input, Output}

abbrev pub status_of : Stop → ℕ
status_of Usage = 2
status_of NotTwoSegments = 2
status_of NoRule = 2
status_of (Line _ _) = 3
status_of SubjectNotExact = 4
status_of ClipNotExact = 4
status_of (Refused _) = 4
status_of Input = 5
status_of Output = 5
