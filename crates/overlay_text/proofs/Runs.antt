-- The status of a run that stops.
use Rattle.std.proofs.Common.{◌≢◌, arith}
use Rattle.overlay_text.specs.declared.stop.Stop.{Stop}
use Rattle.overlay_text.specs.declared.stop.Stop.TheVariants.{Usage, NotTwoSegments, NoRule, Line, SubjectNotExact, ClipNotExact, Refused, Input, Output}
use Rattle.overlay_text.specs.Status.{status_of}

-- the status of a stop is not that of success
pub is_no_success : (stop : Stop) → status_of stop ≢ 0
is_no_success Usage is = omega (arith, is)
is_no_success NotTwoSegments is = omega (arith, is)
is_no_success NoRule is = omega (arith, is)
is_no_success (Line number fault) is = omega (arith, is)
is_no_success SubjectNotExact is = omega (arith, is)
is_no_success ClipNotExact is = omega (arith, is)
is_no_success (Refused fault) is = omega (arith, is)
is_no_success Input is = omega (arith, is)
is_no_success Output is = omega (arith, is)
