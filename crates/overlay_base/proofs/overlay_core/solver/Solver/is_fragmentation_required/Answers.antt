use Rattle.std.proofs.Common.{rules}
use Rattle.overlay_base.proofs.overlay_core.solver.Solver.is_fragmentation_required.Goals as goal

pub returns-then-segments-gt-MIN_FRAGMENT_COUNT : goal.returns-then-segments-gt-MIN_FRAGMENT_COUNT
returns-then-segments-gt-MIN_FRAGMENT_COUNT g c = search rules

pub returns-else-segments-gt-MIN_FRAGMENT_COUNT : goal.returns-else-segments-gt-MIN_FRAGMENT_COUNT
returns-else-segments-gt-MIN_FRAGMENT_COUNT g c = search rules
