use Rattle.std.proofs.Common.{rules}
use Rattle.overlay_geometry.proofs.num.I16OverlayInt.is_in_range.Goals as goal

pub returns-then-self-ge-MIN_COORD : goal.returns-then-self-ge-MIN_COORD
returns-then-self-ge-MIN_COORD c = search rules

pub returns-else-self-ge-MIN_COORD : goal.returns-else-self-ge-MIN_COORD
returns-else-self-ge-MIN_COORD c = search rules
