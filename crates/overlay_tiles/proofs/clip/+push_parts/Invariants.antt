use Rattle.std.proofs.Common.{◌-◌}
use Rattle.overlay_tiles.proofs.clip.+push_parts.Given as goal

abbrev pub decreases-push_parts : goal.decreases-push_parts
decreases-push_parts g l = 4 - l.index
