use Rattle.std.proofs.Common.{rules, ◌≡◌}
use Rattle.overlay_c.proofs.engine.Engine.locate.Goals as goal
use Rattle.overlay_c.proofs.engine.Engine.locate.Goals.{else-is_in_range-via-then-is_in_range+else-is_in_range-2, else-is_in_range-via-else-is_in_range}

pub returns-else-is_in_range : goal.returns-else-is_in_range
returns-else-is_in_range c = elim c.else-is_in_range.branch [
  | else-is_in_range-via-then-is_in_range+else-is_in_range-2 w ↦ search rules
  | else-is_in_range-via-else-is_in_range w ↦ search rules
]
