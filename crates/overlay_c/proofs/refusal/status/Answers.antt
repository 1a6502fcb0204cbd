use Rattle.std.proofs.Common.{rules}
use Rattle.overlay_c.proofs.refusal.status.Goals as goal

pub returns-in-Err-NotSplittable : goal.returns-in-Err-NotSplittable
returns-in-Err-NotSplittable c = search rules
