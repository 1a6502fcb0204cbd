use Rattle.std.proofs.Common.{arith}
use Rattle.std.proofs.lemmas.Grind.{common_steps}
use Rattle.overlay_c.proofs.tags.keep_tags.Goals as goal

pub loop-link-preserved : goal.loop-link-preserved
loop-link-preserved g c = grind (arith, common_steps)
