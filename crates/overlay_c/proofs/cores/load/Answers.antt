use Rattle.std.proofs.Common.{arith}
use Rattle.std.proofs.lemmas.Grind.{common_steps}
use Rattle.overlay_c.proofs.cores.load.Goals as goal

pub returns-clause-asks : goal.returns-clause-asks
returns-clause-asks g c = grind (arith, common_steps)
