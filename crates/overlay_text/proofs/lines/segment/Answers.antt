use Rattle.std.proofs.Common.{arith}
use Rattle.std.proofs.lemmas.Grind.{common_steps}
use Rattle.overlay_text.proofs.Steps.{data_piece-step}
use Rattle.overlay_text.proofs.lines.segment.Goals as goal

pub returns-clause-segment : goal.returns-clause-segment
returns-clause-segment g c = grind (arith, common_steps, data_piece-step)
