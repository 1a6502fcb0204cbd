use Rattle.i_overlay.proofs.laws.Overlays.{none_arranged}
use Rattle.i_overlay.proofs.line_numbers.LineNumbers.split.Goals as goal

pub returns-then-is_err-clause-arranged : goal.returns-then-is_err-clause-arranged
returns-then-is_err-clause-arranged g c = rw c.clear.ensures.items (none_arranged _ _)
