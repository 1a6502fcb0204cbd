use Rattle.std.proofs.Common.{drop, arith}
use Rattle.std.proofs.lemmas.Grind.{common_steps}
use Rattle.overlay_text.proofs.LineEnds.{is_text_before}
use Rattle.overlay_text.proofs.line_end.put_word.Goals as goal

pub returns-clause-text : goal.returns-clause-text
returns-clause-text c = λ h. is_text_before c.args.word.now (drop c.args.end c.args.room.now) _ c.utf8.word h (grind (arith, common_steps))
