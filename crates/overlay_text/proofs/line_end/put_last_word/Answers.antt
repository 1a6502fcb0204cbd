use Rattle.std.proofs.Common.{arith, append-nil}
use Rattle.std.proofs.lemmas.List.{drop_all}
use Rattle.overlay_text.proofs.line_end.put_last_word.Goals as goal

pub returns-clause-written : goal.returns-clause-written
returns-clause-written c = rw (c.put_word.ensures.written, drop_all 160 c.args.room.now (omega (arith, c.told-room))) (append-nil c.args.word.now)

pub returns-clause-text : goal.returns-clause-text
returns-clause-text c = rw (c.put_word.ensures.written, drop_all 160 c.args.room.now (omega (arith, c.told-room)), append-nil c.args.word.now) c.utf8.word
