use Rattle.std.proofs.Common.{arith}
use Rattle.std.proofs.lemmas.Str.Pattern.{split_parts}
use Rattle.overlay_text.proofs.Slots.{first_cut}
use Rattle.overlay_text.proofs.words.name_and_value.Goals as goal

pub returns : goal.returns
returns c = first_cut c.args.word.now c.split_once.result (split_parts 61 c.args.word.now c.split_once.result c.split_once.ensures.cases (omega arith))
