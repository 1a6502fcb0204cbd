use Rattle.std.proofs.Common.{map, string_bytes}
use Rattle.arrange.proofs.Runs.{no_choices}
use Rattle.arrange.proofs.run.ArrangeProgramProgram.read_words.Goals as goal

pub returns-clause-usage : goal.returns-clause-usage
returns-clause-usage c = no_choices (map string_bytes c.args.words.now) c.read_words.result c.read_words.ensures.usage
