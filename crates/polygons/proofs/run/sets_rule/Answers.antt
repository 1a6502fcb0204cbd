use Rattle.std.proofs.lemmas.Str.Pattern.{starts_text}
use Rattle.std.specs.Prelude.{codes}
use Rattle.polygons.proofs.run.sets_rule.Goals as goal

pub returns : goal.returns
returns c = starts_text c.starts_with.result (codes "rule=") c.args.word.now c.starts_with.ensures.cases
