use Rattle.overlay_text.proofs.RuleWords.{by_name}
use Rattle.overlay_text.proofs.words.rule.Goals as goal

pub returns-in-None : goal.returns-in-None
returns-in-None c = by_name c.args.value.now c.named_rule.result c.in-None.ensures.cases c.named_rule.ensures
