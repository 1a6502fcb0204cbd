use Rattle.overlay_base.proofs.laws.counts.ClipRules.{clip_rules_are_their_tables, inverted_keeps_the_rest}
use Rattle.overlay_base.proofs.overlay_core.laws.clip_rule_laws.Goals as goal

pub returns-clause-tables : goal.returns-clause-tables
returns-clause-tables c = clip_rules_are_their_tables

pub returns-clause-inverted : goal.returns-clause-inverted
returns-clause-inverted c = inverted_keeps_the_rest
