use Rattle.overlay_base.proofs.laws.counts.Fills.{same_keep_the_same, opposites_keep_the_same, rules_are_their_tables, complements_are_opposite}
use Rattle.overlay_base.proofs.overlay_core.laws.rule_laws.Goals as goal

pub returns-clause-same : goal.returns-clause-same
returns-clause-same c = same_keep_the_same

pub returns-clause-opposite : goal.returns-clause-opposite
returns-clause-opposite c = opposites_keep_the_same

pub returns-clause-tables : goal.returns-clause-tables
returns-clause-tables c = rules_are_their_tables

pub returns-clause-complement : goal.returns-clause-complement
returns-clause-complement c = complements_are_opposite
