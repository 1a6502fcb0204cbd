use Rattle.std.proofs.Common.{rules}
use Rattle.overlay_c.proofs.engine.Engine.relation.Goals as goal

pub returns-clause-holds : goal.returns-clause-holds
returns-clause-holds c = rw c.fill_rule-fill_rule.ensures at c.holds.ensures.holds
