use Rattle.std.proofs.Common.{sym, ◌∙◌}
use Rattle.overlay_relations.proofs.laws.Patterns.{told}
use Rattle.overlay_relations.proofs.matrix.Relation.matches.Goals as goal

pub returns-clause-fits : goal.returns-clause-fits
returns-clause-fits c = (
  sym c.is_pattern.ensures ∙ c.if-not-is_pattern.false,
  told c.args.pattern.now c.args.self.now c.allows.result c.allows-2.result c.allows-3.result c.allows-4.result c.allows-5.result c.allows-6.result c.allows-7.result c.allows-8.result c.allows-9.result
      c.allows.ensures c.allows-2.ensures c.allows-3.ensures c.allows-4.ensures c.allows-5.ensures c.allows-6.ensures c.allows-7.ensures c.allows-8.ensures c.allows-9.ensures,
)
