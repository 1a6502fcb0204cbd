use Rattle.std.proofs.Common.{◌≡◌, ◌++◌, drop}
use Rattle.polygons.specs.Run.{chosen_of, named_rules, rules_by}
use Rattle.polygons.proofs.run.Choices.rules.Given as goal

abbrev pub invariant-loop-index : goal.invariant-loop-index
invariant-loop-index l = l.rules.items ++ chosen_of (drop l.index named_rules) (drop l.index l.self.others) ≡ rules_by l.self l.fn.rule
