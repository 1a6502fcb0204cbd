use Rattle.std.proofs.Common.{take}
use Rattle.std.specs.List.{AllZip}
use Rattle.overlay_c.specs.Records.{IsRuleOf}
use Rattle.overlay_c.proofs.records.overlay_rules.Given as goal

abbrev pub invariant-loop-code : goal.invariant-loop-code
invariant-loop-code l = AllZip IsRuleOf (take l.code-index l.codes) l.rules.items
