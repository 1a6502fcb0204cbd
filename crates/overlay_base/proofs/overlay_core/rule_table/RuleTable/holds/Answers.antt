use Rattle.std.proofs.Common.{◌∙◌, ap₂, sym, lit<}
use Rattle.overlay_base.specs.Rules.{bits_of, table_holds}
use Rattle.overlay_base.proofs.laws.counts.Fills.{flag_tells}
use Rattle.overlay_base.proofs.overlay_core.rule_table.RuleTable.holds.Goals as goal

pub returns-in-true-false : goal.returns-in-true-false
returns-in-true-false c =
    flag_tells (bits_of c.args.self) 1 (lit< tt) ∙ ap₂ (table_holds (bits_of c.args.self)) (sym c.in-true-false.is-0) (sym c.in-true-false.is-1)

pub returns-in-false-true : goal.returns-in-false-true
returns-in-false-true c =
    flag_tells (bits_of c.args.self) 2 (lit< tt) ∙ ap₂ (table_holds (bits_of c.args.self)) (sym c.in-false-true.is-0) (sym c.in-false-true.is-1)
