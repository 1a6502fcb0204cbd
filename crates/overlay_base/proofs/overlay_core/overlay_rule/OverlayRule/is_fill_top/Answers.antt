use Rattle.std.proofs.Common.{◌∙◌, ap, not, rules}
use Rattle.overlay_base.specs.Rules.{holds, keeps_fill, top_value, bottom_value}
use Rattle.overlay_base.proofs.laws.counts.Fills.{other_side}
use Rattle.overlay_base.proofs.overlay_core.overlay_rule.OverlayRule.is_fill_top.Goals as goal

pub returns-in-Union-clause-side : goal.returns-in-Union-clause-side
unfolding keeps_fill
returns-in-Union-clause-side c = λ kept.
    ap not c.holds_of_bottom.ensures ∙ other_side (top_value (holds c.args.self.now) c.args.fill) (bottom_value (holds c.args.self.now) c.args.fill) kept

pub returns-in-Union-clause-union : goal.returns-in-Union-clause-union
returns-in-Union-clause-union c = search rules
