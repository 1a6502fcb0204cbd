use Rattle.std.proofs.Common.{◌∙◌, ap₂, lit<}
use Rattle.overlay_base.specs.Rules.{holds, bottom_value}
use Rattle.overlay_base.proofs.laws.counts.Fills.{flag_tells}
use Rattle.overlay_base.proofs.overlay_core.overlay_rule.OverlayRule.holds_of_bottom.Goals as goal

pub returns : goal.returns
unfolding bottom_value
returns c = c.holds.ensures ∙ ap₂ (holds c.args.self) (flag_tells c.args.fill 1 (lit< tt)) (flag_tells c.args.fill 3 (lit< tt))
