use Rattle.std.proofs.Common.{◌≡◌, ◌∙◌, refl, ap₂, true, false, Bool, not}
use Rattle.std.proofs.Math.Bool.{beq}
use Rattle.overlay_base.specs.Rules.{differ, keeps_fill}
use Rattle.overlay_base.proofs.overlay_core.overlay_rule.OverlayRule.is_included.Goals as goal

not_alike : (a b : Bool) → not (beq a b) ≡ differ a b
not_alike true true = refl
not_alike true false = refl
not_alike false true = refl
not_alike false false = refl

pub returns : goal.returns
unfolding keeps_fill
returns c = not_alike c.holds_of_top.result c.holds_of_bottom.result ∙ ap₂ differ c.holds_of_top.ensures c.holds_of_bottom.ensures
