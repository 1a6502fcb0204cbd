-- Fills of windings without a number for the clip.
use Rattle.std.proofs.Common.{◌≡◌, refl, ap, ◌∙◌, ℕ, ◌+◌, add-zero, Bool, false}
use Rattle.std.specs.Prelude.{pos}
use Rattle.overlay_base.specs.declared.overlay_core.fill_rule.FillRule.{FillRule}
use Rattle.overlay_base.specs.declared.overlay_core.fill_rule.FillRule.TheVariants.{EvenOdd, NonZero, Positive, Negative}
use Rattle.overlay_sweep.specs.Fill.{is_inside, flag_value}

-- where nothing winds nothing is inside, under any rule
pub inside_none : (rule : FillRule) → is_inside rule (pos 0) ≡ false
inside_none EvenOdd = refl
inside_none NonZero = refl
inside_none Positive = refl
inside_none Negative = refl

-- so such a clip adds nothing to a fill
pub without_clip : (rule : FillRule) (n : ℕ) → n + flag_value (is_inside rule (pos 0)) 4 + flag_value (is_inside rule (pos 0)) 8 ≡ n
without_clip rule n = ap (λ (b : Bool). n + flag_value b 4 + flag_value b 8) (inside_none rule) ∙ add-zero (n + 0) ∙ add-zero n
