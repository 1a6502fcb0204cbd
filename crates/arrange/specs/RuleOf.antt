-- What a rule keeps, or all where there is none.
use Rattle.std.specs.Prelude.{ℕ, Bool, true, Option, Some, None}
use Rattle.overlay_base.specs.Rules.{holds, keeps_fill}
use Rattle.overlay_base.specs.declared.overlay_core.overlay_rule.OverlayRule.{OverlayRule}

abbrev pub keeps_by_optional_rule : Option OverlayRule → ℕ → Bool
keeps_by_optional_rule (Some rule) fill = keeps_fill (holds rule) fill
keeps_by_optional_rule None fill = true
