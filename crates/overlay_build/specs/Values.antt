-- What a truth function says of a place, by its windings under a fill rule.
use Rattle.std.specs.Prelude.{Bool}
use Rattle.overlay_base.specs.Windings.{Winding}
use Rattle.overlay_base.specs.Rules.{differ}
use Rattle.overlay_base.specs.declared.overlay_core.fill_rule.FillRule.{FillRule}
use Rattle.overlay_sweep.specs.Fill.{is_inside}

-- what a truth function says of a place with these windings
unfoldable pub value_at : (Bool → Bool → Bool) → FillRule → Winding → Bool
value_at rule fill_rule w = rule (is_inside fill_rule w.subj) (is_inside fill_rule w.clip)

-- whether the truth function has another value on the one side than on the other
unfoldable pub tells_apart : (Bool → Bool → Bool) → FillRule → Winding → Winding → Bool
tells_apart rule fill_rule bottom top = differ (value_at rule fill_rule bottom) (value_at rule fill_rule top)
