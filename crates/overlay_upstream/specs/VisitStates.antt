-- The states of links by a rule.
use Rattle.std.specs.Prelude.{if◌then◌else◌}
use Rattle.overlay_base.specs.Rules.{holds, keeps_fill}
use Rattle.overlay_base.specs.declared.overlay_core.extract.VisitState.{VisitState}
use Rattle.overlay_base.specs.declared.overlay_core.extract.VisitState.TheVariants.{Unvisited, Skipped}
use Rattle.overlay_base.specs.declared.overlay_core.link.OverlayLink.{OverlayLink}
use Rattle.overlay_base.specs.declared.overlay_core.overlay_rule.OverlayRule.{OverlayRule}

-- the state of a link: unvisited where a rule keeps its fill, and else skipped
abbrev pub state_by : {I D : Type 0} → OverlayRule → OverlayLink I D → VisitState
state_by rule l = if keeps_fill (holds rule) l.fill then Unvisited else Skipped
