-- What the graph of a split encloses, by how the given segments wind where the split does not reach.
use Rattle.std.proofs.Common.{◌≡◌, ap, ◌∙◌, ℕ}
use Rattle.std.specs.Prelude.{Bool, false, List}
use Rattle.overlay_base.specs.Windings.{empty}
use Rattle.overlay_base.specs.Segments.{WholeSegment}
use Rattle.overlay_base.specs.Places.{winding_below}
use Rattle.overlay_base.specs.Rules.{differ, holds}
use Rattle.overlay_base.specs.declared.overlay_core.fill_rule.FillRule.{FillRule}
use Rattle.overlay_base.specs.declared.overlay_core.overlay_rule.OverlayRule.{OverlayRule}
use Rattle.overlay_sweep.proofs.laws.visits.FillBytes.{inside_none}
use Rattle.overlay_build.specs.Graph.{Graph}
use Rattle.overlay_build.specs.Values.{value_at, tells_apart}
use Rattle.i_overlay.specs.FarRegions.{EnclosesBeyond, EnclosesOverlayBeyond}

-- what a rule says where nothing winds
value_outside : (overlay_rule : OverlayRule) (fill_rule : FillRule) → value_at (holds overlay_rule) fill_rule empty ≡ holds overlay_rule false false
unfolding value_at
value_outside overlay_rule fill_rule = ap (λ (b : Bool). holds overlay_rule b b) (inside_none fill_rule)

pub overlay_region : (halves : ℕ) (overlay_rule : OverlayRule) (fill_rule : FillRule) (given : List WholeSegment) (graph : Graph) → EnclosesBeyond halves (holds overlay_rule) fill_rule given graph → EnclosesOverlayBeyond halves overlay_rule fill_rule given graph
unfolding tells_apart
overlay_region halves overlay_rule fill_rule given graph region p some far =
    region p some far ∙ ap (λ (b : Bool). differ b (value_at (holds overlay_rule) fill_rule (winding_below given p))) (value_outside overlay_rule fill_rule)
