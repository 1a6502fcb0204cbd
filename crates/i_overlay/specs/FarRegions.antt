-- Which places the graph of a split encloses, by what was given.
use Rattle.std.specs.Prelude.{◌≡◌, ℕ, ◌<◌, Bool, false, List}
use Rattle.overlay_base.specs.Windings.{empty}
use Rattle.overlay_base.specs.Segments.{WholeSegment, pairs}
use Rattle.overlay_base.specs.Places.{RationalPoint, winding_below}
use Rattle.overlay_base.specs.Rules.{differ, holds}
use Rattle.overlay_base.specs.declared.overlay_core.fill_rule.FillRule.{FillRule}
use Rattle.overlay_base.specs.declared.overlay_core.overlay_rule.OverlayRule.{OverlayRule}
use Rattle.overlay_cuts.specs.Run.{Settings}
use Rattle.overlay_cuts.specs.Nearness.{reach_of_run}
use Rattle.overlay_cuts.specs.Places.{IsFar}
use Rattle.overlay_build.specs.Graph.{Graph}
use Rattle.overlay_build.specs.Values.{value_at, tells_apart}
use Rattle.overlay_build.specs.Regions.{encloses}
use Rattle.overlay_build.specs.Boundary.{of_subject, directed_links, times_round}

-- The graph encloses exactly the places at which a rule differs from outside, by how the given segments wind, at the
-- places that are farther from them than that many halves.
abbrev pub EnclosesBeyond : ℕ → (Bool → Bool → Bool) → FillRule → List WholeSegment → Graph → Type 0
EnclosesBeyond halves rule fill_rule given graph =
    (p : RationalPoint) → 0 < p.bottom → IsFar halves p (pairs given) → encloses graph p ≡ tells_apart rule fill_rule empty (winding_below given p)

-- The same of an overlay's rule: it says something else of the place than of those outside. Every rule with a name is false
-- outside, so there the graph encloses exactly the places where the rule holds.
abbrev pub EnclosesOverlayBeyond : ℕ → OverlayRule → FillRule → List WholeSegment → Graph → Type 0
EnclosesOverlayBeyond halves overlay_rule fill_rule given graph =
    (p : RationalPoint) → 0 < p.bottom → IsFar halves p (pairs given) →
    encloses graph p ≡ differ (holds overlay_rule false false) (value_at (holds overlay_rule) fill_rule (winding_below given p))

-- The links of the graph, each in the direction that has the region on its left, wind once around the region of a rule, by how
-- the given segments wind, at the same places.
abbrev pub WindsRoundBeyond : ℕ → (Bool → Bool → Bool) → FillRule → List WholeSegment → Graph → Type 0
WindsRoundBeyond halves rule fill_rule given graph =
    (p : RationalPoint) → 0 < p.bottom → IsFar halves p (pairs given) → winding_below (directed_links rule graph) p ≡ of_subject (times_round rule fill_rule (winding_below given p))

-- It encloses the places at which an overlay's rule differs from outside, farther from what is given than passes over pairs reach.
abbrev pub EnclosesOverlay : Settings → OverlayRule → FillRule → List WholeSegment → ℕ → Graph → Type 0
EnclosesOverlay settings overlay_rule fill_rule given passes graph = EnclosesOverlayBeyond (reach_of_run settings given passes) overlay_rule fill_rule given graph
