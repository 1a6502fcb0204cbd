-- Which places of the plane a graph encloses.
use Rattle.std.specs.Prelude.{◌≡◌, ◌<◌, ◌%◌, ◌==◌, Bool, List, filter, length}
use Rattle.overlay_base.specs.Windings.{empty}
use Rattle.overlay_base.specs.Segments.{WholeSegment}
use Rattle.overlay_base.specs.Places.{RationalPoint, lies_below, winding_below}
use Rattle.overlay_base.specs.declared.overlay_core.fill_rule.FillRule.{FillRule}
use Rattle.overlay_build.specs.Graph.{Graph}
use Rattle.overlay_build.specs.Values.{tells_apart}

-- whether an odd number of links runs below p
unfoldable pub encloses : Graph → RationalPoint → Bool
encloses graph p = length (filter (λ l. lies_below l.pair p) graph.links) % 2 == 1

-- The graph encloses exactly the places at which a rule differs from outside, by how the segments wind there.
abbrev pub EnclosesRegion : (Bool → Bool → Bool) → FillRule → List WholeSegment → Graph → Type 0
EnclosesRegion rule fill_rule segments graph =
    (p : RationalPoint) → 0 < p.bottom → encloses graph p ≡ tells_apart rule fill_rule empty (winding_below segments p)
