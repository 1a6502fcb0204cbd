-- What a rule says of the windings on the two sides of a segment, and the graph of the segments whose sides differ under it.
use Rattle.std.specs.Prelude.{◌≡◌, Bool, IsTrue, List, map, filter, All}
use Rattle.overlay_base.specs.Segments.{WholeSegment}
use Rattle.overlay_base.specs.declared.overlay_core.fill_rule.FillRule.{FillRule}
use Rattle.overlay_sweep.specs.ColumnWindings.{side_bottom, side_top, IsSameAlong}
use Rattle.overlay_sweep.specs.Fill.{fill_byte}
use Rattle.overlay_build.specs.Graph.{Graph, Filled, graph_of, has_even_nodes}
use Rattle.overlay_build.specs.Values.{tells_apart}
use Rattle.overlay_build.specs.Regions.{EnclosesRegion}
use Rattle.overlay_build.specs.Boundary.{BoundsRegion}

-- whether the two sides of a segment differ under the rule, by the windings in the columns beside it
unfoldable pub has_sides_apart : (Bool → Bool → Bool) → FillRule → List WholeSegment → WholeSegment → Bool
has_sides_apart rule fill_rule segments s = tells_apart rule fill_rule (side_bottom segments s) (side_top segments s)

-- a segment with the fill of its two sides
unfoldable pub with_sides : FillRule → List WholeSegment → WholeSegment → Filled
with_sides fill_rule segments s = record { pair = s.pair; fill = fill_byte fill_rule (side_bottom segments s) (side_top segments s) s.count.mask }

-- the graph of exactly the segments whose sides differ under the rule
unfoldable pub overlay_graph : (Bool → Bool → Bool) → FillRule → List WholeSegment → Graph
overlay_graph rule fill_rule segments = graph_of (map (λ s. with_sides fill_rule segments s) (filter (λ s. has_sides_apart rule fill_rule segments s) segments))

-- Where counts balance: windings are the same all along a segment, the graph is that of the segments whose sides the
-- rule's values on them differ, with the fills of these sides, an even number of links meets at every node, the graph encloses the region
-- of the rule, and its links, each in the direction that has the region on its left, are the region's boundary.
pub record IsBalancedOverlay (rule : Bool → Bool → Bool) (fill_rule : FillRule) (segments : List WholeSegment) (graph : Graph) : Type 0 where
  pub windings : All (IsSameAlong segments) segments
  pub exactly : graph ≡ overlay_graph rule fill_rule segments
  pub even : IsTrue (has_even_nodes graph)
  pub region : EnclosesRegion rule fill_rule segments graph
  pub boundary : BoundsRegion rule fill_rule segments graph
