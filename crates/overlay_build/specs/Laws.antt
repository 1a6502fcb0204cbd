-- Laws over the definitions: statements that contracts name.
use Rattle.std.specs.Prelude.{◌≡◌, ◌≢◌, ◌==◌, ◌<◌, ℤ, pos, Bool, true, false, not, ◌&&◌, IsTrue, ℕ, List, All, map, filter}
use Rattle.std.specs.List.{zip}
use Rattle.overlay_base.specs.Windings.{Winding}
use Rattle.overlay_base.specs.Segments.{WholeSegment, is_map, are_polygons}
use Rattle.overlay_base.specs.EdgeData.{DataSegment, without_data}
use Rattle.overlay_base.specs.Rules.{keeps_fill}
use Rattle.overlay_base.specs.ClipRules.{keeps_clip}
use Rattle.overlay_base.specs.declared.overlay_core.clip_rule.ClipRule.{ClipRule}
use Rattle.overlay_base.specs.declared.overlay_core.fill_rule.FillRule.{FillRule}
use Rattle.overlay_base.specs.declared.overlay_core.fill_rule.FillRule.TheVariants.{Negative}
use Rattle.overlay_base.specs.Planar.{is_planar, is_arranged}
use Rattle.overlay_base.specs.Balance.{IsBalanced}
use Rattle.overlay_base.specs.declared.segm.shape_type.ShapeType.{ShapeType}
use Rattle.overlay_base.specs.Places.{RationalPoint, winding_below}
use Rattle.overlay_sweep.specs.Fill.{is_inside, fill_byte}
use Rattle.overlay_build.specs.Graph.{Filled, graph_of, graph_by, data_by, has_even_nodes, is_valid_graph, without_nodes}
use Rattle.overlay_build.specs.Values.{value_at, tells_apart}
use Rattle.overlay_build.specs.Regions.{EnclosesRegion}
use Rattle.overlay_build.specs.Boundary.{BoundsRegion, directed_links, times_round}
use Rattle.overlay_build.specs.ShapedBoundary.{of_shape, in_shape, BoundsAsShape}
use Rattle.overlay_build.specs.DirectedWalks.{arcs, IsFlow, along, IsDirectedWalk, contour, edges}
use Rattle.overlay_build.specs.Sides.{overlay_graph}
use Rattle.overlay_build.specs.Beside.{is_on_top_of, is_at_bottom_of, HasPlacesBeside, TellsPlaces, FillTellsPlaces}
use Rattle.overlay_build.specs.Lines.{CountsLines, keeps_between, clip_graph}

-- a fill without a mask is kept where the windings' values differ
abbrev pub FillsTellSides : Type 0
FillsTellSides = (rule : Bool → Bool → Bool) (fill_rule : FillRule) (b t : Winding) → keeps_fill rule (fill_byte fill_rule b t 0) ≡ tells_apart rule fill_rule b t

-- a fill of lines is kept by a clip rule where a line runs along the segment and the rule keeps what lies between such windings
abbrev pub FillsTellLines : Type 0
FillsTellLines =
    (rule : ClipRule) (fill_rule : FillRule) (b t : Winding) (mask : ℕ) → b.clip ≡ pos 0 → t.clip ≡ pos 0 → mask < 4 →
    keeps_clip rule (fill_byte fill_rule b t mask) ≡ (not (mask == 0) && keeps_between rule fill_rule b t)

-- with balance an even number of links meets at each node of a truth function's graph
abbrev pub NodesAreEven : Type 0
NodesAreEven =
    (fill_rule : FillRule) (rule : Bool → Bool → Bool) (segments : List WholeSegment) → IsTrue (is_map segments) → IsTrue (are_polygons segments) → IsTrue (is_planar segments) → IsBalanced segments →
    IsTrue (has_even_nodes (graph_by (keeps_fill rule) fill_rule segments))

-- so its graph is valid
abbrev pub GraphsAreValid : Type 0
GraphsAreValid =
    (fill_rule : FillRule) (rule : Bool → Bool → Bool) (segments : List WholeSegment) → IsTrue (is_map segments) → IsTrue (are_polygons segments) → IsTrue (is_planar segments) → IsBalanced segments →
    IsTrue (is_valid_graph (graph_by (keeps_fill rule) fill_rule segments))

-- and its graph is that of the segments whose sides differ under it
abbrev pub GraphsAreExact : Type 0
GraphsAreExact =
    (fill_rule : FillRule) (rule : Bool → Bool → Bool) (segments : List WholeSegment) → IsTrue (is_map segments) → IsTrue (are_polygons segments) → IsTrue (is_planar segments) → IsBalanced segments →
    graph_by (keeps_fill rule) fill_rule segments ≡ overlay_graph rule fill_rule segments

-- the graph of a clip rule over polygons and lines is that of the parts of lines that it keeps by the windings on their sides
abbrev pub ClipGraphsAreExact : Type 0
ClipGraphsAreExact =
    (fill_rule : FillRule) (rule : ClipRule) (segments : List WholeSegment) → IsTrue (is_map segments) → All CountsLines segments → IsTrue (is_planar segments) → IsBalanced segments →
    graph_by (keeps_clip rule) fill_rule segments ≡ clip_graph rule fill_rule segments

-- the graph of a truth function encloses exactly the places at which it differs from outside
abbrev pub GraphsEncloseRegions : Type 0
GraphsEncloseRegions =
    (fill_rule : FillRule) (rule : Bool → Bool → Bool) (segments : List WholeSegment) → IsTrue (is_map segments) → IsTrue (are_polygons segments) → IsTrue (is_planar segments) → IsBalanced segments →
    EnclosesRegion rule fill_rule segments (graph_by (keeps_fill rule) fill_rule segments)

-- The links of its graph, each with the region on its left, are the boundary of the region: they are balanced, and wind once around it.
abbrev pub GraphsBoundRegions : Type 0
GraphsBoundRegions =
    (fill_rule : FillRule) (rule : Bool → Bool → Bool) (segments : List WholeSegment) → IsTrue (is_map segments) → IsTrue (are_polygons segments) → IsTrue (is_planar segments) → IsBalanced segments →
    BoundsRegion rule fill_rule segments (graph_by (keeps_fill rule) fill_rule segments)

-- As segments of one shape they may be given to a further overlay: balanced, arranged, and around the region once.
abbrev pub BoundariesAreShapes : Type 0
BoundariesAreShapes =
    (least greatest : ℤ) (shape : ShapeType) (fill_rule : FillRule) (rule : Bool → Bool → Bool) (segments : List WholeSegment) → IsTrue (is_arranged least greatest segments) → IsTrue (are_polygons segments) → IsBalanced segments →
    BoundsAsShape least greatest shape rule fill_rule segments (in_shape shape (directed_links rule (graph_by (keeps_fill rule) fill_rule segments)))

-- Segments of a subject, as those of a shape, wind as often for this shape alone.
abbrev pub ShapesWindAlike : Type 0
ShapesWindAlike = (shape : ShapeType) (segments : List WholeSegment) (p : RationalPoint) → winding_below (in_shape shape segments) p ≡ of_shape shape (winding_below segments p).subj

-- A further overlay has inside, for this shape, exactly the places where the function holds, if it is false outside.
abbrev pub RegionsAreSeenAgain : Type 0
RegionsAreSeenAgain =
    (rule : Bool → Bool → Bool) (fill_rule again : FillRule) (w : Winding) → rule false false ≡ false → again ≢ Negative → is_inside again (times_round rule fill_rule w) ≡ value_at rule fill_rule w

-- Of balanced, planar segments: the windings of the two sides of each are those of the places directly beside it.
abbrev pub SidesTellPlaces : Type 0
SidesTellPlaces = (segments : List WholeSegment) → IsTrue (is_map segments) → IsTrue (is_planar segments) → IsBalanced segments → All (TellsPlaces segments) segments

-- And there are such places: of planar segments, whatever their counts, on each side of each.
abbrev pub SidesHavePlaces : Type 0
SidesHavePlaces = (segments : List WholeSegment) → IsTrue (is_map segments) → IsTrue (is_planar segments) → All (λ s. HasPlacesBeside segments s.pair) segments

-- So the fill of each says how the segments wind at any two places directly beside it, one on each side.
abbrev pub FillsTellPlaces : Type 0
FillsTellPlaces =
    (fill_rule : FillRule) (rule : Bool → Bool → Bool) (segments : List WholeSegment) → IsTrue (is_map segments) → IsTrue (is_planar segments) → IsBalanced segments →
    (p q : RationalPoint) → 0 < p.bottom → 0 < q.bottom →
    All (λ s. IsTrue (is_on_top_of segments s.pair p) → IsTrue (is_at_bottom_of segments s.pair q) → FillTellsPlaces rule fill_rule segments s p q) segments

-- In these directions as many links start as end at every node.
abbrev pub GraphsFlow : Type 0
GraphsFlow =
    (fill_rule : FillRule) (rule : Bool → Bool → Bool) (segments : List WholeSegment) → IsTrue (is_map segments) → IsTrue (are_polygons segments) → IsTrue (is_planar segments) → IsBalanced segments →
    IsFlow (arcs rule (graph_by (keeps_fill rule) fill_rule segments).links)

-- The edges of the contour of a directed walk through a graph are just the links of the walk, in their directions and in order.
abbrev pub ContoursFollowLinks : Type 0
ContoursFollowLinks =
    (rule : Bool → Bool → Bool) (kept : List Filled) (walk : List ℕ) → IsDirectedWalk (arcs rule (graph_of kept).links) walk →
    edges (contour (arcs rule (graph_of kept).links) walk) ≡ map (λ l. l.pair) (along (arcs rule (graph_of kept).links) walk)

-- The links that a test keeps of the graph of all segments are, but for the numbers of their nodes, those of the test's graph, in the same order.
abbrev pub FilterGivesLinks : Type 0
FilterGivesLinks =
    (keeps : ℕ → Bool) (fill_rule : FillRule) (segments : List WholeSegment) →
    map without_nodes (filter (λ l. keeps l.fill) (graph_by (λ f. true) fill_rule segments).links) ≡ map without_nodes (graph_by keeps fill_rule segments).links

-- The data of the links that a test keeps of the graph of all segments is, in the same order, that of the links of the test's graph.
abbrev pub FilterGivesData : Type 0 → Type 0
FilterGivesData D =
    (keeps : ℕ → Bool) (fill_rule : FillRule) (segments : List (DataSegment D)) →
    map (λ e. e.1) (filter (λ e. keeps e.0.fill) (zip (graph_by (λ f. true) fill_rule (without_data segments)).links (data_by (λ f. true) fill_rule segments)))
    ≡ data_by keeps fill_rule segments
