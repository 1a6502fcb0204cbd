-- The links of a graph of code as segments of one shape, and as walks.
use Rattle.std.specs.Prelude.{◌≡◌, ℕ, IsTrue, List, Vec, map}
use Rattle.std.specs.Global.{Global}
use Rattle.overlay_base.specs.Balance.{IsBalanced}
use Rattle.overlay_base.specs.Places.{RationalPoint, winding_below}
use Rattle.overlay_base.specs.Planar.{is_arranged}
use Rattle.overlay_base.specs.Rules.{holds, keeps_fill}
use Rattle.overlay_base.specs.SegmentOf.{segments_of}
use Rattle.overlay_base.specs.Segments.{WholeSegment, are_polygons}
use Rattle.overlay_base.specs.declared.overlay_core.fill_rule.FillRule.{FillRule}
use Rattle.overlay_base.specs.declared.overlay_core.overlay_rule.OverlayRule.{OverlayRule}
use Rattle.overlay_base.specs.declared.segm.segment.Segment.{Segment}
use Rattle.overlay_base.specs.declared.segm.shape_type.ShapeType.{ShapeType}
use Rattle.overlay_build.specs.Boundary.{directed_links}
use Rattle.overlay_build.specs.DirectedWalks.{arcs}
use Rattle.overlay_build.specs.Graph.{Link, graph_by}
use Rattle.overlay_build.specs.GraphOf.{link_of}
use Rattle.overlay_build.specs.OverlayGraphOf.{links_of, whole_graph}
use Rattle.overlay_build.specs.ShapedBoundary.{of_shape, in_shape, BoundsAsShape}
use Rattle.overlay_build.specs.declared.build.graph.OverlayGraph.{OverlayGraph}

-- ---- segments

-- the links of a graph, each once, in the direction that a rule gives it
abbrev pub links_by : {I D : Type 0} {w : _} {o : _} {e : _} {p : _} → OverlayRule → OverlayGraph I D w o e p → List WholeSegment
links_by rule graph = directed_links (holds rule) (whole_graph graph)

-- The list has these links as segments of a shape.
abbrev pub HasLinksInShape : {C I D E : Type 0} {m : _} {w' : _} {o' : _} {e' : _} {p' : _} {w : _} {o : _} {e : _} {p : _} → ShapeType → OverlayRule → OverlayGraph I D w o e p → List (Segment C I E m w' o' e' p') → Type 0
HasLinksInShape shape rule graph list = segments_of list ≡ in_shape shape (links_by rule graph)

-- The list winds around every place as often as they do, for that shape.
abbrev pub WindsAsLinks : {C I D E : Type 0} {m : _} {w' : _} {o' : _} {e' : _} {p' : _} {w : _} {o : _} {e : _} {p : _} → ShapeType → OverlayRule → OverlayGraph I D w o e p → List (Segment C I E m w' o' e' p') → Type 0
WindsAsLinks shape rule graph list =
    (p : RationalPoint) → winding_below (segments_of list) p ≡ of_shape shape (winding_below (links_by rule graph) p).subj

-- Where the graph is that of the rule over an arrangement of polygons whose counts balance, the list bounds the rule's
-- region in it as that shape.
abbrev pub BoundsAgain : {C I D E : Type 0} {m : _} {w' : _} {o' : _} {e' : _} {p' : _} {w : _} {o : _} {e : _} {p : _} → ShapeType → OverlayRule → OverlayGraph I D w o e p → List (Segment C I E m w' o' e' p') → Type 0
BoundsAgain {w = w} shape rule graph list =
    (fill_rule : FillRule) (segments : List WholeSegment) → whole_graph graph ≡ graph_by (keeps_fill (holds rule)) fill_rule segments →
    IsTrue (is_arranged (w.whole w.MIN_COORD) (w.whole w.MAX_COORD) segments) → IsTrue (are_polygons segments) → IsBalanced segments →
    BoundsAsShape (w.whole w.MIN_COORD) (w.whole w.MAX_COORD) shape (holds rule) fill_rule segments (segments_of list)

-- ---- walks

-- the links of a graph with the numbers of their nodes
abbrev pub whole_links : {I D : Type 0} {w : _} {o : _} {e : _} {p : _} → OverlayGraph I D w o e p → List Link
whole_links {w = w} graph = map (link_of w.whole) (links_of graph)

-- each of them in the direction that a rule gives it
abbrev pub arcs_by : {I D : Type 0} {w : _} {o : _} {e : _} {p : _} → OverlayRule → OverlayGraph I D w o e p → List Link
arcs_by rule graph = arcs (holds rule) (whole_links graph)

-- walks of code as lists of indexes
abbrev pub walks_of : List (Vec ℕ Global) → List (List ℕ)
walks_of walks = map (λ w. w.items) walks
