-- What a graph of an overlay shows.
use Rattle.std.specs.Prelude.{ℕ, List, ◌≡◌, Bool, IsTrue, map}
use Rattle.overlay_base.specs.declared.overlay_core.link.OverlayLink.{OverlayLink}
use Rattle.overlay_build.specs.declared.build.graph.OverlayGraph.{OverlayGraph}
use Rattle.overlay_build.specs.declared.build.graph_node.OverlayNode.{OverlayNode}
use Rattle.overlay_base.specs.SegmentOf.{segments_of, data_segments_of}
use Rattle.overlay_base.specs.declared.overlay_core.fill_rule.FillRule.{FillRule}
use Rattle.overlay_base.specs.declared.segm.segment.Segment.{Segment}
use Rattle.overlay_build.specs.Graph.{Graph, graph_by, data_by, has_even_nodes}
use Rattle.overlay_build.specs.GraphOf.{HoldGraph, graph_with}
use Rattle.overlay_build.specs.NodeIndexes.{indexes_of, is_canonical_node}

-- what its readers return
abbrev pub nodes_of : {I D : Type 0} {w : _} {o : _} {e : _} {p : _} → OverlayGraph I D w o e p → List OverlayNode
nodes_of graph = graph.nodes.now

abbrev pub links_of : {I D : Type 0} {w : _} {o : _} {e : _} {p : _} → OverlayGraph I D w o e p → List (OverlayLink I D)
links_of graph = graph.links.now

-- how many orders of live segments its build compared
abbrev pub graph_asked : {I D : Type 0} {w : _} {o : _} {e : _} {p : _} → OverlayGraph I D w o e p → ℕ
graph_asked graph = graph.compared

-- the graph that its links are those of
abbrev pub whole_graph : {I D : Type 0} {w : _} {o : _} {e : _} {p : _} → OverlayGraph I D w o e p → Graph
whole_graph {w = w} graph = graph_with w.whole (links_of graph)

-- Its nodes are those of that graph.
abbrev pub HasItsNodes : {I D : Type 0} {w : _} {o : _} {e : _} {p : _} → OverlayGraph I D w o e p → Type 0
HasItsNodes {w = w} graph = HoldGraph indexes_of is_canonical_node w.whole (nodes_of graph) (links_of graph) (whole_graph graph)

-- an even number of links meets at each of them
abbrev pub HasEvenNodes : {I D : Type 0} {w : _} {o : _} {e : _} {p : _} → OverlayGraph I D w o e p → Type 0
HasEvenNodes graph = IsTrue (has_even_nodes (whole_graph graph))

-- Its nodes and links are those of the graph of the segments of a list whose fills pass a test.
abbrev pub ShowsGraphBy : {C I D : Type 0} {m : _} {w' : _} {o' : _} {e' : _} {p' : _} {w : _} {o : _} {e : _} {p : _} → (ℕ → Bool) → FillRule → List (Segment C I D m w' o' e' p') → OverlayGraph I D w o e p → Type 0
ShowsGraphBy {w = w} keeps rule list graph = HoldGraph indexes_of is_canonical_node w.whole (nodes_of graph) (links_of graph) (graph_by keeps rule (segments_of list))

-- Its data is that of these segments.
abbrev pub HasDataBy : {C I D : Type 0} {m : _} {w' : _} {o' : _} {e' : _} {p' : _} {w : _} {o : _} {e : _} {p : _} → (ℕ → Bool) → FillRule → List (Segment C I D m w' o' e' p') → OverlayGraph I D w o e p → Type 0
HasDataBy keeps rule list graph = map (λ l. l.edge_data) (links_of graph) ≡ data_by keeps rule (data_segments_of list)
