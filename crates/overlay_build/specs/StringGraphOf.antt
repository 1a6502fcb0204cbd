-- What a graph of lines shows, and what its builder holds once the graph is let go.
use mir.Syntax.{named}
use Rattle.std.specs.Prelude.{◌≡◌, [], List, Result, Vec, ℕ, Bool}
use Rattle.std.specs.Borrow.{RattleType, MutBor, Fml, Array, usize, unit, Lends, RestsIfErr}
use Rattle.std.specs.Vec.{with_items}
use Rattle.std.specs.Global.{Global}
use Rattle.std.specs.contracts.alloc.Global as global
use Rattle.std.specs.contracts.vec.Vec as vec
use Rattle.std.specs.contracts.impls.GlobalAllocator.TheImpl.{ghosts}
use Rattle.std.specs.declared.cmp.Ord.{Ghosts as Order}
use Rattle.std.specs.declared.cmp.PartialEq.{Ghosts as Equality}
use Rattle.std.specs.declared.cmp.PartialOrd.{Ghosts as PartialOrder}
use Rattle.overlay_geometry.specs.declared.num.OverlayInt.{Ghosts as Whole}
use Rattle.overlay_base.specs.declared.overlay_core.link.OverlayLink.{OverlayLink}
use Rattle.overlay_base.specs.declared.segm.fault.Fault.{Fault}
use Rattle.overlay_base.specs.contracts.overlay_core.link.OverlayLink.{the_row as link_row}
use Rattle.overlay_base.specs.contracts.segm.string.ShapeCountString.{the_row as string_row}
use Rattle.overlay_base.specs.contracts.segm.string.ShapeCountStringWindingCount.TheImpl.{ghosts as string_ghosts}
use Rattle.overlay_build.specs.declared.build.string_graph.StringGraph.{StringGraph}
use Rattle.overlay_build.specs.contracts.build.string_graph.StringGraph.{the_row as graph_row}
use Rattle.overlay_build.specs.contracts.build.builder.GraphBuilder.{the_row}
use Rattle.overlay_base.specs.SegmentOf.{segments_of}
use Rattle.overlay_base.specs.declared.overlay_core.fill_rule.FillRule.{FillRule}
use Rattle.overlay_base.specs.declared.segm.segment.Segment.{Segment}
use Rattle.overlay_build.specs.Graph.{Graph, graph_by}
use Rattle.overlay_build.specs.GraphOf.{HoldGraph, graph_with}
use Rattle.overlay_build.specs.NodeIndexes.{items_of, is_any_node}

-- what its readers return
abbrev pub line_nodes_of : {I : Type 0} {w : _} {o : _} {e : _} {p : _} → StringGraph I w o e p → List (Vec ℕ Global)
line_nodes_of graph = graph.builder.now.nodes.items

abbrev pub line_links_of : {I : Type 0} {w : _} {o : _} {e : _} {p : _} → StringGraph I w o e p → List (OverlayLink I Unit)
line_links_of graph = graph.builder.now.links.items

-- the graph that its links are those of
abbrev pub whole_graph : {I : Type 0} {w : _} {o : _} {e : _} {p : _} → StringGraph I w o e p → Graph
whole_graph {w = w} graph = graph_with w.whole (line_links_of graph)

-- Its nodes are those of that graph.
abbrev pub HasItsNodes : {I : Type 0} {w : _} {o : _} {e : _} {p : _} → StringGraph I w o e p → Type 0
HasItsNodes {w = w} graph = HoldGraph items_of is_any_node w.whole (line_nodes_of graph) (line_links_of graph) (whole_graph graph)

-- Its nodes and links are those of the graph of the segments of a list whose fills pass a test.
abbrev pub ShowsGraphBy : {C I D : Type 0} {m : _} {w' : _} {o' : _} {e' : _} {p' : _} {w : _} {o : _} {e : _} {p : _} → (ℕ → Bool) → FillRule → List (Segment C I D m w' o' e' p') → StringGraph I w o e p → Type 0
ShowsGraphBy {w = w} keeps rule list graph = HoldGraph items_of is_any_node w.whole (line_nodes_of graph) (line_links_of graph) (graph_by keeps rule (segments_of list))

-- how many orders of live segments its build compared
abbrev pub lines_asked : {I : Type 0} {w : _} {o : _} {e : _} {p : _} → StringGraph I w o e p → ℕ
lines_asked graph = graph.builder.now.compared

-- the name of the reference to the builder
abbrev pub builder_name : {I : Type 0} {w : _} {o : _} {e : _} {p : _} → StringGraph I w o e p → ℕ
builder_name graph = graph.builder.ghost_name

module _ (I : RattleType) (whole : Whole I.Denot) (order : Order I.Denot) (equality : Equality I.Denot) (partial : PartialOrder I.Denot) where
  -- the builder of lines, with coordinates I
  abbrev pub line_builder_row : RattleType
  line_builder_row = the_row string_row (vec.the_row usize global.the_row ghosts) I unit string_ghosts whole order equality partial

  -- what is left in the graph that was returned, or nothing after a refusal
  abbrev pub HoldsLines : Result (StringGraph I.Denot whole order equality partial) Fault → MutBor line_builder_row.Denot → Fml
  HoldsLines result builder =
      RestsIfErr line_builder_row builder (λ graph. graph.builder.ghost_name) result (λ after. (after.nodes.items ≡ []) × (after.links.items ≡ []) × (after.compared ≡ builder.now.compared))

  -- the builder ends with the links that are left behind the reference
  abbrev pub LendsBuiltLinks : MutBor line_builder_row.Denot → MutBor (List (OverlayLink I.Denot Unit)) → Fml
  LendsBuiltLinks builder links = Lends line_builder_row (Array (link_row I unit) 0) builder links (λ left. record builder.now { links = with_items builder.now.links left })

  -- and so does the graph, at its lifetime
  abbrev pub borrowed_row : RattleType
  borrowed_row = graph_row (record { mir = named 0; lft = [] }) I whole order equality partial

  -- The graph ends with the links that are left behind the reference to them.
  abbrev pub LendsTo : MutBor borrowed_row.Denot → MutBor (List (OverlayLink I.Denot Unit)) → Fml
  LendsTo graph links =
      Lends borrowed_row (Array (link_row I unit) 0) graph links
      (λ left. record graph.now { builder = record graph.now.builder { now = record graph.now.builder.now { links = with_items graph.now.builder.now.links left } } })
