-- What a builder shows, and what it holds once the graph that borrows its nodes and links is let go.
use Rattle.std.specs.Prelude.{◌≡◌, ℕ, [], List, Result, IfOk, OnErr}
use Rattle.std.specs.Borrow.{RattleType, MutBor, Fml}
use Rattle.std.specs.Io.BufRead.{Rests}
use Rattle.std.specs.declared.cmp.Ord.{Ghosts as Order}
use Rattle.std.specs.declared.cmp.PartialEq.{Ghosts as Equality}
use Rattle.std.specs.declared.cmp.PartialOrd.{Ghosts as PartialOrder}
use Rattle.overlay_geometry.specs.declared.num.OverlayInt.{Ghosts as Whole}
use Rattle.overlay_base.specs.declared.overlay_core.link.OverlayLink.{OverlayLink}
use Rattle.overlay_base.specs.declared.segm.fault.Fault.{Fault}
use Rattle.overlay_base.specs.contracts.segm.boolean.ShapeCountBoolean.{the_row as boolean_row}
use Rattle.overlay_base.specs.contracts.segm.boolean.ShapeCountBooleanWindingCount.TheImpl.{ghosts as boolean_ghosts}
use Rattle.overlay_build.specs.declared.build.builder.GraphBuilder.{GraphBuilder}
use Rattle.overlay_build.specs.declared.build.graph.OverlayGraph.{OverlayGraph}
use Rattle.overlay_build.specs.contracts.build.graph_node.OverlayNode.{the_row as node_row}
use Rattle.overlay_build.specs.contracts.build.builder.GraphBuilder.{the_row}

-- what its readers return
abbrev pub built_nodes : {C N I D : Type 0} {m : _} {w : _} {o : _} {e : _} {p : _} → GraphBuilder C N I D m w o e p → List N
built_nodes builder = builder.nodes.items

abbrev pub built_links : {C N I D : Type 0} {m : _} {w : _} {o : _} {e : _} {p : _} → GraphBuilder C N I D m w o e p → List (OverlayLink I D)
built_links builder = builder.links.items

-- how many orders of live segments the last build compared
abbrev pub build_asked : {C N I D : Type 0} {m : _} {w : _} {o : _} {e : _} {p : _} → GraphBuilder C N I D m w o e p → ℕ
build_asked builder = builder.compared

module _ (I D : RattleType) (whole : Whole I.Denot) (order : Order I.Denot) (equality : Equality I.Denot) (partial : PartialOrder I.Denot) where
  -- the builder of overlays, with coordinates I and data D
  abbrev pub builder_row : RattleType
  builder_row = the_row boolean_row node_row I D boolean_ghosts whole order equality partial

  -- the nodes and links of the graph that was returned, or none after a refusal; and how many orders its build compared, or the build
  -- before
  abbrev pub RestsIn : Result (OverlayGraph I.Denot D.Denot whole order equality partial) Fault → MutBor builder_row.Denot → Fml
  RestsIn result builder = Rests builder_row builder (λ after.
      IfOk result (λ graph. (after.nodes.items ≡ graph.nodes.now) × (after.links.items ≡ graph.links.now) × (after.compared ≡ graph.compared))
      × OnErr result ((after.nodes.items ≡ []) × (after.links.items ≡ []) × (after.compared ≡ builder.now.compared)))
