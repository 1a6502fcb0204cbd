use Rattle.std.proofs.Common.{rules}
use Rattle.overlay_base.specs.Rules.{holds, keeps_fill}
use Rattle.overlay_base.specs.SegmentOf.{segments_of}
use Rattle.overlay_build.specs.Graph.{graph_by, data_by}
use Rattle.overlay_build.specs.NodeIndexes.{indexes_of, is_canonical_node}
use Rattle.overlay_build.proofs.laws.graphs.BuiltGraphs.{hold_own_graph, held_links_are_ordered}
use Rattle.overlay_build.proofs.build.builder.GraphBuilder+ShapeCountBoolean+OverlayNode+I+D.build_overlay_with_fills.Goals as goal

pub graph-requires : goal.graph-requires
graph-requires g c =
    let segments = segments_of c.args.segments.now in
    let keeps = keeps_fill (holds c.args.overlay_rule) in
    let fill_rule = c.requires.fills.0 in
    let held = c.in_ok-build_with_fills.ensures.graph fill_rule c.requires.fills.1 in
    record {
      holds = hold_own_graph indexes_of is_canonical_node g.I.OverlayInt.whole _ _ keeps fill_rule segments held;
      ordered = held_links_are_ordered indexes_of is_canonical_node g.I.OverlayInt.whole _ _ keeps fill_rule _ _ segments c.requires.arranged held;
    }

pub returns : goal.returns
unfolding graph_by data_by
returns g c = (
  search rules,
  record {
    graph = λ fill_rule known. rw (c.graph.ensures.nodes, c.graph.ensures.links) (c.in_ok-build_with_fills.ensures.graph fill_rule known);
    edge_data = λ fill_rule known. rw c.graph.ensures.links (c.in_ok-build_with_fills.ensures.edge_data fill_rule known);
    compared = search rules;
    fault = tt;
    after = search rules;
  },
)
