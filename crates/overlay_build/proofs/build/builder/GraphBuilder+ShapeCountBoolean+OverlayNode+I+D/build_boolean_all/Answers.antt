use Rattle.std.proofs.Common.{rules, true}
use Rattle.overlay_base.specs.SegmentOf.{segments_of}
use Rattle.overlay_build.specs.Graph.{graph_by, data_by}
use Rattle.overlay_build.specs.NodeIndexes.{indexes_of, is_canonical_node}
use Rattle.overlay_build.proofs.laws.graphs.BuiltGraphs.{hold_own_graph, held_links_are_ordered}
use Rattle.overlay_build.proofs.build.builder.GraphBuilder+ShapeCountBoolean+OverlayNode+I+D.build_boolean_all.Goals as goal

pub graph-requires : goal.graph-requires
graph-requires g c =
    let segments = segments_of c.args.segments.now in
    record {
      holds = hold_own_graph indexes_of is_canonical_node g.I.OverlayInt.whole _ _ (λ _. true) c.args.fill_rule segments c.in_ok-build.ensures.graph;
      ordered = held_links_are_ordered indexes_of is_canonical_node g.I.OverlayInt.whole _ _ (λ _. true) c.args.fill_rule _ _ segments c.requires.arranged c.in_ok-build.ensures.graph;
    }

pub returns : goal.returns
unfolding graph_by data_by
returns g c = (search rules, record { graph = rw (c.graph.ensures.nodes, c.graph.ensures.links) c.in_ok-build.ensures.graph; edge_data = rw c.graph.ensures.links c.in_ok-build.ensures.edge_data; in_range = c.in_ok-build.ensures.in_range; out_of_range = tt; compared = rw c.graph.ensures.compared c.in_ok-build.ensures.compared; after = search rules })
