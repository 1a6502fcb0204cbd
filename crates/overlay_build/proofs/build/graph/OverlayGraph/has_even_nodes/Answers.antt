use Rattle.std.proofs.Common.{◌∙◌}
use Rattle.overlay_build.specs.GraphOf.{graph_with}
use Rattle.overlay_build.specs.NodeIndexes.{indexes_of}
use Rattle.overlay_build.proofs.laws.graphs.NodeLists.{even_nodes-is}
use Rattle.overlay_build.proofs.build.graph.OverlayGraph.has_even_nodes.Goals as goal

pub returns : goal.returns
returns g c =
    let graph = c.args.self.now in
    c.are_even.ensures ∙ even_nodes-is indexes_of graph.nodes.now (graph_with g.I.OverlayInt.whole graph.links.now) graph.holds.same_nodes
