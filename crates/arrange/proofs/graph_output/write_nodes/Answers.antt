use Rattle.std.proofs.Common.{◌∙◌, ◌++◌, flat_map, take, sym, ap, List, ℕ, string_bytes}
use Rattle.std.proofs.lemmas.List.{flat_map_more}
use Rattle.overlay_geometry.specs.PointOf.{point_of}
use Rattle.overlay_build.specs.Graph.{Node}
use Rattle.overlay_build.specs.GraphOf.{graph_with}
use Rattle.overlay_build.specs.NodeIndexes.{indexes_of, is_canonical_node}
use Rattle.arrange.specs.GraphText.{node_line}
use Rattle.arrange.proofs.GraphPoints.{no_node, node_is}
use Rattle.arrange.proofs.graph_output.write_nodes.Goals as goal

pub loop-id-preserved : goal.loop-id-preserved
loop-id-preserved g c =
    let whole = g.I.OverlayInt.whole in
    let graph = c.args.graph.now in
    let nodes : List Node = (graph_with whole graph.links.now).nodes in
    let id : ℕ = c.loop-id.id in
    let written : Node = record { point = point_of whole c.node_point.result; links = indexes_of c.node-item.result } in
    let step = node_is indexes_of is_canonical_node whole graph.nodes.now graph.links.now graph.holds id c.nodes-node-items.result.now c.node-item.result c.node_point.result c.nodes-node-items.ensures c.loop-id-test.true c.node-item.is (c.node_point.ensures no_node) in
    c.in_ok-write_node.ensures
    ∙ ap (λ (bytes : List ℕ). bytes ++ node_line written) c.loop-id.invariant
    ∙ flat_map_more node_line (string_bytes c.args.text.now) (take id nodes) written
    ∙ ap (λ (ns : List Node). string_bytes c.args.text.now ++ flat_map node_line ns) (sym step)
