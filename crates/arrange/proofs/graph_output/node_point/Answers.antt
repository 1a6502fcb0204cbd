use Rattle.std.proofs.Common.{arith, refl}
use Rattle.overlay_build.specs.NodeIndexes.{indexes_of, is_canonical_node}
use Rattle.arrange.proofs.GraphPoints.{no_node, lists_some, lists_link, starts_there, ends_there}
use Rattle.arrange.proofs.graph_output.node_point.Goals as goal

pub bounds-indices-0 : goal.bounds-indices-0
bounds-indices-0 g c =
    lists_some indexes_of is_canonical_node g.I.OverlayInt.whole c.args.graph.now.nodes.now c.args.graph.now.links.now c.args.graph.now.holds c.args.id no_node c.requires
    c.nodes.result.now c.index-nodes-id.result c.indices.result.now _ c.nodes.ensures c.index-nodes-id.is c.indices.ensures refl

pub bounds-links-first : goal.bounds-links-first
bounds-links-first g c =
    lists_link indexes_of is_canonical_node g.I.OverlayInt.whole c.args.graph.now.nodes.now c.args.graph.now.links.now c.args.graph.now.holds c.args.id no_node c.requires
    c.nodes.result.now c.index-nodes-id.result c.indices.result.now c.links.result.now c.nodes.ensures c.index-nodes-id.is c.indices.ensures c.links.ensures

pub offset_bounds-links-first : goal.offset_bounds-links-first
offset_bounds-links-first g c = let within = bounds-links-first g c in omega (arith, within)

pub returns-then-link-id : goal.returns-then-link-id
returns-then-link-id g c = λ d.
    starts_there indexes_of is_canonical_node g.I.OverlayInt.whole c.args.graph.now.nodes.now c.args.graph.now.links.now c.args.graph.now.holds c.args.id d c.requires
    c.nodes.result.now c.index-nodes-id.result c.indices.result.now c.links.result.now c.nodes.ensures c.index-nodes-id.is c.indices.ensures c.links.ensures c.index-links-first.result c.index-links-first.is c.if-link-id.true

pub returns-else-link-id : goal.returns-else-link-id
returns-else-link-id g c = λ d.
    ends_there indexes_of is_canonical_node g.I.OverlayInt.whole c.args.graph.now.nodes.now c.args.graph.now.links.now c.args.graph.now.holds c.args.id d c.requires
    c.nodes.result.now c.index-nodes-id.result c.indices.result.now c.links.result.now c.nodes.ensures c.index-nodes-id.is c.indices.ensures c.links.ensures c.index-links-first.result c.index-links-first.is c.if-link-id.false
