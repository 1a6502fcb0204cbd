use Rattle.std.proofs.Common.{◌<◌, ◌∙◌, sym, subst, length, map, refl, arith, get_or-set_same}
use Rattle.std.proofs.lemmas.List.{length-map}
use Rattle.overlay_build.specs.GraphOf.{link_of}
use Rattle.overlay_build.specs.NodeIndexes.{indexes_of, is_canonical_node}
use Rattle.overlay_build.proofs.laws.walks.WalkSteps.{ListLinks-held, ArePassed-step, one_is_left, list_of}
use Rattle.overlay_build.proofs.build.walks.take_link.Goals as goal

pub next_unused-place-requires-clause-links : goal.next_unused-place-requires-clause-links
next_unused-place-requires-clause-links g c =
    let graph = c.args.graph.now in
    let whole = g.I.OverlayInt.whole in
    let lists = ListLinks-held indexes_of is_canonical_node whole graph.nodes.now graph.links.now graph.holds in
    let is = list_of indexes_of graph.nodes.now c.nodes.result.now c.args.node _ c.indices-indexes.result.now c.nodes.ensures c.requires.node c.index-nodes-node.is c.indices-indexes.ensures in
    let node_in : c.args.node < length (map indexes_of graph.nodes.now) = rw (length-map graph.nodes.now indexes_of) c.requires.node in
    let links = length-map graph.links.now (link_of whole) in
    λ k h. rw (c.requires.flags, is, ← links) (lists.listed c.args.node k node_in (rw is at h))

pub bounds-indexes-place : goal.bounds-indexes-place
bounds-indexes-place g c =
    let graph = c.args.graph.now in
    let whole = g.I.OverlayInt.whole in
    let lists = ListLinks-held indexes_of is_canonical_node whole graph.nodes.now graph.links.now graph.holds in
    let is = list_of indexes_of graph.nodes.now c.nodes.result.now c.args.node _ c.indices-indexes.result.now c.nodes.ensures c.requires.node c.index-nodes-node.is c.indices-indexes.ensures in
    let node_in : c.args.node < length (map indexes_of graph.nodes.now) = rw (length-map graph.nodes.now indexes_of) c.requires.node in
    let place = c.next_unused-place in
    let inside = one_is_left (map (link_of whole) graph.links.now) (map indexes_of graph.nodes.now) c.args.used.now c.args.node place.result lists node_in c.requires.left (rw is at place.ensures.within) (rw is at place.ensures.passed) in
    rw is inside

pub bounds-used-link : goal.bounds-used-link
bounds-used-link g c =
    let graph = c.args.graph.now in
    let whole = g.I.OverlayInt.whole in
    let lists = ListLinks-held indexes_of is_canonical_node whole graph.nodes.now graph.links.now graph.holds in
    let is = list_of indexes_of graph.nodes.now c.nodes.result.now c.args.node _ c.indices-indexes.result.now c.nodes.ensures c.requires.node c.index-nodes-node.is c.indices-indexes.ensures in
    let node_in : c.args.node < length (map indexes_of graph.nodes.now) = rw (length-map graph.nodes.now indexes_of) c.requires.node in
    let links = length-map graph.links.now (link_of whole) in
    let place = c.next_unused-place in
    let inside = one_is_left (map (link_of whole) graph.links.now) (map indexes_of graph.nodes.now) c.args.used.now c.args.node place.result lists node_in c.requires.left (rw is at place.ensures.within) (rw is at place.ensures.passed) in
    rw (c.requires.flags, is, ← links) (lists.listed c.args.node place.result node_in inside)

pub returns-clause-link : goal.returns-clause-link
returns-clause-link g c =
    let graph = c.args.graph.now in
    let whole = g.I.OverlayInt.whole in
    let lists = ListLinks-held indexes_of is_canonical_node whole graph.nodes.now graph.links.now graph.holds in
    let is = list_of indexes_of graph.nodes.now c.nodes.result.now c.args.node _ c.indices-indexes.result.now c.nodes.ensures c.requires.node c.index-nodes-node.is c.indices-indexes.ensures in
    let node_in : c.args.node < length (map indexes_of graph.nodes.now) = rw (length-map graph.nodes.now indexes_of) c.requires.node in
    let links = length-map graph.links.now (link_of whole) in
    let place = c.next_unused-place in
    let inside = one_is_left (map (link_of whole) graph.links.now) (map indexes_of graph.nodes.now) c.args.used.now c.args.node place.result lists node_in c.requires.left (rw is at place.ensures.within) (rw is at place.ensures.passed) in
    rw (is, ← links) (lists.listed c.args.node place.result node_in inside)

pub returns-clause-unused : goal.returns-clause-unused
returns-clause-unused g c =
    let graph = c.args.graph.now in
    let whole = g.I.OverlayInt.whole in
    let lists = ListLinks-held indexes_of is_canonical_node whole graph.nodes.now graph.links.now graph.holds in
    let is = list_of indexes_of graph.nodes.now c.nodes.result.now c.args.node _ c.indices-indexes.result.now c.nodes.ensures c.requires.node c.index-nodes-node.is c.indices-indexes.ensures in
    let node_in : c.args.node < length (map indexes_of graph.nodes.now) = rw (length-map graph.nodes.now indexes_of) c.requires.node in
    let place = c.next_unused-place in
    let inside = one_is_left (map (link_of whole) graph.links.now) (map indexes_of graph.nodes.now) c.args.used.now c.args.node place.result lists node_in c.requires.left (rw is at place.ensures.within) (rw is at place.ensures.passed) in
    place.ensures.unused (rw is inside)

pub returns-clause-meets : goal.returns-clause-meets
returns-clause-meets g c =
    let graph = c.args.graph.now in
    let whole = g.I.OverlayInt.whole in
    let lists = ListLinks-held indexes_of is_canonical_node whole graph.nodes.now graph.links.now graph.holds in
    let is = list_of indexes_of graph.nodes.now c.nodes.result.now c.args.node _ c.indices-indexes.result.now c.nodes.ensures c.requires.node c.index-nodes-node.is c.indices-indexes.ensures in
    let node_in : c.args.node < length (map indexes_of graph.nodes.now) = rw (length-map graph.nodes.now indexes_of) c.requires.node in
    let place = c.next_unused-place in
    let inside = one_is_left (map (link_of whole) graph.links.now) (map indexes_of graph.nodes.now) c.args.used.now c.args.node place.result lists node_in c.requires.left (rw is at place.ensures.within) (rw is at place.ensures.passed) in
    λ d. rw is (lists.meet c.args.node place.result d node_in inside)

pub returns-clause-passed : goal.returns-clause-passed
returns-clause-passed g c =
    let graph = c.args.graph.now in
    let whole = g.I.OverlayInt.whole in
    let lists = ListLinks-held indexes_of is_canonical_node whole graph.nodes.now graph.links.now graph.holds in
    let is = list_of indexes_of graph.nodes.now c.nodes.result.now c.args.node _ c.indices-indexes.result.now c.nodes.ensures c.requires.node c.index-nodes-node.is c.indices-indexes.ensures in
    let node_in : c.args.node < length (map indexes_of graph.nodes.now) = rw (length-map graph.nodes.now indexes_of) c.requires.node in
    let place = c.next_unused-place in
    let inside = one_is_left (map (link_of whole) graph.links.now) (map indexes_of graph.nodes.now) c.args.used.now c.args.node place.result lists node_in c.requires.left (rw is at place.ensures.within) (rw is at place.ensures.passed) in
    ArePassed-step (map indexes_of graph.nodes.now) c.args.used.now c.args.cursors.now c.args.node place.result _ c.requires.passed node_in (rw is at place.ensures.within) (rw is at place.ensures.passed)

pub returns-clause-cursor : goal.returns-clause-cursor
returns-clause-cursor g c =
    let graph = c.args.graph.now in
    let is = list_of indexes_of graph.nodes.now c.nodes.result.now c.args.node _ c.indices-indexes.result.now c.nodes.ensures c.requires.node c.index-nodes-node.is c.indices-indexes.ensures in
    let node_in : c.args.node < length (map indexes_of graph.nodes.now) = rw (length-map graph.nodes.now indexes_of) c.requires.node in
    rw (get_or-set_same c.args.cursors.now c.args.node c.next_unused-place.result 0 (omega (arith, c.requires.passed.each, node_in)), is) refl

pub bounds-cursors-node : goal.bounds-cursors-node
bounds-cursors-node g c = subst (λ n. c.args.node < n) (sym (c.requires.passed.each ∙ length-map c.args.graph.now.nodes.now indexes_of)) c.requires.node

pub next_unused-place-requires-clause-within : goal.next_unused-place-requires-clause-within
next_unused-place-requires-clause-within g c =
    let graph = c.args.graph.now in
    let is = list_of indexes_of graph.nodes.now c.nodes.result.now c.args.node _ c.indices-indexes.result.now c.nodes.ensures c.requires.node c.index-nodes-node.is c.indices-indexes.ensures in
    let node_in : c.args.node < length (map indexes_of graph.nodes.now) = rw (length-map graph.nodes.now indexes_of) c.requires.node in
    rw is (c.requires.passed.within c.args.node node_in)

pub bounds-cursors-node-2 : goal.bounds-cursors-node-2
bounds-cursors-node-2 g c = subst (λ n. c.args.node < n) (sym (c.requires.passed.each ∙ length-map c.args.graph.now.nodes.now indexes_of)) c.requires.node

pub returns-clause-used : goal.returns-clause-used
returns-clause-used g c = refl
