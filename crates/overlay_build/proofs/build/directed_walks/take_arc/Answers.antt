use Rattle.std.proofs.Common.{◌<◌, ◌∙◌, sym, ap, subst, length, map}
use Rattle.std.proofs.lemmas.List.{length-map}
use Rattle.overlay_base.specs.Rules.{holds}
use Rattle.overlay_build.specs.DirectedWalks.{arcs}
use Rattle.overlay_build.specs.GraphOf.{link_of}
use Rattle.overlay_build.specs.NodeIndexes.{indexes_of, is_canonical_node}
use Rattle.overlay_build.proofs.laws.walks.WalkSteps.{list_of}
use Rattle.overlay_build.proofs.laws.walks.DirectedSteps.{ListArcs-held, length-arcs, ArePassedOver-step, one_is_free}
use Rattle.overlay_build.proofs.build.directed_walks.take_arc.Goals as goal

pub next_free-place-requires-clause-flags : goal.next_free-place-requires-clause-flags
next_free-place-requires-clause-flags g c =
    c.requires.flags ∙ sym (ap length c.links.ensures)

pub next_free-place-requires-clause-links : goal.next_free-place-requires-clause-links
next_free-place-requires-clause-links g c =
    let graph = c.args.graph.now in
    let whole = g.I.OverlayInt.whole in
    let rule = holds c.args.rule in
    let links = arcs rule (map (link_of whole) graph.links.now) in
    let lists = ListArcs-held indexes_of is_canonical_node whole graph.nodes.now graph.links.now rule graph.holds in
    let is = list_of indexes_of graph.nodes.now c.nodes.result.now c.args.node _ c.indices-indexes.result.now c.nodes.ensures c.requires.node c.index-nodes-node.is c.indices-indexes.ensures in
    let node_in : c.args.node < length (map indexes_of graph.nodes.now) = rw (length-map graph.nodes.now indexes_of) c.requires.node in
    let many = length-arcs whole rule graph.links.now in
    λ k h. rw (c.links.ensures, is, ← many) (lists.listed c.args.node k node_in (rw is at h))

pub next_free-place-requires-clause-passed : goal.next_free-place-requires-clause-passed
next_free-place-requires-clause-passed g c =
    let graph = c.args.graph.now in
    let whole = g.I.OverlayInt.whole in
    let rule = holds c.args.rule in
    let links = arcs rule (map (link_of whole) graph.links.now) in
    let lists = ListArcs-held indexes_of is_canonical_node whole graph.nodes.now graph.links.now rule graph.holds in
    let is = list_of indexes_of graph.nodes.now c.nodes.result.now c.args.node _ c.indices-indexes.result.now c.nodes.ensures c.requires.node c.index-nodes-node.is c.indices-indexes.ensures in
    let node_in : c.args.node < length (map indexes_of graph.nodes.now) = rw (length-map graph.nodes.now indexes_of) c.requires.node in
    let many = length-arcs whole rule graph.links.now in
    λ k h. rw (c.links.ensures, is) (c.requires.passed.passed c.args.node k node_in h)

pub bounds-indexes-place : goal.bounds-indexes-place
bounds-indexes-place g c =
    let graph = c.args.graph.now in
    let whole = g.I.OverlayInt.whole in
    let rule = holds c.args.rule in
    let links = arcs rule (map (link_of whole) graph.links.now) in
    let lists = ListArcs-held indexes_of is_canonical_node whole graph.nodes.now graph.links.now rule graph.holds in
    let is = list_of indexes_of graph.nodes.now c.nodes.result.now c.args.node _ c.indices-indexes.result.now c.nodes.ensures c.requires.node c.index-nodes-node.is c.indices-indexes.ensures in
    let node_in : c.args.node < length (map indexes_of graph.nodes.now) = rw (length-map graph.nodes.now indexes_of) c.requires.node in
    let many = length-arcs whole rule graph.links.now in
    let place = c.next_free-place in
    let passed = rw (is, c.links.ensures) at place.ensures.passed in
    let inside = one_is_free links (map indexes_of graph.nodes.now) c.args.used.now c.args.node place.result lists node_in c.requires.left (rw is at place.ensures.within) passed in
    rw is inside

pub bounds-used-link : goal.bounds-used-link
bounds-used-link g c =
    let graph = c.args.graph.now in
    let whole = g.I.OverlayInt.whole in
    let rule = holds c.args.rule in
    let links = arcs rule (map (link_of whole) graph.links.now) in
    let lists = ListArcs-held indexes_of is_canonical_node whole graph.nodes.now graph.links.now rule graph.holds in
    let is = list_of indexes_of graph.nodes.now c.nodes.result.now c.args.node _ c.indices-indexes.result.now c.nodes.ensures c.requires.node c.index-nodes-node.is c.indices-indexes.ensures in
    let node_in : c.args.node < length (map indexes_of graph.nodes.now) = rw (length-map graph.nodes.now indexes_of) c.requires.node in
    let many = length-arcs whole rule graph.links.now in
    let place = c.next_free-place in
    let passed = rw (is, c.links.ensures) at place.ensures.passed in
    let inside = one_is_free links (map indexes_of graph.nodes.now) c.args.used.now c.args.node place.result lists node_in c.requires.left (rw is at place.ensures.within) passed in
    rw (c.requires.flags, is, ← many) (lists.listed c.args.node place.result node_in inside)

pub returns-clause-link : goal.returns-clause-link
returns-clause-link g c =
    let graph = c.args.graph.now in
    let whole = g.I.OverlayInt.whole in
    let rule = holds c.args.rule in
    let links = arcs rule (map (link_of whole) graph.links.now) in
    let lists = ListArcs-held indexes_of is_canonical_node whole graph.nodes.now graph.links.now rule graph.holds in
    let is = list_of indexes_of graph.nodes.now c.nodes.result.now c.args.node _ c.indices-indexes.result.now c.nodes.ensures c.requires.node c.index-nodes-node.is c.indices-indexes.ensures in
    let node_in : c.args.node < length (map indexes_of graph.nodes.now) = rw (length-map graph.nodes.now indexes_of) c.requires.node in
    let many = length-arcs whole rule graph.links.now in
    let place = c.next_free-place in
    let passed = rw (is, c.links.ensures) at place.ensures.passed in
    let inside = one_is_free links (map indexes_of graph.nodes.now) c.args.used.now c.args.node place.result lists node_in c.requires.left (rw is at place.ensures.within) passed in
    rw (is, ← many) (lists.listed c.args.node place.result node_in inside)

pub returns-clause-unused : goal.returns-clause-unused
returns-clause-unused g c =
    let graph = c.args.graph.now in
    let whole = g.I.OverlayInt.whole in
    let rule = holds c.args.rule in
    let links = arcs rule (map (link_of whole) graph.links.now) in
    let lists = ListArcs-held indexes_of is_canonical_node whole graph.nodes.now graph.links.now rule graph.holds in
    let is = list_of indexes_of graph.nodes.now c.nodes.result.now c.args.node _ c.indices-indexes.result.now c.nodes.ensures c.requires.node c.index-nodes-node.is c.indices-indexes.ensures in
    let node_in : c.args.node < length (map indexes_of graph.nodes.now) = rw (length-map graph.nodes.now indexes_of) c.requires.node in
    let many = length-arcs whole rule graph.links.now in
    let place = c.next_free-place in
    let passed = rw (is, c.links.ensures) at place.ensures.passed in
    let inside = one_is_free links (map indexes_of graph.nodes.now) c.args.used.now c.args.node place.result lists node_in c.requires.left (rw is at place.ensures.within) passed in
    place.ensures.unused (rw is inside)

pub returns-clause-starts : goal.returns-clause-starts
returns-clause-starts g c =
    let graph = c.args.graph.now in
    let whole = g.I.OverlayInt.whole in
    let rule = holds c.args.rule in
    let links = arcs rule (map (link_of whole) graph.links.now) in
    let lists = ListArcs-held indexes_of is_canonical_node whole graph.nodes.now graph.links.now rule graph.holds in
    let is = list_of indexes_of graph.nodes.now c.nodes.result.now c.args.node _ c.indices-indexes.result.now c.nodes.ensures c.requires.node c.index-nodes-node.is c.indices-indexes.ensures in
    let node_in : c.args.node < length (map indexes_of graph.nodes.now) = rw (length-map graph.nodes.now indexes_of) c.requires.node in
    let many = length-arcs whole rule graph.links.now in
    let place = c.next_free-place in
    let passed = rw (is, c.links.ensures) at place.ensures.passed in
    let inside = one_is_free links (map indexes_of graph.nodes.now) c.args.used.now c.args.node place.result lists node_in c.requires.left (rw is at place.ensures.within) passed in
    rw c.links.ensures at (place.ensures.starts (rw is inside))

pub returns-clause-passed : goal.returns-clause-passed
returns-clause-passed g c =
    let graph = c.args.graph.now in
    let whole = g.I.OverlayInt.whole in
    let rule = holds c.args.rule in
    let links = arcs rule (map (link_of whole) graph.links.now) in
    let lists = ListArcs-held indexes_of is_canonical_node whole graph.nodes.now graph.links.now rule graph.holds in
    let is = list_of indexes_of graph.nodes.now c.nodes.result.now c.args.node _ c.indices-indexes.result.now c.nodes.ensures c.requires.node c.index-nodes-node.is c.indices-indexes.ensures in
    let node_in : c.args.node < length (map indexes_of graph.nodes.now) = rw (length-map graph.nodes.now indexes_of) c.requires.node in
    let many = length-arcs whole rule graph.links.now in
    let place = c.next_free-place in
    let passed = rw (is, c.links.ensures) at place.ensures.passed in
    let inside = one_is_free links (map indexes_of graph.nodes.now) c.args.used.now c.args.node place.result lists node_in c.requires.left (rw is at place.ensures.within) passed in
    ArePassedOver-step links (map indexes_of graph.nodes.now) c.args.used.now c.args.cursors.now c.args.node place.result _ c.requires.passed node_in (rw is at place.ensures.within) passed

pub bounds-cursors-node : goal.bounds-cursors-node
bounds-cursors-node g c = subst (λ n. c.args.node < n) (sym (c.requires.passed.each ∙ length-map c.args.graph.now.nodes.now indexes_of)) c.requires.node

pub next_free-place-requires-clause-within : goal.next_free-place-requires-clause-within
next_free-place-requires-clause-within g c =
    let graph = c.args.graph.now in
    let is = list_of indexes_of graph.nodes.now c.nodes.result.now c.args.node _ c.indices-indexes.result.now c.nodes.ensures c.requires.node c.index-nodes-node.is c.indices-indexes.ensures in
    let node_in : c.args.node < length (map indexes_of graph.nodes.now) = rw (length-map graph.nodes.now indexes_of) c.requires.node in
    rw is (c.requires.passed.within c.args.node node_in)

pub bounds-cursors-node-2 : goal.bounds-cursors-node-2
bounds-cursors-node-2 g c = subst (λ n. c.args.node < n) (sym (c.requires.passed.each ∙ length-map c.args.graph.now.nodes.now indexes_of)) c.requires.node
