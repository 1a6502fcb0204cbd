use Rattle.std.proofs.Common.{◌≡◌, ◌<◌, ◌∙◌, ◌∷◌, ◌++◌, [], sym, ap, subst, map, length, get_or, set, true, false, get_or-set_same, arith}
use Rattle.std.proofs.lemmas.List.{length-map}
use Rattle.overlay_base.specs.Rules.{holds}
use Rattle.overlay_build.specs.Graph.{Link}
use Rattle.overlay_build.specs.DirectedWalks.{arcs, no_link}
use Rattle.overlay_build.specs.GraphOf.{link_of}
use Rattle.overlay_build.specs.NodeIndexes.{indexes_of, is_canonical_node}
use Rattle.overlay_build.proofs.laws.walks.WalkSteps.{set_keeps, fewer_left}
use Rattle.overlay_build.proofs.laws.walks.DirectedSteps.{ListArcs-held, length-arcs, arc_is, IsOnWay, IsOnWay-start, IsOnWay-step, IsOnWay-closed}
use Rattle.overlay_build.proofs.build.directed_walks.directed_walk_from.Goals as goal

pub loop-node-init : goal.loop-node-init
loop-node-init g c =
    let graph = c.args.graph.now in
    let whole = g.I.OverlayInt.whole in
    let rule = holds c.args.rule in
    let links = arcs rule (map (link_of whole) graph.links.now) in
    let nodes = map indexes_of graph.nodes.now in
    let first = c.args.first in
    let used = c.args.used.now in
    let lists = ListArcs-held indexes_of is_canonical_node whole graph.nodes.now graph.links.now rule graph.holds in
    let many = length-arcs whole rule graph.links.now in
    let one = c.index-links-first in
    let two = c.index-links-first-2 in
    let one_is : one.result ≡ get_or graph.links.now first one.result = one.is ∙ ap (λ ls. get_or ls first one.result) c.links-links.ensures in
    let two_is : two.result ≡ get_or graph.links.now first two.result = two.is ∙ ap (λ ls. get_or ls first two.result) c.links-links.ensures in
    let start : (get_or links first no_link).a_node ≡ c.start_of-start.result = ap (λ (k : Link). k.a_node) (arc_is whole rule graph.links.now first one.result c.requires.first one_is) ∙ sym c.start_of-start.ensures in
    let end : (get_or links first no_link).b_node ≡ c.end_of-node.result = ap (λ (k : Link). k.b_node) (arc_is whole rule graph.links.now first two.result c.requires.first two_is) ∙ sym c.end_of-node.ensures in
    let inside : first < length links = rw many c.requires.first in
    let begun = IsOnWay-start links nodes used c.args.cursors.now first lists inside c.requires.unused (c.requires.flags ∙ sym many) c.requires.passed c.requires.level in
    let used_first : get_or (set used first true) first false ≡ true = get_or-set_same used first true false (rw c.requires.flags c.requires.first) in
    rw (c.in_ok-push.ensures.items, c.new-walk.ensures.items) (
      subst (λ n. IsOnWay links nodes used (set used first true) c.args.cursors.now c.start_of-start.result n (first ∷ [])) end
          (subst (λ n. IsOnWay links nodes used (set used first true) c.args.cursors.now n (get_or links first no_link).b_node (first ∷ [])) start begun),
      used_first,
    )

pub loop-node-preserved : goal.loop-node-preserved
loop-node-preserved g c =
    let graph = c.args.graph.now in
    let whole = g.I.OverlayInt.whole in
    let rule = holds c.args.rule in
    let links = arcs rule (map (link_of whole) graph.links.now) in
    let nodes = map indexes_of graph.nodes.now in
    let used = c.loop-node.used in
    let lists = ListArcs-held indexes_of is_canonical_node whole graph.nodes.now graph.links.now rule graph.holds in
    let many = length-arcs whole rule graph.links.now in
    let next = c.take_arc-next in
    let link = c.index-links-next in
    let is : link.result ≡ get_or graph.links.now next.result link.result = link.is ∙ ap (λ ls. get_or ls next.result link.result) c.links-links.ensures in
    let end : (get_or links next.result no_link).b_node ≡ c.end_of-node-in-loop-node.result = ap (λ (k : Link). k.b_node) (arc_is whole rule graph.links.now next.result link.result next.ensures.link is) ∙ sym c.end_of-node-in-loop-node.ensures in
    let inside : next.result < length links = rw many next.ensures.link in
    let kept = c.loop-node.invariant in
    let passed = rw next.ensures.used at next.ensures.passed in
    let gone = IsOnWay-step links nodes c.args.used.now used c.loop-node.cursors next.new.cursors c.start_of-start.result c.loop-node.node next.result c.loop-node.walk.items lists kept.0 c.loop-node-test.true inside next.ensures.unused next.ensures.starts passed in
    rw (c.in_ok-push-2.ensures.items, next.ensures.used)
    (subst (λ n. IsOnWay links nodes c.args.used.now (set used next.result true) next.new.cursors c.start_of-start.result n (c.loop-node.walk.items ++ (next.result ∷ []))) end gone, set_keeps used next.result c.args.first kept.1)

pub returns-clause-closed : goal.returns-clause-closed
returns-clause-closed g c =
    let graph = c.args.graph.now in
    IsOnWay-closed (arcs (holds c.args.rule) (map (link_of g.I.OverlayInt.whole) graph.links.now)) (map indexes_of graph.nodes.now) c.args.used.now c.loop-node.used c.loop-node.cursors c.start_of-start.result c.loop-node.node c.loop-node.walk.items c.loop-node.invariant.0 c.loop-node-test.false

pub offset_bounds-links-first : goal.offset_bounds-links-first
offset_bounds-links-first g c = grind arith

pub bounds-links-first : goal.bounds-links-first
bounds-links-first g c = grind arith

pub offset_bounds-links-first-2 : goal.offset_bounds-links-first-2
offset_bounds-links-first-2 g c = grind arith

pub bounds-links-first-2 : goal.bounds-links-first-2
bounds-links-first-2 g c = grind arith

pub returns-in_err-push-clause-counted : goal.returns-in_err-push-clause-counted
returns-in_err-push-clause-counted g c = grind arith

pub returns-in_err-push-clause-kept : goal.returns-in_err-push-clause-kept
returns-in_err-push-clause-kept g c = grind arith

pub returns-in_err-push-clause-begun : goal.returns-in_err-push-clause-begun
returns-in_err-push-clause-begun g c = grind arith

pub returns-in_err-push-clause-passed : goal.returns-in_err-push-clause-passed
returns-in_err-push-clause-passed g c = grind arith

pub returns-in_err-push-clause-level : goal.returns-in_err-push-clause-level
returns-in_err-push-clause-level g c = grind arith

pub take_arc-next-requires-clause-passed : goal.take_arc-next-requires-clause-passed
take_arc-next-requires-clause-passed g c = grind arith

pub take_arc-next-requires-clause-left : goal.take_arc-next-requires-clause-left
take_arc-next-requires-clause-left g c = grind arith

pub returns-in_err-push-2-clause-closed : goal.returns-in_err-push-2-clause-closed
returns-in_err-push-2-clause-closed g c = grind arith

pub returns-in_err-push-2-clause-counted : goal.returns-in_err-push-2-clause-counted
returns-in_err-push-2-clause-counted g c = grind arith

pub returns-in_err-push-2-clause-kept : goal.returns-in_err-push-2-clause-kept
returns-in_err-push-2-clause-kept g c = grind arith

pub returns-in_err-push-2-clause-begun : goal.returns-in_err-push-2-clause-begun
returns-in_err-push-2-clause-begun g c = grind arith

pub returns-in_err-push-2-clause-passed : goal.returns-in_err-push-2-clause-passed
returns-in_err-push-2-clause-passed g c = grind arith

pub returns-in_err-push-2-clause-level : goal.returns-in_err-push-2-clause-level
returns-in_err-push-2-clause-level g c = grind arith

pub returns-in_err-push-2-clause-fault : goal.returns-in_err-push-2-clause-fault
returns-in_err-push-2-clause-fault g c = grind arith

pub offset_bounds-links-next : goal.offset_bounds-links-next
offset_bounds-links-next g c = grind arith

pub bounds-links-next : goal.bounds-links-next
bounds-links-next g c = grind arith

pub returns-clause-counted : goal.returns-clause-counted
returns-clause-counted g c = grind arith

pub returns-clause-passed : goal.returns-clause-passed
returns-clause-passed g c = grind arith

pub returns-clause-level : goal.returns-clause-level
returns-clause-level g c = grind arith

pub take_arc-next-requires-clause-node : goal.take_arc-next-requires-clause-node
take_arc-next-requires-clause-node g c = subst (λ n. c.loop-node.node < n) (length-map c.args.graph.now.nodes.now indexes_of) c.loop-node.invariant.0.node_in

pub take_arc-next-requires-clause-flags : goal.take_arc-next-requires-clause-flags
take_arc-next-requires-clause-flags g c = c.loop-node.invariant.0.flags ∙ length-arcs g.I.OverlayInt.whole (holds c.args.rule) c.args.graph.now.links.now

pub loop-node-smaller : goal.loop-node-smaller
loop-node-smaller g c =
    let next = c.take_arc-next in
    let flags = c.loop-node.invariant.0.flags in
    let many = length-arcs g.I.OverlayInt.whole (holds c.args.rule) c.args.graph.now.links.now in
    rw next.ensures.used (fewer_left c.loop-node.used next.result (rw (flags, many) next.ensures.link) next.ensures.unused)
