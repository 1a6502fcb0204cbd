use Rattle.std.proofs.Common.{◌≡◌, ◌≢◌, ◌==◌, ◌∙◌, ap, subst, ℕ, ◌<◌, ◌%◌, Bool, List, Some, [], map, get_or, set, true, false, refl, arith, get_or-set_same}
use Rattle.std.proofs.lemmas.Bool.{eqb-true, eq-eqb}
use Rattle.std.proofs.lemmas.List.{length-map}
use Rattle.overlay_base.specs.Rules.{differ}
use Rattle.overlay_sweep.specs.Fill.{flag_value}
use Rattle.overlay_build.specs.Graph.{Link}
use Rattle.overlay_build.specs.GraphOf.{link_of}
use Rattle.overlay_build.specs.Walks.{walk_end, IsClosedWalk, IsFirstReturn}
use Rattle.overlay_build.specs.steps.UnusedLinks.{unused_degree, AreUnusedEven}
use Rattle.overlay_build.proofs.laws.walks.Walks.{IsWalking}
use Rattle.overlay_build.specs.NodeIndexes.{indexes_of, is_canonical_node}
use Rattle.overlay_build.proofs.laws.walks.WalkSteps.{ListLinks-held, walk_begun, walk_gone_on, walk_is_some, set_keeps, fewer_left, IsAway, IsAway-first, IsAway-push}
use Rattle.overlay_build.proofs.build.walks.walk_from.Goals as goal

-- ---- a walk under way, and one that has come back

-- where a walk has not come back, an unused link is left
one_left : (links : List Link) (used : List Bool) (start node : ℕ) → IsWalking links used start node → node ≢ start → 0 < unused_degree used links node
one_left links used start node w away = by (node == start) refl
  where
    by : (b : Bool) → (node == start) ≡ b → 0 < unused_degree used links node
    by true e = absurd (away (eqb-true node start e))
    by false e =
        let same : (node == node) ≡ true = eq-eqb node node refl in
        let odd : unused_degree used links node % 2 ≡ 1 = rw (e, same) at (w.parity node) in
        omega (arith, odd)

-- where it has, it is closed, and an even number of unused links is at each node
closed_at : (links : List Link) (start node : ℕ) (walk : List ℕ) → walk_end links start walk ≡ Some node → node ≡ start → walk ≢ [] → IsClosedWalk links walk
closed_at links start node walk leads back some = (some, (start, leads ∙ ap (λ n. Some n) back))

first_return_at : (links : List Link) (start node : ℕ) (walk : List ℕ) → walk_end links start walk ≡ Some node → node ≡ start → IsAway links start walk → IsFirstReturn links walk
first_return_at links start node walk leads back away = record { start = start; closed = leads ∙ ap (λ n. Some n) back; away = away }

even_at : (links : List Link) (used : List Bool) (start node : ℕ) → IsWalking links used start node → node ≡ start → AreUnusedEven links used
even_at links used start node w back = record { even = λ u. w.parity u ∙ ap (λ n. flag_value (differ (u == start) (u == n)) 1) back ∙ ap (λ b. flag_value b 1) (same (u == start)) }
  where
    same : (b : Bool) → differ b b ≡ false
    same true = refl
    same false = refl

-- ---- the results

pub loop-node-init : goal.loop-node-init
loop-node-init g c =
    let graph = c.args.graph.now in
    let whole = g.I.OverlayInt.whole in
    let lists = ListLinks-held indexes_of is_canonical_node whole graph.nodes.now graph.links.now graph.holds in
    let link = c.index-links-first in
    let is : link.result ≡ get_or graph.links.now c.args.first link.result = link.is ∙ ap (λ ls. get_or ls c.args.first link.result) c.links-links.ensures in
    let used_first : get_or (set c.args.used.now c.args.first true) c.args.first false ≡ true = get_or-set_same c.args.used.now c.args.first true false (rw c.requires.flags c.requires.first) in
    let begun = walk_begun whole graph.links.now (map indexes_of graph.nodes.now) lists c.args.used.now c.args.cursors.now c.args.first link.result link.result c.requires.first is c.requires.unused c.requires.flags c.requires.passed c.requires.even in
    rw (c.in_ok-push.ensures.items, c.new-walk.ensures.items) (begun, walk_is_some [] c.args.first, used_first, IsAway-first _ _ c.args.first)

pub loop-node-preserved : goal.loop-node-preserved
loop-node-preserved g c =
    let graph = c.args.graph.now in
    let whole = g.I.OverlayInt.whole in
    let lists = ListLinks-held indexes_of is_canonical_node whole graph.nodes.now graph.links.now graph.holds in
    let next = c.take_link-next in
    let link = c.index-links-next in
    let is : link.result ≡ get_or graph.links.now next.result link.result = link.is ∙ ap (λ ls. get_or ls next.result link.result) c.links-links.ensures in
    let kept = c.loop-node.invariant in
    let gone = walk_gone_on whole graph.links.now (map indexes_of graph.nodes.now) lists c.args.used.now c.loop-node.used c.loop-node.cursors next.new.cursors _ c.loop-node.node next.result c.loop-node.walk.items link.result link.result kept.0 next.ensures.link is next.ensures.unused next.ensures.meets (rw next.ensures.used at next.ensures.passed) in
    rw (c.in_ok-push-2.ensures.items, c.other-node.ensures, next.ensures.used) (gone, walk_is_some c.loop-node.walk.items next.result, set_keeps c.loop-node.used next.result c.args.first kept.2, IsAway-push _ _ c.loop-node.node c.loop-node.walk.items next.result kept.3 kept.0.leads c.loop-node-test.true)

pub loop-node-smaller : goal.loop-node-smaller
loop-node-smaller g c =
    let next = c.take_link-next in
    let flags = c.loop-node.invariant.0.flags in
    let many = length-map c.args.graph.now.links.now (link_of g.I.OverlayInt.whole) in
    rw next.ensures.used (fewer_left c.loop-node.used next.result (rw (flags, many) next.ensures.link) next.ensures.unused)

pub take_link-next-requires-clause-left : goal.take_link-next-requires-clause-left
take_link-next-requires-clause-left g c = one_left _ c.loop-node.used _ c.loop-node.node c.loop-node.invariant.0.walking c.loop-node-test.true

pub returns-clause-closed : goal.returns-clause-closed
returns-clause-closed g c = closed_at _ _ c.loop-node.node c.loop-node.walk.items c.loop-node.invariant.0.leads c.loop-node-test.false c.loop-node.invariant.1

pub returns-clause-first_return : goal.returns-clause-first_return
returns-clause-first_return g c = first_return_at _ _ c.loop-node.node c.loop-node.walk.items c.loop-node.invariant.0.leads c.loop-node-test.false c.loop-node.invariant.3

pub returns-clause-even : goal.returns-clause-even
returns-clause-even g c = even_at _ c.loop-node.used _ c.loop-node.node c.loop-node.invariant.0.walking c.loop-node-test.false

pub take_link-next-requires-clause-node : goal.take_link-next-requires-clause-node
take_link-next-requires-clause-node g c = subst (λ n. c.loop-node.node < n) (length-map c.args.graph.now.nodes.now indexes_of) c.loop-node.invariant.0.node_in

pub returns-clause-counted : goal.returns-clause-counted
returns-clause-counted g c = c.loop-node.invariant.0.counted

pub returns-clause-kept : goal.returns-clause-kept
returns-clause-kept g c = c.loop-node.invariant.0.kept

pub returns-clause-passed : goal.returns-clause-passed
returns-clause-passed g c = c.loop-node.invariant.0.passed

pub returns-clause-begun : goal.returns-clause-begun
returns-clause-begun g c = c.loop-node.invariant.2

pub take_link-next-requires-clause-flags : goal.take_link-next-requires-clause-flags
take_link-next-requires-clause-flags g c = c.loop-node.invariant.0.flags ∙ length-map c.args.graph.now.links.now (link_of g.I.OverlayInt.whole)

pub take_link-next-requires-clause-passed : goal.take_link-next-requires-clause-passed
take_link-next-requires-clause-passed g c = c.loop-node.invariant.0.passed

pub bounds-links-first : goal.bounds-links-first
bounds-links-first g c = rw c.links-links.ensures c.requires.first

pub bounds-links-next : goal.bounds-links-next
bounds-links-next g c = rw c.links-links.ensures c.take_link-next.ensures.link

pub bounds-used-first : goal.bounds-used-first
bounds-used-first g c = rw c.requires.flags c.requires.first
