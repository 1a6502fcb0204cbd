use Rattle.std.proofs.Common.{◌≡◌, ◌∙◌, ◌<◌, sym, ap, subst, [], ◌∷◌, ◌++◌, map, length, replicate, false, arith}
use Rattle.std.proofs.lemmas.List.{length-map, map-append, get_or_default, with_items_is}
use Rattle.overlay_build.specs.GraphOf.{link_of}
use Rattle.overlay_build.specs.NodeIndexes.{indexes_of}
use Rattle.overlay_base.specs.Rules.{holds}
use Rattle.overlay_build.specs.DirectedWalks.{arcs}
use Rattle.overlay_build.proofs.laws.walks.DirectedSteps.{length-arcs, HaveRun-none, HaveRun-over, HaveRun-more, HaveRun-all}
use Rattle.overlay_build.proofs.build.directed_walks.directed_walks.Goals as goal
use Rattle.overlay_build.proofs.build.directed_walks.directed_walks.Goals.{then-not-index+in_ok-walk+in_ok-push, else-not-index}

pub loop-first-init : goal.loop-first-init
loop-first-init g c =
    let graph = c.args.graph.now in
    let whole = g.I.OverlayInt.whole in
    let used : c.in_ok-used.used.items ≡ replicate (length graph.links.now) false = c.in_ok-used.ensures.items_if_clones_equal (λ y same. same) ∙ ap (λ ls. replicate (length ls) false) c.links-count.ensures in
    let cursors : c.in_ok-cursors.cursors.items ≡ replicate (length graph.nodes.now) 0 = c.in_ok-cursors.ensures.items_if_clones_equal (λ y same. same) ∙ ap (λ ns. replicate (length ns) 0) c.nodes.ensures in
    let arcs_now = arcs (holds c.args.rule) (map (link_of whole) graph.links.now) in
    rw (used, cursors, c.new-walks.ensures.items) (HaveRun-none arcs_now (map indexes_of graph.nodes.now) (length graph.links.now) (length graph.nodes.now) (sym (length-arcs whole (holds c.args.rule) graph.links.now)) (sym (length-map graph.nodes.now indexes_of)) c.requires.flow)

pub loop-first-preserved : goal.loop-first-preserved
loop-first-preserved g c =
    let graph = c.args.graph.now in
    let whole = g.I.OverlayInt.whole in
    let links = arcs (holds c.args.rule) (map (link_of whole) graph.links.now) in
    let nodes = map indexes_of graph.nodes.now in
    let before = c.loop-first in
    elim c.if-not-index.branch [
      | then-not-index+in_ok-walk+in_ok-push w ↦
          let walk = w.in_ok-walk in
          let walks : map (λ v. v.items) w.push.new.self.items ≡ map (λ v. v.items) before.walks.items ++ (walk.walk.items ∷ []) = ap (map (λ v. v.items)) w.in_ok-push.ensures.items ∙ map-append (λ v. v.items) before.walks.items (walk.walk ∷ []) in
          let is = w.deref_mut.ensures.value in
          let counted = rw is at walk.ensures.counted in
          let kept = rw is at walk.ensures.kept in
          let long : length w.directed_walk_from.new.used ≡ length before.used.items = w.directed_walk_from.auto.used ∙ ap length is in
          let deep : length w.directed_walk_from.new.cursors ≡ length before.cursors.items = w.directed_walk_from.auto.cursors ∙ ap length w.deref_mut-then-not-index.ensures.value in
          let used : c.if-not-index.used.items ≡ w.directed_walk_from.new.used = ap (λ v. v.items) w.used-is ∙ with_items_is before.used w.directed_walk_from.new.used (long ∙ sym before.used.ok.0) in
          let cursors : c.if-not-index.cursors.items ≡ w.directed_walk_from.new.cursors = ap (λ v. v.items) w.cursors-is ∙ with_items_is before.cursors w.directed_walk_from.new.cursors (deep ∙ sym before.cursors.ok.0) in
          rw (used, cursors, w.walks-is, walks)
          (HaveRun-more links nodes before.used.items w.directed_walk_from.new.used before.cursors.items w.directed_walk_from.new.cursors (map (λ v. v.items) before.walks.items) walk.walk.items before.first before.invariant
          long walk.ensures.passed walk.ensures.level walk.ensures.closed counted kept walk.ensures.begun)
      | else-not-index w ↦
          let many = length-arcs whole (holds c.args.rule) graph.links.now in
          let count = ap length c.links-count.ensures in
          let inside : before.first < length before.used.items = omega (arith, before.invariant.flags, many, count, c.loop-first-test.true) in
          let here = get_or_default before.used.items before.first false c.index.result.now inside ∙ sym c.index.ensures ∙ w.if-not-index.false in
          rw (w.used-is, w.cursors-is, w.walks-is) (HaveRun-over links nodes before.used.items before.cursors.items (map (λ v. v.items) before.walks.items) before.first before.invariant here)
    ]

pub returns-clause-walks : goal.returns-clause-walks
returns-clause-walks g c =
    let graph = c.args.graph.now in
    let whole = g.I.OverlayInt.whole in
    let links = length-arcs whole (holds c.args.rule) graph.links.now in
    let count = ap length c.links-count.ensures in
    HaveRun-all (arcs (holds c.args.rule) (map (link_of whole) graph.links.now)) (map indexes_of graph.nodes.now) c.loop-first.used.items c.loop-first.cursors.items _ c.loop-first.first c.loop-first.invariant (omega (arith, links, count, c.loop-first-test.false))

pub index-requires : goal.index-requires
index-requires g c =
    let many = c.loop-first.used.ok.0 ∙ c.loop-first.invariant.flags ∙ length-arcs g.I.OverlayInt.whole (holds c.args.rule) c.args.graph.now.links.now in
    subst (λ n. c.loop-first.first < n) (ap length c.links-count.ensures ∙ sym many) c.loop-first-test.true

pub directed_walk_from-requires-clause-first : goal.directed_walk_from-requires-clause-first
directed_walk_from-requires-clause-first g c = subst (λ n. c.loop-first.first < n) (ap length c.links-count.ensures) c.loop-first-test.true

pub directed_walk_from-requires-clause-flags : goal.directed_walk_from-requires-clause-flags
directed_walk_from-requires-clause-flags g c = ap length c.deref_mut.ensures.value ∙ c.loop-first.invariant.flags ∙ length-arcs g.I.OverlayInt.whole (holds c.args.rule) c.args.graph.now.links.now

pub directed_walk_from-requires-clause-passed : goal.directed_walk_from-requires-clause-passed
directed_walk_from-requires-clause-passed g c = rw (c.deref_mut.ensures.value, c.deref_mut-then-not-index.ensures.value) c.loop-first.invariant.passed

pub directed_walk_from-requires-clause-level : goal.directed_walk_from-requires-clause-level
directed_walk_from-requires-clause-level g c = rw c.deref_mut.ensures.value c.loop-first.invariant.level

pub returns-in_err-used-clause-walks : goal.returns-in_err-used-clause-walks
returns-in_err-used-clause-walks g c = grind arith

pub returns-in_err-used-clause-fault : goal.returns-in_err-used-clause-fault
returns-in_err-used-clause-fault g c = grind arith

pub returns-in_err-cursors-clause-walks : goal.returns-in_err-cursors-clause-walks
returns-in_err-cursors-clause-walks g c = grind arith

pub returns-in_err-cursors-clause-fault : goal.returns-in_err-cursors-clause-fault
returns-in_err-cursors-clause-fault g c = grind arith

pub returns-in_err-walk-clause-walks : goal.returns-in_err-walk-clause-walks
returns-in_err-walk-clause-walks g c = grind arith

pub returns-in_err-walk-clause-fault : goal.returns-in_err-walk-clause-fault
returns-in_err-walk-clause-fault g c = grind arith

pub returns-in_err-push-clause-walks : goal.returns-in_err-push-clause-walks
returns-in_err-push-clause-walks g c = grind arith

pub returns-in_err-push-clause-fault : goal.returns-in_err-push-clause-fault
returns-in_err-push-clause-fault g c = grind arith
