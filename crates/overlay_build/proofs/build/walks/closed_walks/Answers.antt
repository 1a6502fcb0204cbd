use Rattle.std.proofs.Common.{◌≡◌, ◌∙◌, ◌<◌, sym, ap, subst, [], ◌∷◌, ◌++◌, map, length, replicate, false, arith}
use Rattle.std.proofs.lemmas.List.{length-map, map-append, get_or_default, with_items_is}
use Rattle.overlay_build.specs.GraphOf.{link_of}
use Rattle.overlay_build.specs.NodeIndexes.{indexes_of, is_canonical_node}
use Rattle.overlay_build.proofs.laws.walks.WalkSteps.{AreUnusedEven-first, HaveWalked-none, HaveWalked-over, HaveWalked-more, HaveWalked-all}
use Rattle.overlay_build.proofs.build.walks.closed_walks.Goals as goal
use Rattle.overlay_build.proofs.build.walks.closed_walks.Goals.{then-not-index+in_ok-walk+in_ok-push, else-not-index}

pub loop-first-init : goal.loop-first-init
loop-first-init g c =
    let graph = c.args.graph.now in
    let whole = g.I.OverlayInt.whole in
    let used : c.in_ok-used.used.items ≡ replicate (length graph.links.now) false = c.in_ok-used.ensures.items_if_clones_equal (λ y same. same) ∙ ap (λ ls. replicate (length ls) false) c.links-count.ensures in
    let cursors : c.in_ok-cursors.cursors.items ≡ replicate (length graph.nodes.now) 0 = c.in_ok-cursors.ensures.items_if_clones_equal (λ y same. same) ∙ ap (λ ns. replicate (length ns) 0) c.nodes.ensures in
    let even = AreUnusedEven-first indexes_of is_canonical_node whole graph.nodes.now graph.links.now graph.holds c.requires.even in
    rw (used, cursors, c.new-walks.ensures.items) (HaveWalked-none (map (link_of whole) graph.links.now) (map indexes_of graph.nodes.now) (length graph.links.now) (length graph.nodes.now) (sym (length-map graph.links.now (link_of whole))) (sym (length-map graph.nodes.now indexes_of)) even)

pub loop-first-preserved : goal.loop-first-preserved
loop-first-preserved g c =
    let graph = c.args.graph.now in
    let whole = g.I.OverlayInt.whole in
    let links = map (link_of whole) graph.links.now in
    let nodes = map indexes_of graph.nodes.now in
    let before = c.loop-first in
    elim c.if-not-index.branch [
      | then-not-index+in_ok-walk+in_ok-push w ↦
          let walk = w.in_ok-walk in
          let walks : map (λ v. v.items) w.push.new.self.items ≡ map (λ v. v.items) before.walks.items ++ (walk.walk.items ∷ []) = ap (map (λ v. v.items)) w.in_ok-push.ensures.items ∙ map-append (λ v. v.items) before.walks.items (walk.walk ∷ []) in
          let is = w.deref_mut.ensures.value in
          let counted = rw is at walk.ensures.counted in
          let kept = rw is at walk.ensures.kept in
          let long : length w.walk_from.new.used ≡ length before.used.items = w.walk_from.auto.used ∙ ap length is in
          let deep : length w.walk_from.new.cursors ≡ length before.cursors.items = w.walk_from.auto.cursors ∙ ap length w.deref_mut-then-not-index.ensures.value in
          let used : c.if-not-index.used.items ≡ w.walk_from.new.used = ap (λ v. v.items) w.used-is ∙ with_items_is before.used w.walk_from.new.used (long ∙ sym before.used.ok.0) in
          let cursors : c.if-not-index.cursors.items ≡ w.walk_from.new.cursors = ap (λ v. v.items) w.cursors-is ∙ with_items_is before.cursors w.walk_from.new.cursors (deep ∙ sym before.cursors.ok.0) in
          rw (used, cursors, w.walks-is, walks)
          (HaveWalked-more links nodes before.used.items w.walk_from.new.used before.cursors.items w.walk_from.new.cursors (map (λ v. v.items) before.walks.items) walk.walk.items before.first before.invariant
          long walk.ensures.passed walk.ensures.even walk.ensures.closed walk.ensures.first_return counted kept walk.ensures.begun)
      | else-not-index w ↦
          let many = length-map graph.links.now (link_of whole) in
          let count = ap length c.links-count.ensures in
          let inside : before.first < length before.used.items = omega (arith, before.invariant.flags, many, count, c.loop-first-test.true) in
          let here = get_or_default before.used.items before.first false c.index.result.now inside ∙ sym c.index.ensures ∙ w.if-not-index.false in
          rw (w.used-is, w.cursors-is, w.walks-is) (HaveWalked-over links nodes before.used.items before.cursors.items (map (λ v. v.items) before.walks.items) before.first before.invariant here)
    ]

pub returns-clause-walks : goal.returns-clause-walks
returns-clause-walks g c =
    let graph = c.args.graph.now in
    let whole = g.I.OverlayInt.whole in
    let links = length-map graph.links.now (link_of whole) in
    let count = ap length c.links-count.ensures in
    HaveWalked-all (map (link_of whole) graph.links.now) (map indexes_of graph.nodes.now) c.loop-first.used.items c.loop-first.cursors.items _ c.loop-first.first c.loop-first.invariant (omega (arith, links, count, c.loop-first-test.false))

pub index-requires : goal.index-requires
index-requires g c =
    let links = c.args.graph.now.links.now in
    let many = c.loop-first.used.ok.0 ∙ c.loop-first.invariant.flags ∙ length-map links (link_of g.I.OverlayInt.whole) in
    subst (λ n. c.loop-first.first < n) (ap length c.links-count.ensures ∙ sym many) c.loop-first-test.true

pub walk_from-requires-clause-first : goal.walk_from-requires-clause-first
walk_from-requires-clause-first g c = subst (λ n. c.loop-first.first < n) (ap length c.links-count.ensures) c.loop-first-test.true

pub walk_from-requires-clause-flags : goal.walk_from-requires-clause-flags
walk_from-requires-clause-flags g c = ap length c.deref_mut.ensures.value ∙ c.loop-first.invariant.flags ∙ length-map c.args.graph.now.links.now (link_of g.I.OverlayInt.whole)

pub walk_from-requires-clause-passed : goal.walk_from-requires-clause-passed
walk_from-requires-clause-passed g c = rw (c.deref_mut.ensures.value, c.deref_mut-then-not-index.ensures.value) c.loop-first.invariant.passed

pub walk_from-requires-clause-even : goal.walk_from-requires-clause-even
walk_from-requires-clause-even g c = rw c.deref_mut.ensures.value c.loop-first.invariant.even
