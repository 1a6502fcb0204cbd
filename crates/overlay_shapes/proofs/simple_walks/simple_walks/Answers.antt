use Rattle.std.proofs.Common.{◌≡◌, ◌∙◌, ℕ, ◌<◌, List, map, length, replicate, false, sym, ap, subst}
use Rattle.std.proofs.lemmas.List.{get_or_default, with_items_is}
use Rattle.overlay_base.specs.Rules.{holds}
use Rattle.overlay_build.specs.BoundaryOf.{walks_of}
use Rattle.overlay_build.specs.DirectedWalks.{arcs}
use Rattle.overlay_build.specs.Graph.{Link}
use Rattle.overlay_build.specs.GraphOf.{link_of}
use Rattle.overlay_shapes.proofs.laws.Cycles.{none_walked, one_walked, none_more_walked, all_walked, closed_chain}
use Rattle.overlay_shapes.proofs.simple_walks.simple_walks.Goals as goal
use Rattle.overlay_shapes.proofs.simple_walks.simple_walks.Goals.{then-not-index+in_ok-cycle+in_ok-cut_walk, else-not-index}

pub loop-first-init : goal.loop-first-init
loop-first-init g c =
    let ways : List Link = arcs (holds c.args.rule) (map (link_of g.I.OverlayInt.whole) c.args.graph.now.links.now) in
    let used : c.in_ok-used.used.items ≡ replicate (length c.args.next.now) false = c.in_ok-used.ensures.items_if_clones_equal (λ y same. same) in (
      rw (used, c.new-simple.ensures.items) (none_walked ways c.args.next.now),
      sym c.in_ok-places.places.ok.0 ∙ c.in_ok-places.ensures.len ∙ ap length c.nodes.ensures,
    )

pub cut_walk-requires-clause-walk : goal.cut_walk-requires-clause-walk
cut_walk-requires-clause-walk g c =
    let ways : List Link = arcs (holds c.args.rule) (map (link_of g.I.OverlayInt.whole) c.args.graph.now.links.now) in
    rw c.deref.ensures.value (closed_chain ways c.args.next.now c.requires.next c.in_ok-cycle.cycle.items c.in_ok-cycle.ensures.cycle)

pub loop-first-preserved : goal.loop-first-preserved
loop-first-preserved g c =
    let ways : List Link = arcs (holds c.args.rule) (map (link_of g.I.OverlayInt.whole) c.args.graph.now.links.now) in
    let next : List ℕ = c.args.next.now in
    let before = c.loop-first in
    elim c.if-not-index.branch [
      | then-not-index+in_ok-cycle+in_ok-cut_walk w ↦
          let is = w.deref_mut.ensures.value in
          let old : List (List ℕ) = walks_of before.simple.items in
          let now : List (List ℕ) = walks_of w.cut_walk.new.simple.items in
          let cycle : List ℕ = w.in_ok-cycle.cycle.items in
          let counted = rw is at w.in_ok-cycle.ensures.counted in
          let parts = rw w.deref.ensures.value at w.in_ok-cut_walk.ensures.parts in
          let long : length w.cycle_from.new.used ≡ length before.used.items = w.cycle_from.auto.used ∙ ap length is in
          let wide : length w.cut_walk.new.places ≡ length before.places.items = w.cut_walk.auto.places ∙ ap length w.deref_mut-then-not-index.ensures.value in
          let used : c.if-not-index.used.items ≡ w.cycle_from.new.used = ap (λ v. v.items) w.used-is ∙ with_items_is before.used w.cycle_from.new.used (long ∙ sym before.used.ok.0) in
          let places : c.if-not-index.places.items ≡ w.cut_walk.new.places = ap (λ v. v.items) w.places-is ∙ with_items_is before.places w.cut_walk.new.places (wide ∙ sym before.places.ok.0) in (
            rw (used, w.simple-is) (one_walked ways next before.first before.used.items w.cycle_from.new.used cycle old now before.invariant.0 long w.in_ok-cycle.ensures.cycle counted w.in_ok-cycle.ensures.begun w.in_ok-cycle.ensures.back parts),
            rw places (wide ∙ before.invariant.1),
          )
      | else-not-index w ↦
          let inside : before.first < length before.used.items = subst (λ n. before.first < n) (sym before.invariant.0.flags) c.loop-first-test.true in
          let here = get_or_default before.used.items before.first false c.index.result.now inside ∙ sym c.index.ensures ∙ w.if-not-index.false in (
            rw (w.used-is, w.simple-is) (none_more_walked ways next before.first before.used.items (walks_of before.simple.items) before.invariant.0 here),
            rw w.places-is before.invariant.1,
          )
    ]

pub returns-clause-walks : goal.returns-clause-walks
returns-clause-walks g c =
    let ways : List Link = arcs (holds c.args.rule) (map (link_of g.I.OverlayInt.whole) c.args.graph.now.links.now) in
    all_walked ways c.args.next.now c.requires.next c.loop-first.first c.loop-first.used.items (walks_of c.loop-first.simple.items) c.loop-first.invariant.0 c.loop-first-test.false

pub returns-clause-simple : goal.returns-clause-simple
returns-clause-simple g c = c.loop-first.invariant.0.simple

pub returns-clause-along : goal.returns-clause-along
returns-clause-along g c = c.loop-first.invariant.0.cycles
