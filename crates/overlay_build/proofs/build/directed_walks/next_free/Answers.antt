use Rattle.std.proofs.Common.{◌<◌, ◌∙◌, ℕ, sym, length, get_or, below_more, arith}
use Rattle.overlay_base.specs.Rules.{holds}
use Rattle.overlay_build.proofs.laws.walks.DirectedSteps.{start_is}
use Rattle.overlay_build.proofs.build.directed_walks.next_free.Goals as goal
use Rattle.overlay_build.proofs.build.directed_walks.next_free.Goals.{else-not-used-link-via-then-not-used-link+else-start_of-node, else-not-used-link-via-else-not-used-link}

pub returns-then-start_of-node-clause-starts : goal.returns-then-start_of-node-clause-starts
returns-then-start_of-node-clause-starts g c = λ h.
    let links = c.args.links.now in
    let i : ℕ = get_or c.args.indexes.now c.loop-place.place 0 in
    let low : i < length links = c.requires.links c.loop-place.place h in
    start_is g.I.OverlayInt.whole (holds c.args.rule) links i c.index-links-link.result low c.index-links-link.is ∙ sym c.start_of.ensures ∙ c.if-start_of-node.true

pub loop-place-preserved : goal.loop-place-preserved
loop-place-preserved g c =
    let links = c.args.links.now in
    let i : ℕ = get_or c.args.indexes.now c.loop-place.place 0 in
    let inside : c.loop-place.place < length c.args.indexes.now = omega arith in
    let low : i < length links = c.requires.links c.loop-place.place inside in
    elim c.else-not-used-link.branch [
      | else-not-used-link-via-then-not-used-link+else-start_of-node w ↦
          below_more _ _ c.loop-place.invariant (λ free there. w.if-start_of-node.false (w.start_of.ensures ∙ sym (start_is g.I.OverlayInt.whole (holds c.args.rule) links i w.index-links-link.result low w.index-links-link.is) ∙ there))
      | else-not-used-link-via-else-not-used-link w ↦
          below_more _ _ c.loop-place.invariant (λ free. absurd (cc (w.if-not-used-link.false, free)))
    ]

pub loop-place-init : goal.loop-place-init
loop-place-init g c = grind arith

pub bounds-used-link : goal.bounds-used-link
bounds-used-link g c = grind arith

pub offset_bounds-links-link : goal.offset_bounds-links-link
offset_bounds-links-link g c = grind arith

pub bounds-links-link : goal.bounds-links-link
bounds-links-link g c = grind arith

pub returns-then-start_of-node-clause-passed : goal.returns-then-start_of-node-clause-passed
returns-then-start_of-node-clause-passed g c = grind arith

pub returns-clause-passed : goal.returns-clause-passed
returns-clause-passed g c = grind arith
