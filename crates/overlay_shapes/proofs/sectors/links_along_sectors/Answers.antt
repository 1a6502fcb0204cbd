use Rattle.std.proofs.Common.{◌≡◌, ℕ, ◌<◌, ◌∙◌, inl, inr, List, ap, sym, subst, length, get_or, arith}
use Rattle.std.proofs.lemmas.Bool.{cases_lt}
use Rattle.std.proofs.lemmas.List.{with_items_is}
use Rattle.std.proofs.lemmas.Result.{IfOk-from_err}
use Rattle.overlay_base.specs.Rules.{holds}
use Rattle.overlay_build.specs.BoundaryOf.{arcs_by}
use Rattle.overlay_build.specs.DirectedWalks.{no_link}
use Rattle.overlay_build.specs.Graph.{Link}
use Rattle.overlay_build.specs.NodeIndexes.{indexes_of, is_canonical_node}
use Rattle.overlay_build.proofs.laws.walks.DirectedSteps.{length-arcs}
use Rattle.overlay_shapes.specs.Sectors.{TurnsInto}
use Rattle.overlay_shapes.proofs.laws.HeldGraphs.{all_lead_on, ends_at_nodes}
use Rattle.overlay_shapes.proofs.sectors.links_along_sectors.Goals as goal

pub loop-node-preserved : goal.loop-node-preserved
loop-node-preserved g c =
    let before = c.loop-node in
    let arcs : List Link = arcs_by c.args.rule c.args.graph.now in
    let new = c.lead_on_at.new.next in
    let is = c.deref_mut.ensures.value in
    let long : length new ≡ length before.next.items = c.lead_on_at.auto.next ∙ ap length is in
    let items = with_items_is before.next new (long ∙ sym before.next.ok.0) in
    rw items (
      long ∙ before.invariant.0,
      λ i h low. elim (cases_lt (get_or arcs i no_link).b_node before.node) [
        | inl less ↦
            subst (λ (n : ℕ). TurnsInto arcs i n) (sym (c.in_ok-lead_on_at.ensures.others i h (λ e. omega (arith, less, e)) ∙ ap (λ (l : List ℕ). get_or l i 0) is)) (before.invariant.1 i h less)
        | inr more ↦ c.in_ok-lead_on_at.ensures.turns i h (omega (arith, more, low))
      ],
    )

pub returns-clause-next : goal.returns-clause-next
returns-clause-next g c =
    let graph = c.args.graph.now in
    let whole = g.I.OverlayInt.whole in
    let rule = holds c.args.rule in
    let low = whole g.I.OverlayInt.MIN_COORD in
    let high = whole g.I.OverlayInt.MAX_COORD in
    let many = length-arcs whole rule graph.links.now in
    let count = ap length c.nodes-node-end.ensures in
    all_lead_on indexes_of is_canonical_node whole graph.nodes.now graph.links.now graph.holds rule low high c.requires.arranged c.loop-node.next.items (c.loop-node.invariant.0 ∙ many)
    (λ i h. c.loop-node.invariant.1 i (subst (λ (n : ℕ). i < n) (sym many) h)
    (let inside = ends_at_nodes indexes_of is_canonical_node whole graph.nodes.now graph.links.now graph.holds rule low high c.requires.arranged c.loop-node.next.items i h in
    let end = c.loop-node-test.false in
    omega (arith, inside, end, count)))

pub lead_on_at-requires-clause-node : goal.lead_on_at-requires-clause-node
lead_on_at-requires-clause-node g c = subst (λ (n : ℕ). c.loop-node.node < n) (ap length c.nodes-node-end.ensures) c.loop-node-test.true

pub lead_on_at-requires-clause-next : goal.lead_on_at-requires-clause-next
lead_on_at-requires-clause-next g c = ap length c.deref_mut.ensures.value ∙ c.loop-node.invariant.0

pub lead_on_at-requires-clause-flow : goal.lead_on_at-requires-clause-flow
lead_on_at-requires-clause-flow g c = c.requires.flow

pub lead_on_at-requires-clause-arranged : goal.lead_on_at-requires-clause-arranged
lead_on_at-requires-clause-arranged g c = c.requires.arranged

pub lead_on_at-requires-clause-region : goal.lead_on_at-requires-clause-region
lead_on_at-requires-clause-region g c = c.requires.region

pub returns-in_err-next-clause-next : goal.returns-in_err-next-clause-next
returns-in_err-next-clause-next g c = IfOk-from_err c.from_residual.result _ c.from_residual.ensures.0

pub returns-in_err-lead_on_at-clause-next : goal.returns-in_err-lead_on_at-clause-next
returns-in_err-lead_on_at-clause-next g c =
    IfOk-from_err c.from_residual-in_err-lead_on_at.result _ c.from_residual-in_err-lead_on_at.ensures.0

pub loop-node-init : goal.loop-node-init
loop-node-init g c =
    let long = c.in_ok-next.ensures.len in
    let links = ap length c.links.ensures in
    let many = length-arcs g.I.OverlayInt.whole (holds c.args.rule) c.args.graph.now.links.now in
    (omega (arith, long, links, many), λ i h low. absurd (omega (arith, low)))
