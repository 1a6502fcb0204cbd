use Rattle.overlay_base.specs.Rules.{holds}
use Rattle.overlay_build.specs.NodeIndexes.{indexes_of, is_canonical_node}
use Rattle.overlay_shapes.specs.steps.Rays.{rays_of}
use Rattle.overlay_shapes.proofs.laws.HeldGraphs.{leads_at, rays_inside}
use Rattle.overlay_shapes.proofs.sectors.lead_on_at.Goals as goal

pub lead_around-requires : goal.lead_around-requires
lead_around-requires g c =
    let graph = c.args.graph.now in
    let whole = g.I.OverlayInt.whole in
    rw c.deref.ensures.value (rays_inside indexes_of is_canonical_node whole graph.nodes.now graph.links.now graph.holds (holds c.args.rule) (whole g.I.OverlayInt.MIN_COORD) (whole g.I.OverlayInt.MAX_COORD) c.requires.arranged c.args.node c.requires.node c.requires.region (rays_of c.rays_around.new.rays.items) c.args.next.now c.in_ok-rays_around.ensures c.requires.next)

pub returns-clause-turns : goal.returns-clause-turns
returns-clause-turns g c =
    let graph = c.args.graph.now in
    let whole = g.I.OverlayInt.whole in
    let leads = leads_at indexes_of is_canonical_node whole graph.nodes.now graph.links.now graph.holds (holds c.args.rule) (whole g.I.OverlayInt.MIN_COORD) (whole g.I.OverlayInt.MAX_COORD) c.requires.arranged c.args.node c.requires.node c.requires.region (rays_of c.rays_around.new.rays.items) c.args.next.now c.requires.flow c.in_ok-rays_around.ensures c.requires.next in
    rw (c.lead_around.ensures, c.deref.ensures.value) leads.turns

pub returns-clause-others : goal.returns-clause-others
returns-clause-others g c =
    let graph = c.args.graph.now in
    let whole = g.I.OverlayInt.whole in
    let leads = leads_at indexes_of is_canonical_node whole graph.nodes.now graph.links.now graph.holds (holds c.args.rule) (whole g.I.OverlayInt.MIN_COORD) (whole g.I.OverlayInt.MAX_COORD) c.requires.arranged c.args.node c.requires.node c.requires.region (rays_of c.rays_around.new.rays.items) c.args.next.now c.requires.flow c.in_ok-rays_around.ensures c.requires.next in
    rw (c.lead_around.ensures, c.deref.ensures.value) leads.others
