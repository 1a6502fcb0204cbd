use Rattle.std.proofs.Common.{◌≡◌, ◌∷◌, ◌++◌, ◌∙◌, [], ℕ, ap, sym, subst, map, get_or, refl, arith, IsTrue, List}
use Rattle.std.proofs.lemmas.List.{map-append, get_or_default}
use Rattle.std.proofs.lemmas.List.Sums.{AllPass-from_list_all}
use Rattle.overlay_geometry.specs.Points.{is_ordered}
use Rattle.overlay_base.specs.Rules.{holds}
use Rattle.overlay_base.specs.declared.overlay_core.link.OverlayLink.{OverlayLink}
use Rattle.overlay_build.specs.GraphOf.{link_of}
use Rattle.overlay_build.specs.NodeIndexes.{indexes_of, is_canonical_node}
use Rattle.overlay_build.proofs.laws.graphs.NodeLists.{map-take_next}
use Rattle.overlay_shapes.specs.steps.Rays.{WholeRay, ray_of, rays_of, ray_at}
use Rattle.overlay_shapes.proofs.laws.GraphRays.{listed_inside, usable_link, ray_at-is}
use Rattle.overlay_shapes.proofs.sectors.collect_rays.Goals as goal

pub offset_bounds-links-index : goal.offset_bounds-links-index
offset_bounds-links-index g c =
    let graph = c.args.graph.now in
    let inside = listed_inside indexes_of is_canonical_node g.I.OverlayInt.whole (holds c.args.rule) graph.nodes.now graph.links.now graph.holds c.nodes.result.now c.links-links.result.now c.args.node _ c.indices-index-items.result.now c.nodes.ensures c.links-links.ensures c.requires.node c.index-nodes-node.is c.indices-index-items.ensures c.loop-index.index-index c.loop-index-test.true in
    omega (arith, inside)

pub bounds-links-index : goal.bounds-links-index
bounds-links-index g c =
    let graph = c.args.graph.now in
    listed_inside indexes_of is_canonical_node g.I.OverlayInt.whole (holds c.args.rule) graph.nodes.now graph.links.now graph.holds c.nodes.result.now c.links-links.result.now c.args.node _ c.indices-index-items.result.now c.nodes.ensures c.links-links.ensures c.requires.node c.index-nodes-node.is c.indices-index-items.ensures c.loop-index.index-index c.loop-index-test.true

pub new-requires-clause-a : goal.new-requires-clause-a
new-requires-clause-a g c =
    let graph = c.args.graph.now in
    let whole = g.I.OverlayInt.whole in
    let inside = listed_inside indexes_of is_canonical_node whole (holds c.args.rule) graph.nodes.now graph.links.now graph.holds c.nodes.result.now c.links-links.result.now c.args.node _ c.indices-index-items.result.now c.nodes.ensures c.links-links.ensures c.requires.node c.index-nodes-node.is c.indices-index-items.ensures c.loop-index.index-index c.loop-index-test.true in
    (usable_link whole (holds c.args.rule) (whole g.I.OverlayInt.MIN_COORD) (whole g.I.OverlayInt.MAX_COORD) graph.links.now c.links-links.result.now c.links-links.ensures c.requires.arranged _ c.index-links-index.result inside c.index-links-index.is).a

pub new-requires-clause-b : goal.new-requires-clause-b
new-requires-clause-b g c =
    let graph = c.args.graph.now in
    let whole = g.I.OverlayInt.whole in
    let inside = listed_inside indexes_of is_canonical_node whole (holds c.args.rule) graph.nodes.now graph.links.now graph.holds c.nodes.result.now c.links-links.result.now c.args.node _ c.indices-index-items.result.now c.nodes.ensures c.links-links.ensures c.requires.node c.index-nodes-node.is c.indices-index-items.ensures c.loop-index.index-index c.loop-index-test.true in
    (usable_link whole (holds c.args.rule) (whole g.I.OverlayInt.MIN_COORD) (whole g.I.OverlayInt.MAX_COORD) graph.links.now c.links-links.result.now c.links-links.ensures c.requires.arranged _ c.index-links-index.result inside c.index-links-index.is).b

pub new-requires-clause-ordered : goal.new-requires-clause-ordered
new-requires-clause-ordered g c =
    let graph = c.args.graph.now in
    let whole = g.I.OverlayInt.whole in
    let item = c.index-links-index.result in
    let k : ℕ = get_or c.indices-index-items.result.now c.loop-index.index-index 0 in
    let inside = listed_inside indexes_of is_canonical_node whole (holds c.args.rule) graph.nodes.now graph.links.now graph.holds c.nodes.result.now graph.links.now c.args.node _ c.indices-index-items.result.now c.nodes.ensures refl c.requires.node c.index-nodes-node.is c.indices-index-items.ensures c.loop-index.index-index c.loop-index-test.true in
    let is : item ≡ get_or graph.links.now k item = c.index-links-index.is ∙ ap (λ ls. get_or ls k item) c.links-links.ensures in
    subst (λ (l : OverlayLink g.row.I.Denot g.row.D.Denot). IsTrue (is_ordered (link_of whole l).pair)) (sym is) (AllPass-from_list_all (λ l. is_ordered (link_of whole l).pair) graph.links.now graph.ordered k item inside)

pub loop-index-preserved : goal.loop-index-preserved
loop-index-preserved g c =
    let graph = c.args.graph.now in
    let whole = g.I.OverlayInt.whole in
    let rule = holds c.args.rule in
    let links = c.links-links.result.now in
    let ks = c.indices-index-items.result.now in
    let at = c.loop-index.index-index in
    let k : ℕ = get_or ks at 0 in
    let items = c.loop-index.rays.items in
    let inside = listed_inside indexes_of is_canonical_node whole rule graph.nodes.now graph.links.now graph.holds c.nodes.result.now links c.args.node _ ks c.nodes.ensures c.links-links.ensures c.requires.node c.index-nodes-node.is c.indices-index-items.ensures at c.loop-index-test.true in
    let here : ray_of c.new.result ≡ ray_at rule (map (link_of whole) links) c.args.node k = c.new.ensures ∙ ray_at-is whole rule links c.args.node k c.index-links-index.result inside c.index-links-index.is in
    ap rays_of c.in_ok-push.ensures.items
    ∙ map-append ray_of items (c.new.result ∷ [])
    ∙ ap (λ (r : WholeRay). rays_of items ++ r ∷ []) here
    ∙ ap (λ (l : List WholeRay). l ++ ray_at rule (map (link_of whole) links) c.args.node k ∷ []) c.loop-index.invariant
    ∙ sym (map-take_next (ray_at rule (map (link_of whole) links) c.args.node) ks at k c.loop-index-test.true (get_or_default ks at 0 k c.loop-index-test.true))
