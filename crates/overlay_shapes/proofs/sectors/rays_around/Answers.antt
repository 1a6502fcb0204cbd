use Rattle.std.proofs.Common.{◌≤◌, subst, length, arith, rules, List}
use Rattle.std.specs.List.Sorted.{IsPermutation}
use Rattle.std.proofs.lemmas.List.{length-map}
use Rattle.std.proofs.lemmas.List.Sorted.{IsPermutation-refl, IsPermutation-map, answers_always}
use Rattle.overlay_base.specs.Rules.{holds}
use Rattle.overlay_build.specs.NodeIndexes.{indexes_of, is_canonical_node}
use Rattle.overlay_shapes.specs.steps.Rays.{WholeRay, ray_of, rays_of}
use Rattle.overlay_shapes.proofs.laws.AroundNodes.{around_ranks, rays_in_order}
use Rattle.overlay_shapes.proofs.laws.HeldGraphs.{held_few, held_sorted}
use Rattle.overlay_shapes.proofs.sectors.rays_around.Goals as goal

pub returns-in_ok-sort_by : goal.returns-in_ok-sort_by
returns-in_ok-sort_by g c =
    let graph = c.args.graph.now in
    let whole = g.I.OverlayInt.whole in
    let old = c.collect_rays.new.rays.items in
    let new = c.sort_by.new.self.items in
    let moved : IsPermutation (rays_of old) (rays_of new) = IsPermutation-map ray_of old new c.in_ok-sort_by.ensures.permutation in
    let sorted = c.in_ok-sort_by.ensures.sorted _ (around_ranks ray_of (λ r. r.ordered)) (answers_always _ _ _ (λ f a r f' h. search rules)) in
    held_sorted indexes_of is_canonical_node whole graph.nodes.now graph.links.now graph.holds (holds c.args.rule) (whole g.I.OverlayInt.MIN_COORD) (whole g.I.OverlayInt.MAX_COORD) c.requires.arranged c.args.node c.requires.node (rays_of new)
    (subst (λ (l : List WholeRay). IsPermutation l (rays_of new)) c.in_ok-collect_rays.ensures moved)
    (rays_in_order ray_of (λ r. r.ordered) new sorted)

pub returns-else-len-gt2 : goal.returns-else-len-gt2
returns-else-len-gt2 g c =
    let graph = c.args.graph.now in
    let whole = g.I.OverlayInt.whole in
    let rays = c.collect_rays.new.rays.items in
    let few : length (rays_of rays) ≤ 2 = rw length-map (let n = c.len.ensures in let h = c.if-len-gt2.false in omega arith) in
    held_few indexes_of is_canonical_node whole graph.nodes.now graph.links.now graph.holds (holds c.args.rule) (whole g.I.OverlayInt.MIN_COORD) (whole g.I.OverlayInt.MAX_COORD) c.requires.arranged c.args.node c.requires.node (rays_of rays)
    (subst (λ (l : List WholeRay). IsPermutation l (rays_of rays)) c.in_ok-collect_rays.ensures (IsPermutation-refl (rays_of rays))) few
