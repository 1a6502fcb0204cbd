use Rattle.std.proofs.Common.{◌∙◌, ◌++◌, ap, map, rules}
use Rattle.std.proofs.lemmas.List.Sorted.{answers_always}
use Rattle.overlay_geometry.specs.Points.{point_cmp}
use Rattle.overlay_geometry.specs.Sorting.{stably_sorted}
use Rattle.overlay_geometry.specs.PointOf.{point_of}
use Rattle.overlay_geometry.proofs.laws.geometry.Points.{point_cmp_total}
use Rattle.overlay_base.proofs.laws.lists.StableSorts.{sorted_by_key-is, map-stably_sorted}
use Rattle.overlay_build.proofs.build.util.sort_into.Goals as goal

pub returns-clause-sorted : goal.returns-clause-sorted
returns-clause-sorted g c =
    let at = point_of g.I.OverlayInt.whole in
    ap (map at)
    (sorted_by_key-is at point_cmp point_cmp_total _ _
    (simp g.met.I.OverlayInt.ordered at (c.in_ok-sort_by_key.ensures.sorted (λ p. p) (answers_always _ _ _ (λ f a r f' h. search rules))))
    (simp g.met.I.OverlayInt.ordered at (c.in_ok-sort_by_key.ensures.stable (λ p. p) (answers_always _ _ _ (λ f a r f' h. search rules)))))
    ∙ map-stably_sorted at point_cmp c.extend_from_slice.new.self.items
    ∙ ap (λ xs. stably_sorted point_cmp (map at xs)) (c.in_ok-extend_from_slice.ensures.items ∙ ap (λ xs. xs ++ c.args.points.now) c.clear.ensures.items)

pub returns-clause-in_order : goal.returns-clause-in_order
returns-clause-in_order g c = simp g.met.I.OverlayInt.ordered at (c.in_ok-sort_by_key.ensures.sorted (λ p. p) (answers_always _ _ _ (λ f a r f' h. search rules)))
