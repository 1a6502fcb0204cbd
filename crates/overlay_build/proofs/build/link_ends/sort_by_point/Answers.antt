use Rattle.std.proofs.Common.{◌∙◌, ap, sym, rules}
use Rattle.std.proofs.lemmas.Cmp.{nat_cmp_total}
use Rattle.std.proofs.lemmas.List.Sorted.{answers_always}
use Rattle.std.specs.Ordering.{nat_cmp}
use Rattle.overlay_geometry.specs.Points.{point_cmp}
use Rattle.overlay_geometry.specs.Sorting.{stably_sorted}
use Rattle.overlay_base.proofs.laws.lists.StableSorts.{sorted_by_key-is, map-stably_sorted}
use Rattle.overlay_build.specs.declared.build.link_ends.PackedEnd.{PackedEnd}
use Rattle.overlay_build.specs.steps.EndOf.{end_of, ends_of}
use Rattle.overlay_build.proofs.laws.graphs.PackedEnds.{unpacked-order}
use Rattle.overlay_build.proofs.build.link_ends.sort_by_point.Goals as goal

pub returns-clause-sorted : goal.returns-clause-sorted
returns-clause-sorted c =
    ap ends_of
    (sorted_by_key-is (λ (e : PackedEnd). e.key) nat_cmp nat_cmp_total _ _
    (c.in_ok-sort_by_key.ensures.sorted (λ e. e.key) (answers_always _ _ _ (λ f a r f' h. search rules)))
    (c.in_ok-sort_by_key.ensures.stable (λ e. e.key) (answers_always _ _ _ (λ f a r f' h. search rules)))
    ∙ (λ i. stably_sorted (λ (e f : PackedEnd). sym (unpacked-order e.key f.key) i) c.args.ends.now.items))
    ∙ map-stably_sorted end_of (λ e f. point_cmp e.point f.point) c.args.ends.now.items
