use Rattle.std.proofs.Common.{◌≡◌, ◌∙◌, refl, ap, map, List, [], ◌++◌, true, false}
use Rattle.std.specs.Prelude.{ℤ, IsTrue, All}
use Rattle.std.specs.List.Sorted.{IsStableByKey}
use Rattle.std.proofs.lemmas.Result.{on_ok_weaker}
use Rattle.std.proofs.lemmas.List.Elements.{recursion_from_All}
use Rattle.overlay_geometry.specs.PointOf.{point_of}
use Rattle.overlay_geometry.specs.Points.{point_cmp, point_lt, pair_cmp, is_ordered}
use Rattle.overlay_geometry.specs.Sorting.{is_strictly_sorted}
use Rattle.overlay_geometry.proofs.laws.geometry.Points.{pair_cmp_total}
use Rattle.overlay_geometry.proofs.laws.lists.Keys.{IsStrictlySortedBy-from_test}
use Rattle.overlay_geometry.proofs.laws.lists.Lists.{AllByRecursion-map}
use Rattle.overlay_base.specs.declared.overlay_core.link.OverlayLink.{OverlayLink}
use Rattle.overlay_build.specs.declared.build.link_ends.PackedEnd.{PackedEnd}
use Rattle.overlay_build.specs.steps.EndOf.{WholeEnd, ends_of}
use Rattle.overlay_build.specs.steps.LinkEnds.{numbered_ends, ends_where}
use Rattle.overlay_build.specs.GraphOf.{link_of, pairs_of_links}
use Rattle.overlay_build.proofs.laws.graphs.DealtEnds.{ends_where-stable}
use Rattle.overlay_build.proofs.build.link_ends.collect_ends.Goals as goal

-- the ends of the links that are not vertical behind none, and then those of the vertical ones
dealt : {I D : Type 0} (whole : I → ℤ) (links : List (OverlayLink I D)) (none slanted all : List PackedEnd) →
    All (λ l. IsTrue (point_lt (point_of whole l.a.point) (point_of whole l.b.point))) links →
    is_strictly_sorted pair_cmp (pairs_of_links whole links) ≡ true →
    none ≡ [] → ends_of slanted ≡ ends_of none ++ ends_where false (pairs_of_links whole links) → ends_of all ≡ ends_of slanted ++ ends_where true (pairs_of_links whole links) →
    IsStableByKey (λ (e : WholeEnd). e.point) point_cmp (numbered_ends (pairs_of_links whole links)) (ends_of all)
dealt whole links none slanted all ordered sorted empty first second =
    let behind = second ∙ ap (λ l. l ++ ends_where true (pairs_of_links whole links)) (first ∙ ap (λ l. ends_of l ++ ends_where false (pairs_of_links whole links)) empty) in
    let each = AllByRecursion-map (λ s. is_ordered s ≡ true) (λ l. (link_of whole l).pair) links (recursion_from_All _ links ordered) in
    rw behind (ends_where-stable (pairs_of_links whole links) (IsStrictlySortedBy-from_test pair_cmp_total _ sorted) each)

-- those of all links behind none
in_order : {I D : Type 0} (whole : I → ℤ) (links : List (OverlayLink I D)) (none all : List PackedEnd) → none ≡ [] →
    ends_of all ≡ ends_of none ++ numbered_ends (pairs_of_links whole links) → ends_of all ≡ numbered_ends (pairs_of_links whole links)
in_order whole links none all empty appended = appended ∙ ap (λ l. ends_of l ++ numbered_ends (pairs_of_links whole links)) empty

-- those of all links behind none, each part sorted
in_parts : {I D : Type 0} (whole : I → ℤ) (links : List (OverlayLink I D)) (none all sorted : List PackedEnd) → none ≡ [] →
    ends_of all ≡ ends_of none ++ numbered_ends (pairs_of_links whole links) → IsStableByKey (λ (e : WholeEnd). e.point) point_cmp (ends_of all) (ends_of sorted) →
    IsStableByKey (λ (e : WholeEnd). e.point) point_cmp (numbered_ends (pairs_of_links whole links)) (ends_of sorted)
in_parts whole links none all sorted empty appended same =
    let listed = in_order whole links none all empty appended in
    rw listed at same

pub returns-then-shape-clause-ends : goal.returns-then-shape-clause-ends
returns-then-shape-clause-ends g c =
    let empty = c.reserve.ensures.items ∙ c.clear.ensures.items in
    rw (in_order g.L.Coordinate.OverlayInt.whole (map g.L.NumberedLink.link c.args.links.now) _ _ empty c.in_ok-shape.ensures.ends) (λ e. refl)

pub returns-then-links-saturating_mul-clause-ends : goal.returns-then-links-saturating_mul-clause-ends
returns-then-links-saturating_mul-clause-ends g c =
    on_ok_weaker c.append_ends_where-then-links-saturating_mul.result (λ second. dealt g.L.Coordinate.OverlayInt.whole (map g.L.NumberedLink.link c.args.links.now) _ _ _ c.requires.ordered c.requires.sorted c.clear-then-links-saturating_mul.ensures.items c.in_ok-append_ends_where.ensures.ends second) c.append_ends_where-then-links-saturating_mul.ensures.ends

pub returns-clause-ends : goal.returns-clause-ends
returns-clause-ends g c =
    let empty = c.reserve.ensures.items ∙ c.clear.ensures.items in
    on_ok_weaker c.sort_end_parts.result (λ same. in_parts g.L.Coordinate.OverlayInt.whole (map g.L.NumberedLink.link c.args.links.now) _ _ _ empty c.in_ok-shape.ensures.ends same) c.sort_end_parts.ensures.same
