use Rattle.std.proofs.Common.{◌≡◌, ◌≤◌, ◌-◌, ◌^◌, ap, sym, subst, ◌∙◌, min, arith, List, Vec, Global}
use Rattle.std.specs.Prelude.{IsPermutation}
use Rattle.std.proofs.lemmas.List.Sorted.{IsPermutation-map, IsPermutation-refl}
use Rattle.std.proofs.lemmas.Grind.{common_steps}
use Rattle.overlay_grid.specs.ColumnLooks.{do_heights_meet, looks_of_group, twos_in_height}
use Rattle.overlay_grid.specs.FragmentOf.{fragment_of, fragments_of}
use Rattle.overlay_grid.specs.declared.split.axis.Axis.TheVariants.{X, Y}
use Rattle.overlay_grid.proofs.laws.grid.GridLooks.{heights_back, twos_permuted}
use Rattle.overlay_grid.proofs.laws.grid.GridReach.{group_upward, fewer_within}
use Rattle.overlay_grid.proofs.split.group_sort.sort_for_fewer.Goals as goal

pub returns-then-len-gt-PLACES-clause-looks : goal.returns-then-len-gt-PLACES-clause-looks
returns-then-len-gt-PLACES-clause-looks g c = group_upward _ c.requires.sorted

pub returns-then-across-upward-clause-looks : goal.returns-then-across-upward-clause-looks
returns-then-across-upward-clause-looks g c =
    let whole = g.I.OverlayInt.whole in
    let upward = fragments_of whole c.args.group.now.items in
    let across = fragments_of whole c.sort_by_keys.new.group.items in
    let counted_up : c.count_in_group.result ≡ min (looks_of_group Y upward) (2 ^ 64 - 1) = c.count_in_group.ensures ∙ ap (λ (fs : List _). min (looks_of_group Y (fragments_of whole fs)) (2 ^ 64 - 1)) c.deref.ensures.value in
    let counted_across : c.count_in_group-across.result ≡ min (looks_of_group X across) (2 ^ 64 - 1) = c.count_in_group-across.ensures ∙ ap (λ (fs : List _). min (looks_of_group X (fragments_of whole fs)) (2 ^ 64 - 1)) c.deref-then-are_in_order.ensures.value in
    let same = twos_permuted do_heights_meet heights_back upward across (IsPermutation-map (fragment_of whole) _ _ c.sort_by_keys.ensures.permutation) in
    let within = group_upward upward c.requires.sorted in
    fewer_within c.count_in_group-across.result c.count_in_group.result _ _ _ counted_across counted_up c.if-across-upward.true (omega (arith, same, within))

pub returns-clause-permutation : goal.returns-clause-permutation
returns-clause-permutation g c = subst (λ (v : Vec _ Global). IsPermutation c.args.group.now.items v.items) (sym (c.swap.ensures.x_after ∙ c.in_ok-sort_by_keys.ensures.row)) (IsPermutation-refl c.args.group.now.items)

pub returns-clause-looks : goal.returns-clause-looks
returns-clause-looks g c =
    let whole = g.I.OverlayInt.whole in
    subst (λ (v : Vec _ Global). looks_of_group Y (fragments_of whole v.items) ≤ twos_in_height (fragments_of whole v.items)) (sym (c.swap.ensures.x_after ∙ c.in_ok-sort_by_keys.ensures.row)) (group_upward _ c.requires.sorted)

pub count_in_group-across-requires : goal.count_in_group-across-requires
count_in_group-across-requires g c = grind (arith, common_steps)

pub returns-then-across-upward-clause-sorted : goal.returns-then-across-upward-clause-sorted
returns-then-across-upward-clause-sorted g c = grind (arith, common_steps)
