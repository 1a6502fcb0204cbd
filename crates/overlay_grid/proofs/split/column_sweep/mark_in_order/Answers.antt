use Rattle.std.proofs.Common.{◌≤◌, ◌-◌, ◌^◌, ◌++◌, ◌∙◌, arith, min, sym, ap, subst, List}
use Rattle.std.specs.Prelude.{IsTrue}
use Rattle.std.proofs.lemmas.List.Sorted.{IsPermutation-map}
use Rattle.overlay_intersections.specs.MarkOf.{marks_of}
use Rattle.overlay_intersections.specs.PlacingOf.{placing_of}
use Rattle.overlay_grid.specs.ColumnLooks.{do_heights_meet, looks_of_group}
use Rattle.overlay_grid.specs.FragmentOf.{fragment_of, fragments_of}
use Rattle.overlay_grid.specs.steps.FragmentFinder.{is_group_rounded, is_ready, marks_of_group}
use Rattle.overlay_grid.proofs.laws.grid.GridFound.{all-permuted, rounded-permuted}
use Rattle.overlay_grid.proofs.laws.grid.GridLooks.{heights_back, twos_permuted}
use Rattle.overlay_grid.proofs.laws.grid.SweptColumns.{capped_within, none_more, permuted_more, stays_within}
use Rattle.overlay_grid.proofs.split.column_sweep.mark_in_order.Goals as goal

pub returns-then-are_apart_upward-clause-marks : goal.returns-then-are_apart_upward-clause-marks
returns-then-are_apart_upward-clause-marks g c =
    let whole = g.I.OverlayInt.whole in
    let p = placing_of c.args.placing in
    none_more (marks_of whole c.args.marks.now.items) _ (ap (λ (fs : List _). marks_of_group p (fragments_of whole fs)) (sym c.deref.ensures.value) ∙ c.are_apart_upward.ensures.marks c.if-are_apart_upward.true p)

pub mark_group-requires-clause-ready : goal.mark_group-requires-clause-ready
mark_group-requires-clause-ready g c =
    let whole = g.I.OverlayInt.whole in
    let ready = all-permuted (λ f. IsTrue (is_ready (whole g.I.OverlayInt.MIN_COORD) (whole g.I.OverlayInt.MAX_COORD) f)) (fragments_of whole c.args.group.now.items) (fragments_of whole c.sort_for_scan.new.group.items)
    (IsPermutation-map (fragment_of whole) _ _ c.sort_for_scan.ensures.permutation) c.requires.ready in
    rw c.as_slice.ensures.value ready

pub returns-clause-marks : goal.returns-clause-marks
returns-clause-marks g c =
    let whole = g.I.OverlayInt.whole in
    let p = placing_of c.args.placing in
    let given = fragments_of whole c.args.group.now.items in
    let sorted = fragments_of whole c.sort_for_scan.new.group.items in
    permuted_more p given sorted (marks_of whole c.args.marks.now.items) _ (IsPermutation-map (fragment_of whole) _ _ c.sort_for_scan.ensures.permutation)
    (c.in_ok-rounded.ensures.marks ∙ ap (λ (fs : List _). marks_of whole c.args.marks.now.items ++ marks_of_group p (fragments_of whole fs)) c.as_slice.ensures.value)

pub returns-clause-rounded : goal.returns-clause-rounded
returns-clause-rounded g c =
    let whole = g.I.OverlayInt.whole in
    let given = fragments_of whole c.args.group.now.items in
    let sorted = fragments_of whole c.sort_for_scan.new.group.items in
    c.in_ok-rounded.ensures.rounded ∙ ap (λ (fs : List _). is_group_rounded (fragments_of whole fs)) c.as_slice.ensures.value
    ∙ sym (rounded-permuted given sorted (IsPermutation-map (fragment_of whole) _ _ c.sort_for_scan.ensures.permutation))

pub returns-clause-looked : goal.returns-clause-looked
returns-clause-looked g c =
    let whole = g.I.OverlayInt.whole in
    let given = fragments_of whole c.args.group.now.items in
    let sorted = fragments_of whole c.sort_for_scan.new.group.items in
    let same = twos_permuted do_heights_meet heights_back given sorted (IsPermutation-map (fragment_of whole) _ _ c.sort_for_scan.ensures.permutation) in
    let looks = ap (λ (fs : List _). looks_of_group c.in_ok-scan.scan.axis (fragments_of whole fs)) c.as_slice.ensures.value in
    let few = c.in_ok-scan.ensures.looks in
    let looked = c.in_ok-rounded.ensures.looked in
    omega (arith, looked, looks, few, same)

pub returns-clause-within : goal.returns-clause-within
returns-clause-within g c =
    let whole = g.I.OverlayInt.whole in
    let scan = c.in_ok-scan.scan in
    let own = subst (λ (fs : List _). min (looks_of_group scan.axis (fragments_of whole fs)) (2 ^ 64 - 1) ≤ scan.at_most) (sym c.as_slice.ensures.value) c.in_ok-scan.ensures.at_most in
    let few = capped_within c.args.limit c.args.looked.now (looks_of_group scan.axis (fragments_of whole c.as_slice.result.now)) scan.at_most (c.may_take.ensures.capped c.if-not-may_take.false) (c.may_take.ensures.within c.if-not-may_take.false) own in
    stays_within c.args.limit c.args.looked.now c.mark_group.new.looked _ c.requires.limit few c.in_ok-rounded.ensures.looked
