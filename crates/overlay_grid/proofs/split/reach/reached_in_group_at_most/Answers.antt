use Rattle.std.proofs.Common.{◌≡◌, ◌≤◌, ℕ, ◌+◌, ◌-◌, length, take, sym, ap, ap₂, subst, ◌∙◌, drop, List}
use Rattle.std.specs.Prelude.{ℤ, count_by, int_le}
use Rattle.overlay_grid.specs.FragmentOf.{KeptFragment, fragment_of, fragments_of, least_along, greatest_along}
use Rattle.overlay_grid.specs.declared.split.fragment.Fragment.{Fragment as CodeFragment}
use Rattle.overlay_grid.proofs.laws.grid.FoundFragments.{fragments-next, fragments-none}
use Rattle.overlay_grid.proofs.laws.grid.GridReach.{IsCovering, IsCovering-start, IsCovering-more, IsCovering-end, on_axis-of, rest_of, sorted_rest}
use Rattle.overlay_grid.proofs.split.reach.reached_in_group_at_most.Goals as goal

pub begun_at_most-own-requires : goal.begun_at_most-own-requires
begun_at_most-own-requires g c = record { sorted = sorted_rest g.I.OverlayInt.whole c.args.axis c.args.group.now (c.loop-first.first + 1) c.requires.sorted }

pub loop-first-init : goal.loop-first-init
loop-first-init g c = IsCovering-start c.args.axis (fragments_of g.I.OverlayInt.whole c.args.group.now)

pub loop-first-preserved : goal.loop-first-preserved
loop-first-preserved g c =
    let whole = g.I.OverlayInt.whole in
    let fs = fragments_of whole c.args.group.now in
    let f = fragment_of whole c.index-group-first.result in
    let here = fragments-next whole c.args.group.now c.loop-first.first c.index-group-first.result c.loop-first-test.true c.index-group-first.is in
    let left = drop (c.loop-first.first + 1) fs in
    let walk = subst (λ (us : List KeptFragment). IsCovering c.args.axis fs c.loop-first.count us) here c.loop-first.invariant in
    let end : whole c.greatest-end.result ≡ greatest_along c.args.axis f = ap whole c.greatest-end.ensures ∙ on_axis-of whole c.args.axis _ _ ∙ ap (λ (u : CodeFragment _). greatest_along c.args.axis (fragment_of whole u)) (sym c.index-group-first.is) in
    let after = fragments_of whole (take (length c.args.group.now - (c.loop-first.first + 1)) (drop (c.loop-first.first + 1) c.args.group.now)) in
    let same : count_by (λ u. int_le (least_along c.args.axis u) (whole c.greatest-end.result)) after ≡ count_by (λ u. int_le (least_along c.args.axis u) (greatest_along c.args.axis f)) left =
    ap₂ (λ (to : ℤ) (us : List KeptFragment). count_by (λ u. int_le (least_along c.args.axis u) to) us) end (sym (rest_of whole c.args.group.now (c.loop-first.first + 1))) in
    let own = subst (λ (n : ℕ). n ≤ c.begun_at_most-own.result) same c.begun_at_most-own.ensures in
    IsCovering-more c.args.axis fs f left c.loop-first.count c.begun_at_most-own.result c.saturating_add-count.result walk own c.saturating_add-count.ensures

pub returns : goal.returns
returns g c =
    let whole = g.I.OverlayInt.whole in
    let fs = fragments_of whole c.args.group.now in
    IsCovering-end c.args.axis fs c.loop-first.count (drop c.loop-first.first fs) c.loop-first.invariant (fragments-none whole c.args.group.now c.loop-first.first c.loop-first-test.false)
