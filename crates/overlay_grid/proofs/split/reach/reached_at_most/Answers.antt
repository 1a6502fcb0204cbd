use Rattle.std.proofs.Common.{◌≤◌, ◌-◌, ◌^◌, min, sym, ap, subst, ◌∙◌, List}
use Rattle.overlay_grid.specs.FragmentOf.{KeptFragment, fragments_of, IsSortedAlong}
use Rattle.overlay_grid.specs.GroupsOf.{group_in}
use Rattle.overlay_grid.specs.ColumnLooks.{looks_of_group}
use Rattle.overlay_grid.proofs.laws.grid.GridGroups.{group_in-at}
use Rattle.overlay_grid.proofs.laws.grid.GridReach.{all_covered}
use Rattle.overlay_grid.proofs.split.reach.reached_at_most.Goals as goal

pub reached_in_group_at_most-own-requires : goal.reached_in_group_at_most-own-requires
reached_in_group_at_most-own-requires g c =
    let same = ap (fragments_of g.I.OverlayInt.whole) c.as_slice.ensures.value ∙ group_in-at g.I.OverlayInt.whole c.args.groups.now c.loop-column.column c.index-groups-column.result c.loop-column-test.true c.index-groups-column.is in
    record { sorted = subst (IsSortedAlong c.args.axis) (sym same) (c.requires.sorted c.loop-column.column) }

pub loop-column-preserved : goal.loop-column-preserved
loop-column-preserved g c =
    let whole = g.I.OverlayInt.whole in
    let same = ap (fragments_of whole) c.as_slice.ensures.value ∙ group_in-at whole c.args.groups.now c.loop-column.column c.index-groups-column.result c.loop-column-test.true c.index-groups-column.is in
    let own = subst (λ (fs : List KeptFragment). min (looks_of_group c.args.axis fs) (2 ^ 64 - 1) ≤ c.reached_in_group_at_most-own.result) same c.reached_in_group_at_most-own.ensures in
    all_covered (λ column. looks_of_group c.args.axis (group_in whole c.args.groups.now column)) c.loop-column.column c.loop-column.count c.reached_in_group_at_most-own.result c.saturating_add-count.result c.loop-column.invariant own c.saturating_add-count.ensures
