use Rattle.std.proofs.Common.{◌≡◌, ◌<◌, ◌+◌, ◌-◌, ◌^◌, ◌*◌, ℕ, arith, min, sym, ap, ap₂, ◌∙◌, List, length}
use Rattle.std.specs.Prelude.{ℤ, count_by}
use Rattle.std.proofs.lemmas.List.{length-map}
use Rattle.overlay_grid.specs.Grid.{pos_of}
use Rattle.overlay_grid.specs.FragmentOf.{KeptFragment, fragment_of, fragments_of}
use Rattle.overlay_grid.specs.GroupsOf.{group_in, group_of, grid_of}
use Rattle.overlay_grid.specs.steps.FragmentFinder.{looks_of_border, stands_at}
use Rattle.overlay_grid.proofs.laws.grid.BorderCounts.{looks_counted}
use Rattle.overlay_grid.proofs.laws.grid.GridGroups.{group_in-at}
use Rattle.overlay_grid.proofs.laws.grid.GridReach.{all_more}
use Rattle.overlay_grid.proofs.split.border_contacts.count_at_borders.Goals as goal

pub loop-column-preserved : goal.loop-column-preserved
loop-column-preserved g c =
    let whole = g.I.OverlayInt.whole in
    let column = c.loop-column.column in
    let buffer = c.args.buffer.now in
    let count = ap length c.groups.ensures in
    let below : column < length c.groups-in-loop-column.result.now =
    let t = c.loop-column-test.true in let b = ap length c.groups-in-loop-column.ensures in omega arith in
    let within : column + 1 < length c.groups-in-loop-column-2.result.now =
    let t = c.loop-column-test.true in let b = ap length c.groups-in-loop-column-2.ensures in omega arith in
    let left : fragments_of whole c.as_slice-left.result.now ≡ group_of buffer column = ap (fragments_of whole) c.as_slice-left.ensures.value ∙ group_in-at whole c.groups-in-loop-column.result.now column c.index-groups-column.result below c.index-groups-column.is
    ∙ ap (λ (gs : List _). group_in whole gs column) c.groups-in-loop-column.ensures in
    let each : length c.as_slice-left.result.now ≡ length (group_of buffer column) = sym (length-map c.as_slice-left.result.now (fragment_of whole)) ∙ ap length left in
    let right : fragments_of whole c.as_slice-group.result.now ≡ group_of buffer (column + 1) = ap (fragments_of whole) c.as_slice-group.ensures.value
    ∙ group_in-at whole c.groups-in-loop-column-2.result.now (column + 1) c.index-groups-column-in-loop-column.result within c.index-groups-column-in-loop-column.is
    ∙ ap (λ (gs : List _). group_in whole gs (column + 1)) c.groups-in-loop-column-2.ensures in
    let x = pos_of (grid_of buffer) (column + 1) in
    let own : c.count_at_border-own.result ≡ min (looks_of_border x (group_of buffer column) (group_of buffer (column + 1))) (2 ^ 64 - 1) = c.count_at_border-own.ensures
    ∙ ap (λ (z : ℤ). min (length c.as_slice-left.result.now * count_by (stands_at z) (fragments_of whole c.as_slice-group.result.now)) (2 ^ 64 - 1)) c.border.ensures
    ∙ ap₂ (λ (n : ℕ) (gs : List KeptFragment). min (n * count_by (stands_at x) gs) (2 ^ 64 - 1)) each right
    ∙ ap (λ (n : ℕ). min n (2 ^ 64 - 1)) (looks_counted x (group_of buffer column) (group_of buffer (column + 1))) in
    all_more (λ column. looks_of_border (pos_of (grid_of buffer) (column + 1)) (group_of buffer column) (group_of buffer (column + 1))) column c.loop-column.count c.count_at_border-own.result c.saturating_add-count.result c.loop-column.invariant own
    c.saturating_add-count.ensures
