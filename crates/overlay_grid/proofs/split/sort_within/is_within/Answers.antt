use Rattle.std.proofs.Common.{◌≡◌, ◌≤◌, ◌-◌, ◌^◌, ap, ap₂, subst, ◌∙◌, arith, min, ℕ, List, length}
use Rattle.std.proofs.lemmas.Bool.{ltb-true}
use Rattle.overlay_grid.specs.Grid.{group_count}
use Rattle.overlay_grid.specs.GroupsOf.{group_in, grid_of}
use Rattle.overlay_grid.specs.ColumnLooks.{looks_of_groups}
use Rattle.overlay_grid.specs.BufferLooks.{buffer_looks}
use Rattle.overlay_grid.proofs.split.sort_within.is_within.Goals as goal

pub groups-requires : goal.groups-requires
groups-requires g c κs kept = kept

pub reached_at_most-reached-requires : goal.reached_at_most-reached-requires
reached_at_most-reached-requires g c = record { sorted = rw c.groups.ensures c.requires.sorted }

pub count_at_borders-at_borders-requires : goal.count_at_borders-at_borders-requires
count_at_borders-at_borders-requires g c κs kept = kept

pub returns : goal.returns
returns g c is_true =
    let buffer = c.args.buffer.now in
    let count : length c.groups.result.now ≡ group_count (grid_of buffer) = ap length c.groups.ensures ∙ buffer.columns in
    let reached : min (buffer_looks c.args.axis buffer) (2 ^ 64 - 1) ≤ c.reached_at_most-reached.result = subst (λ (n : ℕ). min n (2 ^ 64 - 1) ≤ c.reached_at_most-reached.result)
    (ap₂ (λ (gs : List _) (n : ℕ). looks_of_groups c.args.axis (group_in g.I.OverlayInt.whole gs) n) c.groups.ensures count) c.reached_at_most-reached.ensures in
    let less = ltb-true c.saturating_add.result c.args.most is_true in
    omega (arith, reached, c.count_at_borders-at_borders.ensures, c.saturating_add.ensures, c.ranges.most.fits, less)
