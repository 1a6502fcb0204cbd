use Rattle.std.proofs.Common.{sym, rules, ◌∙◌}
use Rattle.std.specs.Prelude.{int_le}
use Rattle.std.proofs.lemmas.List.Sorted.{IsPartitionPoint-from_clause}
use Rattle.overlay_grid.specs.FragmentOf.{fragment_of, least_along}
use Rattle.overlay_grid.proofs.laws.grid.GridGroups.{begins}
use Rattle.overlay_grid.proofs.laws.grid.GridLooks.{count-map}
use Rattle.overlay_grid.proofs.laws.grid.GridReach.{counted_at, parted_along}
use Rattle.overlay_grid.proofs.split.reach.count_begun.Goals as goal

pub returns : goal.returns
returns g c =
    let whole = g.I.OverlayInt.whole in
    let end = whole c.args.end in
    let parted = parted_along whole c.args.axis end c.args.group.now c.requires.sorted in
    let point = IsPartitionPoint-from_clause (λ f. int_le (begins whole c.args.axis f) end) c.args.group.now c.partition_point.result c.partition_point.ensures.partitioned parted (λ a r f' h. search rules) in
    counted_at (λ f. int_le (begins whole c.args.axis f) end) c.args.group.now c.partition_point.result c.partition_point.ensures.bound point
    ∙ sym (count-map (λ f. int_le (least_along c.args.axis f) end) (fragment_of whole) c.args.group.now)
