use Rattle.std.proofs.Common.{rules}
use Rattle.std.specs.Prelude.{int_le}
use Rattle.std.proofs.lemmas.List.Sorted.{IsPartitionPoint-from_clause}
use Rattle.overlay_grid.proofs.laws.grid.BorderMarks.{parted_up_to}
use Rattle.overlay_grid.proofs.split.border_contacts.count_up_to.Goals as goal
use Rattle.overlay_geometry.proofs.laws.integers.Tests.{le-tested, le-tested_false}

pub returns : goal.returns
returns g c =
    let whole = g.I.OverlayInt.whole in
    let sorted = simp g.met.I.OverlayInt.ordered at c.requires in
    let parted = parted_up_to whole c.args.heights.now sorted (whole c.args.top) in
    let point = IsPartitionPoint-from_clause (λ y. int_le (whole y) (whole c.args.top)) c.args.heights.now c.partition_point.result c.partition_point.ensures.partitioned parted (λ a r f' h. search rules) in
    record {
      within = c.partition_point.ensures.bound;
      parted = (λ k d low high. le-tested _ _ (point.0 k d low high), λ k d low high. le-tested_false _ _ (point.1 k d low high));
    }
