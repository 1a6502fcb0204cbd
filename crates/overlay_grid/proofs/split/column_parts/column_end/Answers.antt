use Rattle.std.proofs.Common.{rules, ◌+◌, arith}
use Rattle.std.specs.Prelude.{int_lt}
use Rattle.std.proofs.lemmas.List.Sorted.{IsPartitionPoint-from_clause}
use Rattle.overlay_base.specs.SegmentOf.{ends_of}
use Rattle.overlay_grid.specs.FragmentOf.{layout_of}
use Rattle.overlay_grid.proofs.laws.grid.ColumnEnds.{parted_left_of, parted_at_border, parted_past_last}
use Rattle.overlay_grid.proofs.split.column_parts.column_end.Goals as goal

pub returns-then-last-column-clause-parted : goal.returns-then-last-column-clause-parted
returns-then-last-column-clause-parted g c =
    let count = c.column_count-last.ensures in
    let past = c.if-last-column.true in
    parted_past_last c.args.segments.now (layout_of c.args.layout.now) (c.args.column + 1) c.requires.inside (omega (arith, count, past))

pub returns-clause-parted : goal.returns-clause-parted
returns-clause-parted g c =
    let end = g.I.OverlayInt.whole c.pos-end.result in
    let point = IsPartitionPoint-from_clause (λ s. int_lt (ends_of s).a.x end) c.args.segments.now c.partition_point.result c.partition_point.ensures.partitioned (parted_left_of c.args.segments.now end c.requires.sorted) (λ a r f' h. search rules) in
    parted_at_border c.args.segments.now (layout_of c.args.layout.now) c.partition_point.result (c.args.column + 1) end c.requires.inside c.pos-end.ensures c.partition_point.ensures.bound point
