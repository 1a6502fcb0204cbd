use Rattle.std.proofs.Common.{rules}
use Rattle.std.proofs.lemmas.List.Sorted.{IsPartitionPoint-from_clause}
use Rattle.overlay_geometry.specs.PointOf.{point_of}
use Rattle.overlay_snapping.specs.steps.PointTrees.{column_of, is_before}
use Rattle.overlay_snapping.proofs.laws.point_trees.ColumnSearches.{before_is_partitioned}
use Rattle.overlay_snapping.proofs.snap.point_tree.first_from.Goals as goal

pub returns-clause-place : goal.returns-clause-place
returns-clause-place g c =
    let whole = g.I.OverlayInt.whole in
    IsPartitionPoint-from_clause (λ p. is_before c.args.shift (column_of c.args.shift (whole c.args.corner.x)) (whole c.args.corner.y) (point_of whole p)) c.args.points.now c.partition_point.result c.partition_point.ensures.partitioned
    (before_is_partitioned whole c.args.shift c.args.points.now c.requires (column_of c.args.shift (whole c.args.corner.x)) (whole c.args.corner.y)) (λ a r f' h. search rules)
