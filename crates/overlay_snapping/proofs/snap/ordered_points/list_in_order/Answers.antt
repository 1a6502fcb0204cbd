use Rattle.std.proofs.Common.{◌∙◌, ◌++◌, ap, IsSortedByKey, rules}
use Rattle.overlay_geometry.specs.Points.{point_cmp}
use Rattle.overlay_geometry.specs.PointOf.{point_of}
use Rattle.overlay_snapping.proofs.laws.cells.InOrder.{sorted_in_order}
use Rattle.overlay_snapping.proofs.laws.point_trees.Columns.{listed_same}
use Rattle.overlay_snapping.proofs.snap.ordered_points.list_in_order.Goals as goal

pub returns-clause-same : goal.returns-clause-same
returns-clause-same g c =
    listed_same g.I.PartialEq.eq g.I.Ord.cmp g.I.OverlayInt.whole g.met.I.Ord.matches_eq g.met.I.OverlayInt.ordered g.met.I.OverlayInt.injective
    c.args.points.now c.extend_from_slice.new.self.items c.sort.new.self.items c.dedup.new.self.items
    (c.in_ok-extend_from_slice.ensures.items ∙ ap (λ xs. xs ++ c.args.points.now) c.clear.ensures.items) c.in_ok-sort.ensures.permutation c.dedup.ensures.filtered

pub returns-clause-in_order : goal.returns-clause-in_order
returns-clause-in_order g c =
    let sorted : IsSortedByKey (point_of g.I.OverlayInt.whole) point_cmp c.sort.new.self.items = search rules in
    sorted_in_order g.I.PartialEq.eq g.I.Ord.cmp g.I.OverlayInt.whole g.met.I.Ord.matches_eq g.met.I.OverlayInt.ordered c.sort.new.self.items c.dedup.new.self.items sorted c.dedup.ensures.filtered
