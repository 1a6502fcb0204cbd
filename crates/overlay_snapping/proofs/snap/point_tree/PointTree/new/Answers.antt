use Rattle.std.proofs.Common.{ap, map, length}
use Rattle.overlay_geometry.specs.PointOf.{point_of}
use Rattle.overlay_geometry.specs.RangeOf.{rect_of}
use Rattle.overlay_snapping.proofs.laws.point_trees.Columns.{none_by_columns}
use Rattle.overlay_snapping.proofs.laws.point_trees.Boxes.{no_points}
use Rattle.overlay_snapping.proofs.snap.point_tree.PointTree.new.Goals as goal

pub invariant_of-result : goal.invariant_of-result
invariant_of-result g c =
    let whole = g.I.OverlayInt.whole in
    record { columns = none_by_columns whole 0 _ c.new.ensures.items; holds = no_points _ _ _ _ (ap (λ l. length (map (rect_of whole) l)) c.new-2.ensures.items) (ap (λ l. length (map (point_of whole) l)) c.new.ensures.items) }
