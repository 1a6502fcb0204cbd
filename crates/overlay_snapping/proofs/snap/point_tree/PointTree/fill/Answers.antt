use Rattle.std.proofs.Common.{ap, map, length}
use Rattle.overlay_geometry.specs.Points.{point_eq}
use Rattle.overlay_geometry.specs.PointOf.{point_of}
use Rattle.overlay_geometry.specs.RangeOf.{rect_of}
use Rattle.overlay_geometry.specs.Sorting.{has_repeat}
use Rattle.overlay_snapping.proofs.laws.point_trees.Columns.{none_by_columns}
use Rattle.overlay_snapping.proofs.laws.point_trees.Boxes.{no_points}
use Rattle.overlay_snapping.proofs.snap.point_tree.PointTree.fill.Goals as goal

pub invariant_of-self : goal.invariant_of-self
invariant_of-self g c =
    let whole = g.I.OverlayInt.whole in
    record { columns = none_by_columns whole _ _ c.clear.ensures.items; holds = no_points _ _ _ _ (ap (λ l. length (map (rect_of whole) l)) c.clear-then-is_err.ensures.items) (ap (λ l. length (map (point_of whole) l)) c.clear.ensures.items) }

pub returns-then-is_err-clause-once : goal.returns-then-is_err-clause-once
unfolding has_repeat
returns-then-is_err-clause-once g c = ap (λ l. has_repeat point_eq (map (point_of g.I.OverlayInt.whole) l)) c.clear.ensures.items
