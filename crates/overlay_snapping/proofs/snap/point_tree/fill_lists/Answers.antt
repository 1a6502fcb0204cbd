use Rattle.std.proofs.Common.{◌∙◌, ap, map}
use Rattle.std.specs.List.{list_all}
use Rattle.overlay_geometry.specs.PointOf.{point_of}
use Rattle.overlay_geometry.specs.Coordinates.{is_point_in_range}
use Rattle.overlay_snapping.proofs.laws.point_trees.Columns.{all_of_same}
use Rattle.overlay_snapping.proofs.snap.point_tree.fill_lists.Goals as goal

pub set_boxes-requires-clause-in_range : goal.set_boxes-requires-clause-in_range
set_boxes-requires-clause-in_range g c =
    let whole = g.I.OverlayInt.whole in
    let test = is_point_in_range (whole g.I.OverlayInt.MIN_COORD) (whole g.I.OverlayInt.MAX_COORD) in
    ap (λ l. list_all test (map (point_of whole) l)) c.deref.ensures.value
    ∙ all_of_same test (point_of whole) c.args.points.now c.list_by_columns.new.kept.items c.in_ok-list_by_columns.ensures.same c.requires.in_range
