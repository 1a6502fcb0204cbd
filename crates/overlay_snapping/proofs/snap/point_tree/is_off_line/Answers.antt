use Rattle.std.proofs.Common.{refl}
use Rattle.overlay_geometry.specs.Points.{cross_product}
use Rattle.overlay_geometry.specs.PointOf.{point_of}
use Rattle.overlay_geometry.specs.PairOf.{pair_of}
use Rattle.overlay_geometry.specs.RangeOf.{rect_of}
use Rattle.overlay_geometry.specs.VectorOf.{vector_of}
use Rattle.overlay_snapping.proofs.laws.point_trees.MissedBoxes.{beyond_right_corner, beyond_left_corner}
use Rattle.overlay_snapping.proofs.snap.point_tree.is_off_line.Goals as goal

pub returns-then-turns_beyond : goal.returns-then-turns_beyond
returns-then-turns_beyond g c =
    let whole = g.I.OverlayInt.whole in
    beyond_right_corner (pair_of whole c.args.segment.now) (rect_of whole c.args.bounds.now) c.falls-falls.result c.requires.ordered (vector_of c.between-way.result) (vector_of c.between-right.result) (point_of whole c.right_corner.result)
    c.extent-extent.result (cross_product (vector_of c.between-way.result) (vector_of c.between-right.result)) c.turns_beyond.result c.between-way.ensures c.falls-falls.ensures c.between-right.ensures c.extent-extent.ensures c.turns_beyond.ensures c.right_corner.ensures.corner refl

pub returns-else-turns_beyond : goal.returns-else-turns_beyond
returns-else-turns_beyond g c =
    let whole = g.I.OverlayInt.whole in
    beyond_left_corner (pair_of whole c.args.segment.now) (rect_of whole c.args.bounds.now) c.falls-falls.result c.requires.ordered (vector_of c.between-way.result) (vector_of c.between-left.result) (point_of whole c.left_corner.result)
    c.extent-extent.result (cross_product (vector_of c.between-left.result) (vector_of c.between-way.result)) c.turns_beyond-else-turns_beyond.result c.between-way.ensures c.falls-falls.ensures c.between-left.ensures c.extent-extent.ensures c.turns_beyond-else-turns_beyond.ensures c.left_corner.ensures.corner refl
