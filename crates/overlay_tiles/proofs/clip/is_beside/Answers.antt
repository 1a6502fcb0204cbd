use Rattle.overlay_geometry.specs.PointOf.{point_of}
use Rattle.overlay_tiles.specs.TileOf.{tile_of}
use Rattle.overlay_geometry.specs.RangeOf.{rect_of}
use Rattle.overlay_tiles.proofs.laws.Besides.{beside_is}
use Rattle.overlay_tiles.proofs.clip.is_beside.Goals as goal

pub returns : goal.returns
returns g c =
    let whole = g.I.OverlayInt.whole in
    beside_is (point_of whole) (tile_of whole c.args.tile.now) (rect_of whole c.rect-rect.result) c.args.contour.now _ _ _ _ c.rect-rect.ensures
    c.lies_left_of-all_left.ensures c.lies_right_of-all_right.ensures c.lies_below-all_below.ensures c.lies_above-all_above.ensures
