use Rattle.overlay_geometry.specs.PointOf.{point_of}
use Rattle.overlay_geometry.specs.RangeOf.{rect_of}
use Rattle.overlay_tiles.specs.TileOf.{tile_of}
use Rattle.overlay_tiles.proofs.laws.Besides.{three_beside}
use Rattle.overlay_tiles.proofs.clip.are_beside.Goals as goal

pub returns : goal.returns
returns g c =
    let whole = g.I.OverlayInt.whole in
    three_beside (tile_of whole c.args.tile.now) (rect_of whole c.rect-rect.result) (point_of whole c.args.u) (point_of whole c.args.v) (point_of whole c.args.w) c.rect-rect.ensures _ _ _ _
    c.are_up_to-left.ensures c.are_from-right.ensures c.are_up_to-below.ensures c.are_from-above.ensures
