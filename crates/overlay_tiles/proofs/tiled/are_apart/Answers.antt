use Rattle.overlay_geometry.specs.RangeOf.{rect_of}
use Rattle.overlay_tiles.specs.TileOf.{tile_of}
use Rattle.overlay_tiles.proofs.laws.Tilings.{test_is}
use Rattle.overlay_tiles.proofs.tiled.are_apart.Goals as goal

pub returns : goal.returns
returns g c =
    let whole = g.I.OverlayInt.whole in
    test_is (tile_of whole c.args.tile.now) (tile_of whole c.args.other.now) (rect_of whole c.rect-a.result) (rect_of whole c.rect-b.result) c.rect-a.ensures c.rect-b.ensures _ _ _ _
    c.is_up_to-left.ensures c.is_up_to-right.ensures c.is_up_to-below.ensures c.is_up_to-above.ensures
