use Rattle.std.proofs.Common.{drop}
use Rattle.std.specs.List.{AllByRecursion}
use Rattle.overlay_tiles.specs.TileOf.{tile_of}
use Rattle.overlay_tiles.specs.TiledOverlays.{tiles_of}
use Rattle.overlay_tiles.specs.Tiles.{AreApart}
use Rattle.overlay_tiles.proofs.tiled.find_meeting.Given as goal

abbrev pub invariant-loop-index : goal.invariant-loop-index
invariant-loop-index g l =
    let whole = g.I.OverlayInt.whole in
    let test = AreApart (tile_of whole l.tile) in
    AllByRecursion test (tiles_of whole (drop l.index l.others)) → AllByRecursion test (tiles_of whole l.others)
