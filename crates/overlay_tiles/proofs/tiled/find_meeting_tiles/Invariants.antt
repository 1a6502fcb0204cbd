use Rattle.std.proofs.Common.{drop}
use Rattle.overlay_tiles.specs.TiledOverlays.{tiles_of, AreApartInPairs}
use Rattle.overlay_tiles.proofs.tiled.find_meeting_tiles.Given as goal

abbrev pub invariant-loop-index : goal.invariant-loop-index
invariant-loop-index g l =
    let whole = g.I.OverlayInt.whole in
    AreApartInPairs (tiles_of whole (drop l.index l.tiles)) → AreApartInPairs (tiles_of whole l.tiles)
