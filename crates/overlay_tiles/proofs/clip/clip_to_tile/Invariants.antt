use Rattle.std.proofs.Common.{◌≡◌, ◌++◌, drop}
use Rattle.overlay_contours.specs.ContoursOf.{contours_of}
use Rattle.overlay_tiles.specs.TileOf.{tile_of}
use Rattle.overlay_tiles.specs.Tiles.{in_tile}
use Rattle.overlay_tiles.proofs.clip.clip_to_tile.Given as goal

abbrev pub invariant-loop-contour : goal.invariant-loop-contour
invariant-loop-contour g l =
    let whole = g.I.OverlayInt.whole in
    let tile = tile_of whole l.tile in
    contours_of whole l.answer.items ++ in_tile tile (contours_of whole (drop l.contour-index l.contours))
    ≡ in_tile tile (contours_of whole l.contours)
