use Rattle.std.proofs.Common.{IsTrue}
use Rattle.overlay_contours.specs.ContourSegments.{are_in_range}
use Rattle.overlay_contours.specs.ContoursOf.{contours_of}
use Rattle.overlay_tiles.specs.TileOf.{tile_of}
use Rattle.overlay_tiles.specs.TileOverlays.{IsTilePart}
use Rattle.overlay_tiles.proofs.laws.Tilings.{Goes}
use Rattle.overlay_tiles.proofs.tiled.parts_of_tiles.Given as goal

abbrev pub invariant-loop-tile : goal.invariant-loop-tile
invariant-loop-tile g l =
    let I = g.I.OverlayInt in
    let whole = I.whole in
    Goes (λ tile part. IsTilePart tile l.overlay_rule l.fill_rule (contours_of whole l.subject) (contours_of whole l.clip) part) (tile_of whole) l.tiles l.tile-index (contours_of whole l.answer.items)
    × IsTrue (are_in_range (whole I.MIN_COORD) (whole I.MAX_COORD) (contours_of whole l.answer.items))
