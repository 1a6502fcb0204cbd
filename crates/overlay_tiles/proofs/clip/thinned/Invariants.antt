use Rattle.std.proofs.Common.{◌≡◌, ◌++◌, ◌∷◌, drop}
use Rattle.overlay_geometry.specs.PointOf.{point_of}
use Rattle.overlay_contours.specs.ContoursOf.{points_of}
use Rattle.overlay_tiles.specs.TileOf.{tile_of}
use Rattle.overlay_tiles.specs.Tiles.{thinned_from, thinned}
use Rattle.overlay_tiles.proofs.clip.thinned.Given as goal

abbrev pub invariant-loop-next : goal.invariant-loop-next
invariant-loop-next g l =
    let whole = g.I.OverlayInt.whole in
    let tile = tile_of whole l.tile in
    points_of whole l.points.items ++ thinned_from tile (point_of whole l.kept) (point_of whole l.at ∷ points_of whole (drop l.next-index l.others))
    ≡ thinned tile (points_of whole l.fn.contour)
