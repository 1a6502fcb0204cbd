use Rattle.std.proofs.Common.{◌≡◌, sym, ap, subst, ◌∙◌, IsTrue, List, [], ◌∷◌, map}
use Rattle.std.specs.List.{list_all}
use Rattle.std.proofs.lemmas.Bool.{and_parts}
use Rattle.overlay_geometry.specs.Coordinates.{is_point_in_range}
use Rattle.overlay_geometry.specs.Points.{Point}
use Rattle.overlay_contours.specs.ContoursOf.{points_of}
use Rattle.overlay_tiles.specs.TileOf.{tile_of}
use Rattle.overlay_tiles.specs.Tiles.{IsTile, clipped, all_clipped, thinned}
use Rattle.overlay_tiles.proofs.laws.Besides.{inside_in_range}
use Rattle.overlay_tiles.proofs.laws.Contours.{clipped_lie_in_tile}
use Rattle.overlay_tiles.proofs.laws.Thins.{thinned_lie_in_tile}
use Rattle.overlay_tiles.proofs.clip.contour_in_tile.Goals as goal

pub returns-clause-in_range : goal.returns-clause-in_range
returns-clause-in_range g c =
    let I = g.I.OverlayInt in
    let whole = I.whole in
    let least = whole I.MIN_COORD in
    let greatest = whole I.MAX_COORD in
    let given_tile = c.args.tile.now in
    let tile = tile_of whole given_tile in
    let is : IsTile tile = record { wide = given_tile.wide; high = given_tile.high } in
    let points : List Point = points_of whole c.args.contour.now in
    let cut : List (List Point) = all_clipped tile (points ∷ []) in
    let inside = thinned_lie_in_tile tile cut (clipped_lie_in_tile tile (points ∷ []) is) in
    let fit = inside_in_range least greatest tile given_tile.in_range.left given_tile.in_range.right given_tile.in_range.lower given_tile.in_range.upper (map (thinned tile) cut) inside in
    let are : points_of whole c.in_ok-points.points.items ≡ thinned tile (clipped tile points) =
    c.in_ok-points.ensures ∙ ap (λ l. thinned tile (points_of whole l)) c.deref.ensures.value ∙ ap (thinned tile) c.in_ok-clip_contour.ensures in
    subst (λ (l : List Point). IsTrue (list_all (is_point_in_range least greatest) l)) (sym are) (and_parts _ _ fit).0
