use Rattle.std.proofs.Common.{◌≡◌, refl, sym, ap, subst, ◌∙◌, ◌++◌, ◌+◌, drop, IsTrue, List, [], ◌∷◌}
use Rattle.std.specs.Prelude.{Vec, Some}
use Rattle.std.proofs.lemmas.List.{append-nil}
use Rattle.std.specs.List.{list_all}
use Rattle.std.specs.Global.{Global}
use Rattle.overlay_geometry.specs.Coordinates.{is_point_in_range}
use Rattle.overlay_geometry.specs.Points.{Point}
use Rattle.overlay_geometry.specs.declared.geom.point.IntPoint.{IntPoint}
use Rattle.overlay_contours.specs.ContourSegments.{are_in_range}
use Rattle.overlay_contours.specs.ContoursOf.{points_of, contours_of}
use Rattle.overlay_contours.specs.ContoursIn.{LiesInRange}
use Rattle.overlay_tiles.specs.TileOf.{tile_of, part_of}
use Rattle.overlay_tiles.specs.Tiles.{IsTile, clipped, all_clipped, is_beside, reaching, thinned, in_tile}
use Rattle.overlay_tiles.specs.Laws.{WindAlikeInTile, LieInTile, LieNearGiven}
use Rattle.overlay_tiles.proofs.laws.Contours.{clipped_lie_in_tile}
use Rattle.overlay_tiles.proofs.laws.Besides.{reaching_wind_alike, reaching_lie_near, inside_in_range}
use Rattle.overlay_tiles.proofs.laws.Thins.{thinned_wind_alike, thinned_lie_in_tile, thinned_lie_near}
use Rattle.overlay_tiles.proofs.laws.Clips.{passes_at, one_contour, all_contours, pushed_one}
use Rattle.overlay_tiles.proofs.clip.clip_to_tile.Goals as goal
use Rattle.overlay_tiles.proofs.clip.clip_to_tile.Goals.{in-Some+in_ok-push, in_default}

pub loop-contour-init : goal.loop-contour-init
loop-contour-init g c =
    let whole = g.I.OverlayInt.whole in
    let all : List (List Point) = in_tile (tile_of whole c.args.tile.now) (contours_of whole c.args.contours.now) in
    ap (λ l. contours_of whole l ++ all) c.new-answer.ensures.items

pub contour_in_tile-requires : goal.contour_in_tile-requires
contour_in_tile-requires g c =
    let I = g.I.OverlayInt in
    let test = is_point_in_range (I.whole I.MIN_COORD) (I.whole I.MAX_COORD) in
    subst (LiesInRange I.whole I.MIN_COORD I.MAX_COORD) (sym c.deref.ensures.value)
    (passes_at (λ (v : Vec (IntPoint _) Global). points_of I.whole v.items) (λ points. list_all test points) c.args.contours.now c.loop-contour.contour-index c.contour-item.result c.loop-contour-test.true c.contour-item.is c.requires)

pub loop-contour-preserved : goal.loop-contour-preserved
loop-contour-preserved g c =
    let whole = g.I.OverlayInt.whole in
    let tile = tile_of whole c.args.tile.now in
    let contours = c.args.contours.now in
    let index = c.loop-contour.contour-index in
    let found : List (List Point) = contours_of whole c.loop-contour.answer.items in
    let of = c.in_ok-points.ensures.contour ∙ ap (λ l. in_tile tile (points_of whole l ∷ [])) c.deref.ensures.value in
    elim c.match-branch-2.branch [
      | in-Some+in_ok-push w ↦
          one_contour tile (λ v. points_of whole v.items) contours index c.contour-item.result found (part_of whole (Some w.in-Some.points)) _ _ c.loop-contour-test.true c.contour-item.is
          (ap (part_of whole) (sym w.in-Some.is) ∙ of)
          (ap (λ v. contours_of whole v.items) w.answer-is ∙ pushed_one (λ v. points_of whole v.items) c.loop-contour.answer.items _ w.in-Some.points (points_of whole w.in-Some.points.items) w.in_ok-push.ensures.items refl)
          c.loop-contour.invariant
      | in_default w ↦
          one_contour tile (λ v. points_of whole v.items) contours index c.contour-item.result found [] _ _ c.loop-contour-test.true c.contour-item.is
          (ap (part_of whole) (sym w.in_default.is) ∙ of)
          (ap (λ v. contours_of whole v.items) w.answer-is ∙ sym (append-nil found))
          c.loop-contour.invariant
    ]

pub returns : goal.returns
returns g c =
    let I = g.I.OverlayInt in
    let whole = I.whole in
    let given_tile = c.args.tile.now in
    let tile = tile_of whole given_tile in
    let given : List (List Point) = contours_of whole c.args.contours.now in
    let found : List (List Point) = contours_of whole c.loop-contour.answer.items in
    let kept : List (List Point) = reaching tile given in
    let is : IsTile tile = record { wide = given_tile.wide; high = given_tile.high } in
    let lie = clipped_lie_in_tile tile kept is in
    let inside = thinned_lie_in_tile tile (all_clipped tile kept) lie in
    let are : found ≡ in_tile tile given = all_contours tile (λ v. points_of whole v.items) c.args.contours.now c.loop-contour.contour-index found _ c.loop-contour-test.false c.loop-contour.invariant in
    record {
      contours = are;
      winds = subst (λ (l : List (List Point)). WindAlikeInTile tile given l) (sym are) (thinned_wind_alike tile given (all_clipped tile kept) (reaching_wind_alike tile given is));
      inside = subst (λ (l : List (List Point)). LieInTile tile l) (sym are) inside;
      near = subst (λ (l : List (List Point)). LieNearGiven given l) (sym are) (thinned_lie_near tile given (all_clipped tile kept) lie (reaching_lie_near tile given is));
      in_range =
          subst (λ (l : List (List Point)). IsTrue (are_in_range (whole I.MIN_COORD) (whole I.MAX_COORD) l)) (sym are)
          (inside_in_range (whole I.MIN_COORD) (whole I.MAX_COORD) tile given_tile.in_range.left given_tile.in_range.right given_tile.in_range.lower given_tile.in_range.upper (in_tile tile given) inside);
    }
