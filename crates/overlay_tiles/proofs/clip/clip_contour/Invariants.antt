use Rattle.std.proofs.Common.{◌≡◌, ◌++◌, ◌∷◌, [], drop}
use Rattle.std.specs.Prelude.{flat_map}
use Rattle.overlay_geometry.specs.InRange.{IsPointInRange}
use Rattle.overlay_geometry.specs.PointOf.{point_of}
use Rattle.overlay_contours.specs.Contours.{steps_from}
use Rattle.overlay_contours.specs.ContoursOf.{points_of}
use Rattle.overlay_tiles.specs.TileOf.{tile_of}
use Rattle.overlay_tiles.specs.Tiles.{step_points}
use Rattle.overlay_tiles.proofs.clip.clip_contour.Given as goal

abbrev pub invariant-loop-to : goal.invariant-loop-to
invariant-loop-to g l =
    let whole = g.I.OverlayInt.whole in
    let end = point_of whole l.first ∷ [] in
    record {
      points : points_of whole l.out.items ++ flat_map (step_points (tile_of whole l.tile)) (steps_from (point_of whole l.from) (points_of whole (drop l.to-index l.later) ++ end))
          ≡ flat_map (step_points (tile_of whole l.tile)) (steps_from (point_of whole l.first) (points_of whole l.later ++ end));
      from_in_range : IsPointInRange whole g.I.OverlayInt.MIN_COORD g.I.OverlayInt.MAX_COORD l.from;
    }
