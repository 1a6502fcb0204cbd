use Rattle.std.proofs.Common.{◌≡◌, ◌++◌, ◌∷◌, [], drop}
use Rattle.overlay_geometry.specs.PointOf.{point_of}
use Rattle.overlay_geometry.specs.InRange.{IsPointInRange}
use Rattle.overlay_contours.specs.ContoursOf.{points_of}
use Rattle.overlay_contours.specs.Corners.{last_of}
use Rattle.overlay_contours.proofs.laws.Corners.{corners_on}
use Rattle.overlay_contours.proofs.corners.corners_of_contour.Given as goal

abbrev pub invariant-loop-next : goal.invariant-loop-next
invariant-loop-next g l =
    let whole = g.I.OverlayInt.whole in
    let end = point_of whole l.first ∷ [] in
    let start = last_of (point_of whole l.first) (points_of whole l.later) in
    record {
      corners : points_of whole l.corners.items ++ corners_on (point_of whole l.before) (point_of whole l.at) (points_of whole (drop l.next-index l.later) ++ end)
          ≡ corners_on start (point_of whole l.first) (points_of whole l.later ++ end);
      before_in_range : IsPointInRange whole g.I.OverlayInt.MIN_COORD g.I.OverlayInt.MAX_COORD l.before;
      at_in_range : IsPointInRange whole g.I.OverlayInt.MIN_COORD g.I.OverlayInt.MAX_COORD l.at;
    }
