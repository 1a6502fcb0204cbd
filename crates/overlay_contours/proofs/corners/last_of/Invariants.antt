use Rattle.std.proofs.Common.{◌≡◌, drop}
use Rattle.overlay_geometry.specs.PointOf.{point_of}
use Rattle.overlay_geometry.specs.InRange.{IsPointInRange}
use Rattle.overlay_contours.specs.ContoursOf.{points_of}
use Rattle.overlay_contours.specs.Corners.{last_of}
use Rattle.overlay_contours.proofs.corners.last_of.Given as goal

abbrev pub invariant-loop-point : goal.invariant-loop-point
invariant-loop-point g l =
    let whole = g.I.OverlayInt.whole in
    record {
      last : last_of (point_of whole l.last) (points_of whole (drop l.point-index l.later)) ≡ last_of (point_of whole l.initial.last) (points_of whole l.later);
      in_range : IsPointInRange whole g.I.OverlayInt.MIN_COORD g.I.OverlayInt.MAX_COORD l.last;
    }
