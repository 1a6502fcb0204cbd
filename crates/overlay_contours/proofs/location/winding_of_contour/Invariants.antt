use Rattle.std.proofs.Common.{◌≤◌}
use Rattle.std.specs.Prelude.{unsigned_abs}
use Rattle.overlay_geometry.specs.InRange.{IsPointInRange}
use Rattle.overlay_geometry.specs.PointOf.{point_of}
use Rattle.overlay_contours.proofs.laws.Locations.{IsCounted, steps_along}
use Rattle.overlay_contours.proofs.location.winding_of_contour.Given as goal

abbrev pub invariant-loop-to : goal.invariant-loop-to
invariant-loop-to g l =
    let whole = g.I.OverlayInt.whole in
    let o = point_of whole l.first in
    record {
      counted : IsCounted (steps_along (point_of whole) l.later 0 o o) (steps_along (point_of whole) l.later l.to-index o (point_of whole l.from)) (point_of whole l.point) l.winding;
      bound : unsigned_abs l.winding ≤ l.to-index;
      in_range : IsPointInRange whole g.I.OverlayInt.MIN_COORD g.I.OverlayInt.MAX_COORD l.from;
    }
