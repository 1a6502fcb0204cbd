use Rattle.std.proofs.Common.{◌≤◌, ◌*◌, ◌^◌}
use Rattle.std.specs.Prelude.{unsigned_abs}
use Rattle.overlay_geometry.specs.PointOf.{point_of}
use Rattle.overlay_contours.specs.ContoursOf.{points_of}
use Rattle.overlay_contours.proofs.laws.Locations.{IsCounted, steps_past}
use Rattle.overlay_contours.proofs.location.winding_number.Given as goal

abbrev pub invariant-loop-contour : goal.invariant-loop-contour
invariant-loop-contour g l =
    let whole = g.I.OverlayInt.whole in
    record {
      counted : IsCounted (steps_past (λ v. points_of whole v.items) l.contours 0) (steps_past (λ v. points_of whole v.items) l.contours l.contour-index) (point_of whole l.point) l.winding;
      bound : unsigned_abs l.winding ≤ l.contour-index * 2 ^ 64;
    }
