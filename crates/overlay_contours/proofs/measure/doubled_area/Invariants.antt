use Rattle.std.proofs.Common.{◌≡◌, ◌≤◌, ◌*◌, ◌++◌, ◌∷◌, [], drop}
use Rattle.std.specs.Prelude.{◌+ℤ◌, unsigned_abs}
use Rattle.overlay_geometry.specs.Coordinates.{greatest_product}
use Rattle.overlay_geometry.specs.PointOf.{point_of}
use Rattle.overlay_geometry.specs.InRange.{IsPointInRange}
use Rattle.overlay_contours.specs.Areas.{step_area}
use Rattle.overlay_contours.specs.ContoursOf.{points_of}
use Rattle.overlay_contours.proofs.laws.Areas.{area_on}
use Rattle.overlay_contours.proofs.measure.doubled_area.Given as goal

abbrev pub invariant-loop-point : goal.invariant-loop-point
invariant-loop-point g l =
    let whole = g.I.OverlayInt.whole in
    let o = point_of whole l.first in
    record {
      area : l.area +ℤ step_area (record { a = o; b = point_of whole l.before }) +ℤ area_on (point_of whole l.before) (points_of whole (drop l.point-index l.later) ++ o ∷ [])
          ≡ area_on o (points_of whole l.later ++ o ∷ []);
      bound : unsigned_abs l.area ≤ l.point-index * (2 * greatest_product);
      in_range : IsPointInRange whole g.I.OverlayInt.MIN_COORD g.I.OverlayInt.MAX_COORD l.before;
    }
