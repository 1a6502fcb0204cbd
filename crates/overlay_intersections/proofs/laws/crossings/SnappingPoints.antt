-- The snapping and the settling point as code places them, and that they are in range.
use Rattle.std.proofs.Common.{◌≡◌, ◌≢◌, refl, ap, true, false, ◌||◌, IsTrue, arith}
use Rattle.std.specs.Prelude.{ℤ, pos, unsigned_abs}
use Rattle.overlay_geometry.specs.Points.{Pair, is_vertical, is_horizontal, moved}
use Rattle.overlay_geometry.specs.Meeting.{do_cross}
use Rattle.overlay_geometry.specs.Coordinates.{is_point_in_range, is_pair_in_range}
use Rattle.overlay_geometry.proofs.laws.geometry.Coordinates.{in_box_in_range}
use Rattle.overlay_intersections.specs.Crossing.{truncated, nearest, nearest_upward, crossing_d, offset_x, offset_y, placed_by, snapping_point, settling_point}
use Rattle.overlay_intersections.proofs.laws.crossings.Crossings.{scale, IsPart-share, snapping_in_target, settling_in_target}

-- lines that cross are not parallel
pub crossing_d_not_zero : (s t : Pair) → IsTrue (do_cross s t) → crossing_d s t ≢ pos 0
unfolding scale
crossing_d_not_zero s t h e = let p = (IsPart-share s t h).some in omega (arith, p, ap unsigned_abs e)

pub placed_along_axis : (s t : Pair) (x y : ℤ) → (is_vertical s || is_horizontal s) ≡ true → x ≡ truncated (offset_x s t) → y ≡ truncated (offset_y s t) → moved (record { x = x; y = y }) s.a ≡ snapping_point s t
unfolding snapping_point placed_by
placed_along_axis s t x y h e f = rw (h, e, f) refl

pub placed_on_slope : (s t : Pair) (x y : ℤ) → (is_vertical s || is_horizontal s) ≡ false → x ≡ nearest (offset_x s t) → y ≡ nearest (offset_y s t) → moved (record { x = x; y = y }) s.a ≡ snapping_point s t
unfolding snapping_point placed_by
placed_on_slope s t x y h e f = rw (h, e, f) refl

pub snapping_in_range : (least greatest : ℤ) (s t : Pair) → IsTrue (is_pair_in_range least greatest s) → IsTrue (do_cross s t) → IsTrue (is_point_in_range least greatest (snapping_point s t))
snapping_in_range least greatest s t h k = in_box_in_range least greatest s (snapping_point s t) h (snapping_in_target s t k)

pub settling_placed : (s t : Pair) (x y : ℤ) → x ≡ nearest_upward (offset_x s t) → y ≡ nearest_upward (offset_y s t) → moved (record { x = x; y = y }) s.a ≡ settling_point s t
unfolding settling_point placed_by
settling_placed s t x y e f = rw (e, f) refl

pub settling_in_range : (least greatest : ℤ) (s t : Pair) → IsTrue (is_pair_in_range least greatest s) → IsTrue (do_cross s t) → IsTrue (is_point_in_range least greatest (settling_point s t))
settling_in_range least greatest s t h k = in_box_in_range least greatest s (settling_point s t) h (settling_in_target s t k)
