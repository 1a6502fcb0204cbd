-- Rises of a segment as code computes them: by one division, and moved from the height of its start.
use Rattle.std.proofs.Common.{◌≡◌, refl, sym, ℕ, ◌*◌, ◌/◌, ◌<◌, ◌≤◌, ◌^◌, arith, FitsSigned, w64, IsTrue, true, false}
use Rattle.std.specs.Prelude.{ℤ, pos, ◌+ℤ◌, ◌-ℤ◌, ◌≤ℤ◌, ◌<ℤ◌, unsigned_abs}
use Rattle.std.specs.Int.{int_min, int_max, div_ceil}
use Rattle.std.proofs.lemmas.Int.{ints, clamps, by_lt_z}
use lib.Signed.{lt_z}
use Rattle.overlay_geometry.specs.Points.{Pair}
use Rattle.overlay_geometry.specs.Coordinates.{least_coordinate, greatest_coordinate, is_coordinate}
use Rattle.overlay_geometry.proofs.laws.geometry.Coordinates.{difference_bound, coordinate_fits}
use Rattle.overlay_grid.specs.Grid.{toward, least_rise, greatest_rise}
use Rattle.overlay_grid.proofs.laws.grid.GridFragments.{toward_up, toward_down}
use Rattle.overlay_grid.proofs.laws.grid.GridBounds.{toward_in_box}
use Rattle.overlay_grid.proofs.laws.grid.GridSizes.{between}

pub least_rise-is : (s : Pair) (x : ℤ) (h r w : ℕ) → h ≡ unsigned_abs (s.b.y -ℤ s.a.y) → r ≡ unsigned_abs (x -ℤ s.a.x) → w ≡ unsigned_abs (s.b.x -ℤ s.a.x) → h * r / w ≡ least_rise s x
unfolding least_rise
least_rise-is s x h r w e f k = rw (e, f, k) refl

pub greatest_rise-is : (s : Pair) (x : ℤ) (h r w : ℕ) → h ≡ unsigned_abs (s.b.y -ℤ s.a.y) → r ≡ unsigned_abs (x -ℤ s.a.x) → w ≡ unsigned_abs (s.b.x -ℤ s.a.x) → div_ceil (h * r) w ≡ greatest_rise s x
unfolding greatest_rise
greatest_rise-is s x h r w e f k = rw (e, f, k) refl

-- the height of the start, moved
pub record MovedFits (least greatest : ℤ) (s : Pair) (n : ℕ) : Type 0 where
  pub from_fits : FitsSigned w64 s.a.y
  pub small : n < 2 ^ 63
  pub in_range : IsTrue (is_coordinate least greatest (toward s n))
  pub fits : FitsSigned w64 (toward s n)

min_max_in : (least greatest a b z : ℤ) → IsTrue (is_coordinate least greatest a) → IsTrue (is_coordinate least greatest b) → int_min a b ≤ℤ z → z ≤ℤ int_max a b → IsTrue (is_coordinate least greatest z)
min_max_in least greatest a b z ha hb h k = by_lt_z a b
    (λ (l : a <ℤ b). between least greatest a b z ha hb (omega (arith, ints, clamps)) (omega (arith, ints, clamps)))
    (λ (m : b ≤ℤ a). between least greatest b a z hb ha (omega (arith, ints, clamps)) (omega (arith, ints, clamps)))

pub moved_fits : (least greatest : ℤ) (s : Pair) (n : ℕ) → least_coordinate ≤ℤ least → greatest ≤ℤ greatest_coordinate → IsTrue (is_coordinate least greatest s.a.y) → IsTrue (is_coordinate least greatest s.b.y) → n ≤ unsigned_abs (s.b.y -ℤ s.a.y) → MovedFits least greatest s n
moved_fits least greatest s n low high ha hb h =
    let d = difference_bound least greatest s.a.y s.b.y low high ha hb in
    let t = toward_in_box s n h in
    let in_range = min_max_in least greatest s.a.y s.b.y (toward s n) ha hb t.0 t.1 in
    record { from_fits = coordinate_fits least greatest s.a.y low high ha; small = omega arith; in_range = in_range; fits = coordinate_fits least greatest (toward s n) low high in_range }

-- downward and upward
pub moved_down : (s : Pair) (n : ℕ) → s.b.y <ℤ s.a.y → s.a.y -ℤ pos n ≡ toward s n
moved_down s n h = sym (toward_down s n h)

pub moved_up : (s : Pair) (n : ℕ) → s.a.y ≤ℤ s.b.y → s.a.y +ℤ pos n ≡ toward s n
moved_up s n h = sym (toward_up s n h)

pub less_from : (u v : ℤ) → lt_z u v ≡ true → u <ℤ v
less_from u v h = grind (arith, ints)

pub not_less_from : (u v : ℤ) → lt_z u v ≡ false → v ≤ℤ u
not_less_from u v h = grind (arith, ints)
