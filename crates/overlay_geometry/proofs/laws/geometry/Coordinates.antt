-- Coordinates in range: the ends of pairs, and how large differences of coordinates and their products are.
use Rattle.std.proofs.Common.{◌≤◌, arith, lit<, FitsSigned, IsTrue, w64}
use Rattle.std.specs.Prelude.{ℤ, ◌-ℤ◌, ◌*ℤ◌, ◌≤ℤ◌, unsigned_abs}
use Rattle.std.proofs.lemmas.Int.{ints, unsigned_abs-mul, fits_signed_mul, fits_signed_from_abs}
use Rattle.std.proofs.Math.Nat.{mul-le-mul_left, mul-le-mul_right}
use Rattle.std.proofs.lemmas.Bool.{and_parts, and_from}
use Rattle.overlay_geometry.specs.Points.{Point, Pair, is_between, is_in_box}
use Rattle.overlay_geometry.specs.PairOf.{pair_of}
use Rattle.overlay_geometry.specs.InRange.{IsPairInRange}
use Rattle.overlay_geometry.specs.declared.geom.x_segment.XSegment.{XSegment}
use Rattle.overlay_geometry.specs.Coordinates.{least_coordinate, greatest_coordinate, is_coordinate, greatest_difference, greatest_product, is_point_in_range, is_pair_in_range}

bounds_of_coordinate : (least greatest z : ℤ) → IsTrue (is_coordinate least greatest z) → (least ≤ℤ z) × (z ≤ℤ greatest)
bounds_of_coordinate least greatest z h = grind (arith, ints)

pub difference_bound : (least greatest a b : ℤ) → least_coordinate ≤ℤ least → greatest ≤ℤ greatest_coordinate → IsTrue (is_coordinate least greatest a) → IsTrue (is_coordinate least greatest b) → unsigned_abs (b -ℤ a) ≤ greatest_difference
difference_bound least greatest a b low high ha hb =
    let ka = bounds_of_coordinate least greatest a ha in
    let kb = bounds_of_coordinate least greatest b hb in
    omega (arith, ints)

-- a difference of coordinates fits an `i64`
pub small_fits : (z : ℤ) → unsigned_abs z ≤ greatest_difference → FitsSigned w64 z
small_fits z h = fits_signed_from_abs w64 z (omega arith)

-- and so does a coordinate
pub coordinate_fits : (least greatest z : ℤ) → least_coordinate ≤ℤ least → greatest ≤ℤ greatest_coordinate → IsTrue (is_coordinate least greatest z) → FitsSigned w64 z
coordinate_fits least greatest z low high h =
    let k = bounds_of_coordinate least greatest z h in
    small_fits z (omega (arith, ints))

pub product_bound : (a b : ℤ) → unsigned_abs a ≤ greatest_difference → unsigned_abs b ≤ greatest_difference → unsigned_abs (a *ℤ b) ≤ greatest_product
product_bound a b p q = rw unsigned_abs-mul (omega (arith, mul-le-mul_left (unsigned_abs a) q, mul-le-mul_right greatest_difference p))

pub product_fits : (a b : ℤ) → unsigned_abs a ≤ greatest_difference → unsigned_abs b ≤ greatest_difference → FitsSigned w64 (a *ℤ b)
product_fits a b p q = fits_signed_mul w64 a b greatest_difference greatest_difference p q (lit< tt)

-- ---- points and pairs

pub point_from : (least greatest : ℤ) (p : Point) → IsTrue (is_coordinate least greatest p.x) → IsTrue (is_coordinate least greatest p.y) → IsTrue (is_point_in_range least greatest p)
point_from least greatest p h k = grind (arith, ints)

pub point_parts : (least greatest : ℤ) (p : Point) → IsTrue (is_point_in_range least greatest p) → IsTrue (is_coordinate least greatest p.x) × IsTrue (is_coordinate least greatest p.y)
point_parts least greatest p h = (grind (arith, ints), grind (arith, ints))

pub pair_parts : (least greatest : ℤ) (s : Pair) → IsTrue (is_pair_in_range least greatest s) → IsTrue (is_point_in_range least greatest s.a) × IsTrue (is_point_in_range least greatest s.b)
pair_parts least greatest s h = and_parts (is_point_in_range least greatest s.a) (is_point_in_range least greatest s.b) h

-- the ends of a segment and its pair are in range together
pub pair_in_range : {I : Type 0} (whole : I → ℤ) (least greatest : I) (s : XSegment I) → IsPairInRange whole least greatest s → IsTrue (is_pair_in_range (whole least) (whole greatest) (pair_of whole s))
pair_in_range whole least greatest s h = and_from _ _ h.a_in_range h.b_in_range

pub ends_in_range : {I : Type 0} (whole : I → ℤ) (least greatest : I) (s : XSegment I) → IsTrue (is_pair_in_range (whole least) (whole greatest) (pair_of whole s)) → IsPairInRange whole least greatest s
ends_in_range whole least greatest s h =
    let parts = pair_parts (whole least) (whole greatest) (pair_of whole s) h in
    record { a_in_range = parts.0; b_in_range = parts.1 }

-- a point in the box of a pair in range is in range
pub in_box_in_range : (least greatest : ℤ) (s : Pair) (p : Point) → IsTrue (is_pair_in_range least greatest s) → IsTrue (is_in_box s p) → IsTrue (is_point_in_range least greatest p)
unfolding is_in_box
in_box_in_range least greatest s p h k =
    let ends = pair_parts least greatest s h in
    let a = point_parts least greatest s.a ends.0 in
    let b = point_parts least greatest s.b ends.1 in
    let box = and_parts (is_between s.a.x s.b.x p.x) (is_between s.a.y s.b.y p.y) k in
    point_from least greatest p (between_in_range least greatest s.a.x s.b.x p.x a.0 b.0 box.0) (between_in_range least greatest s.a.y s.b.y p.y a.1 b.1 box.1)
  where
    between_in_range : (least greatest u v z : ℤ) → IsTrue (is_coordinate least greatest u) → IsTrue (is_coordinate least greatest v) → IsTrue (is_between u v z) → IsTrue (is_coordinate least greatest z)
    between_in_range least greatest u v z h k b = grind (arith, ints)
