-- Points as single numbers: the number of each point in range stands for it, and numbers are in the order of the points.
use Rattle.std.proofs.Common.{◌≡◌, ◌∙◌, ap, ap₂, sym, arith, ℕ, ◌+◌, ◌*◌, ◌<◌, ◌≤◌, ◌/◌, ◌%◌, true, false}
use Rattle.std.specs.Prelude.{ℤ, pos, ◌+ℤ◌, ◌-ℤ◌}
use Rattle.std.specs.Ordering.{nat_cmp, int_cmp, is_eq, is_lt, ordering_then}
use Rattle.std.proofs.lemmas.Int.{ints}
use Rattle.std.proofs.lemmas.Nat.{div-mul-add, div-add-mod'}
use Rattle.std.proofs.Math.Nat.{lt-div-mul-add}
use Rattle.overlay_geometry.specs.Points.{Point, point_cmp, point_lt}
use Rattle.overlay_geometry.proofs.laws.geometry.Points.{same_point, point_eq_same}
use Rattle.overlay_build.specs.steps.EndOf.{unpacked}

-- the row of a number is one of its column's
row_below : (k : ℕ) → k % 4294967296 < 4294967296
row_below k = let whole = div-add-mod' k 4294967296 in let high = lt-div-mul-add {a = k} {b = 4294967296} (omega arith) in omega (arith, whole, high)

-- what is counted up from a least number is counted back, and in order
counted : (h n : ℕ) (z : ℤ) → pos n ≡ z +ℤ pos h → pos n -ℤ pos h ≡ z
counted h n z e = omega (arith, ints, e)

counted_order : (h m n : ℕ) → int_cmp (pos m -ℤ pos h) (pos n -ℤ pos h) ≡ nat_cmp m n
counted_order h m n = grind (arith, ints)

-- the number of a point stands for it
pub unpacked-of : (p : Point) (x y key : ℕ) → pos x ≡ p.x +ℤ pos 2147483648 → pos y ≡ p.y +ℤ pos 2147483648 → y < 4294967296 → key ≡ x * 4294967296 + y → unpacked key ≡ p
unfolding unpacked
unpacked-of p x y key ex ey small e =
    let column : key / 4294967296 ≡ x = rw e (div-mul-add x 4294967296 y small) in
    let whole = div-add-mod' key 4294967296 in
    let row : key % 4294967296 ≡ y = omega (arith, whole, column, e) in
    same_point _ _ (rw column (counted 2147483648 x p.x ex)) (rw row (counted 2147483648 y p.y ey))

-- numbers are in the order of the points that they stand for
pub unpacked-order : (j k : ℕ) → point_cmp (unpacked j) (unpacked k) ≡ nat_cmp j k
unfolding unpacked
unpacked-order j k =
    ap₂ ordering_then (counted_order 2147483648 (j / 4294967296) (k / 4294967296)) (counted_order 2147483648 (j % 4294967296) (k % 4294967296))
    ∙ ordered j k (j / 4294967296) (j % 4294967296) (k / 4294967296) (k % 4294967296) (div-add-mod' j 4294967296) (row_below j) (div-add-mod' k 4294967296) (row_below k)
  where
    ordered : (j k q y r z : ℕ) → q * 4294967296 + y ≡ j → y < 4294967296 → r * 4294967296 + z ≡ k → z < 4294967296 → ordering_then (nat_cmp q r) (nat_cmp y z) ≡ nat_cmp j k
    ordered j k q y r z a b c d = grind arith

-- and different numbers stand for different points
pub unpacked-once : (j k : ℕ) → unpacked j ≡ unpacked k → j ≡ k
unpacked-once j k e =
    let same : is_eq (nat_cmp j k) ≡ true = ap is_eq (sym (unpacked-order j k) ∙ ap (point_cmp (unpacked j)) (sym e)) ∙ point_eq_same (unpacked j) in
    exact j k same
  where
    exact : (j k : ℕ) → is_eq (nat_cmp j k) ≡ true → j ≡ k
    exact j k h = grind arith

-- a number that is not less stands for a point that is not before
pub unpacked-not_less : (j k : ℕ) → k ≤ j → point_lt (unpacked j) (unpacked k) ≡ false
unpacked-not_less j k h = ap is_lt (unpacked-order j k) ∙ not_less j k h
  where
    not_less : (j k : ℕ) → k ≤ j → is_lt (nat_cmp j k) ≡ false
    not_less j k h = grind arith
