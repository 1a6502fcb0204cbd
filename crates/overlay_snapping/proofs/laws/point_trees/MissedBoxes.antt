-- Boxes that a segment passes by: it meets the pixel of no point in them.
use Rattle.std.proofs.Common.{◌≡◌, refl, sym, ap, ap₂, ◌∙◌, ℕ, ◌*◌, Bool, true, false, ◌&&◌, IsTrue, arith}
use Rattle.std.specs.Prelude.{ℤ, pos, ◌-ℤ◌, ◌*ℤ◌, neg_ℤ, ◌≤ℤ◌, ◌<ℤ◌, unsigned_abs, int_lt, nat_lt, ◌||◌}
use Rattle.std.specs.Ordering.{int_eq}
use Rattle.std.proofs.lemmas.Int.{ints}
use Rattle.std.proofs.lemmas.Bool.{OnTrue_from}
use Rattle.overlay_geometry.specs.Points.{Point, Pair, step, turn, cross_product, is_ordered, is_in_box}
use Rattle.overlay_geometry.specs.Ranges.{Rect, is_off_range}
use Rattle.overlay_geometry.proofs.laws.geometry.Polynomials.{mul-le_left, mul-neg_left}
use Rattle.overlay_snapping.specs.Pixels.{meets_pixel, is_narrow, extent}
use Rattle.overlay_snapping.specs.steps.PointTrees.{is_in_rect, right_corner, left_corner}
use Rattle.overlay_geometry.proofs.laws.integers.Products.{times_comm}
use Rattle.std.specs.Bool.{OnTrue}

-- a point in a rectangle, by its coordinates
pub record IsInRect (r : Rect) (c : Point) : Type 0 where
  pub from_left : r.min_x ≤ℤ c.x
  pub to_right : c.x ≤ℤ r.max_x
  pub from_below : r.min_y ≤ℤ c.y
  pub to_top : c.y ≤ℤ r.max_y

pub IsInRect-from : (r : Rect) (c : Point) → is_in_rect r c ≡ true → IsInRect r c
IsInRect-from r c h = record { from_left = grind (arith, ints); to_right = grind (arith, ints); from_below = grind (arith, ints); to_top = grind (arith, ints) }

-- the ends of a pair in order are from left to right
pub ordered_in_x : (s : Pair) → IsTrue (is_ordered s) → s.a.x ≤ℤ s.b.x
ordered_in_x s h = grind (arith, ints)

none_both : (a b : Bool) → b ≡ false → (a && b) ≡ false
none_both true b e = e
none_both false b e = refl

-- ---- off the box of the pair

abbrev pub is_off : Rect → Pair → Bool
is_off r s = int_lt s.b.x r.min_x || int_lt r.max_x s.a.x || is_off_range (record { least = r.min_y; greatest = r.max_y }) s

not_in_box : (s : Pair) (r : Rect) (c : Point) → s.a.x ≤ℤ s.b.x → IsInRect r c → is_off r s ≡ true → is_in_box s c ≡ false
unfolding is_in_box
not_in_box s r c order inside off =
    let left = inside.from_left in
    let right = inside.to_right in
    let below = inside.from_below in
    let top = inside.to_top in
    grind (arith, ints)

pub off_is_missed : (s : Pair) (r : Rect) → IsTrue (is_ordered s) → is_off r s ≡ true → (c : Point) → is_in_rect r c ≡ true → meets_pixel s c ≡ false
unfolding meets_pixel
off_is_missed s r order off c inside = let e = not_in_box s r c (ordered_in_x s order) (IsInRect-from r c inside) off in rw e refl

-- ---- beside the line of the pair

minus_le : (p q r t : ℤ) → p ≤ℤ q → t ≤ℤ r → (p -ℤ r) ≤ℤ (q -ℤ t)
minus_le p q r t h k = omega (arith, ints)

mul-le_negative : (c a b : ℤ) → c ≤ℤ pos 0 → a ≤ℤ b → (c *ℤ b) ≤ℤ (c *ℤ a)
mul-le_negative c a b h k =
    let up : pos 0 ≤ℤ neg_ℤ c = omega (arith, ints) in
    let m : (neg_ℤ c *ℤ a) ≤ℤ (neg_ℤ c *ℤ b) = mul-le_left (neg_ℤ c) a b up k in
    turned (c *ℤ a) (c *ℤ b) (rw (mul-neg_left c a, mul-neg_left c b) at m)
  where
    turned : (u v : ℤ) → neg_ℤ u ≤ℤ neg_ℤ v → v ≤ℤ u
    turned u v h = omega (arith, ints)

-- a vector turns further to the left to a point that is higher, and less far along x where it rises
cross_grows : (v w u : Point) → pos 0 ≤ℤ v.x → w.y ≤ℤ u.y → (v.y *ℤ u.x) ≤ℤ (v.y *ℤ w.x) → cross_product v w ≤ℤ cross_product v u
cross_grows v w u right up along = minus_le (v.x *ℤ w.y) (v.x *ℤ u.y) (v.y *ℤ w.x) (v.y *ℤ u.x) (mul-le_left v.x w.y u.y right up) along

minus_kept : (a u v : ℤ) → u ≤ℤ v → (u -ℤ a) ≤ℤ (v -ℤ a)
minus_kept a u v h = omega (arith, ints)

-- of all points in a rectangle, a vector turns least to the corner on the right, and most to that on the left
least_turn : (v a : Point) (falls : Bool) (r : Rect) (c : Point) → falls ≡ int_lt v.y (pos 0) → pos 0 ≤ℤ v.x → IsInRect r c → cross_product v (step a (right_corner falls r)) ≤ℤ cross_product v (step a c)
least_turn v a true r c e right inside =
    let down : v.y ≤ℤ pos 0 = grind (arith, ints) in
    cross_grows v (step a (right_corner true r)) (step a c) right (minus_kept a.y r.min_y c.y inside.from_below) (mul-le_negative v.y (r.min_x -ℤ a.x) (c.x -ℤ a.x) down (minus_kept a.x r.min_x c.x inside.from_left))
least_turn v a false r c e right inside =
    let up : pos 0 ≤ℤ v.y = grind (arith, ints) in
    cross_grows v (step a (right_corner false r)) (step a c) right (minus_kept a.y r.min_y c.y inside.from_below) (mul-le_left v.y (c.x -ℤ a.x) (r.max_x -ℤ a.x) up (minus_kept a.x c.x r.max_x inside.to_right))

most_turn : (v a : Point) (falls : Bool) (r : Rect) (c : Point) → falls ≡ int_lt v.y (pos 0) → pos 0 ≤ℤ v.x → IsInRect r c → cross_product v (step a c) ≤ℤ cross_product v (step a (left_corner falls r))
most_turn v a true r c e right inside =
    let down : v.y ≤ℤ pos 0 = grind (arith, ints) in
    cross_grows v (step a c) (step a (left_corner true r)) right (minus_kept a.y c.y r.max_y inside.to_top) (mul-le_negative v.y (c.x -ℤ a.x) (r.max_x -ℤ a.x) down (minus_kept a.x c.x r.max_x inside.to_right))
most_turn v a false r c e right inside =
    let up : pos 0 ≤ℤ v.y = grind (arith, ints) in
    cross_grows v (step a c) (step a (left_corner false r)) right (minus_kept a.y c.y r.max_y inside.to_top) (mul-le_left v.y (r.min_x -ℤ a.x) (c.x -ℤ a.x) up (minus_kept a.x r.min_x c.x inside.from_left))

-- a turn whose double is beyond the extent, on either side
far_left : (n : ℕ) (t : ℤ) (b : Bool) → pos n <ℤ (pos 2 *ℤ t) → (nat_lt (2 * unsigned_abs t) n || (int_eq (pos 2 *ℤ t) (pos n) && b)) ≡ false
far_left n t b h = grind (arith, ints)

far_right : (n : ℕ) (t : ℤ) (b : Bool) → pos n <ℤ (pos 2 *ℤ neg_ℤ t) → (nat_lt (2 * unsigned_abs t) n || (int_eq (pos 2 *ℤ t) (pos n) && b)) ≡ false
far_right n t b h = grind (arith, ints)

further : (n : ℕ) (t u : ℤ) → t ≤ℤ u → int_lt (pos n) (pos 2 *ℤ t) ≡ true → pos n <ℤ (pos 2 *ℤ u)
further n t u h k = grind (arith, ints)

crossed : (v w : Point) → cross_product w v ≡ neg_ℤ (cross_product v w)
crossed v w = turned (w.x *ℤ v.y) (w.y *ℤ v.x) (v.x *ℤ w.y) (v.y *ℤ w.x) (times_comm w.x v.y) (times_comm w.y v.x)
  where
    turned : (a b c d : ℤ) → a ≡ d → b ≡ c → a -ℤ b ≡ neg_ℤ (c -ℤ d)
    turned a b c d e f = omega (arith, ints)

neg_le : (t u : ℤ) → t ≤ℤ u → neg_ℤ u ≤ℤ neg_ℤ t
neg_le t u h = omega (arith, ints)

module _ (s : Pair) (r : Rect) (falls : Bool) (order : IsTrue (is_ordered s)) (e : falls ≡ int_lt (step s.a s.b).y (pos 0)) where
  right_way : pos 0 ≤ℤ (step s.a s.b).x
  right_way = ahead s.a.x s.b.x (ordered_in_x s order)
    where
      ahead : (a b : ℤ) → a ≤ℤ b → pos 0 ≤ℤ (b -ℤ a)
      ahead a b h = omega (arith, ints)

  pub far_left_is_missed : int_lt (pos (extent (step s.a s.b))) (pos 2 *ℤ cross_product (step s.a s.b) (step s.a (right_corner falls r))) ≡ true → (c : Point) → is_in_rect r c ≡ true → meets_pixel s c ≡ false
  unfolding meets_pixel turn
  far_left_is_missed far c inside =
      let v = step s.a s.b in
      let least = least_turn v s.a falls r c e right_way (IsInRect-from r c inside) in
      let off = far_left (extent v) (cross_product v (step s.a c)) (int_lt v.y (pos 0)) (further (extent v) (cross_product v (step s.a (right_corner falls r))) (cross_product v (step s.a c)) least far) in
      none_both (is_in_box s c) (is_narrow v (cross_product v (step s.a c))) off

  pub far_right_is_missed : int_lt (pos (extent (step s.a s.b))) (pos 2 *ℤ cross_product (step s.a (left_corner falls r)) (step s.a s.b)) ≡ true → (c : Point) → is_in_rect r c ≡ true → meets_pixel s c ≡ false
  unfolding meets_pixel turn
  far_right_is_missed far c inside =
      let v = step s.a s.b in
      let w = step s.a (left_corner falls r) in
      let most = most_turn v s.a falls r c e right_way (IsInRect-from r c inside) in
      let far_turned = ap (λ z. int_lt (pos (extent v)) (pos 2 *ℤ z)) (sym (crossed v w)) ∙ far in
      let off = far_right (extent v) (cross_product v (step s.a c)) (int_lt v.y (pos 0)) (further (extent v) (neg_ℤ (cross_product v w)) (neg_ℤ (cross_product v (step s.a c))) (neg_le (cross_product v (step s.a c)) (cross_product v w) most) far_turned) in
      none_both (is_in_box s c) (is_narrow v (cross_product v (step s.a c))) off

-- the same as code tests it
module _ (s : Pair) (r : Rect) (falls : Bool) (order : IsTrue (is_ordered s)) (v w q : Point) (n : ℕ) (z : ℤ) (b : Bool) (ev : v ≡ step s.a s.b) (ef : falls ≡ int_lt v.y (pos 0)) (ew : w ≡ step s.a q) (en : n ≡ extent v) (eb : b ≡ int_lt (pos n) (pos 2 *ℤ z)) where
  falls_is : falls ≡ int_lt (step s.a s.b).y (pos 0)
  falls_is = ef ∙ ap (λ (u : Point). int_lt u.y (pos 0)) ev

  pub beyond_right_corner : q ≡ right_corner falls r → z ≡ cross_product v w → OnTrue b ((c : Point) → is_in_rect r c ≡ true → meets_pixel s c ≡ false)
  beyond_right_corner eq ez = OnTrue_from b _ (λ is.
      let turned : z ≡ cross_product (step s.a s.b) (step s.a (right_corner falls r)) = ez ∙ ap₂ cross_product ev (ew ∙ ap (step s.a) eq) in
      far_left_is_missed s r falls order falls_is (ap₂ (λ m t. int_lt (pos m) (pos 2 *ℤ t)) (sym (en ∙ ap extent ev)) (sym turned) ∙ sym eb ∙ is))

  pub beyond_left_corner : q ≡ left_corner falls r → z ≡ cross_product w v → OnTrue b ((c : Point) → is_in_rect r c ≡ true → meets_pixel s c ≡ false)
  beyond_left_corner eq ez = OnTrue_from b _ (λ is.
      let turned : z ≡ cross_product (step s.a (left_corner falls r)) (step s.a s.b) = ez ∙ ap₂ cross_product (ew ∙ ap (step s.a) eq) ev in
      far_right_is_missed s r falls order falls_is (ap₂ (λ m t. int_lt (pos m) (pos 2 *ℤ t)) (sym (en ∙ ap extent ev)) (sym turned) ∙ sym eb ∙ is))
