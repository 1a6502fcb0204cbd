-- The test by whole numbers says whether a pair meets a pixel.
use Rattle.std.proofs.Common.{◌≡◌, ◌∙◌, ℕ, ◌+◌, ◌≤◌, ◌<◌, ◌⊎◌, inl, inr, arith, true, IsTrue}
use Rattle.std.specs.Prelude.{ℤ, pos, negsuc, ◌+ℤ◌, ◌-ℤ◌, ◌*ℤ◌, ◌≤ℤ◌, ◌<ℤ◌, neg_ℤ, unsigned_abs}
use Rattle.std.proofs.lemmas.Int.{ints, by_lt_z}
use Rattle.std.proofs.lemmas.Bool.{and_parts, and_from}
use Rattle.overlay_geometry.proofs.laws.integers.Tests.{by_sign}
use Rattle.overlay_geometry.proofs.laws.integers.Products.{scaled_le}
use Rattle.overlay_geometry.specs.Points.{Point, Pair, turn, step, is_ordered, is_between, is_in_box}
use Rattle.overlay_geometry.proofs.laws.geometry.Points.{before, Before, ordered_x}
use Rattle.overlay_geometry.proofs.laws.geometry.Polynomials.{as_D, diffs, D-eq, mul-nonneg, mul-le_left, mul-lt_left, cancel-le, cancel-lt, mul-neg_left, mul-neg_right}
use Rattle.overlay_cuts.specs.Nearness.{Fraction}
use Rattle.overlay_snapping.specs.Pixels.{MeetsPixel, extent, is_narrow, meets_pixel}
use Rattle.overlay_snapping.specs.Laws.{InequalityIsMeant}
use Rattle.overlay_snapping.proofs.laws.pixels.Offsets.{offset, IsRoundedTo, AreRoundedTo-from_pixel, AreRoundedTo-to_pixel}

-- ---- the box

minus_one : (m : ℕ) → negsuc 0 *ℤ pos m ≡ neg_ℤ (pos m)
minus_one m = omega (arith, ints)

one_more : (d : ℤ) (m : ℕ) → (d +ℤ pos 1) *ℤ pos m ≡ d *ℤ pos m +ℤ pos m
one_more d m = rw (as_D d) (simp diffs (D-eq _ _ _ _ (omega arith)))

not_below : (along way : ℤ) (m : ℕ) → 0 < m → pos 0 ≤ℤ along → way ≤ℤ neg_ℤ (pos m) → (pos 2 *ℤ (along -ℤ way)) ≤ℤ pos m → ⊥
not_below along way m some p q h = omega (arith, ints)

not_above : (along most way : ℤ) (m : ℕ) → 0 < m → along ≤ℤ most → (most +ℤ pos m) ≤ℤ way → neg_ℤ (pos m) ≤ℤ (pos 2 *ℤ (along -ℤ way)) → ⊥
not_above along most way m some p q h = omega (arith, ints)

-- a part of the way d, rounded, goes no farther than d
box_up : (d x : ℤ) (n m : ℕ) → pos 0 ≤ℤ d → n ≤ m → 0 < m → neg_ℤ (pos m) ≤ℤ offset d x n m → offset d x n m ≤ℤ pos m → (pos 0 ≤ℤ x) × (x ≤ℤ d)
unfolding offset
box_up d x n m up part some low high = (
  by_lt_z x (pos 0) (λ (less : x <ℤ pos 0). absurd (below less)) (λ (more : pos 0 ≤ℤ x). more),
  by_lt_z d x (λ (more : d <ℤ x). absurd (above more)) (λ (less : x ≤ℤ d). less),
)
  where
    below : x <ℤ pos 0 → ⊥
    below less =
        let k = scaled_le x (negsuc 0) m (omega (arith, ints, less)) in
        not_below (d *ℤ pos n) (x *ℤ pos m) m some (mul-nonneg d (pos n) up (omega (arith, ints))) (rw (← minus_one m) k) high

    above : d <ℤ x → ⊥
    above more =
        let k = scaled_le (d +ℤ pos 1) x m (omega (arith, ints, more)) in
        not_above (d *ℤ pos n) (d *ℤ pos m) (x *ℤ pos m) m some (mul-le_left d (pos n) (pos m) up (omega (arith, ints, part))) (rw (← one_more d m) k) low

offset-neg : (d x : ℤ) (n m : ℕ) → offset (neg_ℤ d) (neg_ℤ x) n m ≡ neg_ℤ (offset d x n m)
unfolding offset
offset-neg d x n m = rw (as_D d, as_D x) (simp diffs (D-eq _ _ _ _ (omega arith)))

box_down : (d x : ℤ) (n m : ℕ) → d ≤ℤ pos 0 → n ≤ m → 0 < m → neg_ℤ (pos m) ≤ℤ offset d x n m → offset d x n m ≤ℤ pos m → (d ≤ℤ x) × (x ≤ℤ pos 0)
box_down d x n m down part some low high =
    let k = box_up (neg_ℤ d) (neg_ℤ x) n m (omega (arith, ints)) part some (rw offset-neg (omega (arith, ints))) (rw offset-neg (omega (arith, ints))) in
    (omega (arith, ints, k.1), omega (arith, ints, k.0))

between_up : (a b z : ℤ) → pos 0 ≤ℤ (z -ℤ a) → (z -ℤ a) ≤ℤ (b -ℤ a) → is_between a b z ≡ true
between_up a b z low high = grind (arith, ints)

between_down : (a b z : ℤ) → (b -ℤ a) ≤ℤ (z -ℤ a) → (z -ℤ a) ≤ℤ pos 0 → is_between a b z ≡ true
between_down a b z low high = grind (arith, ints)

between_from : (a b z : ℤ) (n m : ℕ) → n ≤ m → 0 < m → IsRoundedTo (b -ℤ a) (z -ℤ a) n m → is_between a b z ≡ true
between_from a b z n m part some r =
    by_lt_z (b -ℤ a) (pos 0)
    (λ (down : (b -ℤ a) <ℤ pos 0). let k = box_down (b -ℤ a) (z -ℤ a) n m (omega (arith, ints, down)) part some r.low (omega (arith, ints, r.high)) in between_down a b z k.0 k.1)
    (λ (up : pos 0 ≤ℤ (b -ℤ a)). let k = box_up (b -ℤ a) (z -ℤ a) n m up part some r.low (omega (arith, ints, r.high)) in between_up a b z k.0 k.1)

-- ---- the turn

-- twice the turn, times the whole, by the offsets in x and in y
turn-offsets : (dx dy x y : ℤ) (n m : ℕ) → pos m *ℤ (pos 2 *ℤ (dx *ℤ y -ℤ dy *ℤ x)) ≡ dy *ℤ offset dx x n m -ℤ dx *ℤ offset dy y n m
unfolding offset
turn-offsets dx dy x y n m = rw (as_D dx, as_D dy, as_D x, as_D y) (simp diffs (D-eq _ _ _ _ (omega arith)))

spread : (m d e : ℤ) → m *ℤ (d +ℤ e) ≡ d *ℤ m +ℤ e *ℤ m
spread m d e = rw (as_D m, as_D d, as_D e) (simp diffs (D-eq _ _ _ _ (omega arith)))

spread_neg : (m d e : ℤ) → m *ℤ neg_ℤ (d +ℤ e) ≡ neg_ℤ (d *ℤ m +ℤ e *ℤ m)
spread_neg m d e = rw (as_D m, as_D d, as_D e) (simp diffs (D-eq _ _ _ _ (omega arith)))

narrow_inside : (v : Point) (t : ℤ) → neg_ℤ (pos (extent v)) <ℤ (pos 2 *ℤ t) → (pos 2 *ℤ t) <ℤ pos (extent v) → is_narrow v t ≡ true
narrow_inside v t low high = grind (arith, ints)

narrow_falling : (v : Point) (t : ℤ) → v.y <ℤ pos 0 → neg_ℤ (pos (extent v)) <ℤ (pos 2 *ℤ t) → (pos 2 *ℤ t) ≤ℤ pos (extent v) → is_narrow v t ≡ true
narrow_falling v t down low high = grind (arith, ints)

pub narrow_zero : (v : Point) (t : ℤ) → 0 < extent v → t ≡ pos 0 → is_narrow v t ≡ true
narrow_zero v t some none = grind (arith, ints)

rising_high : (m : ℕ) (d e p q u : ℤ) → 0 < m → pos 0 <ℤ d → pos 0 <ℤ e → p <ℤ pos m → neg_ℤ (pos m) ≤ℤ q → pos m *ℤ u ≡ e *ℤ p -ℤ d *ℤ q → u <ℤ (d +ℤ e)
rising_high m d e p q u some hd he hp hq eq =
    let k = mul-lt_left e p (pos m) he hp in
    let l = mul-le_left d (neg_ℤ (pos m)) q (omega (arith, ints, hd)) hq in
    cancel-lt (pos m) u (d +ℤ e) (omega (arith, ints, some)) (rw (spread, eq) (omega (arith, ints, k, l, mul-neg_right d (pos m))))

rising_low : (m : ℕ) (d e p q u : ℤ) → 0 < m → pos 0 <ℤ d → pos 0 <ℤ e → neg_ℤ (pos m) ≤ℤ p → q <ℤ pos m → pos m *ℤ u ≡ e *ℤ p -ℤ d *ℤ q → neg_ℤ (d +ℤ e) <ℤ u
rising_low m d e p q u some hd he hp hq eq =
    let k = mul-le_left e (neg_ℤ (pos m)) p (omega (arith, ints, he)) hp in
    let l = mul-lt_left d q (pos m) hd hq in
    cancel-lt (pos m) (neg_ℤ (d +ℤ e)) u (omega (arith, ints, some)) (rw (spread_neg, eq) (omega (arith, ints, k, l, mul-neg_right e (pos m))))

falling_high : (m : ℕ) (d e p q u : ℤ) → 0 < m → pos 0 <ℤ d → pos 0 <ℤ e → neg_ℤ (pos m) ≤ℤ p → neg_ℤ (pos m) ≤ℤ q → pos m *ℤ u ≡ neg_ℤ (e *ℤ p) -ℤ d *ℤ q → u ≤ℤ (d +ℤ e)
falling_high m d e p q u some hd he hp hq eq =
    let k = mul-le_left e (neg_ℤ (pos m)) p (omega (arith, ints, he)) hp in
    let l = mul-le_left d (neg_ℤ (pos m)) q (omega (arith, ints, hd)) hq in
    cancel-le (pos m) u (d +ℤ e) (omega (arith, ints, some)) (rw (spread, eq) (omega (arith, ints, k, l, mul-neg_right d (pos m), mul-neg_right e (pos m))))

falling_low : (m : ℕ) (d e p q u : ℤ) → 0 < m → pos 0 <ℤ d → pos 0 <ℤ e → p <ℤ pos m → q <ℤ pos m → pos m *ℤ u ≡ neg_ℤ (e *ℤ p) -ℤ d *ℤ q → neg_ℤ (d +ℤ e) <ℤ u
falling_low m d e p q u some hd he hp hq eq =
    let k = mul-lt_left e p (pos m) he hp in
    let l = mul-lt_left d q (pos m) hd hq in
    cancel-lt (pos m) (neg_ℤ (d +ℤ e)) u (omega (arith, ints, some)) (rw (spread_neg, eq) (omega (arith, ints, k, l)))

-- a way is to the right, or up
abbrev pub Leads : ℤ → ℤ → Type 0
Leads d e = (pos 0 <ℤ d) ⊎ ((d ≡ pos 0) × (pos 0 <ℤ e))

narrow_from : (d e x y : ℤ) (n m : ℕ) → 0 < m → n ≤ m → Leads d e → IsRoundedTo d x n m → IsRoundedTo e y n m → is_narrow (record { x = d; y = e }) (d *ℤ y -ℤ e *ℤ x) ≡ true
narrow_from d e x y n m some part (inr (none, up)) in_x in_y =
    let k = box_up d x n m (omega (arith, ints, none)) part some in_x.low (omega (arith, ints, in_x.high)) in
    let zero_x : x ≡ pos 0 = omega (arith, ints, k, none) in
    narrow_zero (record { x = d; y = e }) (d *ℤ y -ℤ e *ℤ x) (omega (arith, ints, up)) (rw (zero_x, none) (omega (arith, ints)))
narrow_from d e x y n m some part (inl right) in_x in_y =
    by_sign e
    (λ (down : e <ℤ pos 0).
    let eq : pos m *ℤ (pos 2 *ℤ (d *ℤ y -ℤ e *ℤ x)) ≡ neg_ℤ (neg_ℤ e *ℤ offset d x n m) -ℤ d *ℤ offset e y n m = turn-offsets d e x y n m ∙ twice_turned e (offset d x n m) (d *ℤ offset e y n m) in
    let low = falling_low m d (neg_ℤ e) (offset d x n m) (offset e y n m) _ some right (omega (arith, ints, down)) in_x.high in_y.high eq in
    let high = falling_high m d (neg_ℤ e) (offset d x n m) (offset e y n m) _ some right (omega (arith, ints, down)) in_x.low in_y.low eq in
    narrow_falling (record { x = d; y = e }) (d *ℤ y -ℤ e *ℤ x) down (omega (arith, ints, low, right, down)) (omega (arith, ints, high, right, down)))
    (λ (level : e ≡ pos 0).
    let k = box_up e y n m (omega (arith, ints, level)) part some in_y.low (omega (arith, ints, in_y.high)) in
    let zero_y : y ≡ pos 0 = omega (arith, ints, k, level) in
    narrow_zero (record { x = d; y = e }) (d *ℤ y -ℤ e *ℤ x) (omega (arith, ints, right)) (rw (zero_y, level) (omega (arith, ints))))
    (λ (up : pos 0 <ℤ e).
    let eq = turn-offsets d e x y n m in
    let low = rising_low m d e (offset d x n m) (offset e y n m) _ some right up in_x.low in_y.high eq in
    let high = rising_high m d e (offset d x n m) (offset e y n m) _ some right up in_x.high in_y.low eq in
    narrow_inside (record { x = d; y = e }) (d *ℤ y -ℤ e *ℤ x) (omega (arith, ints, low, right, up)) (omega (arith, ints, high, right, up)))
  where
    twice_turned : (e p z : ℤ) → e *ℤ p -ℤ z ≡ neg_ℤ (neg_ℤ e *ℤ p) -ℤ z
    twice_turned e p z = omega (arith, ints, mul-neg_left e p)

pub leads : (s : Pair) → IsTrue (is_ordered s) → Leads (s.b.x -ℤ s.a.x) (s.b.y -ℤ s.a.y)
leads s h = of_before s.a s.b (before s.a s.b h)
  where
    of_before : (p q : Point) → Before p q → Leads (q.x -ℤ p.x) (q.y -ℤ p.y)
    of_before p q (inl right) = inl (omega (arith, ints, right))
    of_before p q (inr (same, up)) = inr (omega (arith, ints, same), omega (arith, ints, up))

pub meets_pixel-from : (s : Pair) (c : Point) → IsTrue (is_ordered s) → MeetsPixel s c → meets_pixel s c ≡ true
unfolding meets_pixel turn is_in_box
meets_pixel-from s c h (f, i) =
    let r = AreRoundedTo-from_pixel s c f i in
    let in_x = between_from s.a.x s.b.x c.x f.part f.whole f.at_most_one f.positive r.in_x in
    let in_y = between_from s.a.y s.b.y c.y f.part f.whole f.at_most_one f.positive r.in_y in
    let narrow = narrow_from _ _ _ _ f.part f.whole f.positive f.at_most_one (leads s h) r.in_x r.in_y in
    and_from _ _ (and_from _ _ in_x in_y) narrow

-- ---- the point that lies in the pixel: as far along as the ways to c in x and in y are together

narrow_low : (v : Point) (t : ℤ) → is_narrow v t ≡ true → neg_ℤ (pos (extent v)) <ℤ (pos 2 *ℤ t)
narrow_low v t h = grind (arith, ints)

narrow_high : (v : Point) (t : ℤ) → is_narrow v t ≡ true → (pos 2 *ℤ t) ≤ℤ pos (extent v)
narrow_high v t h = grind (arith, ints)

narrow_strict : (v : Point) (t : ℤ) → pos 0 ≤ℤ v.y → is_narrow v t ≡ true → (pos 2 *ℤ t) <ℤ pos (extent v)
narrow_strict v t up h = grind (arith, ints)

offset-up_x : (d e x y : ℤ) (n m : ℕ) → pos n ≡ x +ℤ y → pos m ≡ d +ℤ e → offset d x n m ≡ pos 2 *ℤ (d *ℤ y -ℤ e *ℤ x)
unfolding offset
offset-up_x d e x y n m part whole = rw (part, whole, as_D d, as_D e, as_D x, as_D y) (simp diffs (D-eq _ _ _ _ (omega arith)))

offset-up_y : (d e x y : ℤ) (n m : ℕ) → pos n ≡ x +ℤ y → pos m ≡ d +ℤ e → offset e y n m ≡ neg_ℤ (pos 2 *ℤ (d *ℤ y -ℤ e *ℤ x))
unfolding offset
offset-up_y d e x y n m part whole = rw (part, whole, as_D d, as_D e, as_D x, as_D y) (simp diffs (D-eq _ _ _ _ (omega arith)))

offset-down_x : (d e x y : ℤ) (n m : ℕ) → pos n ≡ x -ℤ y → pos m ≡ d -ℤ e → offset d x n m ≡ neg_ℤ (pos 2 *ℤ (d *ℤ y -ℤ e *ℤ x))
unfolding offset
offset-down_x d e x y n m part whole = rw (part, whole, as_D d, as_D e, as_D x, as_D y) (simp diffs (D-eq _ _ _ _ (omega arith)))

offset-down_y : (d e x y : ℤ) (n m : ℕ) → pos n ≡ x -ℤ y → pos m ≡ d -ℤ e → offset e y n m ≡ neg_ℤ (pos 2 *ℤ (d *ℤ y -ℤ e *ℤ x))
unfolding offset
offset-down_y d e x y n m part whole = rw (part, whole, as_D d, as_D e, as_D x, as_D y) (simp diffs (D-eq _ _ _ _ (omega arith)))

rounded : (m : ℕ) (d x o : ℤ) (n : ℕ) → offset d x n m ≡ o → neg_ℤ (pos m) ≤ℤ o → o <ℤ pos m → IsRoundedTo d x n m
rounded m d x o n e low high = record { low = rw e low; high = rw e high }

-- both ways, rounded
abbrev BothRounded : ℤ → ℤ → ℤ → ℤ → ℕ → ℕ → Type 0
BothRounded d e x y n m = IsRoundedTo d x n m × IsRoundedTo e y n m

rounded_up : (d e x y : ℤ) → pos 0 ≤ℤ x → x ≤ℤ d → pos 0 ≤ℤ y → y ≤ℤ e → is_narrow (record { x = d; y = e }) (d *ℤ y -ℤ e *ℤ x) ≡ true →
    BothRounded d e x y (unsigned_abs x + unsigned_abs y) (unsigned_abs d + unsigned_abs e)
rounded_up d e x y x0 x1 y0 y1 h =
    let v : Point = record { x = d; y = e } in
    let t : ℤ = d *ℤ y -ℤ e *ℤ x in
    let low = narrow_low v t h in
    let high = narrow_strict v t (omega (arith, ints, y0, y1)) h in
    let part : pos (unsigned_abs x + unsigned_abs y) ≡ x +ℤ y = omega (arith, ints, x0, y0) in
    let whole : pos (unsigned_abs d + unsigned_abs e) ≡ d +ℤ e = omega (arith, ints, x0, x1, y0, y1) in (
      rounded _ d x _ _ (offset-up_x d e x y _ _ part whole) (omega (arith, ints, low)) high,
      rounded _ e y _ _ (offset-up_y d e x y _ _ part whole) (omega (arith, ints, high)) (omega (arith, ints, low)),
    )

rounded_down : (d e x y : ℤ) → pos 0 ≤ℤ x → x ≤ℤ d → e ≤ℤ y → y ≤ℤ pos 0 → is_narrow (record { x = d; y = e }) (d *ℤ y -ℤ e *ℤ x) ≡ true →
    BothRounded d e x y (unsigned_abs x + unsigned_abs y) (unsigned_abs d + unsigned_abs e)
rounded_down d e x y x0 x1 y0 y1 h =
    let v : Point = record { x = d; y = e } in
    let t : ℤ = d *ℤ y -ℤ e *ℤ x in
    let low = narrow_low v t h in
    let high = narrow_high v t h in
    let part : pos (unsigned_abs x + unsigned_abs y) ≡ x -ℤ y = omega (arith, ints, x0, y1) in
    let whole : pos (unsigned_abs d + unsigned_abs e) ≡ d -ℤ e = omega (arith, ints, x0, x1, y0, y1) in (
      rounded _ d x _ _ (offset-down_x d e x y _ _ part whole) (omega (arith, ints, high)) (omega (arith, ints, low)),
      rounded _ e y _ _ (offset-down_y d e x y _ _ part whole) (omega (arith, ints, high)) (omega (arith, ints, low)),
    )

between_is_up : (a b z : ℤ) → a ≤ℤ b → is_between a b z ≡ true → (pos 0 ≤ℤ (z -ℤ a)) × ((z -ℤ a) ≤ℤ (b -ℤ a))
between_is_up a b z up h = (grind (arith, ints), grind (arith, ints))

between_is_down : (a b z : ℤ) → b ≤ℤ a → is_between a b z ≡ true → ((b -ℤ a) ≤ℤ (z -ℤ a)) × ((z -ℤ a) ≤ℤ pos 0)
between_is_down a b z down h = (grind (arith, ints), grind (arith, ints))

-- the point of a pair that is as far along as the ways to c are together
way_to : (s : Pair) (c : Point) → Leads (s.b.x -ℤ s.a.x) (s.b.y -ℤ s.a.y) → is_in_box s c ≡ true → Fraction
unfolding is_in_box
way_to s c l h = record {
  part = unsigned_abs (c.x -ℤ s.a.x) + unsigned_abs (c.y -ℤ s.a.y);
  whole = unsigned_abs (s.b.x -ℤ s.a.x) + unsigned_abs (s.b.y -ℤ s.a.y);
  positive = some (s.b.x -ℤ s.a.x) (s.b.y -ℤ s.a.y) l;
  at_most_one = less (and_parts _ _ h);
}
  where
    some : (d e : ℤ) → Leads d e → 0 < unsigned_abs d + unsigned_abs e
    some d e (inl right) = omega (arith, ints, right)
    some d e (inr (none, up)) = omega (arith, ints, up)

    shorter : (a b z : ℤ) → is_between a b z ≡ true → unsigned_abs (z -ℤ a) ≤ unsigned_abs (b -ℤ a)
    shorter a b z h = grind (arith, ints)

    less : (is_between s.a.x s.b.x c.x ≡ true) × (is_between s.a.y s.b.y c.y ≡ true) → unsigned_abs (c.x -ℤ s.a.x) + unsigned_abs (c.y -ℤ s.a.y) ≤ unsigned_abs (s.b.x -ℤ s.a.x) + unsigned_abs (s.b.y -ℤ s.a.y)
    less k = omega (arith, shorter s.a.x s.b.x c.x k.0, shorter s.a.y s.b.y c.y k.1)

both_from : (s : Pair) (c : Point) → s.a.x ≤ℤ s.b.x → is_in_box s c ≡ true → is_narrow (step s.a s.b) (turn s.a s.b c) ≡ true →
    BothRounded (s.b.x -ℤ s.a.x) (s.b.y -ℤ s.a.y) (c.x -ℤ s.a.x) (c.y -ℤ s.a.y) (unsigned_abs (c.x -ℤ s.a.x) + unsigned_abs (c.y -ℤ s.a.y)) (unsigned_abs (s.b.x -ℤ s.a.x) + unsigned_abs (s.b.y -ℤ s.a.y))
unfolding is_in_box turn
both_from s c right box narrow =
    let k = and_parts _ _ box in
    let x = between_is_up s.a.x s.b.x c.x right k.0 in
    by_lt_z s.b.y s.a.y
    (λ (down : s.b.y <ℤ s.a.y). let y = between_is_down s.a.y s.b.y c.y (omega (arith, ints, down)) k.1 in rounded_down _ _ _ _ x.0 x.1 y.0 y.1 narrow)
    (λ (up : s.a.y ≤ℤ s.b.y). let y = between_is_up s.a.y s.b.y c.y up k.1 in rounded_up _ _ _ _ x.0 x.1 y.0 y.1 narrow)

pub meets_pixel-to : (s : Pair) (c : Point) → IsTrue (is_ordered s) → meets_pixel s c ≡ true → MeetsPixel s c
unfolding meets_pixel way_to
meets_pixel-to s c h e =
    let k = and_parts _ _ e in
    let f = way_to s c (leads s h) k.0 in
    let both = both_from s c (ordered_x s h) k.0 k.1 in
    (f, AreRoundedTo-to_pixel s c f (record { in_x = both.0; in_y = both.1 }))

pub inequality_is_meant : InequalityIsMeant
inequality_is_meant s c h = (meets_pixel-to s c h, meets_pixel-from s c h)
