-- Of two pixels that a pair meets the one that it meets later does not come first: rounding is monotone in each coordinate.
use Rattle.std.proofs.Common.{◌≡◌, ap, ℕ, ◌*◌, ◌≤◌, ◌<◌, arith, true, false}
use Rattle.std.specs.Prelude.{ℤ, pos, ◌+ℤ◌, ◌-ℤ◌, ◌*ℤ◌, ◌≤ℤ◌, ◌<ℤ◌, neg_ℤ, IsFalse, int_lt}
use Rattle.std.proofs.lemmas.Int.{ints, by_lt_z}
use Rattle.overlay_geometry.specs.Points.{Point, Pair}
use Rattle.overlay_geometry.proofs.laws.geometry.Points.{ordered_x}
use Rattle.overlay_geometry.proofs.laws.geometry.Polynomials.{as_D, diffs, D-eq, mul-le_left, mul-lt_left, mul-neg_right}
use Rattle.overlay_geometry.proofs.laws.integers.Tests.{lt-test, lt-test_false}
use Rattle.overlay_geometry.proofs.laws.integers.Products.{scaled_le}
use Rattle.overlay_snapping.specs.Chains.{comes_before}
use Rattle.overlay_snapping.specs.Laws.{PixelsAreMetInOrder}

not_crossed : (u v c d w : ℤ) → u ≤ℤ v → neg_ℤ w ≤ℤ (pos 2 *ℤ u -ℤ pos 2 *ℤ c) → (pos 2 *ℤ v -ℤ pos 2 *ℤ d) <ℤ w → (d +ℤ w) ≤ℤ c → ⊥
not_crossed u v c d w le low high more = omega (arith, ints)

-- u / m is at most v / n, so what the one is rounded to is at most what the other is rounded to
rounded_in_order : (u v c d : ℤ) (m n : ℕ) → 0 < m → (u *ℤ pos n) ≤ℤ (v *ℤ pos m) → neg_ℤ (pos m) ≤ℤ (pos 2 *ℤ (u -ℤ c *ℤ pos m)) → (pos 2 *ℤ (v -ℤ d *ℤ pos n)) <ℤ pos n → c ≤ℤ d
rounded_in_order u v c d m n some le low high = by_lt_z d c (λ (less : d <ℤ c). absurd (crossed less)) (λ (more : c ≤ℤ d). more)
  where
    times_first : (u c : ℤ) (m n : ℕ) → pos n *ℤ (pos 2 *ℤ (u -ℤ c *ℤ pos m)) ≡ pos 2 *ℤ (u *ℤ pos n) -ℤ pos 2 *ℤ (c *ℤ pos (m * n))
    times_first u c m n = rw (as_D u, as_D c) (simp diffs (D-eq _ _ _ _ (omega arith)))

    times_second : (v d : ℤ) (m n : ℕ) → pos m *ℤ (pos 2 *ℤ (v -ℤ d *ℤ pos n)) ≡ pos 2 *ℤ (v *ℤ pos m) -ℤ pos 2 *ℤ (d *ℤ pos (m * n))
    times_second v d m n = rw (as_D v, as_D d) (simp diffs (D-eq _ _ _ _ (omega arith)))

    times_turned : (m n : ℕ) → pos n *ℤ pos m ≡ pos (m * n)
    times_turned m n = omega (arith, ints)

    times_bound : (m n : ℕ) → pos n *ℤ neg_ℤ (pos m) ≡ neg_ℤ (pos (m * n))
    times_bound m n = rw (mul-neg_right (pos n) (pos m)) (ap neg_ℤ (times_turned m n))

    times_width : (m n : ℕ) → pos m *ℤ pos n ≡ pos (m * n)
    times_width m n = omega (arith, ints)

    one_more : (z : ℤ) (w : ℕ) → (z +ℤ pos 1) *ℤ pos w ≡ z *ℤ pos w +ℤ pos w
    one_more z w = rw (as_D z) (simp diffs (D-eq _ _ _ _ (omega arith)))

    crossed : d <ℤ c → ⊥
    crossed less =
        let first = mul-le_left (pos n) (neg_ℤ (pos m)) (pos 2 *ℤ (u -ℤ c *ℤ pos m)) (omega (arith, ints)) low in
        let second = mul-lt_left (pos m) (pos 2 *ℤ (v -ℤ d *ℤ pos n)) (pos n) (omega (arith, ints, some)) high in
        let apart = scaled_le (d +ℤ pos 1) c (m * n) (omega (arith, ints, less)) in
        not_crossed (u *ℤ pos n) (v *ℤ pos m) (c *ℤ pos (m * n)) (d *ℤ pos (m * n)) (pos (m * n)) le
        (rw (times_bound m n, times_first u c m n) at first) (rw (times_second v d m n, times_width m n) at second) (rw (one_more d (m * n)) at apart)

-- ---- points along a way, one after the other

-- one coordinate of a point along a way from a to b
abbrev along : ℤ → ℤ → ℕ → ℕ → ℤ
along a b n m = a *ℤ pos m +ℤ (b -ℤ a) *ℤ pos n

along-times : (a b : ℤ) (n m k : ℕ) → along a b n m *ℤ pos k ≡ a *ℤ pos (m * k) +ℤ (b -ℤ a) *ℤ pos (n * k)
along-times a b n m k = rw (as_D a, as_D b) (simp diffs (D-eq _ _ _ _ (omega arith)))

along-times_other : (a b : ℤ) (n m k : ℕ) → along a b n m *ℤ pos k ≡ a *ℤ pos (k * m) +ℤ (b -ℤ a) *ℤ pos (n * k)
along-times_other a b n m k = rw (as_D a, as_D b) (simp diffs (D-eq _ _ _ _ (omega arith)))

plus_same : (u v w : ℤ) → v ≤ℤ w → (u +ℤ v) ≤ℤ (u +ℤ w)
plus_same u v w h = omega (arith, ints)

less_down : (a b : ℤ) (i j : ℕ) → b ≤ℤ a → i ≤ j → ((b -ℤ a) *ℤ pos j) ≤ℤ ((b -ℤ a) *ℤ pos i)
less_down a b i j down le =
    let k = mul-le_left (a -ℤ b) (pos i) (pos j) (omega (arith, ints, down)) (omega (arith, ints, le)) in
    omega (arith, ints, k, turned (pos i), turned (pos j))
  where
    turned : (z : ℤ) → (b -ℤ a) *ℤ z ≡ neg_ℤ ((a -ℤ b) *ℤ z)
    turned z = rw (as_D a, as_D b, as_D z) (simp diffs (D-eq _ _ _ _ (omega arith)))

along_up : (a b : ℤ) (n m i k : ℕ) → a ≤ℤ b → n * k ≤ i * m → (along a b n m *ℤ pos k) ≤ℤ (along a b i k *ℤ pos m)
along_up a b n m i k up later = rw (along-times a b n m k, along-times_other a b i k m)
    (plus_same _ _ _ (mul-le_left (b -ℤ a) (pos (n * k)) (pos (i * m)) (omega (arith, ints, up)) (omega (arith, ints, later))))

along_down : (a b : ℤ) (n m i k : ℕ) → b ≤ℤ a → n * k ≤ i * m → (along a b i k *ℤ pos m) ≤ℤ (along a b n m *ℤ pos k)
along_down a b n m i k down later = rw (along-times a b n m k, along-times_other a b i k m)
    (plus_same _ _ _ (less_down a b (n * k) (i * m) down later))

-- ---- the order of points along a pair

pub not_before_up : (s : Pair) (c d : Point) → int_lt s.b.y s.a.y ≡ false → c.x ≤ℤ d.x → c.y ≤ℤ d.y → IsFalse (comes_before s d c)
not_before_up s c d up in_x in_y = rw up (grind (arith, ints))

pub not_before_down : (s : Pair) (c d : Point) → int_lt s.b.y s.a.y ≡ true → c.x ≤ℤ d.x → d.y ≤ℤ c.y → IsFalse (comes_before s d c)
not_before_down s c d down in_x in_y = rw down (grind (arith, ints))

pub pixels_are_met_in_order : PixelsAreMetInOrder
pixels_are_met_in_order s f g c d h later first second =
    let in_x = rounded_in_order _ _ c.x d.x f.whole g.whole f.positive (along_up s.a.x s.b.x f.part f.whole g.part g.whole (ordered_x s h) later) first.from_left second.to_right in
    by_lt_z s.b.y s.a.y
    (λ (down : s.b.y <ℤ s.a.y).
    let in_y = rounded_in_order _ _ d.y c.y g.whole f.whole g.positive (along_down s.a.y s.b.y f.part f.whole g.part g.whole (omega (arith, ints, down)) later) second.from_below first.to_top in
    not_before_down s c d (lt-test _ _ down) in_x in_y)
    (λ (up : s.a.y ≤ℤ s.b.y).
    let in_y = rounded_in_order _ _ c.y d.y f.whole g.whole f.positive (along_up s.a.y s.b.y f.part f.whole g.part g.whole up later) first.from_below second.to_top in
    not_before_up s c d (lt-test_false _ _ up) in_x in_y)
