-- Cuts of a step are points of it, rounded. Rounding keeps order, so a cut between two rounded points that its line parts lies in their box.
use Rattle.std.proofs.Common.{◌≡◌, ◌⊎◌, inl, inr, refl, sym, ap, subst, ℕ, zero, suc, ◌*◌, ◌≤◌, ◌<◌, arith, true}
use Rattle.std.specs.Prelude.{ℤ, pos, negsuc, ◌+ℤ◌, ◌-ℤ◌, ◌*ℤ◌, ◌≤ℤ◌, ◌<ℤ◌, neg_ℤ}
use Rattle.std.specs.Int.{int_signum}
use Rattle.std.proofs.lemmas.Int.{ints, by_lt_z}
use Rattle.overlay_geometry.specs.Points.{Point, Pair}
use Rattle.overlay_geometry.proofs.laws.geometry.Polynomials.{as_D, diffs, D-eq, mul-le_left, mul-lt_left, mul-neg_right}
use Rattle.overlay_geometry.proofs.laws.integers.Products.{scaled_le}
use Rattle.overlay_intersections.specs.Crossing.{quotient, nearest_upward}
use Rattle.overlay_intersections.proofs.laws.crossings.Rounding.{over, IsRoundedUp, nearest_upward-is}
use Rattle.overlay_cuts.specs.Nearness.{Fraction, point_along}
use Rattle.overlay_snapping.specs.Pixels.{IsInPixel}
use Rattle.overlay_tiles.specs.Tiles.{Line, upright, level, parts, height_at, cut}
use Rattle.overlay_tiles.proofs.laws.Refinements.{IsAmid, IsAmong, IsInBoxOf, amid-tested}

-- ---- one coordinate of a point along a step, rounded

-- from a to b, the fraction of the way
abbrev along : ℤ → ℤ → Fraction → ℤ
along a b f = a *ℤ pos f.whole +ℤ (b -ℤ a) *ℤ pos f.part

pub record RoundsTo (a b : ℤ) (f : Fraction) (c : ℤ) : Type 0 where
  pub low : neg_ℤ (pos f.whole) ≤ℤ (pos 2 *ℤ (along a b f -ℤ c *ℤ pos f.whole))
  pub high : (pos 2 *ℤ (along a b f -ℤ c *ℤ pos f.whole)) <ℤ pos f.whole

abbrev IsUpTo : Fraction → Fraction → Type 0
IsUpTo f g = f.part * g.whole ≤ g.part * f.whole

either_first : (f g : Fraction) → IsUpTo f g ⊎ IsUpTo g f
either_first f g = by (f.part * g.whole) (g.part * f.whole)
  where
    by : (m n : ℕ) → (m ≤ n) ⊎ (n ≤ m)
    by m n = by_lt_z (pos n) (pos m) (λ (l : pos n <ℤ pos m). inr (omega (arith, ints, l))) (λ (l : pos m ≤ℤ pos n). inl (omega (arith, ints, l)))

not_crossed : (u v c d w : ℤ) → u ≤ℤ v → neg_ℤ w ≤ℤ (pos 2 *ℤ u -ℤ pos 2 *ℤ c) → (pos 2 *ℤ v -ℤ pos 2 *ℤ d) <ℤ w → (d +ℤ w) ≤ℤ c → ⊥
not_crossed u v c d w le low high more = omega (arith, ints)

-- u / m is at most v / n, so what the one is rounded to is at most what the other is rounded to
rounded_in_order : (u v c d : ℤ) (m n : ℕ) → 0 < m → (u *ℤ pos n) ≤ℤ (v *ℤ pos m) → neg_ℤ (pos m) ≤ℤ (pos 2 *ℤ (u -ℤ c *ℤ pos m)) → (pos 2 *ℤ (v -ℤ d *ℤ pos n)) <ℤ pos n → c ≤ℤ d
rounded_in_order u v c d m n some le low high = by_lt_z d c (λ (less : d <ℤ c). absurd (crossed less)) (λ (more : c ≤ℤ d). more)
  where
    times_first : (u c : ℤ) (m n : ℕ) → pos n *ℤ (pos 2 *ℤ (u -ℤ c *ℤ pos m)) ≡ pos 2 *ℤ (u *ℤ pos n) -ℤ pos 2 *ℤ (c *ℤ pos (m * n))
    times_first u c m n = rw (as_D u, as_D c) (simp diffs (D-eq _ _ _ _ (omega arith)))

    times_second : (v d : ℤ) (m n : ℕ) → pos m *ℤ (pos 2 *ℤ (v -ℤ d *ℤ pos n)) ≡ pos 2 *ℤ (v *ℤ pos m) -ℤ pos 2 *ℤ (d *ℤ pos (m * n))
    times_second v d m n = rw (as_D v, as_D d) (simp diffs (D-eq _ _ _ _ (omega arith)))

    times_turned : (m n : ℕ) → pos n *ℤ pos m ≡ pos (m * n)
    times_turned m n = omega (arith, ints)

    times_bound : (m n : ℕ) → pos n *ℤ neg_ℤ (pos m) ≡ neg_ℤ (pos (m * n))
    times_bound m n = rw (mul-neg_right (pos n) (pos m)) (ap neg_ℤ (times_turned m n))

    times_width : (m n : ℕ) → pos m *ℤ pos n ≡ pos (m * n)
    times_width m n = omega (arith, ints)

    one_more : (z : ℤ) (w : ℕ) → (z +ℤ pos 1) *ℤ pos w ≡ z *ℤ pos w +ℤ pos w
    one_more z w = rw (as_D z) (simp diffs (D-eq _ _ _ _ (omega arith)))

    crossed : d <ℤ c → ⊥
    crossed less =
        let first = mul-le_left (pos n) (neg_ℤ (pos m)) (pos 2 *ℤ (u -ℤ c *ℤ pos m)) (omega (arith, ints)) low in
        let second = mul-lt_left (pos m) (pos 2 *ℤ (v -ℤ d *ℤ pos n)) (pos n) (omega (arith, ints, some)) high in
        let apart = scaled_le (d +ℤ pos 1) c (m * n) (omega (arith, ints, less)) in
        not_crossed (u *ℤ pos n) (v *ℤ pos m) (c *ℤ pos (m * n)) (d *ℤ pos (m * n)) (pos (m * n)) le
        (rw (times_bound m n, times_first u c m n) at first) (rw (times_second v d m n, times_width m n) at second) (rw (one_more d (m * n)) at apart)

along-times : (a b : ℤ) (n m k : ℕ) → (a *ℤ pos m +ℤ (b -ℤ a) *ℤ pos n) *ℤ pos k ≡ a *ℤ pos (m * k) +ℤ (b -ℤ a) *ℤ pos (n * k)
along-times a b n m k = rw (as_D a, as_D b) (simp diffs (D-eq _ _ _ _ (omega arith)))

along-times_other : (a b : ℤ) (n m k : ℕ) → (a *ℤ pos m +ℤ (b -ℤ a) *ℤ pos n) *ℤ pos k ≡ a *ℤ pos (k * m) +ℤ (b -ℤ a) *ℤ pos (n * k)
along-times_other a b n m k = rw (as_D a, as_D b) (simp diffs (D-eq _ _ _ _ (omega arith)))

plus_same : (u v w : ℤ) → v ≤ℤ w → (u +ℤ v) ≤ℤ (u +ℤ w)
plus_same u v w h = omega (arith, ints)

less_down : (a b : ℤ) (i j : ℕ) → b ≤ℤ a → i ≤ j → ((b -ℤ a) *ℤ pos j) ≤ℤ ((b -ℤ a) *ℤ pos i)
less_down a b i j down le =
    let k = mul-le_left (a -ℤ b) (pos i) (pos j) (omega (arith, ints, down)) (omega (arith, ints, le)) in
    omega (arith, ints, k, turned (pos i), turned (pos j))
  where
    turned : (z : ℤ) → (b -ℤ a) *ℤ z ≡ neg_ℤ ((a -ℤ b) *ℤ z)
    turned z = rw (as_D a, as_D b, as_D z) (simp diffs (D-eq _ _ _ _ (omega arith)))

-- of two points the later one is rounded to no less, where the coordinate rises, and to no more, where it falls
rises : (a b : ℤ) (f g : Fraction) (c d : ℤ) → a ≤ℤ b → IsUpTo f g → RoundsTo a b f c → RoundsTo a b g d → c ≤ℤ d
rises a b f g c d up later first second =
    rounded_in_order (along a b f) (along a b g) c d f.whole g.whole f.positive
    (rw (along-times a b f.part f.whole g.whole, along-times_other a b g.part g.whole f.whole) (plus_same _ _ _ (mul-le_left (b -ℤ a) (pos (f.part * g.whole)) (pos (g.part * f.whole)) (omega (arith, ints, up)) (omega (arith, ints, later)))))
    first.low second.high

falls : (a b : ℤ) (f g : Fraction) (c d : ℤ) → b ≤ℤ a → IsUpTo f g → RoundsTo a b f c → RoundsTo a b g d → d ≤ℤ c
falls a b f g c d down later first second =
    rounded_in_order (along a b g) (along a b f) d c g.whole f.whole g.positive
    (rw (along-times_other a b g.part g.whole f.whole, along-times a b f.part f.whole g.whole) (plus_same _ _ _ (less_down a b (f.part * g.whole) (g.part * f.whole) down later)))
    second.low first.high

-- ---- one coordinate says where a point lies between two others, and so the other coordinate

abbrev IsBetween : Fraction → Fraction → Fraction → Type 0
IsBetween f g h = (IsUpTo f h × IsUpTo h g) ⊎ (IsUpTo g h × IsUpTo h f)

first_of_less : (a b : ℤ) (f g : Fraction) (c d : ℤ) → RoundsTo a b f c → RoundsTo a b g d → c <ℤ d → a ≤ℤ b → IsUpTo f g
first_of_less a b f g c d first second less up = elim (either_first f g) [
  | inl h ↦ h
  | inr h ↦ absurd (let back = rises a b g f d c up h second first in omega (arith, ints, back, less))
]

first_of_more : (a b : ℤ) (f g : Fraction) (c d : ℤ) → RoundsTo a b f c → RoundsTo a b g d → c <ℤ d → b ≤ℤ a → IsUpTo g f
first_of_more a b f g c d first second less down = elim (either_first g f) [
  | inl h ↦ h
  | inr h ↦ absurd (let back = falls a b f g c d down h first second in omega (arith, ints, back, less))
]

between : (a b : ℤ) (f g h : Fraction) (u v z : ℤ) → RoundsTo a b f u → RoundsTo a b g v → RoundsTo a b h z → IsAmid u v z → IsBetween f g h
between a b f g h u v z at_u at_v at_z (inl k) =
    by_lt_z b a
    (λ (l : b <ℤ a). let down : b ≤ℤ a = omega (arith, ints, l) in inr (first_of_more a b h g z v at_z at_v k.1 down, first_of_more a b f h u z at_u at_z k.0 down))
    (λ (up : a ≤ℤ b). inl (first_of_less a b f h u z at_u at_z k.0 up, first_of_less a b h g z v at_z at_v k.1 up))
between a b f g h u v z at_u at_v at_z (inr k) =
    by_lt_z b a
    (λ (l : b <ℤ a). let down : b ≤ℤ a = omega (arith, ints, l) in inl (first_of_more a b h f z u at_z at_u k.1 down, first_of_more a b g h v z at_v at_z k.0 down))
    (λ (up : a ≤ℤ b). inr (first_of_less a b g h v z at_v at_z k.0 up, first_of_less a b h f z u at_z at_u k.1 up))

among : (a b : ℤ) (f g h : Fraction) (u v z : ℤ) → RoundsTo a b f u → RoundsTo a b g v → RoundsTo a b h z → IsBetween f g h → IsAmong u v z
among a b f g h u v z at_u at_v at_z (inl k) =
    by_lt_z b a
    (λ (l : b <ℤ a). let down : b ≤ℤ a = omega (arith, ints, l) in inr (falls a b h g z v down k.1 at_z at_v, falls a b f h u z down k.0 at_u at_z))
    (λ (up : a ≤ℤ b). inl (rises a b f h u z up k.0 at_u at_z, rises a b h g z v up k.1 at_z at_v))
among a b f g h u v z at_u at_v at_z (inr k) =
    by_lt_z b a
    (λ (l : b <ℤ a). let down : b ≤ℤ a = omega (arith, ints, l) in inl (falls a b h f z u down k.1 at_z at_u, falls a b g h v z down k.0 at_v at_z))
    (λ (up : a ≤ℤ b). inr (rises a b g h v z up k.0 at_v at_z, rises a b h f z u up k.1 at_z at_u))

-- ---- points of a step, rounded

-- q is a point of s, each coordinate rounded
pub record IsRoundedOn (s : Pair) (q : Point) : Type 0 where
  pub way : Fraction
  pub in_x : RoundsTo s.a.x s.b.x way q.x
  pub in_y : RoundsTo s.a.y s.b.y way q.y

pub IsRoundedOn-pixel : (s : Pair) (q : Point) (r : IsRoundedOn s q) → IsInPixel (point_along s r.way) q
IsRoundedOn-pixel s q r = record { from_left = r.in_x.low; to_right = r.in_x.high; from_below = r.in_y.low; to_top = r.in_y.high }

at_start : (a b : ℤ) → (f : Fraction) → f.part ≡ 0 → RoundsTo a b f a
at_start a b f e = record { low = rw (none a b f.whole f.part e) (low_of f.whole); high = rw (none a b f.whole f.part e) (high_of f.whole f.positive) }
  where
    none : (a b : ℤ) (w n : ℕ) → n ≡ 0 → pos 2 *ℤ ((a *ℤ pos w +ℤ (b -ℤ a) *ℤ pos n) -ℤ a *ℤ pos w) ≡ pos 0
    none a b w n e = rw e (omega (arith, ints))

    low_of : (w : ℕ) → neg_ℤ (pos w) ≤ℤ pos 0
    low_of w = omega (arith, ints)

    high_of : (w : ℕ) → 0 < w → pos 0 <ℤ pos w
    high_of w h = omega (arith, ints, h)

at_end : (a b : ℤ) → (f : Fraction) → f.part ≡ f.whole → RoundsTo a b f b
at_end a b f e = record { low = rw (none a b f.whole f.part e) (low_of f.whole); high = rw (none a b f.whole f.part e) (high_of f.whole f.positive) }
  where
    none : (a b : ℤ) (w n : ℕ) → n ≡ w → pos 2 *ℤ ((a *ℤ pos w +ℤ (b -ℤ a) *ℤ pos n) -ℤ b *ℤ pos w) ≡ pos 0
    none a b w n e = rw (e, as_D a, as_D b) (simp diffs (D-eq _ _ _ _ (omega arith)))

    low_of : (w : ℕ) → neg_ℤ (pos w) ≤ℤ pos 0
    low_of w = omega (arith, ints)

    high_of : (w : ℕ) → 0 < w → pos 0 <ℤ pos w
    high_of w h = omega (arith, ints, h)

start : Fraction
start = record { part = 0; whole = 1; positive = omega arith; at_most_one = omega arith }

end : Fraction
end = record { part = 1; whole = 1; positive = omega arith; at_most_one = omega arith }

pub start_is_rounded : (s : Pair) → IsRoundedOn s s.a
unfolding start
start_is_rounded s = record { way = start; in_x = at_start s.a.x s.b.x start refl; in_y = at_start s.a.y s.b.y start refl }

pub end_is_rounded : (s : Pair) → IsRoundedOn s s.b
unfolding end
end_is_rounded s = record { way = end; in_x = at_end s.a.x s.b.x end refl; in_y = at_end s.a.y s.b.y end refl }

-- ---- a cut is such a point

-- of numbers on one side of 0
sign_up : (w : ℤ) (m n : ℕ) → int_signum (pos (suc n)) *ℤ (w *ℤ pos m) ≡ w *ℤ pos m
sign_up w m n = let e : int_signum (pos (suc n)) ≡ pos 1 = ap pos (omega arith) in rw e (omega (arith, ints))

sign_down : (w : ℤ) (m n : ℕ) → int_signum (negsuc n) *ℤ (w *ℤ negsuc m) ≡ w *ℤ pos (suc m)
sign_down w m n = omega (arith, ints)

way_of : (d k : ℤ) → ((pos 0 <ℤ k) × (k <ℤ d)) ⊎ ((d <ℤ k) × (k <ℤ pos 0)) →
    (f : Fraction) × (d *ℤ pos f.part ≡ k *ℤ pos f.whole) × ((w : ℤ) → quotient w k d ≡ over (w *ℤ pos f.part) f.whole)
unfolding quotient
way_of (pos zero) k (inl h) = absurd (omega (arith, ints, h.0, h.1))
way_of (pos (suc n)) (pos m) (inl h) = (
  record { part = m; whole = suc n; positive = omega arith; at_most_one = omega (arith, ints, h.1) },
  omega (arith, ints),
  λ w. ap (λ (t : ℤ). over t (suc n)) (sign_up w m n),
)
way_of (pos (suc n)) (negsuc m) (inl h) = absurd (omega (arith, ints, h.0))
way_of (negsuc n) k (inl h) = absurd (omega (arith, ints, h.0, h.1))
way_of (pos n) k (inr h) = absurd (omega (arith, ints, h.0, h.1))
way_of (negsuc n) (pos m) (inr h) = absurd (omega (arith, ints, h.1))
way_of (negsuc n) (negsuc m) (inr h) = (
  record { part = suc m; whole = suc n; positive = omega arith; at_most_one = omega (arith, ints, h.0) },
  omega (arith, ints),
  λ w. ap (λ (t : ℤ). over t (suc n)) (sign_down w m n),
)

exact_rounds : (a b z : ℤ) (f : Fraction) → (b -ℤ a) *ℤ pos f.part ≡ (z -ℤ a) *ℤ pos f.whole → RoundsTo a b f z
exact_rounds a b z f e = record { low = rw (none a z f.whole _ e) (low_of f.whole); high = rw (none a z f.whole _ e) (high_of f.whole f.positive) }
  where
    none : (a z : ℤ) (w : ℕ) (t : ℤ) → t ≡ (z -ℤ a) *ℤ pos w → pos 2 *ℤ ((a *ℤ pos w +ℤ t) -ℤ z *ℤ pos w) ≡ pos 0
    none a z w t e = rw (e, as_D a, as_D z) (simp diffs (D-eq _ _ _ _ (omega arith)))

    low_of : (w : ℕ) → neg_ℤ (pos w) ≤ℤ pos 0
    low_of w = omega (arith, ints)

    high_of : (w : ℕ) → 0 < w → pos 0 <ℤ pos w
    high_of w h = omega (arith, ints, h)

height_rounds : (c d : ℤ) (f : Fraction) (r : ℤ) → IsRoundedUp ((d -ℤ c) *ℤ pos f.part) f.whole r → RoundsTo c d f (c +ℤ r)
height_rounds c d f r is = record { low = low_of c ((d -ℤ c) *ℤ pos f.part) (pos f.whole) r is.low; high = high_of c ((d -ℤ c) *ℤ pos f.part) (pos f.whole) r is.high }
  where
    out : (c w r : ℤ) → (c +ℤ r) *ℤ w ≡ c *ℤ w +ℤ w *ℤ r
    out c w r = rw (as_D c, as_D w, as_D r) (simp diffs (D-eq _ _ _ _ (omega arith)))

    low_of : (c t w r : ℤ) → (pos 2 *ℤ (w *ℤ r)) ≤ℤ (pos 2 *ℤ t +ℤ w) → neg_ℤ w ≤ℤ (pos 2 *ℤ ((c *ℤ w +ℤ t) -ℤ (c +ℤ r) *ℤ w))
    low_of c t w r h = rw (out c w r) (omega (arith, ints, h))

    high_of : (c t w r : ℤ) → (pos 2 *ℤ t) <ℤ (pos 2 *ℤ (w *ℤ r) +ℤ w) → (pos 2 *ℤ ((c *ℤ w +ℤ t) -ℤ (c +ℤ r) *ℤ w)) <ℤ w
    high_of c t w r h = rw (out c w r) (omega (arith, ints, h))

abbrev CutWay : ℤ → ℤ → ℤ → ℤ → ℤ → Type 0
CutWay a b c d z = (f : Fraction) × RoundsTo a b f z × RoundsTo c d f (height_at a b c d z)

cut_way : (a b c d z : ℤ) → IsAmid a b z → CutWay a b c d z
unfolding height_at
cut_way a b c d z amid =
    let w = way_of (b -ℤ a) (z -ℤ a) (from_a amid) in
    (w.0, exact_rounds a b z w.0 w.1, subst (λ (q : ℤ). RoundsTo c d w.0 (c +ℤ q)) (sym (ap nearest_upward (w.2 (d -ℤ c)))) (height_rounds c d w.0 _ (nearest_upward-is ((d -ℤ c) *ℤ pos w.0.part) w.0.whole w.0.positive)))
  where
    from_a : IsAmid a b z → ((pos 0 <ℤ (z -ℤ a)) × ((z -ℤ a) <ℤ (b -ℤ a))) ⊎ (((b -ℤ a) <ℤ (z -ℤ a)) × ((z -ℤ a) <ℤ pos 0))
    from_a (inl h) = inl (omega (arith, ints, h.0), omega (arith, ints, h.1))
    from_a (inr h) = inr (omega (arith, ints, h.0), omega (arith, ints, h.1))

-- ---- what lies between rounded points lies between the ends

pub in_range : (a b : ℤ) (f : Fraction) (u : ℤ) → RoundsTo a b f u → IsAmong a b u
unfolding start end
in_range a b f u at = among a b start end f a b u (at_start a b start refl) (at_end a b end refl) at (inl (from_start f, to_end f))
  where
    from_start : (f : Fraction) → IsUpTo start f
    from_start f = omega arith

    to_end : (f : Fraction) → IsUpTo f end
    to_end f = omega (arith, f.at_most_one)

-- the height of a cut lies between those of the ends
pub height_among : (a b c d z : ℤ) → IsAmid a b z → IsAmong c d (height_at a b c d z)
height_among a b c d z amid = let way = cut_way a b c d z amid in in_range c d way.0 _ way.2

amid_ends : (a b : ℤ) (f g : Fraction) (u v z : ℤ) → RoundsTo a b f u → RoundsTo a b g v → IsAmid u v z → IsAmid a b z
amid_ends a b f g u v z at_u at_v amid = by (in_range a b f u at_u) (in_range a b g v at_v) amid
  where
    by : IsAmong a b u → IsAmong a b v → IsAmid u v z → IsAmid a b z
    by (inl h) (inl k) (inl l) = inl (omega (arith, ints, h.0, l.0), omega (arith, ints, k.1, l.1))
    by (inl h) (inl k) (inr l) = inl (omega (arith, ints, k.0, l.0), omega (arith, ints, h.1, l.1))
    by (inr h) (inr k) (inl l) = inr (omega (arith, ints, h.0, l.0), omega (arith, ints, k.1, l.1))
    by (inr h) (inr k) (inr l) = inr (omega (arith, ints, k.0, l.0), omega (arith, ints, h.1, l.1))
    by (inl h) (inr k) l = absurd (flat h k l)
      where
        flat : (a ≤ℤ u) × (u ≤ℤ b) → (b ≤ℤ v) × (v ≤ℤ a) → IsAmid u v z → ⊥
        flat h k (inl l) = omega (arith, ints, h.0, h.1, k.0, k.1, l.0, l.1)
        flat h k (inr l) = omega (arith, ints, h.0, h.1, k.0, k.1, l.0, l.1)
    by (inr h) (inl k) l = absurd (flat h k l)
      where
        flat : (b ≤ℤ u) × (u ≤ℤ a) → (a ≤ℤ v) × (v ≤ℤ b) → IsAmid u v z → ⊥
        flat h k (inl l) = omega (arith, ints, h.0, h.1, k.0, k.1, l.0, l.1)
        flat h k (inr l) = omega (arith, ints, h.0, h.1, k.0, k.1, l.0, l.1)

strictly : (u v z : ℤ) → IsAmid u v z → IsAmong u v z
strictly u v z (inl h) = inl (omega (arith, ints, h.0), omega (arith, ints, h.1))
strictly u v z (inr h) = inr (omega (arith, ints, h.0), omega (arith, ints, h.1))

-- a cut between two rounded points that its line parts
pub cut_in_box : (s : Pair) (line : Line) (u v : Point) → IsRoundedOn s u → IsRoundedOn s v → parts line u v ≡ true → IsRoundedOn s (cut s line) × IsInBoxOf u v (cut s line)
unfolding parts cut
cut_in_box s (upright x) u v at_u at_v e =
    let amid = amid-tested u.x v.x x e in
    let way = cut_way s.a.x s.b.x s.a.y s.b.y x (amid_ends s.a.x s.b.x at_u.way at_v.way u.x v.x x at_u.in_x at_v.in_x amid) in
    let order = between s.a.x s.b.x at_u.way at_v.way way.0 u.x v.x x at_u.in_x at_v.in_x way.1 amid in
    (record { way = way.0; in_x = way.1; in_y = way.2 }, record { in_x = strictly u.x v.x x amid; in_y = among s.a.y s.b.y at_u.way at_v.way way.0 u.y v.y _ at_u.in_y at_v.in_y way.2 order })
cut_in_box s (level y) u v at_u at_v e =
    let amid = amid-tested u.y v.y y e in
    let way = cut_way s.a.y s.b.y s.a.x s.b.x y (amid_ends s.a.y s.b.y at_u.way at_v.way u.y v.y y at_u.in_y at_v.in_y amid) in
    let order = between s.a.y s.b.y at_u.way at_v.way way.0 u.y v.y y at_u.in_y at_v.in_y way.1 amid in
    (record { way = way.0; in_x = way.2; in_y = way.1 }, record { in_x = among s.a.x s.b.x at_u.way at_v.way way.0 u.x v.x _ at_u.in_x at_v.in_x way.2 order; in_y = strictly u.y v.y y amid })
