-- Distances of rational points: the triangle, means of points, and what lies near a pair.
use Rattle.std.proofs.Common.{◌≡◌, subst, arith, ℕ, zero, suc, ◌+◌, ◌*◌, ◌-◌, ◌<◌, ◌≤◌}
use Rattle.std.specs.Prelude.{ℤ, pos, ◌+ℤ◌, ◌-ℤ◌, ◌*ℤ◌, ◌≤ℤ◌, unsigned_abs}
use Rattle.std.proofs.lemmas.Int.{ints}
use Rattle.std.proofs.Math.Nat.{add_comm}
use Rattle.overlay_geometry.specs.Points.{Pair}
use Rattle.overlay_geometry.proofs.laws.geometry.Polynomials.{as_D, diffs, D-eq, mul-nonneg, mul-le_left, cancel-le}
use Rattle.overlay_base.specs.Places.{RationalPoint}
use Rattle.overlay_cuts.specs.Nearness.{whole_point, Fraction, point_along, IsWithin, IsNear, LiesNear}
use Rattle.overlay_geometry.proofs.laws.integers.Products.{plus_le, plus_nonneg}

-- ---- one coordinate

-- u / m is at most h halves more than v / n
abbrev pub IsUnder : ℕ → ℤ → ℕ → ℤ → ℕ → Type 0
IsUnder h u m v n = (pos 2 *ℤ (u *ℤ pos n -ℤ v *ℤ pos m)) ≤ℤ pos (h * (m * n))

-- at most h halves apart
pub record AreClose (h : ℕ) (u : ℤ) (m : ℕ) (v : ℤ) (n : ℕ) : Type 0 where
  pub low : IsUnder h u m v n
  pub high : IsUnder h v n u m

pub AreClose-to : (h : ℕ) (u : ℤ) (m : ℕ) (v : ℤ) (n : ℕ) → AreClose h u m v n → 2 * unsigned_abs (u *ℤ pos n -ℤ v *ℤ pos m) ≤ h * (m * n)
AreClose-to h u m v n c = plain (u *ℤ pos n) (v *ℤ pos m) h m n c.low c.high
  where
    plain : (x y : ℤ) (h m n : ℕ) → (pos 2 *ℤ (x -ℤ y)) ≤ℤ pos (h * (m * n)) → (pos 2 *ℤ (y -ℤ x)) ≤ℤ pos (h * (n * m)) → 2 * unsigned_abs (x -ℤ y) ≤ h * (m * n)
    plain x y h m n l k = omega (arith, ints, l, k)

pub AreClose-from : (h : ℕ) (u : ℤ) (m : ℕ) (v : ℤ) (n : ℕ) → 2 * unsigned_abs (u *ℤ pos n -ℤ v *ℤ pos m) ≤ h * (m * n) → AreClose h u m v n
AreClose-from h u m v n c = record { low = plain_low (u *ℤ pos n) (v *ℤ pos m) h m n c; high = plain_high (u *ℤ pos n) (v *ℤ pos m) h m n c }
  where
    plain_low : (x y : ℤ) (h m n : ℕ) → 2 * unsigned_abs (x -ℤ y) ≤ h * (m * n) → (pos 2 *ℤ (x -ℤ y)) ≤ℤ pos (h * (m * n))
    plain_low x y h m n c = omega (arith, ints, c)

    plain_high : (x y : ℤ) (h m n : ℕ) → 2 * unsigned_abs (x -ℤ y) ≤ h * (m * n) → (pos 2 *ℤ (y -ℤ x)) ≤ℤ pos (h * (n * m))
    plain_high x y h m n c = omega (arith, ints, c)

-- ---- the triangle

over_left : (u v w m n l : ℤ) → n *ℤ (pos 2 *ℤ (u *ℤ l -ℤ w *ℤ m)) ≡ l *ℤ (pos 2 *ℤ (u *ℤ n -ℤ v *ℤ m)) +ℤ m *ℤ (pos 2 *ℤ (v *ℤ l -ℤ w *ℤ n))
over_left u v w m n l = rw (as_D u, as_D v, as_D w, as_D m, as_D n, as_D l) (simp diffs (D-eq _ _ _ _ (omega arith)))

over_right : (h k m n l : ℕ) → pos n *ℤ pos ((h + k) * (m * l)) ≡ pos l *ℤ pos (h * (m * n)) +ℤ pos m *ℤ pos (k * (n * l))
over_right h k m n l = omega (arith, ints)

IsUnder-triangle : (h k : ℕ) (u : ℤ) (m : ℕ) (v : ℤ) (n : ℕ) (w : ℤ) (l : ℕ) → 0 < n → IsUnder h u m v n → IsUnder k v n w l → IsUnder (h + k) u m w l
IsUnder-triangle h k u m v n w l p first second =
    let one = mul-le_left (pos l) _ _ (omega (arith, ints)) first in
    let two = mul-le_left (pos m) _ _ (omega (arith, ints)) second in
    cancel-le (pos n) _ _ (omega (arith, ints)) (rw (over_left u v w (pos m) (pos n) (pos l), over_right h k m n l) (plus_le _ _ _ _ one two))

pub AreClose-triangle : (h k : ℕ) (u : ℤ) (m : ℕ) (v : ℤ) (n : ℕ) (w : ℤ) (l : ℕ) → 0 < n → AreClose h u m v n → AreClose k v n w l → AreClose (h + k) u m w l
AreClose-triangle h k u m v n w l p c d = record {
  low = IsUnder-triangle h k u m v n w l p c.low d.low;
  high = let back = IsUnder-triangle k h w l v n u m p d.high c.high in subst (λ (i : ℕ). IsUnder i w l u m) (add_comm k h) back;
}

-- ---- means

-- the sum of what a mean leaves below a bound, times the whole
mean_gap : (A B u v : ℤ) (h e n c d : ℕ) →
    pos (h * ((e + n) * ((e + n) * (c * d)))) ≡ pos 2 *ℤ ((A *ℤ pos (e + n) +ℤ (B -ℤ A) *ℤ pos n) *ℤ pos ((e + n) * (c * d)) -ℤ (pos (e * d) *ℤ u +ℤ pos (n * c) *ℤ v) *ℤ pos (e + n))
    +ℤ pos (e + n) *ℤ (pos (e * d) *ℤ (pos (h * c) -ℤ pos 2 *ℤ (A *ℤ pos c -ℤ u)) +ℤ pos (n * c) *ℤ (pos (h * d) -ℤ pos 2 *ℤ (B *ℤ pos d -ℤ v)))
mean_gap A B u v h e n c d = rw (as_D A, as_D B, as_D u, as_D v) (simp diffs (D-eq _ _ _ _ (omega arith)))

mean_gap_back : (A B u v : ℤ) (h e n c d : ℕ) →
    pos (h * (((e + n) * (c * d)) * (e + n))) ≡ pos 2 *ℤ ((pos (e * d) *ℤ u +ℤ pos (n * c) *ℤ v) *ℤ pos (e + n) -ℤ (A *ℤ pos (e + n) +ℤ (B -ℤ A) *ℤ pos n) *ℤ pos ((e + n) * (c * d)))
    +ℤ pos (e + n) *ℤ (pos (e * d) *ℤ (pos (h * c) -ℤ pos 2 *ℤ (u -ℤ A *ℤ pos c)) +ℤ pos (n * c) *ℤ (pos (h * d) -ℤ pos 2 *ℤ (v -ℤ B *ℤ pos d)))
mean_gap_back A B u v h e n c d = rw (as_D A, as_D B, as_D u, as_D v) (simp diffs (D-eq _ _ _ _ (omega arith)))

-- a whole number that is that close to u / c
whole_low : (h : ℕ) (A u : ℤ) (c : ℕ) → IsUnder h A 1 u c → pos 0 ≤ℤ (pos (h * c) -ℤ pos 2 *ℤ (A *ℤ pos c -ℤ u))
whole_low h A u c k = omega (arith, ints, k)

whole_high : (h : ℕ) (A u : ℤ) (c : ℕ) → IsUnder h u c A 1 → pos 0 ≤ℤ (pos (h * c) -ℤ pos 2 *ℤ (u -ℤ A *ℤ pos c))
whole_high h A u c k = omega (arith, ints, k)

gap_positive : (m a b : ℕ) (x y : ℤ) → pos 0 ≤ℤ x → pos 0 ≤ℤ y → pos 0 ≤ℤ (pos m *ℤ (pos a *ℤ x +ℤ pos b *ℤ y))
gap_positive m a b x y p q =
    let f = mul-nonneg (pos a) x (omega (arith, ints)) p in
    let g = mul-nonneg (pos b) y (omega (arith, ints)) q in
    mul-nonneg (pos m) _ (omega (arith, ints)) (plus_nonneg _ _ f g)

less_by : (x y z : ℤ) → y ≡ x +ℤ z → pos 0 ≤ℤ z → x ≤ℤ y
less_by x y z e p = omega (arith, ints)

-- A is that close to u / c, and B to v / d: so is the mean by n of e + n to the mean of the two
AreClose-mean : (h : ℕ) (A B u v : ℤ) (e n c d : ℕ) → AreClose h A 1 u c → AreClose h B 1 v d → AreClose h (A *ℤ pos (e + n) +ℤ (B -ℤ A) *ℤ pos n) (e + n) (pos (e * d) *ℤ u +ℤ pos (n * c) *ℤ v) ((e + n) * (c * d))
AreClose-mean h A B u v e n c d k l = record {
  low = less_by _ _ _ (mean_gap A B u v h e n c d) (gap_positive (e + n) (e * d) (n * c) _ _ (whole_low h A u c k.low) (whole_low h B v d l.low));
  high = less_by _ _ _ (mean_gap_back A B u v h e n c d) (gap_positive (e + n) (e * d) (n * c) _ _ (whole_high h A u c k.high) (whole_high h B v d l.high));
}

-- ---- points of pairs

-- the mean of two points of a pair, by n of e + n
mean_along : (a b : ℤ) (e n e0 n0 e1 n1 : ℕ) →
    pos (e * (e1 + n1)) *ℤ (a *ℤ pos (e0 + n0) +ℤ (b -ℤ a) *ℤ pos n0) +ℤ pos (n * (e0 + n0)) *ℤ (a *ℤ pos (e1 + n1) +ℤ (b -ℤ a) *ℤ pos n1)
    ≡ a *ℤ pos ((e + n) * ((e0 + n0) * (e1 + n1))) +ℤ (b -ℤ a) *ℤ pos (e * (n0 * (e1 + n1)) + n * (n1 * (e0 + n0)))
mean_along a b e n e0 n0 e1 n1 = rw (as_D a, as_D b) (simp diffs (D-eq _ _ _ _ (omega arith)))

pub mean_at_most_one : (e n e0 n0 e1 n1 : ℕ) → e * (n0 * (e1 + n1)) + n * (n1 * (e0 + n0)) ≤ (e + n) * ((e0 + n0) * (e1 + n1))
mean_at_most_one e n e0 n0 e1 n1 = omega arith

coordinates-mean : (h : ℕ) (A B a b : ℤ) (e n e0 n0 e1 n1 : ℕ) →
    AreClose h A 1 (a *ℤ pos (e0 + n0) +ℤ (b -ℤ a) *ℤ pos n0) (e0 + n0) → AreClose h B 1 (a *ℤ pos (e1 + n1) +ℤ (b -ℤ a) *ℤ pos n1) (e1 + n1) →
    AreClose h (A *ℤ pos (e + n) +ℤ (B -ℤ A) *ℤ pos n) (e + n) (a *ℤ pos ((e + n) * ((e0 + n0) * (e1 + n1))) +ℤ (b -ℤ a) *ℤ pos (e * (n0 * (e1 + n1)) + n * (n1 * (e0 + n0)))) ((e + n) * ((e0 + n0) * (e1 + n1)))
coordinates-mean h A B a b e n e0 n0 e1 n1 k l =
    subst (λ (z : ℤ). AreClose h (A *ℤ pos (e + n) +ℤ (B -ℤ A) *ℤ pos n) (e + n) z ((e + n) * ((e0 + n0) * (e1 + n1)))) (mean_along a b e n e0 n0 e1 n1)
    (AreClose-mean h A B _ _ e n (e0 + n0) (e1 + n1) k l)

pub whole_is : (n d : ℕ) → n ≤ d → d ≡ (d - n) + n
whole_is n d p = omega (arith, p)

-- the number f of the way from g to k
unfoldable pub mean : Fraction → Fraction → Fraction → Fraction
mean f g k = record {
  part = (f.whole - f.part) * (g.part * k.whole) + f.part * (k.part * g.whole);
  whole = f.whole * (g.whole * k.whole);
  positive = product_positive f.whole (g.whole * k.whole) f.positive (product_positive g.whole k.whole g.positive k.positive);
  at_most_one = at_most f.part f.whole g.part g.whole k.part k.whole f.at_most_one g.at_most_one k.at_most_one;
}
  where
    product_positive : (m n : ℕ) → 0 < m → 0 < n → 0 < m * n
    product_positive zero n p q = absurd (omega arith)
    product_positive (suc m) zero p q = absurd (omega arith)
    product_positive (suc m) (suc n) p q = omega arith

    with_rests : (d e n d0 e0 n0 d1 e1 n1 : ℕ) → d ≡ e + n → d0 ≡ e0 + n0 → d1 ≡ e1 + n1 → e * (n0 * d1) + n * (n1 * d0) ≤ d * (d0 * d1)
    with_rests d e n d0 e0 n0 d1 e1 n1 p q r = rw (p, q, r) (mean_at_most_one e n e0 n0 e1 n1)

    at_most : (n d n0 d0 n1 d1 : ℕ) → n ≤ d → n0 ≤ d0 → n1 ≤ d1 → (d - n) * (n0 * d1) + n * (n1 * d0) ≤ d * (d0 * d1)
    at_most n d n0 d0 n1 d1 p q r = with_rests d (d - n) n d0 (d0 - n0) n0 d1 (d1 - n1) n1 (whole_is n d p) (whole_is n0 d0 q) (whole_is n1 d1 r)

coordinates-mean_of : (h : ℕ) (A B a b : ℤ) (d e n d0 e0 n0 d1 e1 n1 : ℕ) → d ≡ e + n → d0 ≡ e0 + n0 → d1 ≡ e1 + n1 →
    AreClose h A 1 (a *ℤ pos d0 +ℤ (b -ℤ a) *ℤ pos n0) d0 → AreClose h B 1 (a *ℤ pos d1 +ℤ (b -ℤ a) *ℤ pos n1) d1 →
    AreClose h (A *ℤ pos d +ℤ (B -ℤ A) *ℤ pos n) d (a *ℤ pos (d * (d0 * d1)) +ℤ (b -ℤ a) *ℤ pos (e * (n0 * d1) + n * (n1 * d0))) (d * (d0 * d1))
coordinates-mean_of h A B a b d e n d0 e0 n0 d1 e1 n1 p q r k l = rw (p, q, r) (coordinates-mean h A B a b e n e0 n0 e1 n1 (rw q at k) (rw r at l))

-- one coordinate of the point f of the way from a to b
abbrev along : ℤ → ℤ → Fraction → ℤ
along a b f = a *ℤ pos f.whole +ℤ (b -ℤ a) *ℤ pos f.part

along-mean : (h : ℕ) (A B a b : ℤ) (f g k : Fraction) → AreClose h A 1 (along a b g) g.whole → AreClose h B 1 (along a b k) k.whole → AreClose h (along A B f) f.whole (along a b (mean f g k)) (mean f g k).whole
unfolding mean
along-mean h A B a b f g k c d =
    coordinates-mean_of h A B a b f.whole (f.whole - f.part) f.part g.whole (g.whole - g.part) g.part k.whole (k.whole - k.part) k.part
    (whole_is f.part f.whole f.at_most_one) (whole_is g.part g.whole g.at_most_one) (whole_is k.part k.whole k.at_most_one) c d

-- ---- rational points

pub record AreClosePoints (h : ℕ) (p q : RationalPoint) : Type 0 where
  pub in_x : AreClose h p.x p.bottom q.x q.bottom
  pub in_y : AreClose h p.y p.bottom q.y q.bottom

pub IsWithin-to : (h : ℕ) (p q : RationalPoint) → AreClosePoints h p q → IsWithin h p q
IsWithin-to h p q c = record { in_x = AreClose-to h p.x p.bottom q.x q.bottom c.in_x; in_y = AreClose-to h p.y p.bottom q.y q.bottom c.in_y }

pub IsWithin-from : (h : ℕ) (p q : RationalPoint) → IsWithin h p q → AreClosePoints h p q
IsWithin-from h p q w = record { in_x = AreClose-from h p.x p.bottom q.x q.bottom w.in_x; in_y = AreClose-from h p.y p.bottom q.y q.bottom w.in_y }

pub IsWithin-swap : (h : ℕ) (p q : RationalPoint) → IsWithin h p q → IsWithin h q p
IsWithin-swap h p q w =
    let c = IsWithin-from h p q w in
    IsWithin-to h q p (record { in_x = record { low = c.in_x.high; high = c.in_x.low }; in_y = record { low = c.in_y.high; high = c.in_y.low } })

pub IsWithin-triangle : (h k : ℕ) (p q r : RationalPoint) → 0 < q.bottom → IsWithin h p q → IsWithin k q r → IsWithin (h + k) p r
IsWithin-triangle h k p q r some first second =
    let c = IsWithin-from h p q first in
    let d = IsWithin-from k q r second in
    IsWithin-to (h + k) p r (record { in_x = AreClose-triangle h k p.x p.bottom q.x q.bottom r.x r.bottom some c.in_x d.in_x; in_y = AreClose-triangle h k p.y p.bottom q.y q.bottom r.y r.bottom some c.in_y d.in_y })

-- ---- pairs

-- the point f of the way along a pair whose ends are near two points of s is near the one f of the way between them
pub IsWithin-mean : (h : ℕ) (r s : Pair) (f g k : Fraction) → IsWithin h (whole_point r.a) (point_along s g) → IsWithin h (whole_point r.b) (point_along s k) → IsWithin h (point_along r f) (point_along s (mean f g k))
IsWithin-mean h r s f g k first last =
    let c = IsWithin-from h (whole_point r.a) (point_along s g) first in
    let d = IsWithin-from h (whole_point r.b) (point_along s k) last in
    IsWithin-to h (point_along r f) (point_along s (mean f g k)) (record { in_x = along-mean h r.a.x r.b.x s.a.x s.b.x f g k c.in_x d.in_x; in_y = along-mean h r.a.y r.b.y s.a.y s.b.y f g k c.in_y d.in_y })

-- so a pair whose ends are near another lies near it
pub LiesNear-from_ends : (h : ℕ) (r s : Pair) → IsNear h (whole_point r.a) s → IsNear h (whole_point r.b) s → LiesNear h r s
LiesNear-from_ends h r s (g, first) (k, last) f = (mean f g k, IsWithin-mean h r s f g k first last)

-- what lies near one that lies near a third lies near that, the distances added
pub LiesNear-trans : (h k : ℕ) (r s t : Pair) → LiesNear h r s → LiesNear k s t → LiesNear (h + k) r t
LiesNear-trans h k r s t first second f =
    let to = first f in
    let on = second to.0 in
    (on.0, IsWithin-triangle h k (point_along r f) (point_along s to.0) (point_along t on.0) to.0.positive to.1 on.1)

-- no pair lies away from itself
pub LiesNear-itself : (s : Pair) → LiesNear 0 s s
LiesNear-itself s f = (f, IsWithin-itself (point_along s f))
  where
    no_distance : (z : ℤ) (m n : ℕ) → 2 * unsigned_abs (z -ℤ z) ≤ 0 * (m * n)
    no_distance z m n = omega (arith, ints)

    IsWithin-itself : (p : RationalPoint) → IsWithin 0 p p
    IsWithin-itself p = record { in_x = no_distance (p.x *ℤ pos p.bottom) p.bottom p.bottom; in_y = no_distance (p.y *ℤ pos p.bottom) p.bottom p.bottom }

-- the ends of a pair are near it
unfoldable pub no_way : Fraction
no_way = record { part = 0; whole = 1; positive = omega arith; at_most_one = omega arith }

unfoldable pub whole_way : Fraction
whole_way = record { part = 1; whole = 1; positive = omega arith; at_most_one = omega arith }

pub IsWithin-start : (h : ℕ) (s : Pair) → IsWithin h (whole_point s.a) (point_along s no_way)
unfolding no_way
IsWithin-start h s = record { in_x = at_start h s.a.x s.b.x; in_y = at_start h s.a.y s.b.y }
  where
    at_start : (h : ℕ) (a b : ℤ) → 2 * unsigned_abs (a *ℤ pos 1 -ℤ (a *ℤ pos 1 +ℤ (b -ℤ a) *ℤ pos 0) *ℤ pos 1) ≤ h * (1 * 1)
    at_start h a b = omega (arith, ints)

pub IsWithin-end : (h : ℕ) (s : Pair) → IsWithin h (whole_point s.b) (point_along s whole_way)
unfolding whole_way
IsWithin-end h s = record { in_x = at_end h s.a.x s.b.x; in_y = at_end h s.a.y s.b.y }
  where
    at_end : (h : ℕ) (a b : ℤ) → 2 * unsigned_abs (b *ℤ pos 1 -ℤ (a *ℤ pos 1 +ℤ (b -ℤ a) *ℤ pos 1) *ℤ pos 1) ≤ h * (1 * 1)
    at_end h a b = omega (arith, ints)

pub IsNear-start : (h : ℕ) (s : Pair) → IsNear h (whole_point s.a) s
IsNear-start h s = (no_way, IsWithin-start h s)

pub IsNear-end : (h : ℕ) (s : Pair) → IsNear h (whole_point s.b) s
IsNear-end h s = (whole_way, IsWithin-end h s)

pub IsWithin-weaker : (h k : ℕ) (p q : RationalPoint) → h ≤ k → IsWithin h p q → IsWithin k p q
IsWithin-weaker h k p q l w = record { in_x = wider _ h k _ l w.in_x; in_y = wider _ h k _ l w.in_y }
  where
    more : (x h j w : ℕ) → x ≤ h * w → x ≤ (h + j) * w
    more x h j w p = omega (arith, p)

    wider : (x h k w : ℕ) → h ≤ k → x ≤ h * w → x ≤ k * w
    wider x h k w l p = let e : h + (k - h) ≡ k = omega (arith, l) in subst (λ (i : ℕ). x ≤ i * w) e (more x h (k - h) w p)

pub IsNear-weaker : (h k : ℕ) (p : RationalPoint) (s : Pair) → h ≤ k → IsNear h p s → IsNear k p s
IsNear-weaker h k p s l (f, w) = (f, IsWithin-weaker h k p (point_along s f) l w)

-- what is near a point that is near a pair
pub IsNear-from_point : (h k : ℕ) (p q : RationalPoint) (s : Pair) → 0 < q.bottom → IsWithin h p q → IsNear k q s → IsNear (h + k) p s
IsNear-from_point h k p q s some w (f, v) = (f, IsWithin-triangle h k p q (point_along s f) some w v)
