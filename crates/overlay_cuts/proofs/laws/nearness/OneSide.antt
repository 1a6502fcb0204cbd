-- All pairs that lie near one pair pass a place that is farther from it on one side: they all run below it, or none does.
use Rattle.std.proofs.Common.{◌≡◌, sym, ap, ap₂, subst, ◌∙◌, arith, ℕ, zero, suc, ◌+◌, ◌*◌, ◌-◌, ◌<◌, ◌≤◌, inl, inr}
use Rattle.std.specs.Prelude.{ℤ, pos, ◌+ℤ◌, ◌-ℤ◌, ◌*ℤ◌, ◌≤ℤ◌, ◌<ℤ◌, unsigned_abs, int_le, int_lt, IsTrue}
use Rattle.std.proofs.lemmas.Int.{ints, by_lt_z}
use Rattle.std.proofs.lemmas.Bool.{and_parts, cases_Bool}
use Rattle.overlay_geometry.specs.Points.{Pair}
use Rattle.overlay_geometry.specs.Below.{width}
use Rattle.overlay_geometry.proofs.laws.geometry.Polynomials.{as_D, diffs, D-eq, mul-le_left}
use Rattle.overlay_base.specs.Places.{RationalPoint, spans, height_at, runs_below, lies_below}
use Rattle.overlay_cuts.specs.Nearness.{Fraction, point_along, IsWithin, IsNear, LiesNear}
use Rattle.overlay_cuts.proofs.laws.nearness.Distances.{AreClose, IsWithin-to, IsWithin-from}
use Rattle.overlay_geometry.proofs.laws.integers.Tests.{le-tested, lt-tested, lt-tested_false}
use Rattle.overlay_geometry.proofs.laws.integers.Products.{plus_le, pos_nonneg}

-- ---- a mean of two rational numbers

-- v / b is the mean by k w1 and l w2 of v1 / (w1 b) and v2 / (w2 b)
abbrev IsMean : ℕ → ℕ → ℕ → ℕ → ℤ → ℤ → ℤ → Type 0
IsMean k w1 l w2 v1 v2 v = pos k *ℤ v1 +ℤ pos l *ℤ v2 ≡ pos (k * w1 + l * w2) *ℤ v

-- the same mean of u1 / m1 and u2 / m2, times k w1 + l w2 and m1 and m2
abbrev mean_of : ℕ → ℕ → ℕ → ℕ → ℤ → ℕ → ℤ → ℕ → ℤ
mean_of k w1 l w2 u1 m1 u2 m2 = pos (k * w1 * m2) *ℤ u1 +ℤ pos (l * w2 * m1) *ℤ u2

mean_above : (v1 v2 u1 u2 : ℤ) (k l w1 w2 m1 m2 b : ℕ) →
    pos (k * m2) *ℤ (pos 2 *ℤ (v1 *ℤ pos m1 -ℤ u1 *ℤ pos (w1 * b))) +ℤ pos (l * m1) *ℤ (pos 2 *ℤ (v2 *ℤ pos m2 -ℤ u2 *ℤ pos (w2 * b)))
    ≡ pos 2 *ℤ ((pos k *ℤ v1 +ℤ pos l *ℤ v2) *ℤ pos (m1 * m2) -ℤ (pos (k * w1 * m2) *ℤ u1 +ℤ pos (l * w2 * m1) *ℤ u2) *ℤ pos b)
mean_above v1 v2 u1 u2 k l w1 w2 m1 m2 b = rw (as_D v1, as_D v2, as_D u1, as_D u2) (simp diffs (D-eq _ _ _ _ (omega arith)))

mean_under : (v1 v2 u1 u2 : ℤ) (k l w1 w2 m1 m2 b : ℕ) →
    pos (k * m2) *ℤ (pos 2 *ℤ (u1 *ℤ pos (w1 * b) -ℤ v1 *ℤ pos m1)) +ℤ pos (l * m1) *ℤ (pos 2 *ℤ (u2 *ℤ pos (w2 * b) -ℤ v2 *ℤ pos m2))
    ≡ pos 2 *ℤ ((pos (k * w1 * m2) *ℤ u1 +ℤ pos (l * w2 * m1) *ℤ u2) *ℤ pos b -ℤ (pos k *ℤ v1 +ℤ pos l *ℤ v2) *ℤ pos (m1 * m2))
mean_under v1 v2 u1 u2 k l w1 w2 m1 m2 b = rw (as_D v1, as_D v2, as_D u1, as_D u2) (simp diffs (D-eq _ _ _ _ (omega arith)))

regrouped : (v : ℤ) (n m : ℕ) → (pos n *ℤ v) *ℤ pos m ≡ v *ℤ pos (n * m)
regrouped v n m = rw (as_D v) (simp diffs (D-eq _ _ _ _ (omega arith)))

bounds_above : (h k l w1 w2 m1 m2 b : ℕ) → pos (k * m2) *ℤ pos (h * (w1 * b * m1)) +ℤ pos (l * m1) *ℤ pos (h * (w2 * b * m2)) ≡ pos (h * (b * ((k * w1 + l * w2) * (m1 * m2))))
bounds_above h k l w1 w2 m1 m2 b = omega (arith, ints)

bounds_under : (h k l w1 w2 m1 m2 b : ℕ) → pos (k * m2) *ℤ pos (h * (m1 * (w1 * b))) +ℤ pos (l * m1) *ℤ pos (h * (m2 * (w2 * b))) ≡ pos (h * ((k * w1 + l * w2) * (m1 * m2) * b))
bounds_under h k l w1 w2 m1 m2 b = omega (arith, ints)

-- what is close to two numbers at two others is close to their mean at that of the others
AreClose-means : (h : ℕ) (v1 v2 u1 u2 v : ℤ) (k l w1 w2 m1 m2 b : ℕ) → IsMean k w1 l w2 v1 v2 v → AreClose h v1 (w1 * b) u1 m1 → AreClose h v2 (w2 * b) u2 m2 →
    AreClose h v b (mean_of k w1 l w2 u1 m1 u2 m2) ((k * w1 + l * w2) * (m1 * m2))
AreClose-means h v1 v2 u1 u2 v k l w1 w2 m1 m2 b e c d = record {
  low =
      let sum = plus_le _ _ _ _ (mul-le_left (pos (k * m2)) _ _ (pos_nonneg (k * m2)) c.low) (mul-le_left (pos (l * m1)) _ _ (pos_nonneg (l * m1)) d.low) in
      subst (λ (z : ℤ). (pos 2 *ℤ (z -ℤ mean_of k w1 l w2 u1 m1 u2 m2 *ℤ pos b)) ≤ℤ pos (h * (b * ((k * w1 + l * w2) * (m1 * m2))))) there
      (rw (← mean_above v1 v2 u1 u2 k l w1 w2 m1 m2 b, ← bounds_above h k l w1 w2 m1 m2 b) sum);
  high =
      let sum = plus_le _ _ _ _ (mul-le_left (pos (k * m2)) _ _ (pos_nonneg (k * m2)) c.high) (mul-le_left (pos (l * m1)) _ _ (pos_nonneg (l * m1)) d.high) in
      subst (λ (z : ℤ). (pos 2 *ℤ (mean_of k w1 l w2 u1 m1 u2 m2 *ℤ pos b -ℤ z)) ≤ℤ pos (h * ((k * w1 + l * w2) * (m1 * m2) * b))) there
      (rw (← mean_under v1 v2 u1 u2 k l w1 w2 m1 m2 b, ← bounds_under h k l w1 w2 m1 m2 b) sum);
}
  where
    there : (pos k *ℤ v1 +ℤ pos l *ℤ v2) *ℤ pos (m1 * m2) ≡ v *ℤ pos ((k * w1 + l * w2) * (m1 * m2))
    there = ap (λ (z : ℤ). z *ℤ pos (m1 * m2)) e ∙ regrouped v (k * w1 + l * w2) (m1 * m2)

-- ---- a mean of two points of a pair

product_positive : (m n : ℕ) → 0 < m → 0 < n → 0 < m * n
product_positive zero n p q = absurd (omega arith)
product_positive (suc m) zero p q = absurd (omega arith)
product_positive (suc m) (suc n) p q = omega arith

part_of_mean : (e n n1 m1 n2 m2 : ℕ) → n1 ≤ m1 → n2 ≤ m2 → e * m2 * n1 + n * m1 * n2 ≤ (e + n) * (m1 * m2)
part_of_mean e n n1 m1 n2 m2 p q = with_rests e n n1 (m1 - n1) n2 (m2 - n2) m1 m2 (omega (arith, p)) (omega (arith, q))
  where
    with_rests : (e n n1 r1 n2 r2 m1 m2 : ℕ) → m1 ≡ n1 + r1 → m2 ≡ n2 + r2 → e * m2 * n1 + n * m1 * n2 ≤ (e + n) * (m1 * m2)
    with_rests e n n1 r1 n2 r2 m1 m2 p q = rw (p, q) (omega arith)

-- the mean of two fractions by e and n
unfoldable weighted : (e n : ℕ) → 0 < e + n → Fraction → Fraction → Fraction
weighted e n some f g = record {
  part = e * g.whole * f.part + n * f.whole * g.part;
  whole = (e + n) * (f.whole * g.whole);
  positive = product_positive (e + n) (f.whole * g.whole) some (product_positive f.whole g.whole f.positive g.positive);
  at_most_one = part_of_mean e n f.part f.whole g.part g.whole f.at_most_one g.at_most_one;
}

along_mean : (a b : ℤ) (e n n1 m1 n2 m2 : ℕ) →
    pos (e * m2) *ℤ (a *ℤ pos m1 +ℤ (b -ℤ a) *ℤ pos n1) +ℤ pos (n * m1) *ℤ (a *ℤ pos m2 +ℤ (b -ℤ a) *ℤ pos n2)
    ≡ a *ℤ pos ((e + n) * (m1 * m2)) +ℤ (b -ℤ a) *ℤ pos (e * m2 * n1 + n * m1 * n2)
along_mean a b e n n1 m1 n2 m2 = rw (as_D a, as_D b) (simp diffs (D-eq _ _ _ _ (omega arith)))

-- p is such a mean of q1 and q2 in x and in y; what they are near of s, the mean of that is near p
IsWithin-means : (h : ℕ) (p : RationalPoint) (x1 y1 x2 y2 : ℤ) (k l w1 w2 : ℕ) (s : Pair) (f g : Fraction) → (some : 0 < k * w1 + l * w2) →
    IsMean k w1 l w2 x1 x2 p.x → IsMean k w1 l w2 y1 y2 p.y →
    IsWithin h (record { x = x1; y = y1; bottom = w1 * p.bottom }) (point_along s f) → IsWithin h (record { x = x2; y = y2; bottom = w2 * p.bottom }) (point_along s g) →
    IsWithin h p (point_along s (weighted (k * w1) (l * w2) some f g))
unfolding weighted
IsWithin-means h p x1 y1 x2 y2 k l w1 w2 s f g some in_x in_y first second =
    let q1 : RationalPoint = record { x = x1; y = y1; bottom = w1 * p.bottom } in
    let q2 : RationalPoint = record { x = x2; y = y2; bottom = w2 * p.bottom } in
    let c = IsWithin-from h q1 (point_along s f) first in
    let d = IsWithin-from h q2 (point_along s g) second in
    let whole = (k * w1 + l * w2) * (f.whole * g.whole) in
    IsWithin-to h p (point_along s (weighted (k * w1) (l * w2) some f g)) (record {
      in_x = subst (λ (z : ℤ). AreClose h p.x p.bottom z whole) (along_mean s.a.x s.b.x (k * w1) (l * w2) f.part f.whole g.part g.whole)
          (AreClose-means h x1 x2 (point_along s f).x (point_along s g).x p.x k l w1 w2 f.whole g.whole p.bottom in_x c.in_x d.in_x);
      in_y = subst (λ (z : ℤ). AreClose h p.y p.bottom z whole) (along_mean s.a.y s.b.y (k * w1) (l * w2) f.part f.whole g.part g.whole)
          (AreClose-means h y1 y2 (point_along s f).y (point_along s g).y p.y k l w1 w2 f.whole g.whole p.bottom in_y c.in_y d.in_y);
    })

-- ---- where a pair meets the vertical line through a place

-- part / (wide * bottom) of the way along r
record Meeting (r : Pair) (p : RationalPoint) : Type 0 where
  wide : ℕ
  part : ℕ
  wide_is : pos wide ≡ width r
  part_is : pos part ≡ p.x -ℤ r.a.x *ℤ pos p.bottom
  some : 0 < wide
  positive : 0 < wide * p.bottom
  at_most : part ≤ wide * p.bottom

meeting : (r : Pair) (p : RationalPoint) → IsTrue (spans r p) → Meeting r p
meeting r p h =
    let parts = and_parts (int_le (r.a.x *ℤ pos p.bottom) p.x) (int_lt p.x (r.b.x *ℤ pos p.bottom)) h in
    let from = le-tested (r.a.x *ℤ pos p.bottom) p.x parts.0 in
    let to = lt-tested p.x (r.b.x *ℤ pos p.bottom) parts.1 in
    let wide = unsigned_abs (width r) in
    let part = unsigned_abs (p.x -ℤ r.a.x *ℤ pos p.bottom) in
    let less = to_the_right r.a.x r.b.x p.x p.bottom from to in
    let wide_is = width_of r.a.x r.b.x less in
    let part_is = part_of p.x (r.a.x *ℤ pos p.bottom) from in
    record {
      wide = wide;
      part = part;
      wide_is = wide_is;
      part_is = part_is;
      some = some_of r.a.x r.b.x less;
      positive = positive_of r.a.x r.b.x p.x p.bottom wide wide_is from to;
      at_most = at_most_of r.a.x r.b.x p.x p.bottom wide part wide_is part_is to;
    }
  where
    to_the_right : (a b x : ℤ) (d : ℕ) → (a *ℤ pos d) ≤ℤ x → x <ℤ (b *ℤ pos d) → a <ℤ b
    to_the_right a b x d l k = by_lt_z a b (λ (less : a <ℤ b). less) (λ (more : b ≤ℤ a). absurd (let back = mul-le_left (pos d) b a (pos_nonneg d) more in omega (arith, ints, back, l, k)))

    width_of : (a b : ℤ) → a <ℤ b → pos (unsigned_abs (b -ℤ a)) ≡ b -ℤ a
    width_of a b l = omega (arith, ints, l)

    some_of : (a b : ℤ) → a <ℤ b → 0 < unsigned_abs (b -ℤ a)
    some_of a b l = omega (arith, ints, l)

    part_of : (x y : ℤ) → y ≤ℤ x → pos (unsigned_abs (x -ℤ y)) ≡ x -ℤ y
    part_of x y l = omega (arith, ints, l)

    spread : (a b : ℤ) (d w : ℕ) → pos w ≡ b -ℤ a → pos (w * d) ≡ b *ℤ pos d -ℤ a *ℤ pos d
    spread a b d w e = product w d ∙ ap (λ (z : ℤ). z *ℤ pos d) e ∙ apart a b d
      where
        product : (w d : ℕ) → pos (w * d) ≡ pos w *ℤ pos d
        product w d = omega (arith, ints)

        apart : (a b : ℤ) (d : ℕ) → (b -ℤ a) *ℤ pos d ≡ b *ℤ pos d -ℤ a *ℤ pos d
        apart a b d = rw (as_D a, as_D b) (simp diffs (D-eq _ _ _ _ (omega arith)))

    positive_of : (a b x : ℤ) (d w : ℕ) → pos w ≡ b -ℤ a → (a *ℤ pos d) ≤ℤ x → x <ℤ (b *ℤ pos d) → 0 < w * d
    positive_of a b x d w e l k = let s = spread a b d w e in omega (arith, ints, s, l, k)

    at_most_of : (a b x : ℤ) (d w i : ℕ) → pos w ≡ b -ℤ a → pos i ≡ x -ℤ a *ℤ pos d → x <ℤ (b *ℤ pos d) → i ≤ w * d
    at_most_of a b x d w i e f k = let s = spread a b d w e in omega (arith, ints, s, f, k)

abbrev at_meeting : (r : Pair) (p : RationalPoint) → Meeting r p → Fraction
at_meeting r p m = record { part = m.part; whole = m.wide * p.bottom; positive = m.positive; at_most_one = m.at_most }

-- the point of r there has the x of p
meeting_x : (r : Pair) (p : RationalPoint) (m : Meeting r p) → (point_along r (at_meeting r p m)).x ≡ pos m.wide *ℤ p.x
meeting_x r p m = ap₂ (λ (u v : ℤ). r.a.x *ℤ pos (m.wide * p.bottom) +ℤ u *ℤ v) (sym m.wide_is) m.part_is ∙ plain r.a.x p.x m.wide p.bottom
  where
    plain : (a x : ℤ) (w d : ℕ) → a *ℤ pos (w * d) +ℤ pos w *ℤ (x -ℤ a *ℤ pos d) ≡ pos w *ℤ x
    plain a x w d = rw (as_D a, as_D x) (simp diffs (D-eq _ _ _ _ (omega arith)))

-- and the height of r
meeting_y : (r : Pair) (p : RationalPoint) (m : Meeting r p) → (point_along r (at_meeting r p m)).y ≡ height_at r p
meeting_y r p m = ap₂ (λ (u v : ℤ). r.a.y *ℤ u +ℤ (r.b.y -ℤ r.a.y) *ℤ v) (product m.wide p.bottom ∙ ap (λ (z : ℤ). z *ℤ pos p.bottom) m.wide_is) m.part_is
  where
    product : (w d : ℕ) → pos (w * d) ≡ pos w *ℤ pos d
    product w d = omega (arith, ints)

-- ---- a place between two pairs

-- r runs below p and t does not, on the line through p: so p is a mean of points of the two
between : (h : ℕ) (p : RationalPoint) (s r t : Pair) → Meeting r p → Meeting t p → (height_at r p) <ℤ (p.y *ℤ width r) → (p.y *ℤ width t) ≤ℤ (height_at t p) → LiesNear h r s → LiesNear h t s → IsNear h p s
between h p s r t m n under over near_r near_t =
    let f = at_meeting r p m in
    let g = at_meeting t p n in
    let first = near_r f in
    let second = near_t g in
    let l = unsigned_abs (p.y *ℤ width r -ℤ height_at r p) in
    let k = unsigned_abs (height_at t p -ℤ p.y *ℤ width t) in
    let some = weights_some l k m.wide n.wide n.some (left_under (p.y *ℤ width r) (height_at r p) under) in (
      weighted (k * m.wide) (l * n.wide) some first.0 second.0,
      IsWithin-means h p (point_along r f).x (point_along r f).y (point_along t g).x (point_along t g).y k l m.wide n.wide s first.0 second.0 some
          (mean_x p.x k l m.wide n.wide _ _ (meeting_x r p m) (meeting_x t p n))
          (mean_y p.y k l m.wide n.wide _ _ (width r) (width t) (height_at r p) (height_at t p) (meeting_y r p m) (meeting_y t p n) m.wide_is n.wide_is (gap_under (p.y *ℤ width r) (height_at r p) under) (gap_over (p.y *ℤ width t) (height_at t p) over))
          first.1 second.1,
    )
  where
    left_under : (u v : ℤ) → v <ℤ u → 0 < unsigned_abs (u -ℤ v)
    left_under u v l = omega (arith, ints, l)

    gap_under : (u v : ℤ) → v <ℤ u → pos (unsigned_abs (u -ℤ v)) ≡ u -ℤ v
    gap_under u v l = omega (arith, ints, l)

    gap_over : (u v : ℤ) → u ≤ℤ v → pos (unsigned_abs (v -ℤ u)) ≡ v -ℤ u
    gap_over u v l = omega (arith, ints, l)

    weights_some : (l k w1 w2 : ℕ) → 0 < w2 → 0 < l → 0 < k * w1 + l * w2
    weights_some l k w1 w2 p q = let some = product_positive l w2 q p in omega (arith, some)

    mean_x : (x : ℤ) (k l w1 w2 : ℕ) (x1 x2 : ℤ) → x1 ≡ pos w1 *ℤ x → x2 ≡ pos w2 *ℤ x → IsMean k w1 l w2 x1 x2 x
    mean_x x k l w1 w2 x1 x2 e f = rw (e, f) (plain x k l w1 w2)
      where
        plain : (x : ℤ) (k l w1 w2 : ℕ) → pos k *ℤ (pos w1 *ℤ x) +ℤ pos l *ℤ (pos w2 *ℤ x) ≡ pos (k * w1 + l * w2) *ℤ x
        plain x k l w1 w2 = rw (as_D x) (simp diffs (D-eq _ _ _ _ (omega arith)))

    mean_y : (y : ℤ) (k l w1 w2 : ℕ) (y1 y2 m1 m2 h1 h2 : ℤ) → y1 ≡ h1 → y2 ≡ h2 → pos w1 ≡ m1 → pos w2 ≡ m2 → pos l ≡ y *ℤ m1 -ℤ h1 → pos k ≡ h2 -ℤ y *ℤ m2 → IsMean k w1 l w2 y1 y2 y
    mean_y y k l w1 w2 y1 y2 m1 m2 h1 h2 e f u v under over = rw (e ∙ below h1 (y *ℤ m1) (pos l) under, f ∙ above h2 (y *ℤ m2) (pos k) over, ← u, ← v) (plain y k l w1 w2)
      where
        below : (h u l : ℤ) → l ≡ u -ℤ h → h ≡ u -ℤ l
        below h u l e = omega (arith, ints, e)

        above : (h u k : ℤ) → k ≡ h -ℤ u → h ≡ u +ℤ k
        above h u k e = omega (arith, ints, e)

        plain : (y : ℤ) (k l w1 w2 : ℕ) → pos k *ℤ (y *ℤ pos w1 -ℤ pos l) +ℤ pos l *ℤ (y *ℤ pos w2 +ℤ pos k) ≡ pos (k * w1 + l * w2) *ℤ y
        plain y k l w1 w2 = in_numbers y (pos k) (pos l) (pos w1) (pos w2) ∙ ap (λ (z : ℤ). z *ℤ y) (together k l w1 w2)
          where
            in_numbers : (y k l u v : ℤ) → k *ℤ (y *ℤ u -ℤ l) +ℤ l *ℤ (y *ℤ v +ℤ k) ≡ (k *ℤ u +ℤ l *ℤ v) *ℤ y
            in_numbers y k l u v = rw (as_D y, as_D k, as_D l, as_D u, as_D v) (simp diffs (D-eq _ _ _ _ (omega arith)))

            together : (k l w1 w2 : ℕ) → pos k *ℤ pos w1 +ℤ pos l *ℤ pos w2 ≡ pos (k * w1 + l * w2)
            together k l w1 w2 = omega (arith, ints)

-- where r lies below p, and both lie nearer to s than p, t runs below p too if it meets the line
pub one_side : (h : ℕ) (p : RationalPoint) (s r t : Pair) → (IsNear h p s → ⊥) → LiesNear h r s → LiesNear h t s → IsTrue (lies_below r p) → IsTrue (spans t p) → IsTrue (runs_below t p)
one_side h p s r t far near_r near_t below met =
    elim (cases_Bool (runs_below t p)) [
      | inl under ↦ under
      | inr over ↦
          let parts = and_parts (spans r p) (runs_below r p) below in
          absurd (far (between h p s r t (meeting r p parts.0) (meeting t p met) (lt-tested (height_at r p) (p.y *ℤ width r) parts.1) (lt-tested_false (height_at t p) (p.y *ℤ width t) over) near_r near_t))
    ]
