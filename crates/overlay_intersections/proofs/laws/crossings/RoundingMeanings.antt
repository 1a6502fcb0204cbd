-- The three roundings are what is meant by them, and nothing else is.
use Rattle.std.proofs.Common.{◌≡◌, ap, ◌∙◌, arith, ℕ, suc, ◌+◌, ◌*◌, ◌/◌, ◌<◌, ◌≤◌}
use Rattle.std.specs.Prelude.{ℤ, pos, negsuc, ◌+ℤ◌, ◌-ℤ◌, ◌*ℤ◌, ◌≤ℤ◌, ◌<ℤ◌, neg_ℤ, unsigned_abs}
use Rattle.std.proofs.lemmas.Int.{ints, by_lt_z}
use Rattle.std.proofs.Math.Nat.{div-mul-le_self, lt-div-mul-add}
use Rattle.overlay_geometry.proofs.laws.geometry.Polynomials.{as_D, diffs, D-eq, mul-nonneg, mul-le_left, mul-neg_right}
use Rattle.overlay_intersections.specs.Crossing.{Quotient, truncated, nearest, nearest_upward}
use Rattle.overlay_intersections.specs.Laws.{IsNearest, IsTruncated, IsFloorOfHalfMore, IsRoundedAs, RoundingsAreAsMeant, distance_from}
use Rattle.overlay_intersections.proofs.laws.crossings.Crossings.{abs_neg}
use Rattle.overlay_intersections.proofs.laws.crossings.Rounding.{over, IsRoundedUp-unique, nearest_upward-is, nearest_of_pos, nearest_of_negsuc}

-- ---- truncated

truncated_pos : (a b : ℕ) → 0 < b → IsTruncated (over (pos a) b) (pos (a / b))
truncated_pos a b p =
    let low = div-mul-le_self a b in
    let high = lt-div-mul-add {a = a} p in
    record { near = omega (arith, ints, low, high); toward_zero = omega (arith, ints, low) }

-- both signs alike
neg_difference : (t b r : ℤ) → neg_ℤ t -ℤ b *ℤ neg_ℤ r ≡ neg_ℤ (t -ℤ b *ℤ r)
neg_difference t b r = rw (as_D t, as_D b, as_D r) (simp diffs (D-eq _ _ _ _ (omega arith)))

neg_distance : (t r : ℤ) (b : ℕ) → distance_from (over (neg_ℤ t) b) (neg_ℤ r) ≡ distance_from (over t b) r
neg_distance t r b = ap unsigned_abs (neg_difference t (pos b) r) ∙ abs_neg (t -ℤ pos b *ℤ r)

neg_size : (r : ℤ) (b : ℕ) → unsigned_abs (pos b *ℤ neg_ℤ r) ≡ unsigned_abs (pos b *ℤ r)
neg_size r b = ap unsigned_abs (mul-neg_right (pos b) r) ∙ abs_neg (pos b *ℤ r)

truncated_back : (t r : ℤ) (b : ℕ) → IsTruncated (over t b) r → IsTruncated (over (neg_ℤ t) b) (neg_ℤ r)
truncated_back t r b k =
    let e = neg_distance t r b in
    let f = neg_size r b in
    let g = abs_neg t in
    record { near = omega (arith, k.near, e); toward_zero = omega (arith, k.toward_zero, f, g) }

nearest_back : (t r : ℤ) (b : ℕ) → IsNearest (over t b) r → IsNearest (over (neg_ℤ t) b) (neg_ℤ r)
nearest_back t r b k =
    let e = neg_distance t r b in
    let f = neg_size r b in
    let g = abs_neg t in
    record { near = omega (arith, k.near, e); half_away = λ h. let m = k.half_away (omega (arith, h, e)) in omega (arith, m, f, g) }

truncated_so : (t : ℤ) (b : ℕ) → 0 < b → IsTruncated (over t b) (truncated (over t b))
unfolding truncated
truncated_so (pos a) b p = truncated_pos a b p
truncated_so (negsuc a) b p = truncated_back (pos (suc a)) (pos (suc a / b)) b (truncated_pos (suc a) b p)

-- ---- nearest

nearest_pos : (a b : ℕ) → 0 < b → IsNearest (over (pos a) b) (pos ((2 * a + b) / (2 * b)))
nearest_pos a b p =
    let low = div-mul-le_self (2 * a + b) (2 * b) in
    let high = lt-div-mul-add {a = 2 * a + b} {b = 2 * b} (omega arith) in
    record { near = plain_near a b _ low high; half_away = plain_half a b _ p low high }
  where
    plain_near : (a b k : ℕ) → k * (2 * b) ≤ 2 * a + b → 2 * a + b < k * (2 * b) + 2 * b → 2 * unsigned_abs (pos a -ℤ pos b *ℤ pos k) ≤ b
    plain_near a b k h l = omega (arith, ints, h, l)

    plain_half : (a b k : ℕ) → 0 < b → k * (2 * b) ≤ 2 * a + b → 2 * a + b < k * (2 * b) + 2 * b → 2 * unsigned_abs (pos a -ℤ pos b *ℤ pos k) ≡ b → a < unsigned_abs (pos b *ℤ pos k)
    plain_half a b k p h l e = omega (arith, ints, h, l, e)

nearest_so : (t : ℤ) (b : ℕ) → 0 < b → IsNearest (over t b) (nearest (over t b))
nearest_so (pos a) b p = rw (nearest_of_pos a b p) (nearest_pos a b p)
nearest_so (negsuc a) b p = rw (nearest_of_negsuc a b) (nearest_back (pos (suc a)) _ b (nearest_pos (suc a) b p))

-- ---- nothing else

scaled : (b r s : ℤ) → b *ℤ s ≡ b *ℤ r +ℤ b *ℤ (s -ℤ r)
scaled b r s = rw (as_D b, as_D r, as_D s) (simp diffs (D-eq _ _ _ _ (omega arith)))

times_one : (b : ℤ) → b *ℤ pos 1 ≡ b
times_one b = omega (arith, ints)

-- a greater number is farther by the bottom at least
step_of : (b r s : ℤ) → pos 0 <ℤ b → r <ℤ s → (b *ℤ r +ℤ b) ≤ℤ (b *ℤ s)
step_of b r s p h =
    let m = mul-le_left b (pos 1) (s -ℤ r) (omega (arith, ints)) (omega (arith, ints)) in
    let n = rw (times_one b) at m in
    omega (arith, ints, scaled b r s, n)

truncated_alone : (t r s : ℤ) (b : ℕ) → 0 < b → IsTruncated (over t b) r → IsTruncated (over t b) s → r <ℤ s → ⊥
truncated_alone t r s b p k l h =
    let m = step_of (pos b) r s (omega (arith, ints)) h in
    plain t (pos b *ℤ r) (pos b *ℤ s) b k.near k.toward_zero l.near l.toward_zero m
  where
    plain : (t u v : ℤ) (b : ℕ) → unsigned_abs (t -ℤ u) < b → unsigned_abs u ≤ unsigned_abs t → unsigned_abs (t -ℤ v) < b → unsigned_abs v ≤ unsigned_abs t → (u +ℤ pos b) ≤ℤ v → ⊥
    plain t u v b h k l m n = omega (arith, ints, h, k, l, m, n)

nearest_alone : (t r s : ℤ) (b : ℕ) → 0 < b → IsNearest (over t b) r → IsNearest (over t b) s → r <ℤ s → ⊥
nearest_alone t r s b p k l h =
    let positive : pos 0 <ℤ pos b = omega (arith, ints) in
    let m = step_of (pos b) r s positive h in
    by_lt_z r (pos 0)
    (λ (down : r <ℤ pos 0).
    let u = step_of (pos b) r (pos 0) positive down in
    below t (pos b *ℤ r) (pos b *ℤ s) b p k.near l.near l.half_away m (omega (arith, ints, u)))
    (λ (up : pos 0 ≤ℤ r).
    let u = mul-nonneg (pos b) r (omega (arith, ints)) up in
    above t (pos b *ℤ r) (pos b *ℤ s) b p k.near l.near k.half_away m u)
  where
    -- with v at most 0, t lies farther from 0 than v
    below : (t u v : ℤ) (b : ℕ) → 0 < b → 2 * unsigned_abs (t -ℤ u) ≤ b → 2 * unsigned_abs (t -ℤ v) ≤ b → (2 * unsigned_abs (t -ℤ v) ≡ b → unsigned_abs t < unsigned_abs v) → (u +ℤ pos b) ≤ℤ v → (u +ℤ pos b) ≤ℤ pos 0 → ⊥
    below t u v b p h k away m n =
        let half : 2 * unsigned_abs (t -ℤ v) ≡ b = omega (arith, ints, h, k, m) in
        let far = away half in
        omega (arith, ints, h, k, m, n, p, half, far)

    above : (t u v : ℤ) (b : ℕ) → 0 < b → 2 * unsigned_abs (t -ℤ u) ≤ b → 2 * unsigned_abs (t -ℤ v) ≤ b → (2 * unsigned_abs (t -ℤ u) ≡ b → unsigned_abs t < unsigned_abs u) → (u +ℤ pos b) ≤ℤ v → pos 0 ≤ℤ u → ⊥
    above t u v b p h k away m n =
        let half : 2 * unsigned_abs (t -ℤ u) ≡ b = omega (arith, ints, h, k, m) in
        let far = away half in
        omega (arith, ints, h, k, m, n, p, half, far)

one_of : (r s : ℤ) → (r <ℤ s → ⊥) → (s <ℤ r → ⊥) → r ≡ s
one_of r s f g = by_lt_z r s (λ h. absurd (f h)) (λ (m : s ≤ℤ r). by_lt_z s r (λ h. absurd (g h)) (λ (n : r ≤ℤ s). omega (arith, ints)))

pub nearest_is_meant : (q : Quotient) → 0 < q.bottom → IsRoundedAs q (nearest q) IsNearest
nearest_is_meant q p =
    let so = nearest_so q.top q.bottom p in
    record { is_so = so; alone = λ r k. one_of r (nearest q) (nearest_alone q.top r (nearest q) q.bottom p k so) (nearest_alone q.top (nearest q) r q.bottom p so k) }

pub truncated_is_meant : (q : Quotient) → 0 < q.bottom → IsRoundedAs q (truncated q) IsTruncated
truncated_is_meant q p =
    let so = truncated_so q.top q.bottom p in
    record { is_so = so; alone = λ r k. one_of r (truncated q) (truncated_alone q.top r (truncated q) q.bottom p k so) (truncated_alone q.top (truncated q) r q.bottom p so k) }

pub nearest_upward_is_meant : (q : Quotient) → 0 < q.bottom → IsRoundedAs q (nearest_upward q) IsFloorOfHalfMore
nearest_upward_is_meant q p =
    let so = nearest_upward-is q.top q.bottom p in
    record {
      is_so = record { low = so.low; high = so.high };
      alone = λ r k. IsRoundedUp-unique q.top q.bottom r (nearest_upward q) p (record { low = k.low; high = k.high }) so;
    }

pub roundings_are_as_meant : RoundingsAreAsMeant
roundings_are_as_meant q p = (nearest_is_meant q p, truncated_is_meant q p, nearest_upward_is_meant q p)
