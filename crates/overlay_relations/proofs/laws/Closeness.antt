-- Points nearer to a point than one n-th of a unit, in x and in y: from one on to the next, a short way off, and toward the middle of a
-- segment.
use Rattle.std.proofs.Common.{◌≡◌, ap, arith, ℕ, suc, zero, ◌+◌, ◌*◌, ◌<◌, ◌≤◌}
use Rattle.std.specs.Prelude.{ℤ, pos, negsuc, ◌+ℤ◌, ◌-ℤ◌, ◌*ℤ◌, unsigned_abs}
use Rattle.std.proofs.lemmas.Int.{ints, unsigned_abs-mul}
use Rattle.std.proofs.Math.Nat.{mul-lt-mul_of_pos_left, mul-le-mul_left, lt_of_mul-lt-mul_left}
use Rattle.overlay_geometry.specs.Points.{Point}
use Rattle.overlay_geometry.proofs.laws.geometry.Polynomials.{as_D, diffs, D-eq}
use Rattle.overlay_geometry.proofs.laws.integers.Products.{minus_itself}
use Rattle.overlay_base.specs.Places.{RationalPoint}
use Rattle.overlay_relations.specs.Contacts.{IsCloser}
use Rattle.overlay_relations.proofs.laws.NearPlaces.{near, at_bottom}

-- ---- numbers

pub abs_sum : (x y : ℤ) → unsigned_abs (x +ℤ y) ≤ unsigned_abs x + unsigned_abs y
abs_sum (pos a) (pos b) = omega (arith, ints)
abs_sum (pos a) (negsuc b) = omega (arith, ints)
abs_sum (negsuc a) (pos b) = omega (arith, ints)
abs_sum (negsuc a) (negsuc b) = omega (arith, ints)

pub abs_product : (a : ℕ) (z : ℤ) → unsigned_abs (pos a *ℤ z) ≡ a * unsigned_abs z
abs_product a z = unsigned_abs-mul (pos a) z

pub abs_times : (z : ℤ) (a : ℕ) → unsigned_abs (z *ℤ pos a) ≡ unsigned_abs z * a
abs_times z a = unsigned_abs-mul z (pos a)

pub some_product : (m n : ℕ) → 0 < m → 0 < n → 0 < m * n
some_product zero n h l = absurd (omega (arith, h))
some_product (suc m) zero h l = absurd (omega (arith, l))
some_product (suc m) (suc n) h l = omega arith

-- ---- a point is as near to itself as is wanted

no_gap : (n : ℕ) (z : ℤ) (d : ℕ) → 0 < d → z ≡ pos 0 → n * unsigned_abs z < d * d
no_gap n z d some e = let square = some_product d d some some in let none : unsigned_abs z ≡ 0 = ap unsigned_abs e in rw none (omega (arith, square))

pub close_itself : (n : ℕ) (p : RationalPoint) → 0 < p.bottom → IsCloser n p p
close_itself n p some = record {
  in_x = no_gap n _ p.bottom some (minus_itself (p.x *ℤ pos p.bottom));
  in_y = no_gap n _ p.bottom some (minus_itself (p.y *ℤ pos p.bottom));
}

-- ---- from one to the next

gaps_add : (n d e f a b c : ℕ) → 0 < d → 0 < e → 0 < f → e * c ≤ d * a + f * b → (2 * n) * b < d * e → (2 * n) * a < e * f → n * c < d * f
gaps_add n d e f a b c hd he hf sum lb la =
    let p = mul-lt-mul_of_pos_left la hd in
    let q = mul-lt-mul_of_pos_left lb hf in
    let r = mul-le-mul_left (2 * n) sum in
    lt_of_mul-lt-mul_left (2 * e) (plain n d e f a b c p q r)
  where
    plain : (n d e f a b c : ℕ) → d * ((2 * n) * a) < d * (e * f) → f * ((2 * n) * b) < f * (d * e) → (2 * n) * (e * c) ≤ (2 * n) * (d * a + f * b) → (2 * e) * (n * c) < (2 * e) * (d * f)
    plain n d e f a b c p q r = omega (arith, p, q, r)

gap_sum : (u v w : ℤ) (d e f : ℕ) → e * unsigned_abs (w *ℤ pos d -ℤ u *ℤ pos f) ≤ d * unsigned_abs (w *ℤ pos e -ℤ v *ℤ pos f) + f * unsigned_abs (v *ℤ pos d -ℤ u *ℤ pos e)
gap_sum u v w d e f =
    sizes e d f (w *ℤ pos d -ℤ u *ℤ pos f) (w *ℤ pos e -ℤ v *ℤ pos f) (v *ℤ pos d -ℤ u *ℤ pos e) (parts u v w (pos d) (pos e) (pos f))
  where
    parts : (u v w d e f : ℤ) → e *ℤ (w *ℤ d -ℤ u *ℤ f) ≡ d *ℤ (w *ℤ e -ℤ v *ℤ f) +ℤ f *ℤ (v *ℤ d -ℤ u *ℤ e)
    parts u v w d e f = rw (as_D u, as_D v, as_D w, as_D d, as_D e, as_D f) (simp diffs (D-eq _ _ _ _ (omega arith)))

    sizes : (e d f : ℕ) (c a b : ℤ) → pos e *ℤ c ≡ pos d *ℤ a +ℤ pos f *ℤ b → e * unsigned_abs c ≤ d * unsigned_abs a + f * unsigned_abs b
    sizes e d f c a b h =
        let whole : unsigned_abs (pos e *ℤ c) ≡ unsigned_abs (pos d *ℤ a +ℤ pos f *ℤ b) = ap unsigned_abs h in
        let sum = abs_sum (pos d *ℤ a) (pos f *ℤ b) in
        plain _ _ _ _ _ _ _ whole (abs_product e c) (abs_product d a) (abs_product f b) sum
      where
        plain : (c' s c'' a' b' a'' b'' : ℕ) → c' ≡ s → c' ≡ c'' → a' ≡ a'' → b' ≡ b'' → s ≤ a' + b' → c'' ≤ a'' + b''
        plain c' s c'' a' b' a'' b'' h i j k l = omega (arith, h, i, j, k, l)

through : (n : ℕ) (u v w : ℤ) (d e f : ℕ) → 0 < d → 0 < e → 0 < f → (2 * n) * unsigned_abs (v *ℤ pos d -ℤ u *ℤ pos e) < d * e → (2 * n) * unsigned_abs (w *ℤ pos e -ℤ v *ℤ pos f) < e * f
    → n * unsigned_abs (w *ℤ pos d -ℤ u *ℤ pos f) < d * f
through n u v w d e f hd he hf h k =
    gaps_add n d e f (unsigned_abs (w *ℤ pos e -ℤ v *ℤ pos f)) (unsigned_abs (v *ℤ pos d -ℤ u *ℤ pos e)) (unsigned_abs (w *ℤ pos d -ℤ u *ℤ pos f)) hd he hf (gap_sum u v w d e f) h k

pub close_through : (n : ℕ) (p q r : RationalPoint) → 0 < p.bottom → 0 < q.bottom → 0 < r.bottom → IsCloser (2 * n) p q → IsCloser (2 * n) q r → IsCloser n p r
close_through n p q r hp hq hr h k = record {
  in_x = through n p.x q.x r.x p.bottom q.bottom r.bottom hp hq hr h.in_x k.in_x;
  in_y = through n p.y q.y r.y p.bottom q.bottom r.bottom hp hq hr h.in_y k.in_y;
}

-- what is near is less near as well
less_near : (m n a b : ℕ) → m ≤ n → n * a < b → m * a < b
less_near m n a b h l = let more = mul-le-mul_left a h in omega (arith, more, l)

pub close_weaker : (m n : ℕ) (p q : RationalPoint) → m ≤ n → IsCloser n p q → IsCloser m p q
close_weaker m n p q h c = record {
  in_x = less_near m n _ _ h c.in_x;
  in_y = less_near m n _ _ h c.in_y;
}

-- ---- a short part of a way

step_gap : (n : ℕ) (u e : ℤ) (m d : ℕ) → 0 < d → n * unsigned_abs e < m → n * unsigned_abs ((pos m *ℤ u +ℤ e) *ℤ pos d -ℤ u *ℤ pos (m * d)) < d * (m * d)
step_gap n u e m d some h =
    let gap = gap_is u e (pos m) (pos d) _ (at_bottom u m d) in
    rw (gap, abs_times e d) (plain n (unsigned_abs e) m d some h)
  where
    gap_is : (u e m d b : ℤ) → b ≡ m *ℤ (u *ℤ d) → (m *ℤ u +ℤ e) *ℤ d -ℤ b ≡ e *ℤ d
    gap_is u e m d b h = rw h (rw (as_D u, as_D e, as_D m, as_D d) (simp diffs (D-eq _ _ _ _ (omega arith))))

    plain : (n a m d : ℕ) → 0 < d → n * a < m → n * (a * d) < d * (m * d)
    plain n a m zero some h = absurd (omega (arith, some))
    plain n a m (suc d) some h =
        let p = mul-lt-mul_of_pos_left h some in
        let q = mul-le-mul_left (suc d) (longer m d) in
        last n a m d p q
      where
        longer : (m d : ℕ) → m ≤ m * suc d
        longer m d = omega arith

        last : (n a m d : ℕ) → suc d * (n * a) < suc d * m → suc d * m ≤ suc d * (m * suc d) → n * (a * suc d) < suc d * (m * suc d)
        last n a m d p q = omega (arith, p, q)

pub near_close : (n : ℕ) (p : RationalPoint) (v : Point) (m : ℕ) → 0 < p.bottom → n * unsigned_abs v.x < m → n * unsigned_abs v.y < m → IsCloser n p (near p v m)
near_close n p v m some h k = record {
  in_x = step_gap n p.x v.x m p.bottom some h;
  in_y = step_gap n p.y v.y m p.bottom some k;
}
