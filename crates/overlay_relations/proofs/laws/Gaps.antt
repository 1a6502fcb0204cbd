-- Two boxes that share no point are a unit apart, so no point is nearer than half a unit to points of both.
use Rattle.std.proofs.Common.{◌≡◌, refl, ap, ◌∙◌, arith, ℕ, ◌*◌, ◌<◌}
use Rattle.std.specs.Prelude.{ℤ, pos, ◌+ℤ◌, ◌-ℤ◌, ◌*ℤ◌, ◌≤ℤ◌, ◌<ℤ◌, unsigned_abs}
use Rattle.std.proofs.lemmas.Int.{ints}
use Rattle.overlay_geometry.proofs.laws.geometry.Polynomials.{as_D, diffs, D-eq, cancel-lt, mul-le_left}
use Rattle.overlay_geometry.proofs.laws.integers.Products.{scaled_le}

-- twice a difference that is nearer to 0 than half of a product
twice_less : (z : ℤ) (m : ℕ) → 2 * unsigned_abs z < m → ((z +ℤ z) <ℤ pos m) × (pos 0 <ℤ (pos m +ℤ (z +ℤ z)))
twice_less z m h = (omega (arith, ints, h), omega (arith, ints, h))

product : (d b : ℕ) → pos (d * b) ≡ pos d *ℤ pos b
product d b = refl

doubled : (m b d : ℤ) → b *ℤ ((m +ℤ m) *ℤ d) ≡ d *ℤ (m *ℤ b) +ℤ d *ℤ (m *ℤ b)
doubled m b d = rw (as_D m, as_D b, as_D d) (simp diffs (D-eq _ _ _ _ (omega arith)))

with_more : (y b d : ℤ) → b *ℤ ((y +ℤ y) +ℤ d) ≡ (b *ℤ y +ℤ b *ℤ y) +ℤ d *ℤ b
with_more y b d = rw (as_D y, as_D b, as_D d) (simp diffs (D-eq _ _ _ _ (omega arith)))

only_twice : (y b : ℤ) → b *ℤ (y +ℤ y) ≡ b *ℤ y +ℤ b *ℤ y
only_twice y b = rw (as_D y, as_D b) (simp diffs (D-eq _ _ _ _ (omega arith)))

doubled_more : (m b d : ℤ) → b *ℤ ((m +ℤ m) *ℤ d +ℤ d) ≡ (d *ℤ (m *ℤ b) +ℤ d *ℤ (m *ℤ b)) +ℤ d *ℤ b
doubled_more m b d = rw (as_D m, as_D b, as_D d) (simp diffs (D-eq _ _ _ _ (omega arith)))

swapped : (x y d b : ℤ) → x *ℤ d -ℤ y *ℤ b ≡ d *ℤ x -ℤ b *ℤ y
swapped x y d b = rw (as_D x, as_D y, as_D d, as_D b) (simp diffs (D-eq _ _ _ _ (omega arith)))

module _ (m x y : ℤ) (b d : ℕ) (some : 0 < b) (near : 2 * unsigned_abs (x *ℤ pos d -ℤ y *ℤ pos b) < d * b) where
  -- near to a place at m or beyond is none that is half a unit before it
  low_bound : (m *ℤ pos b) ≤ℤ x → ((m +ℤ m) *ℤ pos d) <ℤ ((y +ℤ y) +ℤ pos d)
  low_bound h =
      cancel-lt (pos b) _ _ (omega (arith, ints, some))
      (plain _ _ _ _ _ _ _ _ (doubled m (pos b) (pos d)) (with_more y (pos b) (pos d)) (mul-le_left (pos d) (m *ℤ pos b) x (omega (arith, ints)) h) (twice_less (x *ℤ pos d -ℤ y *ℤ pos b) (d * b) near).0 (product d b) (swapped x y (pos d) (pos b)))
    where
      plain : (l r low twice high z e f : ℤ) → l ≡ low +ℤ low → r ≡ (twice +ℤ twice) +ℤ e → low ≤ℤ high → (z +ℤ z) <ℤ f → f ≡ e → z ≡ high -ℤ twice → l <ℤ r
      plain l r low twice high z e f h k o n q s = omega (arith, ints, h, k, o, n, q, s)

  -- near to a place at m or before it is none that is half a unit beyond
  high_bound : x ≤ℤ (m *ℤ pos b) → (y +ℤ y) <ℤ ((m +ℤ m) *ℤ pos d +ℤ pos d)
  high_bound h =
      cancel-lt (pos b) _ _ (omega (arith, ints, some))
      (plain _ _ _ _ _ _ _ _ (only_twice y (pos b)) (doubled_more m (pos b) (pos d)) (mul-le_left (pos d) x (m *ℤ pos b) (omega (arith, ints)) h) (twice_less (x *ℤ pos d -ℤ y *ℤ pos b) (d * b) near).1 (product d b) (swapped x y (pos d) (pos b)))
    where
      plain : (l r low twice high z e f : ℤ) → l ≡ twice +ℤ twice → r ≡ (low +ℤ low) +ℤ e → high ≤ℤ low → pos 0 <ℤ (f +ℤ (z +ℤ z)) → f ≡ e → z ≡ high -ℤ twice → l <ℤ r
      plain l r low twice high z e f h k o n q s = omega (arith, ints, h, k, o, n, q, s)

-- no point is near to one at k or before it, and to one at m or beyond, where k is less than m
pub none_between : (k m x w y : ℤ) (b c d : ℕ) → 0 < b → 0 < c → k <ℤ m → x ≤ℤ (k *ℤ pos b) → (m *ℤ pos c) ≤ℤ w → 2 * unsigned_abs (x *ℤ pos d -ℤ y *ℤ pos b) < d * b → 2 * unsigned_abs (w *ℤ pos d -ℤ y *ℤ pos c) < d * c → ⊥
none_between k m x w y b c d hb hc less hx hw nx nw =
    plain _ _ _ _ _ _ _ (high_bound k x y b d hb nx hx) (low_bound m w y c d hc nw hw) (scaled_le (k +ℤ pos 1) m d (next k m less)) (spread k (pos d)) (two k (pos d)) (two m (pos d))
  where
    next : (k m : ℤ) → k <ℤ m → (k +ℤ pos 1) ≤ℤ m
    next k m h = omega (arith, ints, h)

    spread : (k d : ℤ) → (k +ℤ pos 1) *ℤ d ≡ k *ℤ d +ℤ d
    spread k d = as_one k d (pos 1) (omega (arith, ints))
      where
        as_one : (k d e : ℤ) → e *ℤ d ≡ d → (k +ℤ e) *ℤ d ≡ k *ℤ d +ℤ d
        as_one k d e h = sum k d e ∙ ap (λ (z : ℤ). k *ℤ d +ℤ z) h
          where
            sum : (k d e : ℤ) → (k +ℤ e) *ℤ d ≡ k *ℤ d +ℤ e *ℤ d
            sum k d e = rw (as_D k, as_D d, as_D e) (simp diffs (D-eq _ _ _ _ (omega arith)))

    two : (k d : ℤ) → (k +ℤ k) *ℤ d ≡ k *ℤ d +ℤ k *ℤ d
    two k d = rw (as_D k, as_D d) (simp diffs (D-eq _ _ _ _ (omega arith)))

    plain : (yy kk mm more d k' m' : ℤ) → yy <ℤ (kk +ℤ d) → mm <ℤ (yy +ℤ d) → more ≤ℤ m' → more ≡ k' +ℤ d → kk ≡ k' +ℤ k' → mm ≡ m' +ℤ m' → ⊥
    plain yy kk mm more d k' m' h k l e f g = omega (arith, ints, h, k, l, e, f, g)
