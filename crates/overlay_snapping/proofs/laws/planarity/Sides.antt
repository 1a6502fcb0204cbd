-- A pixel that a line does not meet: the line passes on one side of its center, on the same side of each point in the pixel, and of each
-- center whose pixel the line meets.
use Rattle.std.proofs.Common.{◌≡◌, arith, inl, inr, ℕ, ◌+◌, ◌<◌, true, false}
use Rattle.std.specs.Prelude.{ℤ, pos, ◌+ℤ◌, ◌-ℤ◌, ◌*ℤ◌, ◌≤ℤ◌, ◌<ℤ◌, neg_ℤ, unsigned_abs}
use Rattle.std.proofs.lemmas.Int.{ints, by_lt_z}
use Rattle.overlay_geometry.specs.Points.{Point}
use Rattle.overlay_geometry.proofs.laws.geometry.Polynomials.{as_D, diffs, D-eq, mul-pos, mul-le_left, mul-lt_left, cancel-pos, mul-neg_left, mul-neg_right}
use Rattle.overlay_geometry.proofs.laws.integers.Tests.{by_sign}
use Rattle.overlay_snapping.specs.Pixels.{extent, is_narrow}
use Rattle.overlay_snapping.proofs.laws.pixels.Inequality.{Leads}

-- ---- what it means that a turn is not narrow

wide_above : (v : Point) (t : ℤ) → pos 0 <ℤ t → is_narrow v t ≡ false → pos (extent v) ≤ℤ (pos 2 *ℤ t)
wide_above v t up h = grind (arith, ints)

wide_falling : (v : Point) (t : ℤ) → pos 0 <ℤ t → v.y <ℤ pos 0 → is_narrow v t ≡ false → pos (extent v) <ℤ (pos 2 *ℤ t)
wide_falling v t up down h = grind (arith, ints)

wide_below : (v : Point) (t : ℤ) → t <ℤ pos 0 → is_narrow v t ≡ false → (pos 2 *ℤ t) ≤ℤ neg_ℤ (pos (extent v))
wide_below v t down h = grind (arith, ints)

pub wide_is_off : (v : Point) (t : ℤ) → 0 < extent v → is_narrow v t ≡ false → t ≡ pos 0 → ⊥
wide_is_off v t some h none = grind (arith, ints)

-- ---- centers whose pixels the line meets

pub narrow_below_wide : (v : Point) (t u : ℤ) → pos 0 <ℤ t → is_narrow v t ≡ false → is_narrow v u ≡ true → u <ℤ t
narrow_below_wide v t u up h k = grind (arith, ints)

pub narrow_above_wide : (v : Point) (t u : ℤ) → t <ℤ pos 0 → is_narrow v t ≡ false → is_narrow v u ≡ true → t <ℤ u
narrow_above_wide v t u down h k = grind (arith, ints)

-- ---- points in the pixel

-- twice the turn of a point in the pixel of a center, m times
abbrev pub turn_inside : ℕ → ℤ → ℤ → ℤ → ℤ → ℤ → ℤ
turn_inside m d e t p q = pos m *ℤ (pos 2 *ℤ t) +ℤ (d *ℤ q -ℤ e *ℤ p)

two_terms : (d e m : ℤ) → m *ℤ (d +ℤ e) ≡ d *ℤ m +ℤ e *ℤ m
two_terms d e m = rw (as_D d, as_D e, as_D m) (simp diffs (D-eq _ _ _ _ (omega arith)))

at_least_one : (y : ℤ) → pos 0 <ℤ y → pos 1 ≤ℤ y
at_least_one y h = omega (arith, ints, h)

rising_above : (m : ℕ) (d e t p q : ℤ) → pos 0 ≤ℤ d → pos 0 <ℤ e → (d +ℤ e) ≤ℤ (pos 2 *ℤ t) → p <ℤ pos m → neg_ℤ (pos m) ≤ℤ q → pos 0 <ℤ turn_inside m d e t p q
rising_above m d e t p q hd he wide hp hq =
    let k = mul-lt_left e p (pos m) he hp in
    let l = mul-le_left d (neg_ℤ (pos m)) q hd hq in
    let w = mul-le_left (pos m) (d +ℤ e) (pos 2 *ℤ t) (omega (arith, ints)) wide in
    omega (arith, ints, k, l, w, mul-neg_right d (pos m), two_terms d e (pos m))

falling_above : (m : ℕ) (d f t p q : ℤ) → 0 < m → pos 0 ≤ℤ d → pos 0 ≤ℤ f → (d +ℤ f) <ℤ (pos 2 *ℤ t) → neg_ℤ (pos m) ≤ℤ p → neg_ℤ (pos m) ≤ℤ q → pos 0 <ℤ turn_inside m d (neg_ℤ f) t p q
falling_above m d f t p q some hd hf wide hp hq =
    let k = mul-le_left f (neg_ℤ (pos m)) p hf hp in
    let l = mul-le_left d (neg_ℤ (pos m)) q hd hq in
    let w = mul-lt_left (pos m) (d +ℤ f) (pos 2 *ℤ t) (omega (arith, ints, some)) wide in
    omega (arith, ints, k, l, w, mul-neg_right d (pos m), mul-neg_right f (pos m), mul-neg_left f p, two_terms d f (pos m))

level_above : (m : ℕ) (d t y p q : ℤ) → 0 < m → pos 0 <ℤ d → t ≡ d *ℤ y -ℤ pos 0 *ℤ p → pos 0 <ℤ t → neg_ℤ (pos m) ≤ℤ q → pos 0 <ℤ (pos m *ℤ (pos 2 *ℤ t) +ℤ d *ℤ q)
level_above m d t y p q some hd is up hq =
    let product : pos 0 <ℤ (d *ℤ y) = omega (arith, ints, is, up) in
    let y_up : pos 1 ≤ℤ y = at_least_one y (cancel-pos d y hd product) in
    let one = mul-le_left d (pos 1) y (omega (arith, ints, hd)) y_up in
    let wide : d ≤ℤ t = omega (arith, ints, is, one) in
    let l = mul-le_left d (neg_ℤ (pos m)) q (omega (arith, ints, hd)) hq in
    let w = mul-le_left (pos m) (d +ℤ d) (pos 2 *ℤ t) (omega (arith, ints)) (omega (arith, ints, wide)) in
    let more = mul-pos d (pos m) hd (omega (arith, ints, some)) in
    omega (arith, ints, l, w, more, mul-neg_right d (pos m), two_terms d d (pos m))

-- where the turn is above 0, each point in the pixel is above the line
pub inside_above : (m : ℕ) (d e x y p q : ℤ) → 0 < m → Leads d e → neg_ℤ (pos m) ≤ℤ p → p <ℤ pos m → neg_ℤ (pos m) ≤ℤ q → q <ℤ pos m →
    is_narrow (record { x = d; y = e }) (d *ℤ y -ℤ e *ℤ x) ≡ false → pos 0 <ℤ (d *ℤ y -ℤ e *ℤ x) → pos 0 <ℤ turn_inside m d e (d *ℤ y -ℤ e *ℤ x) p q
inside_above m d e x y p q some leads p0 p1 q0 q1 wide up =
    let v : Point = record { x = d; y = e } in
    let t : ℤ = d *ℤ y -ℤ e *ℤ x in
    by_sign e
    (λ (down : e <ℤ pos 0).
    let right = to_right leads down in
    let w = wide_falling v t up down wide in
    let f : pos 0 <ℤ turn_inside m d (neg_ℤ (neg_ℤ e)) t p q = falling_above m d (neg_ℤ e) t p q some (omega (arith, ints, right)) (omega (arith, ints, down)) (wide_sum d e t right down w) p0 q0 in
    rw (twice e) at f)
    (λ (level : e ≡ pos 0).
    let right = to_right_level leads level in
    let is : t ≡ d *ℤ y -ℤ pos 0 *ℤ p = rw level (both_none (d *ℤ y) x p) in
    let f = level_above m d t y p q some right is up q0 in
    drop_level e level t f)
    (λ (rise : pos 0 <ℤ e).
    rising_above m d e t p q (not_left leads) rise (wide_sum_up d e t (not_left leads) rise (wide_above v t up wide)) p1 q0)
  where
    to_right : Leads d e → e <ℤ pos 0 → pos 0 <ℤ d
    to_right (inl h) k = h
    to_right (inr (h, l)) k = absurd (omega (arith, ints, l, k))

    to_right_level : Leads d e → e ≡ pos 0 → pos 0 <ℤ d
    to_right_level (inl h) k = h
    to_right_level (inr (h, l)) k = absurd (omega (arith, ints, l, k))

    not_left : Leads d e → pos 0 ≤ℤ d
    not_left (inl h) = omega (arith, ints, h)
    not_left (inr (h, l)) = omega (arith, ints, h)

    wide_sum : (d e t : ℤ) → pos 0 <ℤ d → e <ℤ pos 0 → pos (unsigned_abs d + unsigned_abs e) <ℤ (pos 2 *ℤ t) → (d +ℤ neg_ℤ e) <ℤ (pos 2 *ℤ t)
    wide_sum d e t h k w = omega (arith, ints, h, k, w)

    wide_sum_up : (d e t : ℤ) → pos 0 ≤ℤ d → pos 0 <ℤ e → pos (unsigned_abs d + unsigned_abs e) ≤ℤ (pos 2 *ℤ t) → (d +ℤ e) ≤ℤ (pos 2 *ℤ t)
    wide_sum_up d e t h k w = omega (arith, ints, h, k, w)

    twice : (z : ℤ) → neg_ℤ (neg_ℤ z) ≡ z
    twice z = omega (arith, ints)

    both_none : (u x p : ℤ) → u -ℤ pos 0 *ℤ x ≡ u -ℤ pos 0 *ℤ p
    both_none u x p = omega (arith, ints)

    drop_level : (e : ℤ) → e ≡ pos 0 → (t : ℤ) → pos 0 <ℤ (pos m *ℤ (pos 2 *ℤ t) +ℤ d *ℤ q) → pos 0 <ℤ turn_inside m d e t p q
    drop_level e h t f = rw h (plain (pos m *ℤ (pos 2 *ℤ t)) (d *ℤ q) f)
      where
        plain : (u v : ℤ) → pos 0 <ℤ (u +ℤ v) → pos 0 <ℤ (u +ℤ (v -ℤ pos 0 *ℤ p))
        plain u v h = omega (arith, ints, h)

-- ---- the other side

slanted_below : (m : ℕ) (d f t p q : ℤ) → pos 0 <ℤ d → pos 0 ≤ℤ f → (pos 2 *ℤ t) ≤ℤ neg_ℤ (d +ℤ f) → p ≤ℤ pos m → q <ℤ pos m → (pos m *ℤ (pos 2 *ℤ t) +ℤ (d *ℤ q +ℤ f *ℤ p)) <ℤ pos 0
slanted_below m d f t p q hd hf wide hp hq =
    let k = mul-le_left f p (pos m) hf hp in
    let l = mul-lt_left d q (pos m) hd hq in
    let w = mul-le_left (pos m) (pos 2 *ℤ t) (neg_ℤ (d +ℤ f)) (omega (arith, ints)) wide in
    omega (arith, ints, k, l, w, mul-neg_right (pos m) (d +ℤ f), two_terms d f (pos m))

upright_below : (m : ℕ) (e t x p q y : ℤ) → 0 < m → pos 0 <ℤ e → t ≡ pos 0 *ℤ y -ℤ e *ℤ x → t <ℤ pos 0 → neg_ℤ (pos m) ≤ℤ p → (pos m *ℤ (pos 2 *ℤ t) -ℤ e *ℤ p) <ℤ pos 0
upright_below m e t x p q y some he is down hp =
    let product : pos 0 <ℤ (e *ℤ x) = omega (arith, ints, is, down) in
    let x_up : pos 1 ≤ℤ x = at_least_one x (cancel-pos e x he product) in
    let one = mul-le_left e (pos 1) x (omega (arith, ints, he)) x_up in
    let wide : t ≤ℤ neg_ℤ e = omega (arith, ints, is, one) in
    let l = mul-le_left e (neg_ℤ (pos m)) p (omega (arith, ints, he)) hp in
    let w = mul-le_left (pos m) (pos 2 *ℤ t) (neg_ℤ (e +ℤ e)) (omega (arith, ints)) (omega (arith, ints, wide)) in
    let more = mul-pos e (pos m) he (omega (arith, ints, some)) in
    omega (arith, ints, l, w, more, mul-neg_right e (pos m), mul-neg_right (pos m) (e +ℤ e), two_terms e e (pos m))

pub inside_below : (m : ℕ) (d e x y p q : ℤ) → 0 < m → Leads d e → neg_ℤ (pos m) ≤ℤ p → p <ℤ pos m → neg_ℤ (pos m) ≤ℤ q → q <ℤ pos m →
    is_narrow (record { x = d; y = e }) (d *ℤ y -ℤ e *ℤ x) ≡ false → (d *ℤ y -ℤ e *ℤ x) <ℤ pos 0 → turn_inside m d e (d *ℤ y -ℤ e *ℤ x) p q <ℤ pos 0
inside_below m d e x y p q some (inl right) p0 p1 q0 q1 wide down =
    let v : Point = record { x = d; y = e } in
    let t : ℤ = d *ℤ y -ℤ e *ℤ x in
    let w = wide_below v t down wide in
    by_lt_z e (pos 0)
    (λ (fall : e <ℤ pos 0). plain_fall (pos m *ℤ (pos 2 *ℤ t)) (d *ℤ q) e p (slanted_below m d (neg_ℤ e) t p q right (omega (arith, ints, fall)) (wide_sum d e t right fall w) (omega (arith, ints, p1)) q1))
    (λ (rise : pos 0 ≤ℤ e). plain_rise (pos m *ℤ (pos 2 *ℤ t)) (d *ℤ q) e p (slanted_below m d e t (neg_ℤ p) q right rise (wide_sum_up d e t right rise w) (omega (arith, ints, p0)) q1))
  where
    wide_sum : (d e t : ℤ) → pos 0 <ℤ d → e <ℤ pos 0 → (pos 2 *ℤ t) ≤ℤ neg_ℤ (pos (unsigned_abs d + unsigned_abs e)) → (pos 2 *ℤ t) ≤ℤ neg_ℤ (d +ℤ neg_ℤ e)
    wide_sum d e t h k w = omega (arith, ints, h, k, w)

    wide_sum_up : (d e t : ℤ) → pos 0 <ℤ d → pos 0 ≤ℤ e → (pos 2 *ℤ t) ≤ℤ neg_ℤ (pos (unsigned_abs d + unsigned_abs e)) → (pos 2 *ℤ t) ≤ℤ neg_ℤ (d +ℤ e)
    wide_sum_up d e t h k w = omega (arith, ints, h, k, w)

    plain_fall : (u v e p : ℤ) → (u +ℤ (v +ℤ neg_ℤ e *ℤ p)) <ℤ pos 0 → (u +ℤ (v -ℤ e *ℤ p)) <ℤ pos 0
    plain_fall u v e p h = omega (arith, ints, h, mul-neg_left e p)

    plain_rise : (u v e p : ℤ) → (u +ℤ (v +ℤ e *ℤ neg_ℤ p)) <ℤ pos 0 → (u +ℤ (v -ℤ e *ℤ p)) <ℤ pos 0
    plain_rise u v e p h = omega (arith, ints, h, mul-neg_right e p)
inside_below m d e x y p q some (inr (none, rise)) p0 p1 q0 q1 wide down =
    let t : ℤ = d *ℤ y -ℤ e *ℤ x in
    let f = upright_below m e t x p q y some rise (rw none (plain (pos 0 *ℤ y) (e *ℤ x))) down p0 in
    drop d none t f
  where
    plain : (u v : ℤ) → u -ℤ v ≡ u -ℤ v
    plain u v = omega (arith, ints)

    drop : (d : ℤ) → d ≡ pos 0 → (t : ℤ) → (pos m *ℤ (pos 2 *ℤ t) -ℤ e *ℤ p) <ℤ pos 0 → turn_inside m d e t p q <ℤ pos 0
    drop d h t f = rw h (same (pos m *ℤ (pos 2 *ℤ t)) (e *ℤ p) f)
      where
        same : (u v : ℤ) → (u -ℤ v) <ℤ pos 0 → (u +ℤ (pos 0 *ℤ q -ℤ v)) <ℤ pos 0
        same u v h = omega (arith, ints, h)
