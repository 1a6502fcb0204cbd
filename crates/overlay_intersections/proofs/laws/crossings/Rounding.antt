-- Roundings of quotients: monotone, and a whole number is kept; so a quotient between two whole numbers stays between them.
use Rattle.std.proofs.Common.{◌≡◌, ◌⊎◌, inl, inr, refl, sym, ap, subst, ◌∙◌, arith, ℕ, zero, suc, ◌+◌, ◌*◌, ◌/◌, ◌<◌, ◌≤◌}
use Rattle.std.specs.Prelude.{ℤ, pos, negsuc, ◌+ℤ◌, ◌*ℤ◌, ◌≤ℤ◌, ◌<ℤ◌, neg_ℤ, int_div, min}
use Rattle.std.specs.Int.{int_div_euclid}
use Rattle.std.proofs.lemmas.Int.{ints, by_lt_z}
use Rattle.std.proofs.Math.Nat.{div-mul-le_self, lt-div-mul-add, div-lt_iff_lt-mul, le-div_iff_mul-le, mul-le-mul_left}
use Rattle.std.proofs.lemmas.Bool.{cases_lt}
use Rattle.overlay_geometry.proofs.laws.geometry.Polynomials.{as_D, diffs, D-eq, mul-pos, mul-le_left, mul-lt_left}
use Rattle.overlay_intersections.specs.Crossing.{Quotient, truncated, nearest, nearest_upward}

abbrev pub over : ℤ → ℕ → Quotient
over t b = record { top = t; bottom = b }

pub record IsRounding (round : Quotient → ℤ) : Type 0 where
  pub monotone : (t u : ℤ) (b c : ℕ) → 0 < b → 0 < c → (t *ℤ pos c) ≤ℤ (u *ℤ pos b) → round (over t b) ≤ℤ round (over u c)
  pub keeps : (z : ℤ) (b : ℕ) → 0 < b → round (over (z *ℤ pos b) b) ≡ z

in_front : (b : ℕ) (u v : ℤ) → u ≤ℤ v → (u *ℤ pos b) ≤ℤ (v *ℤ pos b)
in_front b u v h = let m = mul-le_left (pos b) u v (omega (arith, ints)) h in omega (arith, ints)

-- a quotient between whole numbers is rounded to between them
pub round-from : (round : Quotient → ℤ) → IsRounding round → (t low : ℤ) (b : ℕ) → 0 < b → (low *ℤ pos b) ≤ℤ t → low ≤ℤ round (over t b)
round-from round is t low b p h =
    subst (λ (z : ℤ). z ≤ℤ round (over t b)) (is.keeps low b p)
    (is.monotone (low *ℤ pos b) t b b p p (in_front b (low *ℤ pos b) t h))

pub round-to : (round : Quotient → ℤ) → IsRounding round → (t high : ℤ) (b : ℕ) → 0 < b → t ≤ℤ (high *ℤ pos b) → round (over t b) ≤ℤ high
round-to round is t high b p h =
    subst (λ (z : ℤ). round (over t b) ≤ℤ z) (is.keeps high b p)
    (is.monotone t (high *ℤ pos b) b b p p (in_front b t (high *ℤ pos b) h))

-- ---- roundings that treat both signs alike

record IsOddBy (g : ℕ → ℕ → ℕ) (round : Quotient → ℤ) : Type 0 where
  grows : (a a' b b' : ℕ) → 0 < b → 0 < b' → a * b' ≤ a' * b → g a b ≤ g a' b'
  whole : (n b : ℕ) → 0 < b → g (n * b) b ≡ n
  at_pos : (a b : ℕ) → 0 < b → round (over (pos a) b) ≡ pos (g a b)
  at_negsuc : (a b : ℕ) → 0 < b → round (over (negsuc a) b) ≡ neg_ℤ (pos (g (suc a) b))

below_above : (x y : ℕ) → neg_ℤ (pos x) ≤ℤ pos y
below_above x y = omega (arith, ints)

below_both : (x y : ℕ) → y ≤ x → neg_ℤ (pos x) ≤ℤ neg_ℤ (pos y)
below_both x y h = omega (arith, ints)

above_both : (x y : ℕ) → x ≤ y → pos x ≤ℤ pos y
above_both x y h = omega (arith, ints)

nat_products : (a a' b b' : ℕ) → (pos a *ℤ pos b') ≤ℤ (pos a' *ℤ pos b) → a * b' ≤ a' * b
nat_products a a' b b' h = omega (arith, ints)

no_products : (a a' b b' : ℕ) → 0 < b → (pos a *ℤ pos b') ≤ℤ (negsuc a' *ℤ pos b) → ⊥
no_products a a' b b' p h = omega (arith, ints)

negsuc_products : (a a' b b' : ℕ) → (negsuc a *ℤ pos b') ≤ℤ (negsuc a' *ℤ pos b) → suc a' * b ≤ suc a * b'
negsuc_products a a' b b' h = omega (arith, ints)

odd-monotone : (g : ℕ → ℕ → ℕ) (round : Quotient → ℤ) → IsOddBy g round → (t u : ℤ) (b c : ℕ) → 0 < b → 0 < c → (t *ℤ pos c) ≤ℤ (u *ℤ pos b) → round (over t b) ≤ℤ round (over u c)
odd-monotone g round is (pos a) (pos a') b c p q h = rw (is.at_pos a b p, is.at_pos a' c q) (above_both (g a b) (g a' c) (is.grows a a' b c p q (nat_products a a' b c h)))
odd-monotone g round is (pos a) (negsuc a') b c p q h = absurd (no_products a a' b c p h)
odd-monotone g round is (negsuc a) (pos a') b c p q h = rw (is.at_negsuc a b p, is.at_pos a' c q) (below_above (g (suc a) b) (g a' c))
odd-monotone g round is (negsuc a) (negsuc a') b c p q h = rw (is.at_negsuc a b p, is.at_negsuc a' c q) (below_both (g (suc a) b) (g (suc a') c) (is.grows (suc a') (suc a) c b q p (negsuc_products a a' b c h)))

odd-keeps : (g : ℕ → ℕ → ℕ) (round : Quotient → ℤ) → IsOddBy g round → (z : ℤ) (b : ℕ) → 0 < b → round (over (z *ℤ pos b) b) ≡ z
odd-keeps g round is (pos n) b p = is.at_pos (n * b) b p ∙ ap pos (is.whole n b p)
odd-keeps g round is (negsuc n) zero p = absurd (omega arith)
odd-keeps g round is (negsuc n) (suc c) p =
    let e : negsuc n *ℤ pos (suc c) ≡ negsuc (n * c + n + c) = omega (arith, ints) in
    let f : suc (n * c + n + c) ≡ suc n * suc c = omega arith in
    ap (λ (z : ℤ). round (over z (suc c))) e ∙ is.at_negsuc (n * c + n + c) (suc c) p ∙ ap (λ (m : ℕ). neg_ℤ (pos m)) (ap (λ (m : ℕ). g m (suc c)) f ∙ is.whole (suc n) (suc c) p)

odd-is_rounding : (g : ℕ → ℕ → ℕ) (round : Quotient → ℤ) → IsOddBy g round → IsRounding round
odd-is_rounding g round is = record { monotone = odd-monotone g round is; keeps = odd-keeps g round is }

-- ---- quotients of naturals

pub div-grows : (a a' b b' : ℕ) → 0 < b → 0 < b' → a * b' ≤ a' * b → a / b ≤ a' / b'
div-grows a a' b b' p q h =
    let k = a / b in
    let low : k * b ≤ a = div-mul-le_self a b in
    let scaled : b' * (k * b) ≤ b' * a = mul-le-mul_left b' low in
    (le-div_iff_mul-le q).1 (cancel_nat b (k * b') a' p (between (b * (k * b')) (b' * (k * b)) (b' * a) (b * a') (omega arith) scaled (omega arith)))
  where
    between : (w x y z : ℕ) → w ≡ x → x ≤ y → y ≤ z → w ≤ z
    between w x y z e h k = omega arith

    cancel_nat : (c m n : ℕ) → 0 < c → c * m ≤ c * n → m ≤ n
    cancel_nat c m n p h = by_cases (cases_lt n m)
      where
        by_cases : (n < m) ⊎ (m ≤ n) → m ≤ n
        by_cases (inl l) = absurd (let t : c * (n + 1) ≤ c * m = mul-le-mul_left c (omega arith) in omega arith)
        by_cases (inr l) = l

-- the quotient from its two bounds
pub div_is : (x k q : ℕ) → 0 < k → q * k ≤ x → x < (q + 1) * k → x / k ≡ q
div_is x k q p low high =
    let l : q ≤ x / k = (le-div_iff_mul-le p).1 low in
    let h : x / k < q + 1 = (div-lt_iff_lt-mul p).1 high in
    omega arith

truncated-is_odd : IsOddBy (λ a b. a / b) truncated
unfolding truncated
truncated-is_odd = record {
  grows = div-grows;
  whole = λ n b p. div_is (n * b) b n p (omega arith) (omega arith);
  at_pos = λ a b p. refl;
  at_negsuc = λ a b p. refl;
}

half : ℕ → ℕ → ℕ
half a b = (2 * a + min a 1 * b) / (2 * b)

half_zero : (b : ℕ) → 0 < b → half 0 b ≡ 0
unfolding half
half_zero b p = div_is (2 * 0 + min 0 1 * b) (2 * b) 0 (omega arith) (omega arith) (omega arith)

half_suc : (a b : ℕ) → half (suc a) b ≡ (2 * suc a + b) / (2 * b)
unfolding half
half_suc a b = ap (λ (n : ℕ). n / (2 * b)) (let e : min (suc a) 1 ≡ 1 = omega arith in rw e (omega arith))

half_grows : (a a' b b' : ℕ) → 0 < b → 0 < b' → a * b' ≤ a' * b → half a b ≤ half a' b'
half_grows zero a' b b' p q h = rw (half_zero b p) (omega arith)
half_grows (suc a) zero b b' p q h = absurd (omega arith)
half_grows (suc a) (suc a') b b' p q h = rw (half_suc a b, half_suc a' b') (div-grows (2 * suc a + b) (2 * suc a' + b') (2 * b) (2 * b') (omega arith) (omega arith) (omega arith))

half_whole : (n b : ℕ) → 0 < b → half (n * b) b ≡ n
half_whole zero b p = rw (zero_times b) (half_zero b p)
  where
    zero_times : (b : ℕ) → zero * b ≡ 0
    zero_times b = omega arith
half_whole (suc n) zero p = absurd (omega arith)
half_whole (suc n) (suc c) p =
    let e : suc n * suc c ≡ suc (n * c + n + c) = omega arith in
    rw e (rw (half_suc (n * c + n + c) (suc c)) (div_is (2 * suc (n * c + n + c) + suc c) (2 * suc c) (suc n) (omega arith) (omega arith) (omega arith)))

-- the quotient of a positive number, and of a negative one
pub nearest_of_pos : (a b : ℕ) → 0 < b → nearest (over (pos a) b) ≡ pos ((2 * a + b) / (2 * b))
unfolding nearest half
nearest_of_pos zero b p = ap pos (half_zero b p ∙ sym (div_is (2 * zero + b) (2 * b) 0 (omega arith) (omega arith) (omega arith)))
nearest_of_pos (suc a) b p = let e : min (suc a) 1 ≡ 1 = omega arith in ap (λ (n : ℕ). pos (n / (2 * b))) (rw e (omega arith))

pub nearest_of_negsuc : (a b : ℕ) → nearest (over (negsuc a) b) ≡ neg_ℤ (pos ((2 * suc a + b) / (2 * b)))
unfolding nearest
nearest_of_negsuc a b =
    let e : pos 2 *ℤ negsuc a +ℤ negsuc 0 *ℤ pos b ≡ negsuc (2 * a + 1 + b) = omega (arith, ints) in
    let f : suc (2 * a + 1 + b) ≡ 2 * suc a + b = omega arith in
    ap (λ (z : ℤ). int_div z (pos (2 * b))) e ∙ ap (λ (m : ℕ). neg_ℤ (pos (m / (2 * b)))) f

nearest-is_odd : IsOddBy half nearest
unfolding nearest half
nearest-is_odd = record {
  grows = half_grows;
  whole = half_whole;
  at_pos = λ a b p. refl;
  at_negsuc = λ a b p.
      let e : pos 2 *ℤ negsuc a +ℤ negsuc 0 *ℤ pos b ≡ negsuc (2 * a + 1 + b) = omega (arith, ints) in
      let g : min (suc a) 1 ≡ 1 = omega arith in
      let f : suc (2 * a + 1 + b) ≡ 2 * suc a + min (suc a) 1 * b = rw g (omega arith) in
      ap (λ (z : ℤ). int_div z (pos (2 * b))) e ∙ ap (λ (m : ℕ). neg_ℤ (pos (m / (2 * b)))) f;
}

pub truncated-is_rounding : IsRounding truncated
truncated-is_rounding = odd-is_rounding _ truncated truncated-is_odd

pub nearest-is_rounding : IsRounding nearest
nearest-is_rounding = odd-is_rounding _ nearest nearest-is_odd

-- ---- to nearest, halves upward

-- the quotient by a positive number is the floor
euclid_low : (z : ℤ) (n : ℕ) → 0 < n → (pos n *ℤ int_div_euclid z (pos n)) ≤ℤ z
euclid_low (pos a) n p = let m = div-mul-le_self a n in omega (arith, ints, m)
euclid_low (negsuc a) n p = let m = lt-div-mul-add {a = a} p in omega (arith, ints, m)

euclid_high : (z : ℤ) (n : ℕ) → 0 < n → z <ℤ (pos n *ℤ int_div_euclid z (pos n) +ℤ pos n)
euclid_high (pos a) n p = let m = lt-div-mul-add {a = a} p in omega (arith, ints, m)
euclid_high (negsuc a) n p = let m = div-mul-le_self a n in omega (arith, ints, m)

-- r is the floor of t / b and one half
pub record IsRoundedUp (t : ℤ) (b : ℕ) (r : ℤ) : Type 0 where
  pub low : (pos 2 *ℤ (pos b *ℤ r)) ≤ℤ (pos 2 *ℤ t +ℤ pos b)
  pub high : (pos 2 *ℤ t) <ℤ (pos 2 *ℤ (pos b *ℤ r) +ℤ pos b)

pub nearest_upward-is : (t : ℤ) (b : ℕ) → 0 < b → IsRoundedUp t b (nearest_upward (over t b))
unfolding nearest_upward
nearest_upward-is t b p =
    let r = int_div_euclid (pos 2 *ℤ t +ℤ pos b) (pos (2 * b)) in
    let l = euclid_low (pos 2 *ℤ t +ℤ pos b) (2 * b) (omega arith) in
    let h = euclid_high (pos 2 *ℤ t +ℤ pos b) (2 * b) (omega arith) in
    record { low = plain_low t r b l; high = plain_high t r b h }
  where
    plain_low : (t r : ℤ) (b : ℕ) → (pos (2 * b) *ℤ r) ≤ℤ (pos 2 *ℤ t +ℤ pos b) → (pos 2 *ℤ (pos b *ℤ r)) ≤ℤ (pos 2 *ℤ t +ℤ pos b)
    plain_low t r b h = omega (arith, ints)

    plain_high : (t r : ℤ) (b : ℕ) → (pos 2 *ℤ t +ℤ pos b) <ℤ (pos (2 * b) *ℤ r +ℤ pos (2 * b)) → (pos 2 *ℤ t) <ℤ (pos 2 *ℤ (pos b *ℤ r) +ℤ pos b)
    plain_high t r b h = omega (arith, ints)

twice_left : (b c r : ℤ) → c *ℤ (pos 2 *ℤ (b *ℤ r)) ≡ pos 2 *ℤ (b *ℤ c *ℤ r)
twice_left b c r = rw (as_D r, as_D b, as_D c) (simp diffs (D-eq _ _ _ _ (omega arith)))

twice_top : (b c t : ℤ) → c *ℤ (pos 2 *ℤ t +ℤ b) ≡ pos 2 *ℤ (t *ℤ c) +ℤ b *ℤ c
twice_top b c t = rw (as_D t, as_D b, as_D c) (simp diffs (D-eq _ _ _ _ (omega arith)))

twice_alone : (b u : ℤ) → b *ℤ (pos 2 *ℤ u) ≡ pos 2 *ℤ (u *ℤ b)
twice_alone b u = rw (as_D u, as_D b) (simp diffs (D-eq _ _ _ _ (omega arith)))

twice_right : (b c s : ℤ) → b *ℤ (pos 2 *ℤ (c *ℤ s) +ℤ c) ≡ pos 2 *ℤ (b *ℤ c *ℤ s) +ℤ b *ℤ c
twice_right b c s = rw (as_D s, as_D b, as_D c) (simp diffs (D-eq _ _ _ _ (omega arith)))

one_more : (b c s : ℤ) → b *ℤ c *ℤ (s +ℤ pos 1) ≡ b *ℤ c *ℤ s +ℤ b *ℤ c
one_more b c s = rw (as_D s, as_D b, as_D c) (simp diffs (D-eq _ _ _ _ (omega arith)))

apart : (x y w t u : ℤ) → (pos 2 *ℤ x) ≤ℤ (pos 2 *ℤ t +ℤ w) → t ≤ℤ u → (pos 2 *ℤ u) <ℤ (pos 2 *ℤ y +ℤ w) → (y +ℤ w) ≤ℤ x → ⊥
apart x y w t u e f g h = omega (arith, ints)

floors_meet : (b c t u r s : ℤ) → pos 0 <ℤ b → pos 0 <ℤ c → (t *ℤ c) ≤ℤ (u *ℤ b) → (pos 2 *ℤ (b *ℤ r)) ≤ℤ (pos 2 *ℤ t +ℤ b) → (pos 2 *ℤ u) <ℤ (pos 2 *ℤ (c *ℤ s) +ℤ c) → s <ℤ r → ⊥
floors_meet b c t u r s p q h low high less =
    let m = mul-le_left c (pos 2 *ℤ (b *ℤ r)) (pos 2 *ℤ t +ℤ b) (omega (arith, ints)) low in
    let n = mul-lt_left b (pos 2 *ℤ u) (pos 2 *ℤ (c *ℤ s) +ℤ c) p high in
    let w = mul-pos b c p q in
    let k = mul-le_left (b *ℤ c) (s +ℤ pos 1) r (omega (arith, ints)) (omega (arith, ints)) in
    apart (b *ℤ c *ℤ r) (b *ℤ c *ℤ s) (b *ℤ c) (t *ℤ c) (u *ℤ b)
    (rw (twice_left b c r, twice_top b c t) at m) h (rw (twice_alone b u, twice_right b c s) at n) (rw (one_more b c s) at k)

-- of two quotients in order the floors are in order
pub IsRoundedUp-monotone : (t u : ℤ) (b c : ℕ) (r s : ℤ) → 0 < b → 0 < c → (t *ℤ pos c) ≤ℤ (u *ℤ pos b) → IsRoundedUp t b r → IsRoundedUp u c s → r ≤ℤ s
IsRoundedUp-monotone t u b c r s p q h k l =
    by_lt_z s r (λ (less : s <ℤ r). absurd (floors_meet (pos b) (pos c) t u r s (omega (arith, ints)) (omega (arith, ints)) h k.low l.high less)) (λ more. more)

pub IsRoundedUp-unique : (t : ℤ) (b : ℕ) (r s : ℤ) → 0 < b → IsRoundedUp t b r → IsRoundedUp t b s → r ≡ s
IsRoundedUp-unique t b r s p k l =
    let h : (t *ℤ pos b) ≤ℤ (t *ℤ pos b) = omega (arith, ints) in
    let x = IsRoundedUp-monotone t t b b r s p p h k l in
    let y = IsRoundedUp-monotone t t b b s r p p h l k in
    omega (arith, ints)

pub IsRoundedUp-whole : (z : ℤ) (b : ℕ) → 0 < b → IsRoundedUp (z *ℤ pos b) b z
IsRoundedUp-whole z b p = record { low = omega (arith, ints); high = omega (arith, ints) }

pub nearest_upward-is_rounding : IsRounding nearest_upward
nearest_upward-is_rounding = record {
  monotone = λ t u b c p q h. IsRoundedUp-monotone t u b c _ _ p q h (nearest_upward-is t b p) (nearest_upward-is u c q);
  keeps = λ z b p. IsRoundedUp-unique _ b _ z p (nearest_upward-is (z *ℤ pos b) b p) (IsRoundedUp-whole z b p);
}
