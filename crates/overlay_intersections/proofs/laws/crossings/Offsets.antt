-- Offsets as code computes them: their sizes, and their quotients.
use Rattle.std.proofs.Common.{◌≡◌, ◌≢◌, refl, ap, sym, ◌∙◌, ℕ, ◌+◌, ◌*◌, ◌/◌, ◌≤◌, ◌<◌, arith, lit<, zero, suc, Bool, true, false, FitsSigned, w64}
use Rattle.std.specs.Prelude.{ℤ, pos, negsuc, neg_ℤ, int_lt, min, if◌then◌else◌, ◌+ℤ◌, ◌*ℤ◌, ◌<ℤ◌, unsigned_abs, int_div, int_le, ◌&&◌}
use Rattle.std.specs.Int.{w128, int_signum, int_div_euclid}
use Rattle.std.proofs.lemmas.Int.{ints, unsigned_abs-mul, fits_signed_mul, fits_signed_from_abs}
use Rattle.std.proofs.Math.Nat.{mul-le-mul_left, mul-le-mul_right, zero-div, div-eq_of_lt}
use Rattle.overlay_geometry.specs.Coordinates.{greatest_difference, greatest_product}
use Rattle.overlay_intersections.specs.Crossing.{quotient, truncated, nearest, nearest_upward}
use Rattle.overlay_intersections.specs.steps.Numerators.{greatest_numerator}
use Rattle.overlay_intersections.proofs.laws.crossings.Rounding.{over}

-- ---- sizes

pub numerator_bound : (v n : ℤ) → unsigned_abs v ≤ greatest_difference → unsigned_abs n ≤ 2 * greatest_product → unsigned_abs (v *ℤ n) ≤ greatest_numerator
numerator_bound v n p q = rw unsigned_abs-mul (omega (arith, mul-le-mul_left (unsigned_abs v) q, mul-le-mul_right (2 * greatest_product) p))

pub numerator_fits : (v n : ℤ) → unsigned_abs v ≤ greatest_difference → unsigned_abs n ≤ 2 * greatest_product → FitsSigned w128 (v *ℤ n)
numerator_fits v n p q = fits_signed_mul w128 v n greatest_difference (2 * greatest_product) p q (lit< tt)

signum_bound : (z : ℤ) → unsigned_abs (int_signum z) ≤ 1
signum_bound (pos zero) = omega arith
signum_bound (pos (suc n)) = omega arith
signum_bound (negsuc n) = omega arith

pub signum_times_bound : (z t : ℤ) (m : ℕ) → unsigned_abs t ≤ m → unsigned_abs (int_signum z *ℤ t) ≤ m
signum_times_bound z t m h = rw unsigned_abs-mul (omega (arith, mul-le-mul_right (unsigned_abs t) (signum_bound z)))

pub signum_fits : (z : ℤ) → FitsSigned w64 (int_signum z)
signum_fits z = fits_signed_from_abs w64 (int_signum z) (omega (arith, signum_bound z))

pub wide_signum_fits : (z : ℤ) → FitsSigned w128 (int_signum z)
wide_signum_fits z = fits_signed_from_abs w128 (int_signum z) (omega (arith, signum_bound z))

pub fits_below : (z : ℤ) (m : ℕ) → unsigned_abs z ≤ m → m < 170141183460469231731687303715884105728 → FitsSigned w128 z
fits_below z m h k = fits_signed_from_abs w128 z (omega arith)

pub widened_fits : (z : ℤ) → FitsSigned w64 z → FitsSigned w128 z
widened_fits (pos n) h = let k : n < 9223372036854775808 = h.sfits in record { sfits = omega arith }
widened_fits (negsuc n) h = let k : n < 9223372036854775808 = h.sfits in record { sfits = omega arith }

-- what the test for an `i64` shows
pub narrow_fits : (z : ℤ) (b : Bool) → b ≡ (int_le (negsuc 9223372036854775807) z && int_le z (pos 9223372036854775807)) → b ≡ true → FitsSigned w64 z
narrow_fits (pos n) b e t = record { sfits = grind (arith, ints) }
narrow_fits (negsuc n) b e t = record { sfits = grind (arith, ints) }

-- what code forms of an offset
pub record OffsetFits (top bottom : ℤ) : Type 0 where
  pub top_fits : FitsSigned w128 top
  pub bottom_fits : FitsSigned w128 bottom
  pub sign_fits : FitsSigned w128 (int_signum top)
  pub twice_fits : FitsSigned w128 (pos 2 *ℤ top)
  pub signed_fits : FitsSigned w128 (int_signum top *ℤ bottom)
  pub sum_fits : FitsSigned w128 (pos 2 *ℤ top +ℤ int_signum top *ℤ bottom)
  pub upward_fits : FitsSigned w128 (pos 2 *ℤ top +ℤ bottom)
  pub divisor_fits : FitsSigned w128 (pos 2 *ℤ bottom)
  pub divisor_positive : pos 0 <ℤ (pos 2 *ℤ bottom)

pub offset_fits : (top bottom : ℤ) → unsigned_abs top ≤ greatest_numerator → unsigned_abs bottom ≤ 2 * greatest_product → pos 0 <ℤ bottom → OffsetFits top bottom
offset_fits t b ht hb p =
    let g = signum_times_bound t b (2 * greatest_product) hb in
    let s : unsigned_abs (pos 2 *ℤ t +ℤ int_signum t *ℤ b) ≤ 2 * greatest_numerator + 2 * greatest_product = twice_and t (int_signum t *ℤ b) ht g in
    record {
      top_fits = fits_below t greatest_numerator ht (lit< tt);
      bottom_fits = fits_below b (2 * greatest_product) hb (lit< tt);
      sign_fits = wide_signum_fits t;
      twice_fits = fits_below (pos 2 *ℤ t) (2 * greatest_numerator) (twice t ht) (lit< tt);
      signed_fits = fits_below (int_signum t *ℤ b) (2 * greatest_product) g (lit< tt);
      sum_fits = fits_below _ (2 * greatest_numerator + 2 * greatest_product) s (lit< tt);
      upward_fits = fits_below _ (2 * greatest_numerator + 2 * greatest_product) (twice_and t b ht hb) (lit< tt);
      divisor_fits = fits_below (pos 2 *ℤ b) (4 * greatest_product) (twice_bottom b hb) (lit< tt);
      divisor_positive = omega (arith, ints);
    }
  where
    twice : (t : ℤ) → unsigned_abs t ≤ greatest_numerator → unsigned_abs (pos 2 *ℤ t) ≤ 2 * greatest_numerator
    twice t h = omega (arith, ints)

    twice_bottom : (b : ℤ) → unsigned_abs b ≤ 2 * greatest_product → unsigned_abs (pos 2 *ℤ b) ≤ 4 * greatest_product
    twice_bottom b h = omega (arith, ints)

    twice_and : (t c : ℤ) → unsigned_abs t ≤ greatest_numerator → unsigned_abs c ≤ 2 * greatest_product → unsigned_abs (pos 2 *ℤ t +ℤ c) ≤ 2 * greatest_numerator + 2 * greatest_product
    twice_and t c h k = omega (arith, ints)

pub abs_positive : (z : ℤ) → z ≢ pos 0 → pos 0 <ℤ pos (unsigned_abs z)
abs_positive (pos zero) h = absurd (h refl)
abs_positive (pos (suc n)) h = omega (arith, ints)
abs_positive (negsuc n) h = omega (arith, ints)

-- ---- quotients

pub nearest_upward_is : (top bottom : ℤ) → pos 0 <ℤ bottom → nearest_upward (over top (unsigned_abs bottom)) ≡ int_div_euclid (pos 2 *ℤ top +ℤ bottom) (pos 2 *ℤ bottom)
unfolding nearest_upward
nearest_upward_is t (pos b) p = refl
nearest_upward_is t (negsuc b) p = absurd (omega (arith, ints))

pub same_quotient : (v w n m d e : ℤ) → v ≡ w → n ≡ m → d ≡ e → quotient v n d ≡ quotient w m e
same_quotient v w n m d e f g h = rw (f, g, h) refl

-- ---- quotients of sizes, with the sign given back

quotient_of_negative : (k d : ℕ) → 0 < k → int_div (neg_ℤ (pos k)) (pos d) ≡ neg_ℤ (pos (k / d))
quotient_of_negative zero d p = absurd (omega arith)
quotient_of_negative (suc k) d p = refl

not_negative : (n : ℕ) → int_lt (pos n) (pos 0) ≡ false
not_negative n = grind (arith, ints)

pub signed_truncated : (top : ℤ) (m : ℕ) → truncated (over top m) ≡ (if int_lt top (pos 0) then neg_ℤ (pos (unsigned_abs top / m)) else pos (unsigned_abs top / m))
unfolding truncated
signed_truncated (pos n) m = rw (not_negative n) refl
signed_truncated (negsuc n) m = refl

half_of_none : (m : ℕ) → 0 < m → (0 + 0 * m) / (2 * m) ≡ (0 + m) / (2 * m)
half_of_none m p =
    let none : 0 + 0 * m ≡ 0 = omega arith in
    let below : 0 + m < 2 * m = omega arith in
    ap (λ (k : ℕ). k / (2 * m)) none ∙ zero-div (2 * m) ∙ sym (div-eq_of_lt below)

pub signed_nearest : (top : ℤ) (m : ℕ) → 0 < m → nearest (over top m) ≡ (if int_lt top (pos 0) then neg_ℤ (pos ((2 * unsigned_abs top + m) / (2 * m))) else pos ((2 * unsigned_abs top + m) / (2 * m)))
unfolding nearest
signed_nearest (pos zero) m p = ap (λ (k : ℕ). pos k) (half_of_none m p)
signed_nearest (pos (suc n)) m p =
    let one : min (suc n) 1 ≡ 1 = omega arith in
    let e : 2 * suc n + min (suc n) 1 * m ≡ 2 * suc n + m = ap (λ (k : ℕ). 2 * suc n + k * m) one ∙ omega arith in
    rw (e, not_negative (suc n)) refl
signed_nearest (negsuc n) m p =
    let e : pos 2 *ℤ negsuc n +ℤ int_signum (negsuc n) *ℤ pos m ≡ neg_ℤ (pos (2 * suc n + m)) = omega (arith, ints) in
    rw e (quotient_of_negative (2 * suc n + m) (2 * m) (omega arith))
