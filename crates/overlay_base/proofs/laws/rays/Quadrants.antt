-- Two rays from a place meet a segment alike but for the quadrants in which its two ends lie.
use Rattle.std.proofs.Common.{◌≡◌, refl, arith, ℕ, ◌<◌, inl, inr}
use Rattle.std.specs.Prelude.{ℤ, pos, ◌+ℤ◌, ◌-ℤ◌, ◌*ℤ◌, neg_ℤ, ◌≤ℤ◌, ◌<ℤ◌, int_le, int_lt, Bool, true, false, cond, not, ◌&&◌, ◌⊎◌}
use Rattle.std.proofs.lemmas.Int.{ints, by_lt_z}
use Rattle.overlay_geometry.proofs.laws.geometry.Polynomials.{as_D, diffs, D-eq, mul-pos, mul-neg, mul-nonneg, mul-nonpos, mul-nonpos_left, cancel-pos, cancel-neg, cancel-nonneg, cancel-nonpos}
use Rattle.overlay_geometry.proofs.laws.integers.Tests.{lt-test, lt-test_false, le-tested, le-tested_false, le_weak}

-- ---- tests

-- 1 where a test passes
abbrev pub one : Bool → ℤ
one b = cond b (pos 1) (pos 0)

-- ---- what four rays meet

-- a and b: whether the x of the first and of the second end is at most that of p; c and e: the same of y; l and r: whether p lies to the left and to the right of the way
abbrev pub meets_below : Bool → Bool → Bool → ℤ
meets_below a b l = one ((a && not b) && l)

abbrev pub meets_above : Bool → Bool → Bool → ℤ
meets_above a b r = neg_ℤ (one ((a && not b) && r))

abbrev pub meets_left : Bool → Bool → Bool → Bool → ℤ
meets_left c e l r = one ((e && not c) && l) +ℤ neg_ℤ (one ((c && not e) && r))

abbrev pub meets_right : Bool → Bool → Bool → Bool → ℤ
meets_right c e l r = one ((c && not e) && l) +ℤ neg_ℤ (one ((e && not c) && r))

abbrev pub left_of : Bool → Bool → ℤ
left_of a c = one a

abbrev pub quadrant : Bool → Bool → ℤ
quadrant a c = one (a && c)

abbrev pub other_quadrant : Bool → Bool → ℤ
other_quadrant a c = one (a && c) -ℤ one c

pub record Agree (a b c e l r : Bool) : Type 0 where
  pub up : meets_below a b l ≡ meets_above a b r +ℤ (left_of a c -ℤ left_of b e)
  pub left : meets_below a b l ≡ meets_left c e l r +ℤ (quadrant a c -ℤ quadrant b e)
  pub right : meets_below a b l ≡ meets_right c e l r +ℤ (other_quadrant a c -ℤ other_quadrant b e)

-- ---- the signs

-- u and v: how far p is to the right of the first end and above it, w and z: of the second; t is the turn
pub record Seen (d : ℕ) (u w v z t : ℤ) : Type 0 where
  pub scaled : pos d *ℤ t ≡ u *ℤ z -ℤ w *ℤ v
  pub some : 0 < d
  pub ordered : w ≤ℤ u
  pub not_on : t ≡ pos 0 → pos 0 ≤ℤ u → w ≤ℤ pos 0 → ((pos 0 ≤ℤ v) × (z ≤ℤ pos 0)) ⊎ ((v ≤ℤ pos 0) × (pos 0 ≤ℤ z)) → ⊥

module _ (d : ℕ) (u w v z t : ℤ) (seen : Seen d u w v z t) where
  positive : pos 0 <ℤ (u *ℤ z -ℤ w *ℤ v) → pos 0 <ℤ t
  positive h = cancel-pos (pos d) t (let k = seen.some in omega (arith, ints, k)) (rw seen.scaled h)

  negative : (u *ℤ z -ℤ w *ℤ v) <ℤ pos 0 → t <ℤ pos 0
  negative h = cancel-neg (pos d) t (let k = seen.some in omega (arith, ints, k)) (rw seen.scaled h)

  not_negative : pos 0 ≤ℤ (u *ℤ z -ℤ w *ℤ v) → pos 0 ≤ℤ t
  not_negative h = cancel-nonneg (pos d) t (let k = seen.some in omega (arith, ints, k)) (rw seen.scaled h)

  not_positive : (u *ℤ z -ℤ w *ℤ v) ≤ℤ pos 0 → t ≤ℤ pos 0
  not_positive h = cancel-nonpos (pos d) t (let k = seen.some in omega (arith, ints, k)) (rw seen.scaled h)

  -- in the box of the ends the turn is not 0
  strictly_positive : pos 0 ≤ℤ t → pos 0 ≤ℤ u → w ≤ℤ pos 0 → ((pos 0 ≤ℤ v) × (z ≤ℤ pos 0)) ⊎ ((v ≤ℤ pos 0) × (pos 0 ≤ℤ z)) → pos 0 <ℤ t
  strictly_positive h p q y = by_lt_z (pos 0) t (λ (m : pos 0 <ℤ t). m) (λ (m : t ≤ℤ pos 0). absurd (seen.not_on (omega (arith, ints, m, h)) p q y))

  strictly_negative : t ≤ℤ pos 0 → pos 0 ≤ℤ u → w ≤ℤ pos 0 → ((pos 0 ≤ℤ v) × (z ≤ℤ pos 0)) ⊎ ((v ≤ℤ pos 0) × (pos 0 ≤ℤ z)) → t <ℤ pos 0
  strictly_negative h p q y = by_lt_z t (pos 0) (λ (m : t <ℤ pos 0). m) (λ (m : pos 0 ≤ℤ t). absurd (seen.not_on (omega (arith, ints, m, h)) p q y))

  both_left_rising : u <ℤ pos 0 → pos 0 ≤ℤ v → z <ℤ pos 0 → pos 0 <ℤ t
  both_left_rising h p q =
      let o = seen.ordered in
      let m = mul-pos (neg_ℤ u) (neg_ℤ z) (omega (arith, ints, h)) (omega (arith, ints, q)) in
      let n = mul-nonpos_left w v (omega (arith, ints, h, o)) p in
      positive (join u z (w *ℤ v) m n)
    where
      join : (u z n : ℤ) → pos 0 <ℤ (neg_ℤ u *ℤ neg_ℤ z) → n ≤ℤ pos 0 → pos 0 <ℤ (u *ℤ z -ℤ n)
      join u z n h k = let e : neg_ℤ u *ℤ neg_ℤ z ≡ u *ℤ z = rw (as_D u, as_D z) (simp diffs (D-eq _ _ _ _ (omega arith))) in omega (arith, ints, e, h, k)

  both_left_falling : u <ℤ pos 0 → v <ℤ pos 0 → pos 0 ≤ℤ z → t <ℤ pos 0
  both_left_falling h p q =
      let o = seen.ordered in
      let m = mul-nonpos_left u z (omega (arith, ints, h)) q in
      let n = mul-pos (neg_ℤ w) (neg_ℤ v) (omega (arith, ints, h, o)) (omega (arith, ints, p)) in
      negative (join w v (u *ℤ z) n m)
    where
      join : (w v m : ℤ) → pos 0 <ℤ (neg_ℤ w *ℤ neg_ℤ v) → m ≤ℤ pos 0 → (m -ℤ w *ℤ v) <ℤ pos 0
      join w v m h k = let e : neg_ℤ w *ℤ neg_ℤ v ≡ w *ℤ v = rw (as_D w, as_D v) (simp diffs (D-eq _ _ _ _ (omega arith))) in omega (arith, ints, e, h, k)

  difference_nonneg : (m n : ℤ) → pos 0 ≤ℤ m → n ≤ℤ pos 0 → pos 0 ≤ℤ (m -ℤ n)
  difference_nonneg m n h k = omega (arith, ints, h, k)

  difference_nonpos : (m n : ℤ) → m ≤ℤ pos 0 → pos 0 ≤ℤ n → (m -ℤ n) ≤ℤ pos 0
  difference_nonpos m n h k = omega (arith, ints, h, k)

  difference_pos : (m n : ℤ) → pos 0 ≤ℤ m → n <ℤ pos 0 → pos 0 <ℤ (m -ℤ n)
  difference_pos m n h k = omega (arith, ints, h, k)

  difference_neg : (m n : ℤ) → m <ℤ pos 0 → pos 0 ≤ℤ n → (m -ℤ n) <ℤ pos 0
  difference_neg m n h k = omega (arith, ints, h, k)

  -- p is at most as far left as both ends
  both_right_rising : pos 0 ≤ℤ w → pos 0 ≤ℤ v → z <ℤ pos 0 → t <ℤ pos 0
  both_right_rising h p q =
      let o = seen.ordered in
      let here : pos 0 ≤ℤ u = omega (arith, ints, h, o) in
      by_lt_z (pos 0) w
      (λ (m : pos 0 <ℤ w). negative (difference_neg (u *ℤ z) (w *ℤ v) (mul-neg u z (omega (arith, ints, m, o)) q) (mul-nonneg w v h p)))
      (λ (m : w ≤ℤ pos 0). strictly_negative (not_positive (difference_nonpos (u *ℤ z) (w *ℤ v) (mul-nonpos u z here (le_weak z (pos 0) q)) (mul-nonneg w v h p))) here m (inl (p, le_weak z (pos 0) q)))

  both_right_falling : pos 0 ≤ℤ w → v <ℤ pos 0 → pos 0 ≤ℤ z → pos 0 <ℤ t
  both_right_falling h p q =
      let o = seen.ordered in
      let here : pos 0 ≤ℤ u = omega (arith, ints, h, o) in
      by_lt_z (pos 0) w
      (λ (m : pos 0 <ℤ w). positive (difference_pos (u *ℤ z) (w *ℤ v) (mul-nonneg u z here q) (mul-neg w v m p)))
      (λ (m : w ≤ℤ pos 0). strictly_positive (not_negative (difference_nonneg (u *ℤ z) (w *ℤ v) (mul-nonneg u z here q) (mul-nonpos w v h (le_weak v (pos 0) p)))) here m (inr (le_weak v (pos 0) p, q)))

  -- p lies between the ends in x, and above both or below both
  between_over : pos 0 ≤ℤ u → w <ℤ pos 0 → pos 0 ≤ℤ v → pos 0 ≤ℤ z → pos 0 <ℤ t
  between_over h k p q =
      by_lt_z (pos 0) v
      (λ (m : pos 0 <ℤ v). positive (difference_pos (u *ℤ z) (w *ℤ v) (mul-nonneg u z h q) (turned_neg w v k m)))
      (λ (m : v ≤ℤ pos 0). strictly_positive (not_negative (difference_nonneg (u *ℤ z) (w *ℤ v) (mul-nonneg u z h q) (mul-nonpos_left w v (le_weak w (pos 0) k) p))) h (le_weak w (pos 0) k) (inr (m, q)))
    where
      turned_neg : (w v : ℤ) → w <ℤ pos 0 → pos 0 <ℤ v → (w *ℤ v) <ℤ pos 0
      turned_neg w v h k = let m = mul-neg v w k h in let e : v *ℤ w ≡ w *ℤ v = omega (arith, ints) in omega (arith, ints, e, m)

  between_under : pos 0 ≤ℤ u → w <ℤ pos 0 → v <ℤ pos 0 → z <ℤ pos 0 → t <ℤ pos 0
  between_under h k p q = negative (join w v (u *ℤ z) (mul-pos (neg_ℤ w) (neg_ℤ v) (omega (arith, ints, k)) (omega (arith, ints, p))) (mul-nonpos u z h (le_weak z (pos 0) q)))
    where
      join : (w v m : ℤ) → pos 0 <ℤ (neg_ℤ w *ℤ neg_ℤ v) → m ≤ℤ pos 0 → (m -ℤ w *ℤ v) <ℤ pos 0
      join w v m h k = let e : neg_ℤ w *ℤ neg_ℤ v ≡ w *ℤ v = rw (as_D w, as_D v) (simp diffs (D-eq _ _ _ _ (omega arith))) in omega (arith, ints, e, h, k)

  -- ---- what the tests say

  abbrev Here : Bool → Bool → Bool → Bool → Type 0
  Here a b c e = Agree a b c e (int_lt (pos 0) t) (int_lt t (pos 0))

  on_left : (a b c e : Bool) → pos 0 <ℤ t → Agree a b c e true false → Here a b c e
  on_left a b c e h k = rw (lt-test (pos 0) t h, lt-test_false t (pos 0) (le_weak (pos 0) t h)) k

  on_right : (a b c e : Bool) → t <ℤ pos 0 → Agree a b c e false true → Here a b c e
  on_right a b c e h k = rw (lt-test t (pos 0) h, lt-test_false (pos 0) t (le_weak t (pos 0) h)) k

  either : (a b c e : Bool) → (t ≡ pos 0 → ⊥) → Agree a b c e true false → Agree a b c e false true → Here a b c e
  either a b c e h k m = by_lt_z t (pos 0) (λ (l : t <ℤ pos 0). on_right a b c e l m)
      (λ (g : pos 0 ≤ℤ t). by_lt_z (pos 0) t (λ (l : pos 0 <ℤ t). on_left a b c e l k) (λ (f : t ≤ℤ pos 0). absurd (h (omega (arith, ints, f, g)))))

  same_side : (b c : Bool) (l r : Bool) → Agree b b c c l r
  same_side true true l r = record { up = refl; left = refl; right = refl }
  same_side true false l r = record { up = refl; left = refl; right = refl }
  same_side false true l r = record { up = refl; left = refl; right = refl }
  same_side false false l r = record { up = refl; left = refl; right = refl }

  yes : (x : ℤ) → int_le (pos 0) x ≡ true → pos 0 ≤ℤ x
  yes x h = le-tested (pos 0) x h

  no : (x : ℤ) → int_le (pos 0) x ≡ false → x <ℤ pos 0
  no x h = le-tested_false (pos 0) x h

  pub by_ends : (a b c e : Bool) → int_le (pos 0) u ≡ a → int_le (pos 0) w ≡ b → int_le (pos 0) v ≡ c → int_le (pos 0) z ≡ e → Here a b c e
  by_ends true true true true ha hb hc he = same_side true true _ _
  by_ends true true false false ha hb hc he = same_side true false _ _
  by_ends false false true true ha hb hc he = same_side false true _ _
  by_ends false false false false ha hb hc he = same_side false false _ _
  by_ends true true true false ha hb hc he = on_right true true true false (both_right_rising (yes w hb) (yes v hc) (no z he)) (record { up = refl; left = refl; right = refl })
  by_ends true true false true ha hb hc he = on_left true true false true (both_right_falling (yes w hb) (no v hc) (yes z he)) (record { up = refl; left = refl; right = refl })
  by_ends false false true false ha hb hc he = on_left false false true false (both_left_rising (no u ha) (yes v hc) (no z he)) (record { up = refl; left = refl; right = refl })
  by_ends false false false true ha hb hc he = on_right false false false true (both_left_falling (no u ha) (no v hc) (yes z he)) (record { up = refl; left = refl; right = refl })
  by_ends true false true true ha hb hc he = on_left true false true true (between_over (yes u ha) (no w hb) (yes v hc) (yes z he)) (record { up = refl; left = refl; right = refl })
  by_ends true false false false ha hb hc he = on_right true false false false (between_under (yes u ha) (no w hb) (no v hc) (no z he)) (record { up = refl; left = refl; right = refl })
  by_ends true false true false ha hb hc he = either true false true false (λ s. seen.not_on s (yes u ha) (le_weak _ _ (no w hb)) (inl (yes v hc, le_weak _ _ (no z he)))) (record { up = refl; left = refl; right = refl }) (record { up = refl; left = refl; right = refl })
  by_ends true false false true ha hb hc he = either true false false true (λ s. seen.not_on s (yes u ha) (le_weak _ _ (no w hb)) (inr (le_weak _ _ (no v hc), yes z he))) (record { up = refl; left = refl; right = refl }) (record { up = refl; left = refl; right = refl })
  by_ends false true c e ha hb hc he = absurd (let o = seen.ordered in let h = no u ha in let k = yes w hb in omega (arith, ints, o, h, k))
