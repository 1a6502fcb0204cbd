-- The order of the segments in a column: of two that are apart exactly one is below the other, and the order is transitive.
use Rattle.std.proofs.Common.{◌≡◌, refl, sym, ◌∙◌, arith, inl, inr}
use Rattle.std.specs.Prelude.{ℤ, pos, ◌+ℤ◌, ◌-ℤ◌, ◌*ℤ◌, ◌<ℤ◌, ◌≤ℤ◌, neg_ℤ, int_le, int_lt, Bool, true, false, ◌&&◌, ◌||◌, ◌⊎◌}
use Rattle.std.proofs.lemmas.Int.{ints, by_lt_z}
use Rattle.std.proofs.lemmas.Bool.{and_parts, and_from, and_left, and_right, or_left, or_right, or_from, or_cases, both_ways}
use Rattle.overlay_geometry.specs.Points.{Pair, turn, is_strictly_inside}
use Rattle.overlay_geometry.specs.Below.{width, scaled_height}
use Rattle.overlay_geometry.specs.Meeting.{do_cross, are_apart}
use Rattle.overlay_sweep.specs.ColumnWindings.{spans_column, is_below_in_column}
use Rattle.overlay_base.specs.Rules.{differ}
use Rattle.overlay_geometry.proofs.laws.geometry.Polynomials.{mul-neg, cancel-pos, fractions-trans, fractions-trans_lt, from_difference-nonneg, difference-nonneg, from_difference-pos, difference-pos, cancel-zero, cancel-neg, mul-nonneg_both}
use Rattle.overlay_geometry.proofs.laws.geometry.Points.{same_point, same_pair, at_a, at_b, inside_from_order}
use Rattle.overlay_base.proofs.laws.geometry.Apart.{do_cross_back, do_cross_from, are_apart_parts, no_end_inside_parts}
use Rattle.overlay_sweep.proofs.laws.columns.ColumnLines.{spans_column_parts}
use Rattle.overlay_sweep.proofs.laws.columns.Heights.{gap, slope, gap_back, gap_same, gap_along, gap_at_start, gap_at_end, gap_at_other_start, gap_at_other_end, is_below_is}
use Rattle.overlay_geometry.proofs.laws.integers.Tests.{le-test, le-test_false, lt-test, lt-test_false, le-tested, lt-tested, by_sign}

-- ---- two that are apart

pub record IsApart (s t : Pair) : Type 0 where
  pub cross : do_cross s t ≡ true → ⊥
  pub a_inside : is_strictly_inside s t.a ≡ true → ⊥
  pub b_inside : is_strictly_inside s t.b ≡ true → ⊥
  pub a_around : is_strictly_inside t s.a ≡ true → ⊥
  pub b_around : is_strictly_inside t s.b ≡ true → ⊥

pub is_apart : (s t : Pair) → are_apart s t ≡ true → IsApart s t
is_apart s t h =
    let parts = are_apart_parts s t h in
    let here = no_end_inside_parts s t parts.1 in
    let there = no_end_inside_parts t s parts.2 in
    record {
      cross = both_ways _ parts.0;
      a_inside = both_ways _ here.0;
      b_inside = both_ways _ here.1;
      a_around = both_ways _ there.0;
      b_around = both_ways _ there.1;
    }

-- ---- signs of the gap

down_from : (w m g : ℤ) → pos 0 <ℤ w → g ≡ neg_ℤ (w *ℤ m) → pos 0 <ℤ g → m <ℤ pos 0
down_from w m g h e p = cancel-neg w m h (omega (arith, ints))

up_from : (w m g : ℤ) → pos 0 <ℤ w → g ≡ neg_ℤ (w *ℤ m) → g <ℤ pos 0 → pos 0 <ℤ m
up_from w m g h e p = cancel-pos w m h (omega (arith, ints))

zero_from : (w m g : ℤ) → pos 0 <ℤ w → g ≡ neg_ℤ (w *ℤ m) → g ≡ pos 0 → m ≡ pos 0
zero_from w m g h e p = cancel-zero w m h (omega (arith, ints))

positive : (u v : ℤ) → u ≡ v → pos 0 <ℤ u → pos 0 <ℤ v
positive u v e h = omega (arith, ints)

negative : (u v : ℤ) → u ≡ v → u <ℤ pos 0 → v <ℤ pos 0
negative u v e h = omega (arith, ints)

module _ (s t : Pair) (ws : s.a.x <ℤ s.b.x) (wt : t.a.x <ℤ t.b.x) where
  width_s : pos 0 <ℤ width s
  width_s = omega (arith, ints)

  width_t : pos 0 <ℤ width t
  width_t = omega (arith, ints)

  -- where t is above s at both their starts and below it at both their ends, they cross
  pub crosses_downward : pos 0 <ℤ gap s.a.x s t → pos 0 <ℤ gap t.a.x s t → gap s.b.x s t <ℤ pos 0 → gap t.b.x s t <ℤ pos 0 → do_cross s t ≡ true
  crosses_downward p q r k =
      do_cross_from s t
      (inr (cancel-pos (width t) _ width_t (positive _ _ (gap_at_other_start s t) q), cancel-neg (width t) _ width_t (negative _ _ (gap_at_other_end s t) k)))
      (inl (down_from (width s) _ _ width_s (gap_at_start s t) p, up_from (width s) _ _ width_s (gap_at_end s t) r))

  -- where their heights are equal all along, they lie on one line; if they are apart and share a place in x, they are one
  module _ (apart : IsApart s t) (level : (x : ℤ) → gap x s t ≡ pos 0) (st : s.a.x <ℤ t.b.x) (ts : t.a.x <ℤ s.b.x) where
    ta_on_s : turn s.a s.b t.a ≡ pos 0
    ta_on_s = cancel-zero (width t) _ width_t (sym (gap_at_other_start s t) ∙ level t.a.x)

    tb_on_s : turn s.a s.b t.b ≡ pos 0
    tb_on_s = cancel-zero (width t) _ width_t (sym (gap_at_other_end s t) ∙ level t.b.x)

    sa_on_t : turn t.a t.b s.a ≡ pos 0
    sa_on_t = zero_from (width s) _ _ width_s (gap_at_start s t) (level s.a.x)

    sb_on_t : turn t.a t.b s.b ≡ pos 0
    sb_on_t = zero_from (width s) _ _ width_s (gap_at_end s t) (level s.b.x)

    same_start : s.a ≡ t.a
    same_start =
        by_lt_z s.a.x t.a.x (λ (l : s.a.x <ℤ t.a.x). absurd (apart.a_inside (inside_from_order s t.a (inl ws) ta_on_s (inl l) (inl ts))))
        (λ (g : t.a.x ≤ℤ s.a.x). by_lt_z t.a.x s.a.x (λ (l : t.a.x <ℤ s.a.x). absurd (apart.a_around (inside_from_order t s.a (inl wt) sa_on_t (inl l) (inl st))))
        (λ (h : s.a.x ≤ℤ t.a.x). let e : t.a.x ≡ s.a.x = omega (arith, ints) in same_point s.a t.a (sym e) (sym (at_a s.a s.b t.a ws ta_on_s e))))

    same_end : s.b ≡ t.b
    same_end =
        by_lt_z s.b.x t.b.x (λ (l : s.b.x <ℤ t.b.x). absurd (apart.b_around (inside_from_order t s.b (inl wt) sb_on_t (inl ts) (inl l))))
        (λ (g : t.b.x ≤ℤ s.b.x). by_lt_z t.b.x s.b.x (λ (l : t.b.x <ℤ s.b.x). absurd (apart.b_inside (inside_from_order s t.b (inl ws) tb_on_s (inl st) (inl l))))
        (λ (h : s.b.x ≤ℤ t.b.x). let e : t.b.x ≡ s.b.x = omega (arith, ints) in same_point s.b t.b (sym e) (sym (at_b s.a s.b t.b ws tb_on_s e))))

    pub same_from_level : s ≡ t
    same_from_level = same_pair s t same_start same_end

-- ---- the gap along two segments

step_slope : (g h k x : ℤ) → h ≡ g +ℤ ((x +ℤ pos 1) -ℤ x) *ℤ k → h ≡ g +ℤ k
step_slope g h k x e = let one : (x +ℤ pos 1) -ℤ x ≡ pos 1 = omega (arith, ints) in let f : h ≡ g +ℤ pos 1 *ℤ k = rw one at e in omega (arith, ints)

pub gap_step : (x : ℤ) (s t : Pair) → gap (x +ℤ pos 1) s t ≡ gap x s t +ℤ slope s t
gap_step x s t = step_slope (gap x s t) (gap (x +ℤ pos 1) s t) (slope s t) x (gap_along x (x +ℤ pos 1) s t)

level_plain : (g h k d : ℤ) → h ≡ g +ℤ d *ℤ k → g ≡ pos 0 → k ≡ pos 0 → h ≡ pos 0
level_plain g h k d e p q = let f : h ≡ g +ℤ d *ℤ pos 0 = rw q at e in omega (arith, ints)

pub gap_level : (x z : ℤ) (s t : Pair) → gap x s t ≡ pos 0 → slope s t ≡ pos 0 → gap z s t ≡ pos 0
gap_level x z s t p q = level_plain (gap x s t) (gap z s t) (slope s t) (z -ℤ x) (gap_along x z s t) p q

rise_plain : (g h k d : ℤ) → h ≡ g +ℤ d *ℤ k → d ≤ℤ pos 0 → k ≤ℤ pos 0 → g ≤ℤ h
rise_plain g h k d e p q = let m = mul-nonneg_both d k p q in omega (arith, ints)

rise_plain_strict : (g h k d : ℤ) → g ≡ h +ℤ d *ℤ k → pos 0 <ℤ d → k <ℤ pos 0 → g <ℤ h
rise_plain_strict g h k d e p q = let m = mul-neg d k p q in omega (arith, ints)

-- where the slope is below 0, the gap is greater further left
pub gap_left : (x z : ℤ) (s t : Pair) → slope s t ≤ℤ pos 0 → z ≤ℤ x → gap x s t ≤ℤ gap z s t
gap_left x z s t k h = rise_plain (gap x s t) (gap z s t) (slope s t) (z -ℤ x) (gap_along x z s t) (omega (arith, ints)) k

pub gap_left_strict : (x z : ℤ) (s t : Pair) → slope s t <ℤ pos 0 → z <ℤ x → gap x s t <ℤ gap z s t
gap_left_strict x z s t k h = rise_plain_strict (gap x s t) (gap z s t) (slope s t) (x -ℤ z) (gap_along z x s t) (omega (arith, ints)) k

-- ---- two in one column

-- the two lines of a column cannot cross
pub crosses_in_column : (x : ℤ) (s t : Pair) → spans_column x s ≡ true → spans_column x t ≡ true → pos 0 <ℤ gap x s t → gap (x +ℤ pos 1) s t <ℤ pos 0 → do_cross s t ≡ true
crosses_in_column x s t hs ht p q =
    let ss = spans_column_parts x s hs in
    let ts = spans_column_parts x t ht in
    let step = gap_step x s t in
    let k : slope s t ≤ℤ pos 0 = omega (arith, ints, step) in
    let sa = gap_left x s.a.x s t k ss.0 in
    let ta = gap_left x t.a.x s t k ts.0 in
    let sb = gap_left s.b.x (x +ℤ pos 1) s t k (omega (arith, ints)) in
    let tb = gap_left t.b.x (x +ℤ pos 1) s t k (omega (arith, ints)) in
    crosses_downward s t (omega (arith, ints)) (omega (arith, ints)) (omega (arith, ints)) (omega (arith, ints)) (omega (arith, ints)) (omega (arith, ints))

-- nor can they run together
pub same_in_column : (x : ℤ) (s t : Pair) → spans_column x s ≡ true → spans_column x t ≡ true → IsApart s t → gap x s t ≡ pos 0 → gap (x +ℤ pos 1) s t ≡ pos 0 → s ≡ t
same_in_column x s t hs ht apart p q =
    let ss = spans_column_parts x s hs in
    let ts = spans_column_parts x t ht in
    let step = gap_step x s t in
    let k : slope s t ≡ pos 0 = omega (arith, ints, step) in
    same_from_level s t (omega (arith, ints)) (omega (arith, ints)) apart (λ z. gap_level x z s t p k) (omega (arith, ints)) (omega (arith, ints))

-- the gaps at a column's two borders: neither below 0, and not both 0
abbrev pub is_low : ℤ → ℤ → Bool
is_low u v = int_le (pos 0) u && int_le (pos 0) v && (int_lt (pos 0) u || int_lt (pos 0) v)

pub low-left : (u v : ℤ) → u <ℤ pos 0 → is_low u v ≡ false
low-left u v h = and_left _ _ (and_left _ _ (le-test_false (pos 0) u h))

pub low-right : (u v : ℤ) → v <ℤ pos 0 → is_low u v ≡ false
low-right u v h = and_left _ _ (and_right _ _ (le-test_false (pos 0) v h))

pub low-level : (u v : ℤ) → u ≡ pos 0 → v ≡ pos 0 → is_low u v ≡ false
low-level u v h k = and_right _ _ (or_from _ _ (lt-test_false (pos 0) u (omega (arith, ints))) (lt-test_false (pos 0) v (omega (arith, ints))))

pub low-first : (u v : ℤ) → pos 0 <ℤ u → pos 0 ≤ℤ v → is_low u v ≡ true
low-first u v h k = and_from _ _ (and_from _ _ (le-test (pos 0) u (omega (arith, ints))) (le-test (pos 0) v k)) (or_left _ _ (lt-test (pos 0) u h))

pub low-second : (u v : ℤ) → pos 0 ≤ℤ u → pos 0 <ℤ v → is_low u v ≡ true
low-second u v h k = and_from _ _ (and_from _ _ (le-test (pos 0) u h) (le-test (pos 0) v (omega (arith, ints)))) (or_right _ _ (lt-test (pos 0) v k))

pub low_parts : (u v : ℤ) → is_low u v ≡ true → (pos 0 ≤ℤ u) × (pos 0 ≤ℤ v) × ((pos 0 <ℤ u) ⊎ (pos 0 <ℤ v))
low_parts u v h =
    let outer = and_parts (int_le (pos 0) u && int_le (pos 0) v) _ h in
    let inner = and_parts (int_le (pos 0) u) (int_le (pos 0) v) outer.0 in
    (le-tested (pos 0) u inner.0, le-tested (pos 0) v inner.1, elim (or_cases _ _ outer.1) [ inl e ↦ inl (lt-tested (pos 0) u e) | inr e ↦ inr (lt-tested (pos 0) v e) ])

differ_by : (a b : Bool) → a ≡ true → b ≡ false → differ a b ≡ true
differ_by a b p q = rw (p, q) refl

differ_by_back : (a b : Bool) → a ≡ false → b ≡ true → differ a b ≡ true
differ_by_back a b p q = rw (p, q) refl

pub low_compared : (u v u' v' : ℤ) → u' ≡ neg_ℤ u → v' ≡ neg_ℤ v → (pos 0 <ℤ u → v <ℤ pos 0 → ⊥) → (u <ℤ pos 0 → pos 0 <ℤ v → ⊥) → (u ≡ pos 0 → v ≡ pos 0 → ⊥) → differ (is_low u v) (is_low u' v') ≡ true
low_compared u v u' v' eu ev down up level =
    by_sign u
    (λ (m : u <ℤ pos 0). differ_by_back _ _ (low-left u v m) (low-first u' v' (omega (arith, ints)) (by_lt_z (pos 0) v (λ (q : pos 0 <ℤ v). absurd (up m q)) (λ (q : v ≤ℤ pos 0). omega (arith, ints)))))
    (λ (z : u ≡ pos 0). by_sign v
    (λ (m : v <ℤ pos 0). differ_by_back _ _ (low-right u v m) (low-second u' v' (omega (arith, ints)) (omega (arith, ints))))
    (λ (y : v ≡ pos 0). absurd (level z y))
    (λ (p : pos 0 <ℤ v). differ_by _ _ (low-second u v (omega (arith, ints)) p) (low-right u' v' (omega (arith, ints)))))
    (λ (p : pos 0 <ℤ u). differ_by _ _ (low-first u v p (by_lt_z v (pos 0) (λ (q : v <ℤ pos 0). absurd (down p q)) (λ (q : pos 0 ≤ℤ v). q))) (low-left u' v' (omega (arith, ints))))

pub apart_back : (s t : Pair) → IsApart s t → IsApart t s
apart_back s t apart = record {
  cross = λ h. apart.cross (do_cross_back s t ∙ h);
  a_inside = apart.a_around;
  b_inside = apart.b_around;
  a_around = apart.a_inside;
  b_around = apart.b_inside;
}

swap_neg : (m n : ℤ) → m ≡ neg_ℤ n → m <ℤ pos 0 → pos 0 <ℤ n
swap_neg m n e h = omega (arith, ints)

swap_pos : (m n : ℤ) → m ≡ neg_ℤ n → pos 0 <ℤ m → n <ℤ pos 0
swap_pos m n e h = omega (arith, ints)

-- of two different segments in a column that are apart, exactly one is below the other
pub one_is_below : (x : ℤ) (s t : Pair) → spans_column x s ≡ true → spans_column x t ≡ true → IsApart s t → (s ≡ t → ⊥) → differ (is_below_in_column x s t) (is_below_in_column x t s) ≡ true
one_is_below x s t hs ht apart other =
    rw (is_below_is x s t, is_below_is x t s)
    (low_compared (gap x s t) (gap (x +ℤ pos 1) s t) (gap x t s) (gap (x +ℤ pos 1) t s) (gap_back x t s) (gap_back (x +ℤ pos 1) t s)
    (λ p q. apart.cross (crosses_in_column x s t hs ht p q))
    (λ p q. (apart_back s t apart).cross (crosses_in_column x t s ht hs (swap_neg _ _ (gap_back x s t) p) (swap_pos _ _ (gap_back (x +ℤ pos 1) s t) q)))
    (λ p q. other (same_in_column x s t hs ht apart p q)))

-- none is below itself
pub below_itself : (x : ℤ) (s : Pair) → is_below_in_column x s s ≡ false
below_itself x s = is_below_is x s s ∙ low-level _ _ (gap_same x s) (gap_same (x +ℤ pos 1) s)

-- ---- the order is transitive

module _ (x : ℤ) (s t u : Pair) (ws : s.a.x <ℤ s.b.x) (wt : t.a.x <ℤ t.b.x) (wu : u.a.x <ℤ u.b.x) where
  gap-trans : pos 0 ≤ℤ gap x s t → pos 0 ≤ℤ gap x t u → pos 0 ≤ℤ gap x s u
  unfolding gap
  gap-trans p q = difference-nonneg _ _ (fractions-trans (scaled_height s x) (scaled_height t x) (scaled_height u x) (width s) (width t) (width u) (omega (arith, ints)) (omega (arith, ints)) (omega (arith, ints)) (from_difference-nonneg _ _ p) (from_difference-nonneg _ _ q))

  gap-trans_first : pos 0 <ℤ gap x s t → pos 0 ≤ℤ gap x t u → pos 0 <ℤ gap x s u
  unfolding gap
  gap-trans_first p q = difference-pos _ _ (fractions-trans_lt (scaled_height s x) (scaled_height t x) (scaled_height u x) (width s) (width t) (width u) (omega (arith, ints)) (omega (arith, ints)) (omega (arith, ints)) (from_difference-pos _ _ p) (from_difference-nonneg _ _ q))

pub is_below-trans : (x : ℤ) (s t u : Pair) → spans_column x s ≡ true → spans_column x t ≡ true → spans_column x u ≡ true → is_below_in_column x s t ≡ true → is_below_in_column x t u ≡ true → is_below_in_column x s u ≡ true
is_below-trans x s t u hs ht hu p q =
    let ws : s.a.x <ℤ s.b.x = (let h = spans_column_parts x s hs in omega (arith, ints)) in
    let wt : t.a.x <ℤ t.b.x = (let h = spans_column_parts x t ht in omega (arith, ints)) in
    let wu : u.a.x <ℤ u.b.x = (let h = spans_column_parts x u hu in omega (arith, ints)) in
    let first = low_parts (gap x s t) (gap (x +ℤ pos 1) s t) (sym (is_below_is x s t) ∙ p) in
    let second = low_parts (gap x t u) (gap (x +ℤ pos 1) t u) (sym (is_below_is x t u) ∙ q) in
    is_below_is x s u ∙ elim first.2 [
      | inl e ↦ low-first _ _ (gap-trans_first x s t u ws wt wu e second.0) (gap-trans (x +ℤ pos 1) s t u ws wt wu first.1 second.1)
      | inr e ↦ low-second _ _ (gap-trans x s t u ws wt wu first.0 second.0) (gap-trans_first (x +ℤ pos 1) s t u ws wt wu e second.1)
    ]
