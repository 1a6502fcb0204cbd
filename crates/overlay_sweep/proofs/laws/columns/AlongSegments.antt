-- Windings do not depend on the column: along a segment of a planar, balanced list the sum of the weights below it stays the same.
use Rattle.std.proofs.Common.{◌≡◌, ap, refl, sym, ◌∙◌, arith, inl, inr}
use Rattle.std.specs.Prelude.{ℕ, zero, suc, ℤ, pos, negsuc, ◌+ℤ◌, ◌-ℤ◌, ◌*ℤ◌, ◌<ℤ◌, ◌≤ℤ◌, neg_ℤ, int_lt, Bool, true, false, not, ◌&&◌, List, [], ◌∷◌}
use Rattle.std.specs.List.{list_all}
use Rattle.std.specs.Ordering.{int_eq}
use Rattle.std.proofs.lemmas.Int.{ints, by_lt_z}
use Rattle.std.proofs.lemmas.Bool.{and_parts, and_from, and_left, false_from_ne_true}
use Rattle.std.proofs.lemmas.Bool.Decides.{Decides-int_eq}
use Rattle.overlay_geometry.specs.Points.{Point, Pair, turn, is_ordered, is_vertical}
use Rattle.overlay_base.specs.Windings.{Winding, add, weight}
use Rattle.overlay_base.specs.Segments.{WholeSegment, are_ordered}
use Rattle.overlay_base.specs.Balance.{IsBalanced}
use Rattle.overlay_geometry.specs.Below.{width}
use Rattle.overlay_geometry.specs.Meeting.{do_cross, are_apart}
use Rattle.overlay_sweep.specs.ColumnWindings.{spans_column, is_below_in_column, column_bottom, column_top, side_bottom, side_top, IsSameAlong}
use Rattle.overlay_geometry.proofs.laws.geometry.Polynomials.{as_D, diffs, D-eq, mul-pos, mul-neg, cancel-zero}
use Rattle.overlay_geometry.proofs.laws.geometry.Points.{inside_from_order}
use Rattle.overlay_base.proofs.laws.geometry.Apart.{do_cross_from}
use Rattle.overlay_sweep.proofs.laws.columns.WeightSums.{when, sum_of}
use Rattle.overlay_sweep.proofs.laws.columns.BalancedSums.{flow, subj_flow-balanced, clip_flow-balanced}
use Rattle.overlay_sweep.proofs.laws.columns.ColumnLines.{spans_column_parts, spans_column-true, point_lt-cases, IsLowSide, leaves_upward, across_line-balanced, column_weights_are}
use Rattle.overlay_sweep.proofs.laws.columns.Chains.{sum_of-same_on, sum_of-nothing}
use Rattle.overlay_sweep.proofs.laws.columns.Heights.{gap, slope, gap_back, gap_same, gap_at_start, gap_at_end, gap_at_other_start, gap_at_other_end, is_below_is}
use Rattle.overlay_sweep.proofs.laws.columns.ColumnOrder.{IsApart, is_apart, apart_back, crosses_downward, same_from_level, gap_level, gap_left_strict, crosses_in_column, is_low, low-left, low-right, low-level, low-first, low-second}
use Rattle.overlay_geometry.proofs.laws.integers.Tests.{lt-test, lt-test_false, lt-tested, by_sign}
use Rattle.overlay_geometry.proofs.laws.integers.Products.{minus_turned, neg_zero, times_zero}

-- ---- at an x strictly inside s

pub slope_back : (s t : Pair) → slope s t ≡ neg_ℤ (slope t s)
unfolding slope
slope_back s t = minus_turned ((t.b.y -ℤ t.a.y) *ℤ width s) ((s.b.y -ℤ s.a.y) *ℤ width t)

-- two that are at one height strictly inside both cross, where the difference of the heights falls
falls_across : (x : ℤ) (s t : Pair) → s.a.x <ℤ x → x <ℤ s.b.x → t.a.x <ℤ x → x <ℤ t.b.x → gap x s t ≡ pos 0 → slope s t <ℤ pos 0 → do_cross s t ≡ true
falls_across x s t sa sb ta tb e k =
    let p = gap_left_strict x s.a.x s t k sa in
    let q = gap_left_strict x t.a.x s t k ta in
    let r = gap_left_strict s.b.x x s t k sb in
    let v = gap_left_strict t.b.x x s t k tb in
    crosses_downward s t (omega (arith, ints)) (omega (arith, ints)) (omega (arith, ints)) (omega (arith, ints)) (omega (arith, ints)) (omega (arith, ints))

module _ (x : ℤ) (s : Pair) (from_a : s.a.x <ℤ x) (to_b : x <ℤ s.b.x) where
  wide : s.a.x <ℤ s.b.x
  wide = omega (arith, ints)

  module _ (t : Pair) (wt : t.a.x <ℤ t.b.x) (apart : IsApart s t) where
    -- only s itself has its height there
    pub same_from_meeting : t.a.x ≤ℤ x → x ≤ℤ t.b.x → gap x s t ≡ pos 0 → s ≡ t
    same_from_meeting ta tb e =
        by_lt_z t.a.x x
        (λ (before : t.a.x <ℤ x). by_lt_z x t.b.x
        (λ (after : x <ℤ t.b.x). by_sign (slope s t)
        (λ (k : slope s t <ℤ pos 0). absurd (apart.cross (falls_across x s t from_a to_b before after e k)))
        (λ (k : slope s t ≡ pos 0). same_from_level s t wide wt apart (λ z. gap_level x z s t e k) (omega (arith, ints)) (omega (arith, ints)))
        (λ (k : pos 0 <ℤ slope s t). let back = gap_back x s t in let turned = slope_back s t in absurd ((apart_back s t apart).cross (falls_across x t s before after from_a to_b (omega (arith, ints)) (omega (arith, ints))))))
        (λ (at : t.b.x ≤ℤ x).
        let here : x ≡ t.b.x = omega (arith, ints) in
        let on : turn s.a s.b t.b ≡ pos 0 = cancel-zero (width t) _ (omega (arith, ints)) (sym (gap_at_other_end s t) ∙ rw here at e) in
        absurd (apart.b_inside (inside_from_order s t.b (inl wide) on (inl (omega (arith, ints))) (inl (omega (arith, ints)))))))
        (λ (at : x ≤ℤ t.a.x).
        let here : x ≡ t.a.x = omega (arith, ints) in
        let on : turn s.a s.b t.a ≡ pos 0 = cancel-zero (width t) _ (omega (arith, ints)) (sym (gap_at_other_start s t) ∙ rw here at e) in
        absurd (apart.a_inside (inside_from_order s t.a (inl wide) on (inl (omega (arith, ints))) (inl (omega (arith, ints))))))

-- ---- so below s in the column to the right, or to the left, is what is lower there

low_is_first : (u v : ℤ) → (pos 0 <ℤ u → v <ℤ pos 0 → ⊥) → (u ≡ pos 0 → v ≡ pos 0) → is_low u v ≡ int_lt (pos 0) u
low_is_first u v down level =
    by_sign u
    (λ (m : u <ℤ pos 0). low-left u v m ∙ sym (lt-test_false (pos 0) u (omega (arith, ints))))
    (λ (z : u ≡ pos 0). low-level u v z (level z) ∙ sym (lt-test_false (pos 0) u (omega (arith, ints))))
    (λ (p : pos 0 <ℤ u). low-first u v p (by_lt_z v (pos 0) (λ (q : v <ℤ pos 0). absurd (down p q)) (λ (q : pos 0 ≤ℤ v). q)) ∙ sym (lt-test (pos 0) u p))

low_is_second : (u v : ℤ) → (u <ℤ pos 0 → pos 0 <ℤ v → ⊥) → (v ≡ pos 0 → u ≡ pos 0) → is_low u v ≡ int_lt (pos 0) v
low_is_second u v up level =
    by_sign v
    (λ (m : v <ℤ pos 0). low-right u v m ∙ sym (lt-test_false (pos 0) v (omega (arith, ints))))
    (λ (z : v ≡ pos 0). low-level u v (level z) z ∙ sym (lt-test_false (pos 0) v (omega (arith, ints))))
    (λ (p : pos 0 <ℤ v). low-second u v (by_lt_z u (pos 0) (λ (q : u <ℤ pos 0). absurd (up q p)) (λ (q : pos 0 ≤ℤ u). q)) p ∙ sym (lt-test (pos 0) v p))

gap_of_same : (x : ℤ) (s t : Pair) → s ≡ t → gap x t s ≡ pos 0
gap_of_same x s t e = rw e (gap_same x t)

pub neg_of_neg : (m n : ℤ) → m ≡ neg_ℤ n → n <ℤ pos 0 → pos 0 <ℤ m
neg_of_neg m n e h = omega (arith, ints)

pub neg_of_pos : (m n : ℤ) → m ≡ neg_ℤ n → pos 0 <ℤ n → m <ℤ pos 0
neg_of_pos m n e h = omega (arith, ints)

module _ (x : ℤ) (s : Pair) (from_a : s.a.x <ℤ x) (to_b : x <ℤ s.b.x) (t : Pair) (apart : IsApart s t) where
  spans_right : spans_column x s ≡ true
  spans_right = spans_column-true x s (omega (arith, ints)) to_b

  spans_left : spans_column (x -ℤ pos 1) s ≡ true
  spans_left = spans_column-true (x -ℤ pos 1) s (omega (arith, ints)) (omega (arith, ints))

  next : (x -ℤ pos 1) +ℤ pos 1 ≡ x
  next = omega (arith, ints)

  same_at : t.a.x <ℤ t.b.x → t.a.x ≤ℤ x → x ≤ℤ t.b.x → gap x t s ≡ pos 0 → s ≡ t
  same_at wt ta tb e = same_from_meeting x s from_a to_b t wt apart ta tb (neg_zero _ _ (gap_back x s t) e)

  pub below_in_right_column : spans_column x t ≡ true → is_below_in_column x t s ≡ int_lt (pos 0) (gap x t s)
  below_in_right_column h =
      let ts = spans_column_parts x t h in
      is_below_is x t s ∙ low_is_first (gap x t s) (gap (x +ℤ pos 1) t s)
      (λ p q. (apart_back s t apart).cross (crosses_in_column x t s h spans_right p q))
      (λ e. gap_of_same (x +ℤ pos 1) s t (same_at (omega (arith, ints)) ts.0 (omega (arith, ints)) e))

  pub below_in_left_column : spans_column (x -ℤ pos 1) t ≡ true → is_below_in_column (x -ℤ pos 1) t s ≡ int_lt (pos 0) (gap x t s)
  below_in_left_column h =
      let ts = spans_column_parts (x -ℤ pos 1) t h in
      is_below_is (x -ℤ pos 1) t s
      ∙ low_is_second (gap (x -ℤ pos 1) t s) (gap ((x -ℤ pos 1) +ℤ pos 1) t s)
      (λ p q. apart.cross (crosses_in_column (x -ℤ pos 1) s t spans_left h (neg_of_neg _ _ (gap_back (x -ℤ pos 1) s t) p) (neg_of_pos _ _ (gap_back ((x -ℤ pos 1) +ℤ pos 1) s t) q)))
      (λ e. gap_of_same (x -ℤ pos 1) s t (same_at (omega (arith, ints)) (omega (arith, ints)) (omega (arith, ints)) (rw next at e)))
      ∙ ap (λ (z : ℤ). int_lt (pos 0) (gap z t s)) next

-- ---- the points of the line that lie below s

abbrev lies_lower : ℤ → Pair → Point → Bool
lies_lower x s q = int_eq q.x x && int_lt (turn s.a s.b q) (pos 0)

abbrev is_lower : ℤ → Pair → Pair → Bool
is_lower x s t = int_lt (pos 0) (gap x t s)

lt-neg_scaled : (w m g : ℤ) → pos 0 <ℤ w → g ≡ neg_ℤ (w *ℤ m) → int_lt (pos 0) g ≡ int_lt m (pos 0)
lt-neg_scaled w m g h e =
    by_sign m
    (λ (down : m <ℤ pos 0). let p = mul-neg w m h down in lt-test (pos 0) g (omega (arith, ints)) ∙ sym (lt-test m (pos 0) down))
    (λ (zero : m ≡ pos 0). let p : w *ℤ m ≡ pos 0 = rw zero (times_zero w) in lt-test_false (pos 0) g (omega (arith, ints)) ∙ sym (lt-test_false m (pos 0) (omega (arith, ints))))
    (λ (up : pos 0 <ℤ m). let p = mul-pos w m h up in lt-test_false (pos 0) g (omega (arith, ints)) ∙ sym (lt-test_false m (pos 0) (omega (arith, ints))))

higher_plain : (ws ds ax ay x y z : ℤ) → ws *ℤ (z -ℤ ay) -ℤ ds *ℤ (x -ℤ ax) ≡ (ws *ℤ (y -ℤ ay) -ℤ ds *ℤ (x -ℤ ax)) +ℤ ws *ℤ (z -ℤ y)
higher_plain ws ds ax ay x y z = rw (as_D ws, as_D ds, as_D ax, as_D ay, as_D x, as_D y, as_D z) (simp diffs (D-eq _ _ _ _ (omega arith)))

-- of two points at one x the upper one has the greater turn
pub turn_higher : (s : Pair) (p q : Point) → p.x ≡ q.x → turn s.a s.b q ≡ turn s.a s.b p +ℤ width s *ℤ (q.y -ℤ p.y)
unfolding turn
turn_higher s p q e = rw e (higher_plain (width s) (s.b.y -ℤ s.a.y) s.a.x s.a.y q.x p.y q.y)

upright_plain : (h ax ay x y : ℤ) → (ax -ℤ ax) *ℤ (y -ℤ ay) -ℤ h *ℤ (x -ℤ ax) ≡ h *ℤ (ax -ℤ x)
upright_plain h ax ay x y = rw (as_D h, as_D ax, as_D ay, as_D x, as_D y) (simp diffs (D-eq _ _ _ _ (omega arith)))

-- the turn at a vertical segment is a distance in x
pub turn_upright : (t : Pair) (q : Point) → t.a.x ≡ t.b.x → turn t.a t.b q ≡ (t.b.y -ℤ t.a.y) *ℤ (t.a.x -ℤ q.x)
unfolding turn
turn_upright t q e = rw (← e) (upright_plain (t.b.y -ℤ t.a.y) t.a.x t.a.y q.x q.y)

inside_test : (a b c : Bool) → a ≡ true → c ≡ b → c ≡ (a && b)
inside_test a b c e f = rw e f

module _ (x : ℤ) (s : Pair) (from_a : s.a.x <ℤ x) (to_b : x <ℤ s.b.x) where
  wide_s : pos 0 <ℤ width s
  wide_s = omega (arith, ints)

  lower_side : IsLowSide x (lies_lower x s) (is_lower x s)
  lower_side = record {
    on_line = λ q e. (Decides-int_eq q.x x).0 (and_parts (int_eq q.x x) _ e).0;
    at_start = λ t e h. inside_test _ _ _ ((Decides-int_eq t.a.x x).1 e) (lt-neg_scaled (width t) (turn s.a s.b t.a) (gap x t s) (omega (arith, ints)) (ap (λ (z : ℤ). gap z t s) (sym e) ∙ gap_at_start t s));
    at_end = λ t e h. inside_test _ _ _ ((Decides-int_eq t.b.x x).1 e) (lt-neg_scaled (width t) (turn s.a s.b t.b) (gap x t s) (omega (arith, ints)) (ap (λ (z : ℤ). gap z t s) (sym e) ∙ gap_at_end t s));
    downward = λ t e h k.
        let parts = and_parts (int_eq t.b.x x) _ k in
        let below = lt-tested (turn s.a s.b t.b) (pos 0) parts.1 in
        let rise = turn_higher s t.a t.b e in
        let more = mul-pos (width s) (t.b.y -ℤ t.a.y) wide_s (omega (arith, ints)) in
        and_from _ _ ((Decides-int_eq t.a.x x).1 (e ∙ (Decides-int_eq t.b.x x).0 parts.0)) (lt-test (turn s.a s.b t.a) (pos 0) (omega (arith, ints)));
  }

  -- no vertical segment passes s there
  upright_crosses : (t : Pair) → t.a.x ≡ t.b.x → t.a.y <ℤ t.b.y → t.a.x ≡ x → turn s.a s.b t.a <ℤ pos 0 → pos 0 <ℤ turn s.a s.b t.b → do_cross s t ≡ true
  upright_crosses t e h at p q =
      let left = turn_upright t s.a e in
      let right = turn_upright t s.b e in
      let l = mul-pos (t.b.y -ℤ t.a.y) (t.a.x -ℤ s.a.x) (omega (arith, ints)) (omega (arith, ints)) in
      let r = mul-neg (t.b.y -ℤ t.a.y) (t.a.x -ℤ s.b.x) (omega (arith, ints)) (omega (arith, ints)) in
      do_cross_from s t (inl (p, q)) (inr (omega (arith, ints), omega (arith, ints)))

  no_passage : (t : Pair) → t.a.x ≡ t.b.x → t.a.y <ℤ t.b.y → IsApart s t → lies_lower x s t.a ≡ true → lies_lower x s t.b ≡ true
  no_passage t e h apart k =
      let parts = and_parts (int_eq t.a.x x) _ k in
      let at = (Decides-int_eq t.a.x x).0 parts.0 in
      let below = lt-tested (turn s.a s.b t.a) (pos 0) parts.1 in
      by_sign (turn s.a s.b t.b)
      (λ (down : turn s.a s.b t.b <ℤ pos 0). and_from _ _ ((Decides-int_eq t.b.x x).1 (sym e ∙ at)) (lt-test _ _ down))
      (λ (on : turn s.a s.b t.b ≡ pos 0). absurd (apart.b_inside (inside_from_order s t.b (inl (omega (arith, ints))) on (inl (omega (arith, ints))) (inl (omega (arith, ints))))))
      (λ (up : pos 0 <ℤ turn s.a s.b t.b). absurd (apart.cross (upright_crosses t e h at below up)))

  stays : (a b v : Bool) → (v ≡ true → a ≡ true → b ≡ true) → (v && (a && not b)) ≡ false
  stays true true true h = refl
  stays true false true h = sym (h refl refl)
  stays false b true h = refl
  stays a b false h = refl

  none_leaves : (t : Pair) → is_ordered t ≡ true → IsApart s t → leaves_upward (lies_lower x s) t ≡ false
  none_leaves t o apart = elim (point_lt-cases t.a t.b o) [
    | inl h ↦ and_left _ _ (false_from_ne_true (is_vertical t) (λ e. let same = (Decides-int_eq t.a.x t.b.x).0 e in omega (arith, ints)))
    | inr h ↦ stays (lies_lower x s t.a) (lies_lower x s t.b) (is_vertical t) (λ _ k. no_passage t h.0 h.1 apart k)
  ]

-- whether t is ordered, and apart from s
abbrev pub is_free : Pair → WholeSegment → Bool
is_free s t = is_ordered t.pair && are_apart s t.pair

when_spanning : (b l m : Bool) (z : ℤ) → (b ≡ true → l ≡ m) → when (b && l) z ≡ when (b && m) z
when_spanning true l m z h = rw (h refl) refl
when_spanning false l m z h = refl

module _ (x : ℤ) (s : Pair) (from_a : s.a.x <ℤ x) (to_b : x <ℤ s.b.x) (xs : List WholeSegment) (free : list_all (λ t. is_free s t) xs ≡ true) where
  apart_of : (t : WholeSegment) → is_free s t ≡ true → IsApart s t.pair
  apart_of t h = is_apart s t.pair (and_parts (is_ordered t.pair) (are_apart s t.pair) h).1

  right_sum : (w : WholeSegment → ℤ) → sum_of (λ t. when (spans_column x t.pair && is_below_in_column x t.pair s) (w t)) xs ≡ sum_of (λ t. when (spans_column x t.pair && is_lower x s t.pair) (w t)) xs
  right_sum w = sum_of-same_on _ _ (λ t. is_free s t) xs free (λ t h. when_spanning (spans_column x t.pair) _ _ (w t) (λ e. below_in_right_column x s from_a to_b t.pair (apart_of t h) e))

  left_sum : (w : WholeSegment → ℤ) → sum_of (λ t. when (spans_column (x -ℤ pos 1) t.pair && is_below_in_column (x -ℤ pos 1) t.pair s) (w t)) xs ≡ sum_of (λ t. when (spans_column (x -ℤ pos 1) t.pair && is_lower x s t.pair) (w t)) xs
  left_sum w = sum_of-same_on _ _ (λ t. is_free s t) xs free (λ t h. when_spanning (spans_column (x -ℤ pos 1) t.pair) _ _ (w t) (λ e. below_in_left_column x s from_a to_b t.pair (apart_of t h) e))

  no_uprights : (w : WholeSegment → ℤ) → sum_of (λ t. when (leaves_upward (lies_lower x s) t.pair) (w t)) xs ≡ pos 0
  no_uprights w = sum_of-nothing _ (λ t. is_free s t) xs free (λ t h. rw (none_leaves x s from_a to_b t.pair (and_parts (is_ordered t.pair) (are_apart s t.pair) h).0 (apart_of t h)) refl)

  are_ordered_from : (ys : List WholeSegment) → list_all (λ t. is_free s t) ys ≡ true → are_ordered ys ≡ true
  are_ordered_from [] h = refl
  are_ordered_from (t ∷ ts) h =
      let parts = and_parts (is_free s t) (list_all (λ u. is_free s u) ts) h in
      and_from _ _ (and_parts (is_ordered t.pair) (are_apart s t.pair) parts.0).0 (are_ordered_from ts parts.1)

  same_sums : (w : WholeSegment → ℤ) → flow w (lies_lower x s) xs ≡ pos 0 → sum_of (λ t. when (spans_column x t.pair && is_below_in_column x t.pair s) (w t)) xs ≡ sum_of (λ t. when (spans_column (x -ℤ pos 1) t.pair && is_below_in_column (x -ℤ pos 1) t.pair s) (w t)) xs
  same_sums w e =
      let line = across_line-balanced x (lies_lower x s) (is_lower x s) (lower_side x s from_a to_b) w xs (are_ordered_from xs free) e in
      omega (arith, ints, line, right_sum w, left_sum w, no_uprights w)

-- ---- windings do not depend on the column

-- one column on
pub column_bottom_step : (xs : List WholeSegment) (s : WholeSegment) (x : ℤ) → list_all (λ t. is_free s.pair t) xs ≡ true → IsBalanced xs → s.pair.a.x <ℤ x → x <ℤ s.pair.b.x → column_bottom xs x s ≡ column_bottom xs (x -ℤ pos 1) s
unfolding column_bottom
column_bottom_step xs s x free balanced from_a to_b =
    rw (column_weights_are (λ t. is_below_in_column x t s.pair) xs x, column_weights_are (λ t. is_below_in_column (x -ℤ pos 1) t s.pair) xs (x -ℤ pos 1))
    (λ i. record {
      subj = same_sums x s.pair from_a to_b xs free (λ t. t.count.subj) (subj_flow-balanced xs balanced (lies_lower x s.pair)) i;
      clip = same_sums x s.pair from_a to_b xs free (λ t. t.count.clip) (clip_flow-balanced xs balanced (lies_lower x s.pair)) i;
      mask = 0;
    })

from_nonneg : (z : ℤ) → pos 0 ≤ℤ z → (n : ℕ) × (z ≡ pos n)
from_nonneg (pos n) h = (n, refl)
from_nonneg (negsuc n) h = absurd (omega (arith, ints))

module _ (xs : List WholeSegment) (s : WholeSegment) (free : list_all (λ t. is_free s.pair t) xs ≡ true) (balanced : IsBalanced xs) where
  columns_on : (n : ℕ) (x : ℤ) → x -ℤ s.pair.a.x ≡ pos n → x <ℤ s.pair.b.x → column_bottom xs x s ≡ column_bottom xs s.pair.a.x s
  columns_on zero x e h = ap (λ (z : ℤ). column_bottom xs z s) (omega (arith, ints))
  columns_on (suc n) x e h = column_bottom_step xs s x free balanced (omega (arith, ints)) h ∙ columns_on n (x -ℤ pos 1) (omega (arith, ints)) (omega (arith, ints))

  -- in every column that s spans its bottom is that of the first
  pub column_bottom-same : (x : ℤ) → spans_column x s.pair ≡ true → column_bottom xs x s ≡ column_bottom xs s.pair.a.x s
  column_bottom-same x h =
      let parts = spans_column_parts x s.pair h in
      let n = from_nonneg (x -ℤ s.pair.a.x) (omega (arith, ints)) in
      columns_on n.0 x n.1 parts.1

  not_upright : (x : ℤ) → spans_column x s.pair ≡ true → is_vertical s.pair ≡ false
  not_upright x h = let parts = spans_column_parts x s.pair h in false_from_ne_true _ (λ e. let same = (Decides-int_eq s.pair.a.x s.pair.b.x).0 e in omega (arith, ints))

  pub is_same_along : IsSameAlong xs s
  unfolding side_bottom side_top column_top
  is_same_along = record {
    below = λ x h. rw (not_upright x h) (column_bottom-same x h);
    above = λ x h. rw (not_upright x h) (ap (λ (w : Winding). add w (weight s.count)) (column_bottom-same x h));
  }
