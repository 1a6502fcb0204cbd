-- The gap between a segment and the next one above it at the same start, and the first end in it. A point is the first end of at most one
-- gap below whose upper segment it lies, and of at most one above whose lower segment it lies.
use Rattle.std.proofs.Common.{◌≡◌, ◌∙◌, refl, sym, ap, subst, arith, ◌⊎◌, ⊎_elim, inl, inr, true, Bool, ◌&&◌, IsTrue, IsFalse, List, [], ◌∷◌, filter}
use Rattle.std.specs.Prelude.{ℤ, pos, neg_ℤ, ◌≤ℤ◌, ◌<ℤ◌, int_lt, int_le, ⊤}
use Rattle.std.proofs.lemmas.Int.{ints, by_lt_z}
use Rattle.std.proofs.lemmas.Bool.{both_ways, and_parts, and_from}
use Rattle.overlay_geometry.specs.Points.{Point, Pair, step, cross_product, turn, point_eq, point_lt, is_strictly_inside}
use Rattle.overlay_geometry.specs.Meeting.{do_cross, are_apart}
use Rattle.overlay_geometry.proofs.laws.geometry.Points.{Before, UpTo, before, from_before, by_order, by_UpTo, UpTo-trans, UpTo-same, UpTo-Before, UpTo-not_Before, same_by_eq, point_eq_same, same_pair, turn_same_last, turn_swaps_last, inside_from_order}
use Rattle.overlay_geometry.proofs.laws.integers.Tests.{lt-test, lt-tested, le-test, le-tested, by_sign}
use Rattle.overlay_geometry.proofs.laws.lists.Lists.{Has, Has-flat_map, Has-filter, Has-filter_out, by_list_any}
use Rattle.overlay_geometry.proofs.laws.lists.Elements.{Has-flat_map_out}
use Rattle.overlay_base.specs.Segments.{ends}
use Rattle.overlay_base.proofs.laws.geometry.Apart.{are_apart_parts, no_end_inside_parts}
use Rattle.overlay_snapping.proofs.laws.counting.Cones.{IsForward, forward, left_of_or_on, on_or_left_of, turn_by_steps, cross_from_below, cross_from_above}
use Rattle.overlay_snapping.proofs.laws.counting.Pigeons.{first_where}

-- The gap above a segment, up to the next one with the same start: w is the first end in it, the two segments among it.
pub record IsGap (segments : List Pair) (low : Pair) (w : Point) : Type 0 where
  pub high : Pair
  pub within : Has segments high
  pub start : high.a ≡ low.a
  pub above : pos 0 <ℤ turn low.a low.b high.b
  pub next : (g : Pair) → Has segments g → g.a ≡ low.a → pos 0 <ℤ turn low.a low.b g.b → pos 0 ≤ℤ turn low.a high.b g.b
  pub is_end : Has (ends segments) w
  pub later : Before low.a w
  pub over : pos 0 ≤ℤ turn low.a low.b w
  pub under : turn high.a high.b w ≤ℤ pos 0
  pub first : (p : Point) → Has (ends segments) p → Before low.a p → pos 0 ≤ℤ turn low.a low.b p → turn high.a high.b p ≤ℤ pos 0 → UpTo w p

pub end_a : (segments : List Pair) (s : Pair) → Has segments s → Has (ends segments) s.a
end_a segments s i = Has-flat_map (λ (u : Pair). u.a ∷ u.b ∷ []) segments s s.a i (inl refl)

pub end_b : (segments : List Pair) (s : Pair) → Has segments s → Has (ends segments) s.b
end_b segments s i = Has-flat_map (λ (u : Pair). u.a ∷ u.b ∷ []) segments s s.b i (inr (inl refl))

same_start : (s : Pair) (a p : Point) → s.a ≡ a → turn s.a s.b p ≡ turn a s.b p
same_start s a p e = ap (λ b. turn b s.b p) e

nonneg_zero : (z : ℤ) → z ≡ pos 0 → pos 0 ≤ℤ z
nonneg_zero z e = omega (arith, ints, e)

nonpos_zero : (z : ℤ) → z ≡ pos 0 → z ≤ℤ pos 0
nonpos_zero z e = omega (arith, ints, e)

weak : (z : ℤ) → pos 0 <ℤ z → pos 0 ≤ℤ z
weak z h = omega (arith, ints, h)

-- f begins where low does, and above it
abbrev is_above : Pair → Pair → Bool
is_above low f = point_eq f.a low.a && int_lt (pos 0) (turn low.a low.b f.b)

-- p lies between two segments with one start, or on one of their lines
abbrev is_in_gap : Pair → Pair → Point → Bool
is_in_gap low high p = point_lt low.a p && int_le (pos 0) (turn low.a low.b p) && int_le (turn high.a high.b p) (pos 0)

pub either_order : (p q : Point) → ⊤ → ⊤ → UpTo p q ⊎ UpTo q p
either_order p q _ _ = by_order p q (λ h. inl (UpTo-Before p q h)) (λ e. inl (subst (λ r. UpTo p r) e (UpTo-same p))) (λ h. inr (UpTo-Before q p h))

-- ---- two segments of a planar arrangement

module _ (segments : List Pair) (ordered : (s : Pair) → Has segments s → Before s.a s.b) (apart : (s t : Pair) → Has segments s → Has segments t → IsTrue (are_apart s t)) where
  none_cross : (s t : Pair) → Has segments s → Has segments t → IsTrue (do_cross s t) → ⊥
  none_cross s t i j h = both_ways (do_cross s t) (are_apart_parts s t (apart s t i j)).0 h

  -- no end lies strictly inside a segment
  none_inside : (s : Pair) (p : Point) → Has segments s → Has (ends segments) p → IsTrue (is_strictly_inside s p) → ⊥
  none_inside s p i j h = by (Has-flat_map_out (λ (u : Pair). u.a ∷ u.b ∷ []) segments p j)
    where
      by : (t : Pair) × Has segments t × Has (t.a ∷ t.b ∷ []) p → ⊥
      by (t, k, at) = at_end (no_end_inside_parts s t (are_apart_parts s t (apart s t i k)).1) at
        where
          at_end : IsFalse (is_strictly_inside s t.a) × IsFalse (is_strictly_inside s t.b) → Has (t.a ∷ t.b ∷ []) p → ⊥
          at_end f (inl e) = both_ways (is_strictly_inside s t.a) f.0 (subst (λ q. IsTrue (is_strictly_inside s q)) (sym e) h)
          at_end f (inr (inl e)) = both_ways (is_strictly_inside s t.b) f.1 (subst (λ q. IsTrue (is_strictly_inside s q)) (sym e) h)
          at_end f (inr (inr n)) = absurd n

  -- two with one start and one direction are one
  pub same_way : (s t : Pair) → Has segments s → Has segments t → s.a ≡ t.a → turn s.a s.b t.b ≡ pos 0 → s ≡ t
  same_way s t i j e z = by_order s.b t.b shorter (λ same. same_pair s t e same) longer
    where
      shorter : Before s.b t.b → s ≡ t
      shorter h =
          absurd (none_inside t s.b j (end_b segments s i)
          (inside_from_order t s.b (ordered t j) (turned (turn t.a t.b s.b) (turn s.a s.b t.b) (same_start t s.a s.b (sym e) ∙ turn_swaps_last s.a t.b s.b) z) (subst (λ a. Before a s.b) e (ordered s i)) h))
        where
          turned : (x y : ℤ) → x ≡ neg_ℤ y → y ≡ pos 0 → x ≡ pos 0
          turned x y e f = omega (arith, ints, e, f)

      longer : Before t.b s.b → s ≡ t
      longer h = absurd (none_inside s t.b i (end_b segments t j) (inside_from_order s t.b (ordered s i) z (subst (λ a. Before a t.b) (sym e) (ordered t j)) h))

  -- ---- gaps

  up_to_low : (low : Pair) (w : Point) → Has segments low → IsGap segments low w → UpTo w low.b
  up_to_low low w i g = g.first low.b (end_b segments low i) (ordered low i) (nonneg_zero (turn low.a low.b low.b) (turn_same_last low.a low.b)) (turned (turn g.high.a g.high.b low.b) (turn low.a low.b g.high.b) (same_start g.high low.a low.b g.start ∙ turn_swaps_last low.a g.high.b low.b) g.above)
    where
      turned : (x y : ℤ) → x ≡ neg_ℤ y → pos 0 <ℤ y → x ≤ℤ pos 0
      turned x y e h = omega (arith, ints, e, h)

  up_to_high : (low : Pair) (w : Point) (g : IsGap segments low w) → UpTo w g.high.b
  up_to_high low w g = g.first g.high.b (end_b segments g.high g.within) (subst (λ a. Before a g.high.b) g.start (ordered g.high g.within)) (weak (turn low.a low.b g.high.b) g.above) (nonpos_zero (turn g.high.a g.high.b g.high.b) (turn_same_last g.high.a g.high.b))

  -- w is strictly below both upper segments, or strictly above both lower ones
  abbrev IsStrict : (low other : Pair) (w : Point) → IsGap segments low w → IsGap segments other w → Type 0
  IsStrict low other w g k = ((turn g.high.a g.high.b w <ℤ pos 0) × (turn k.high.a k.high.b w <ℤ pos 0)) ⊎ ((pos 0 <ℤ turn low.a low.b w) × (pos 0 <ℤ turn other.a other.b w))

  -- A gap with the same first end does not begin after another: its start would be in that one, or a segment would cross another.
  not_later : (low other : Pair) (w : Point) → Has segments low → Has segments other → (g : IsGap segments low w) (k : IsGap segments other w) → IsStrict low other w g k → Before low.a other.a → ⊥
  not_later low other w i j g k strict h =
      by_lt_z (turn low.a low.b other.a) (pos 0) below (λ (over : pos 0 ≤ℤ turn low.a low.b other.a).
      by_lt_z (pos 0) (turn g.high.a g.high.b other.a) above (λ (under : turn g.high.a g.high.b other.a ≤ℤ pos 0).
      UpTo-not_Before w other.a (g.first other.a (end_a segments other j) h over under) k.later))
    where
      below : turn low.a low.b other.a <ℤ pos 0 → ⊥
      below l =
          none_cross low k.high i k.within
          (cross_from_below low k.high w (ordered low i) (ordered k.high k.within) (subst (λ a. Before low.a a) (sym k.start) h) (subst (λ a. Before a w) (sym k.start) k.later) (up_to_low low w i g) (up_to_high other w k)
          (subst (λ a. turn low.a low.b a <ℤ pos 0) (sym k.start) l) g.over k.under (⊎_elim (λ s. inr s.1) (λ s. inl s.0) strict))

      above : pos 0 <ℤ turn g.high.a g.high.b other.a → ⊥
      above l =
          none_cross g.high other g.within j
          (cross_from_above g.high other w (ordered g.high g.within) (ordered other j) (subst (λ a. Before a other.a) (sym g.start) h) k.later (up_to_high low w g) (up_to_low other w j k) l g.under k.over (⊎_elim (λ s. inl s.0) (λ s. inr s.1) strict))

  -- nor does it begin at the same point, above the other
  not_higher : (low other : Pair) (w : Point) → Has segments low → Has segments other → (g : IsGap segments low w) (k : IsGap segments other w) → IsStrict low other w g k → low.a ≡ other.a → pos 0 <ℤ turn low.a low.b other.b → ⊥
  not_higher low other w i j g k strict e h = by strict
    where
      top : Point
      top = step low.a g.high.b

      middle : Point
      middle = step low.a other.b

      way : Point
      way = step low.a w

      f_top : IsForward top
      f_top = forward low.a g.high.b (subst (λ a. Before a g.high.b) g.start (ordered g.high g.within))

      f_middle : IsForward middle
      f_middle = forward low.a other.b (subst (λ a. Before a other.b) (sym e) (ordered other j))

      f_way : IsForward way
      f_way = forward low.a w g.later

      first : pos 0 ≤ℤ cross_product top middle
      first = subst (λ x. pos 0 ≤ℤ x) (turn_by_steps low.a g.high.b other.b) (g.next other j (sym e) h)

      under : turn g.high.a g.high.b w ≡ cross_product top way
      under = same_start g.high low.a w g.start ∙ turn_by_steps low.a g.high.b w

      over : turn other.a other.b w ≡ cross_product middle way
      over = same_start other low.a w (sym e) ∙ turn_by_steps low.a other.b w

      by : IsStrict low other w g k → ⊥
      by (inl s) = plain (turn g.high.a g.high.b w) (cross_product top way) under s.0 (left_of_or_on top middle way f_top f_middle f_way first (subst (λ x. pos 0 ≤ℤ x) over k.over))
        where
          plain : (x y : ℤ) → x ≡ y → x <ℤ pos 0 → pos 0 ≤ℤ y → ⊥
          plain x y e h k = omega (arith, ints, e, h, k)
      by (inr s) = plain (turn g.high.a g.high.b w) (cross_product top way) under g.under (on_or_left_of top middle way f_top f_middle f_way first (subst (λ x. pos 0 <ℤ x) over s.1))
        where
          plain : (x y : ℤ) → x ≡ y → x ≤ℤ pos 0 → pos 0 <ℤ y → ⊥
          plain x y e h k = omega (arith, ints, e, h, k)

  swapped : (low other : Pair) (w : Point) (g : IsGap segments low w) (k : IsGap segments other w) → IsStrict low other w g k → IsStrict other low w k g
  swapped low other w g k (inl s) = inl (s.1, s.0)
  swapped low other w g k (inr s) = inr (s.1, s.0)

  -- so it is that of the same segment
  pub one_gap : (low other : Pair) (w : Point) → Has segments low → Has segments other → (g : IsGap segments low w) (k : IsGap segments other w) → IsStrict low other w g k → low ≡ other
  one_gap low other w i j g k strict =
      by_order low.a other.a
      (λ h. absurd (not_later low other w i j g k strict h))
      (λ e. by_sign (turn low.a low.b other.b)
      (λ h. absurd (not_higher other low w j i k g (swapped low other w g k strict) (sym e) (turned (turn other.a other.b low.b) (turn low.a low.b other.b) (same_start other low.a low.b (sym e) ∙ turn_swaps_last low.a other.b low.b) h)))
      (λ z. same_way low other i j e z)
      (λ h. absurd (not_higher low other w i j g k strict e h)))
      (λ h. absurd (not_later other low w j i k g (swapped low other w g k strict) h))
    where
      turned : (x y : ℤ) → x ≡ neg_ℤ y → y <ℤ pos 0 → pos 0 <ℤ x
      turned x y e h = omega (arith, ints, e, h)

  -- the first end is strictly below the upper segment, or its end, which is strictly above the lower one
  pub is_strict : (low : Pair) (w : Point) (g : IsGap segments low w) → (turn g.high.a g.high.b w <ℤ pos 0) ⊎ (pos 0 <ℤ turn low.a low.b w)
  is_strict low w g =
      by_UpTo w g.high.b (up_to_high low w g)
      (λ h. by_lt_z (turn g.high.a g.high.b w) (pos 0) (λ (l : turn g.high.a g.high.b w <ℤ pos 0). inl l)
      (λ (l : pos 0 ≤ℤ turn g.high.a g.high.b w). absurd (none_inside g.high w g.within g.is_end (inside_from_order g.high w (ordered g.high g.within) (zero_between (turn g.high.a g.high.b w) g.under l) (subst (λ a. Before a w) (sym g.start) g.later) h))))
      (λ e. inr (subst (λ p. pos 0 <ℤ turn low.a low.b p) (sym e) g.above))
    where
      zero_between : (x : ℤ) → x ≤ℤ pos 0 → pos 0 ≤ℤ x → x ≡ pos 0
      zero_between x h k = omega (arith, ints, h, k)

  -- ---- there is a gap above each segment but the topmost at its start

  above_parts : (low f : Pair) → is_above low f ≡ true → (f.a ≡ low.a) × (pos 0 <ℤ turn low.a low.b f.b)
  above_parts low f h = let parts = and_parts (point_eq f.a low.a) (int_lt (pos 0) (turn low.a low.b f.b)) h in (same_by_eq f.a low.a parts.0, lt-tested (pos 0) (turn low.a low.b f.b) parts.1)

  above_from : (low f : Pair) → f.a ≡ low.a → pos 0 <ℤ turn low.a low.b f.b → is_above low f ≡ true
  above_from low f e h = and_from (point_eq f.a low.a) (int_lt (pos 0) (turn low.a low.b f.b)) (subst (λ a. IsTrue (point_eq f.a a)) e (point_eq_same f.a)) (lt-test (pos 0) (turn low.a low.b f.b) h)

  -- the lowest of those above
  next_above : (low f : Pair) → Has segments f → is_above low f ≡ true →
      (m : Pair) × Has (filter (is_above low) segments) m × ((g : Pair) → Has (filter (is_above low) segments) g → pos 0 ≤ℤ turn low.a m.b g.b)
  next_above low f i h =
      first_where (λ g k. pos 0 ≤ℤ turn low.a g.b k.b) (λ g. Before low.a g.b) either through (filter (is_above low) segments) f (Has-filter (is_above low) segments f i h) starts
    where
      either : (g k : Pair) → Before low.a g.b → Before low.a k.b → (pos 0 ≤ℤ turn low.a g.b k.b) ⊎ (pos 0 ≤ℤ turn low.a k.b g.b)
      either g k p q = by_lt_z (turn low.a g.b k.b) (pos 0) (λ (l : turn low.a g.b k.b <ℤ pos 0). inr (turned (turn low.a k.b g.b) (turn low.a g.b k.b) (turn_swaps_last low.a k.b g.b) l)) (λ (l : pos 0 ≤ℤ turn low.a g.b k.b). inl l)
        where
          turned : (x y : ℤ) → x ≡ neg_ℤ y → y <ℤ pos 0 → pos 0 ≤ℤ x
          turned x y e h = omega (arith, ints, e, h)

      through : (g k m : Pair) → Before low.a g.b → Before low.a k.b → Before low.a m.b → pos 0 ≤ℤ turn low.a g.b k.b → pos 0 ≤ℤ turn low.a k.b m.b → pos 0 ≤ℤ turn low.a g.b m.b
      through g k m p q r h l =
          subst (λ x. pos 0 ≤ℤ x) (sym (turn_by_steps low.a g.b m.b))
          (left_of_or_on (step low.a g.b) (step low.a k.b) (step low.a m.b) (forward low.a g.b p) (forward low.a k.b q) (forward low.a m.b r) (subst (λ x. pos 0 ≤ℤ x) (turn_by_steps low.a g.b k.b) h) (subst (λ x. pos 0 ≤ℤ x) (turn_by_steps low.a k.b m.b) l))

      starts : (g : Pair) → Has (filter (is_above low) segments) g → Before low.a g.b
      starts g j = let found = Has-filter_out (is_above low) segments g j in subst (λ a. Before a g.b) (above_parts low g found.1).0 (ordered g found.0)

  in_gap_parts : (low high : Pair) (p : Point) → is_in_gap low high p ≡ true → Before low.a p × (pos 0 ≤ℤ turn low.a low.b p) × (turn high.a high.b p ≤ℤ pos 0)
  in_gap_parts low high p h =
      let outer = and_parts (point_lt low.a p && int_le (pos 0) (turn low.a low.b p)) (int_le (turn high.a high.b p) (pos 0)) h in
      let inner = and_parts (point_lt low.a p) (int_le (pos 0) (turn low.a low.b p)) outer.0 in
      (before low.a p inner.0, le-tested (pos 0) (turn low.a low.b p) inner.1, le-tested (turn high.a high.b p) (pos 0) outer.1)

  in_gap_from : (low high : Pair) (p : Point) → Before low.a p → pos 0 ≤ℤ turn low.a low.b p → turn high.a high.b p ≤ℤ pos 0 → is_in_gap low high p ≡ true
  in_gap_from low high p h k l =
      and_from (point_lt low.a p && int_le (pos 0) (turn low.a low.b p)) (int_le (turn high.a high.b p) (pos 0))
      (and_from (point_lt low.a p) (int_le (pos 0) (turn low.a low.b p)) (from_before low.a p h) (le-test (pos 0) (turn low.a low.b p) k)) (le-test (turn high.a high.b p) (pos 0) l)

  gap_above : (low f : Pair) → Has segments f → is_above low f ≡ true → (w : Point) × IsGap segments low w
  gap_above low f i h =
      let found = next_above low f i h in
      let kept = Has-filter_out (is_above low) segments found.0 found.1 in
      let parts = above_parts low found.0 kept.1 in
      let starts = subst (λ a. Before a found.0.b) parts.0 (ordered found.0 kept.0) in
      let inside = in_gap_from low found.0 found.0.b starts (weak (turn low.a low.b found.0.b) parts.1) (nonpos_zero (turn found.0.a found.0.b found.0.b) (turn_same_last found.0.a found.0.b)) in
      let point = first_where UpTo (λ _. ⊤) either_order (λ p q r _ _ _. UpTo-trans p q r) (filter (is_in_gap low found.0) (ends segments)) found.0.b
      (Has-filter (is_in_gap low found.0) (ends segments) found.0.b (end_b segments found.0 kept.0) inside) (λ _ _. tt) in
      let there = Has-filter_out (is_in_gap low found.0) (ends segments) point.0 point.1 in
      let lies = in_gap_parts low found.0 point.0 there.1 in (
        point.0,
        record {
          high = found.0;
          within = kept.0;
          start = parts.0;
          above = parts.1;
          next = λ g j e k. found.2 g (Has-filter (is_above low) segments g j (above_from low g e k));
          is_end = there.0;
          later = lies.0;
          over = lies.1;
          under = lies.2;
          first = λ p j b o u. point.2 p (Has-filter (is_in_gap low found.0) (ends segments) p j (in_gap_from low found.0 p b o u));
        },
      )

  -- a segment is the topmost at its start, or there is a gap above it
  pub top_or_gap : (low : Pair) → (((f : Pair) → Has segments f → f.a ≡ low.a → pos 0 <ℤ turn low.a low.b f.b → ⊥) ⊎ ((w : Point) × IsGap segments low w))
  top_or_gap low = by_list_any (is_above low) segments (λ f i h. inr (gap_above low f i h)) (λ none. inl (λ f i e h. both_ways (is_above low f) (none f i) (above_from low f e h)))

  -- two topmost at one start are one
  pub one_top : (s t : Pair) → Has segments s → Has segments t → s.a ≡ t.a → ((f : Pair) → Has segments f → f.a ≡ s.a → pos 0 <ℤ turn s.a s.b f.b → ⊥) → ((f : Pair) → Has segments f → f.a ≡ t.a → pos 0 <ℤ turn t.a t.b f.b → ⊥) → s ≡ t
  one_top s t i j e h k =
      by_sign (turn s.a s.b t.b)
      (λ l. absurd (k s i e (turned (turn t.a t.b s.b) (turn s.a s.b t.b) (same_start t s.a s.b (sym e) ∙ turn_swaps_last s.a t.b s.b) l)))
      (λ z. same_way s t i j e z)
      (λ l. absurd (h t j (sym e) l))
    where
      turned : (x y : ℤ) → x ≡ neg_ℤ y → y <ℤ pos 0 → pos 0 <ℤ x
      turned x y e h = omega (arith, ints, e, h)
