-- The winding at a place directly to the left or to the right of a vertical segment is that of the segment's side. The ray from the place to that
-- side meets what the ray from its foot on the segment meets; and at the foot the ray straight down meets what is up to the segment's lower end in the column to the right.
use Rattle.std.proofs.Common.{◌≡◌, ap, ap₂, refl, sym, subst, ◌∙◌, arith, ℕ, ◌<◌, inl, inr, [], ◌∷◌}
use Rattle.std.specs.Prelude.{ℤ, pos, ◌+ℤ◌, ◌-ℤ◌, ◌*ℤ◌, neg_ℤ, ◌<ℤ◌, ◌≤ℤ◌, int_le, int_lt, IsTrue, Bool, true, false, cond, not, ◌&&◌, ◌||◌, List, filter, bit_or}
use Rattle.std.specs.List.{list_all}
use Rattle.std.specs.Ordering.{int_eq}
use Rattle.std.proofs.lemmas.Int.{ints, by_lt_z}
use Rattle.std.proofs.lemmas.Bool.{and_parts, and_from, and_left, or_left, or_right, or_cases, cases_Bool, both_ways, false_from_ne_true, and_right}
use Rattle.std.proofs.lemmas.Bool.Decides.{Decides-int_eq}
use Rattle.std.proofs.lemmas.List.Elements.{All-weaker}
use Rattle.overlay_base.specs.declared.overlay_core.fill_rule.FillRule.{FillRule}
use Rattle.overlay_geometry.specs.Points.{Point, Pair, turn, pair_eq, is_vertical, is_between}
use Rattle.overlay_base.specs.Windings.{Winding, add, weight}
use Rattle.overlay_base.specs.Segments.{WholeSegment}
use Rattle.overlay_geometry.specs.Below.{width}
use Rattle.overlay_base.specs.Balance.{IsBalanced}
use Rattle.overlay_base.specs.Sums.{weighed}
use Rattle.overlay_base.specs.Places.{RationalPoint, spans, height_at, runs_below, lies_below, winding_below}
use Rattle.overlay_base.specs.Rays.{place_turn, goes_through, is_on_none, rises_past, falls_past, has_on_left, has_on_right, rises_left_of, falls_left_of, rises_right_of, falls_right_of, winding_left, winding_right}
use Rattle.overlay_geometry.proofs.laws.geometry.Polynomials.{as_D, diffs, D-eq, mul-pos, mul-neg, mul-le_left, cancel-lt, cancel-le, mul-nonneg, mul-nonpos, difference-pos}
use Rattle.overlay_geometry.proofs.laws.geometry.Points.{same_pair_by_eq, pair_eq_same, inside_from_order}
use Rattle.overlay_geometry.proofs.laws.lists.Lists.{Has, list_all-at}
use Rattle.overlay_base.proofs.laws.counts.Windings.{same_windings}
use Rattle.overlay_base.proofs.laws.rays.Quadrants.{one}
use Rattle.overlay_base.proofs.laws.rays.Losses.{lost, weighed-in, weighed-sum, weighed-neg, balanced_loses_nothing}
use Rattle.overlay_base.proofs.laws.rays.Rays.{tested-subj, tested-clip, tested-mask, difference-subj, difference-clip, difference-mask, turn_is_height, lt-difference, left_agrees, right_agrees, any_ray_will_do}
use Rattle.overlay_sweep.specs.ColumnWindings.{weights_up_to, right_winding, side_bottom, side_top}
use Rattle.overlay_sweep.proofs.laws.columns.ColumnLines.{spans_column_parts, point_lt-cases, is_up_to, lies_up_to, leaves_upward, filter_weights_are}
use Rattle.overlay_sweep.proofs.laws.columns.ColumnOrder.{IsApart}
use Rattle.overlay_sweep.proofs.laws.columns.Members.{All-from_Has, IsArranged, is_arranged, single_sum}
use Rattle.overlay_sweep.proofs.laws.live.Sides.{apart_in, column_weights-same, only_one_rises, side_top_is}
use Rattle.overlay_sweep.specs.Fill.{fill_byte}
use Rattle.overlay_build.specs.Values.{tells_apart}
use Rattle.overlay_build.specs.Sides.{has_sides_apart, with_sides}
use Rattle.overlay_build.specs.Beside.{foot, is_level_with, runs_left_of, runs_right_of, is_directly_above, is_directly_below, is_directly_left, is_directly_right, is_on_top_of, is_at_bottom_of, TellsPlaces, FillTellsPlaces}
use Rattle.overlay_build.specs.Laws.{SidesTellPlaces, FillsTellPlaces}
use Rattle.overlay_build.proofs.laws.sides.Uprights.{none_between, upright_level}
use Rattle.overlay_build.proofs.laws.regions.PlaceColumns.{IsInColumn}
use Rattle.overlay_build.proofs.laws.regions.Regions.{same_weights}
use Rattle.overlay_build.proofs.laws.regions.Beside.{directly_above, directly_below}
use Rattle.overlay_geometry.proofs.laws.integers.Tests.{le_itself, le_equal, le_weak, lt-test, lt-test_false, le-test, le-test_false, lt-tested, le-tested}
use Rattle.overlay_geometry.proofs.laws.integers.Products.{pos_nonneg}

-- ---- lists and tests

filter_in : (f g : WholeSegment → Bool) (xs : List WholeSegment) → ((s : WholeSegment) → Has xs s → f s ≡ g s) → filter f xs ≡ filter g xs
filter_in f g [] e = refl
filter_in f g (s ∷ ss) e = ap₂ (λ (b : Bool) (rest : List WholeSegment). cond b (s ∷ rest) rest) (e s (inl refl)) (filter_in f g ss (λ t m. e t (inr m)))

alike : (r h k : Bool) → (r ≡ true → h ≡ true → k ≡ true) → (r ≡ true → k ≡ true → h ≡ true) → (r && h) ≡ (r && k)
alike false h k f g = refl
alike true true k f g = sym (f refl refl)
alike true false true f g = g refl refl
alike true false false f g = refl

above_zero : (d : ℕ) → 0 < d → pos 0 <ℤ pos d
above_zero d h = omega (arith, ints, h)

-- ---- one segment and two places at one height

module _ (t : Pair) (p q : RationalPoint) (same_y : p.y ≡ q.y) (same_bottom : p.bottom ≡ q.bottom) where
  turn_moves : place_turn t q ≡ place_turn t p -ℤ (t.b.y -ℤ t.a.y) *ℤ (q.x -ℤ p.x)
  turn_moves = rw (same_y, same_bottom) (plain (width t) (t.b.y -ℤ t.a.y) t.a.x t.a.y p.x q.x q.y (pos q.bottom))
    where
      plain : (w h ax ay x z y d : ℤ) → w *ℤ (y -ℤ ay *ℤ d) -ℤ h *ℤ (z -ℤ ax *ℤ d) ≡ (w *ℤ (y -ℤ ay *ℤ d) -ℤ h *ℤ (x -ℤ ax *ℤ d)) -ℤ h *ℤ (z -ℤ x)
      plain w h ax ay x z y d = rw (as_D w, as_D h, as_D ax, as_D ay, as_D x, as_D z, as_D y, as_D d) (simp diffs (D-eq _ _ _ _ (omega arith)))

  stays_right : pos 0 <ℤ ((t.b.y -ℤ t.a.y) *ℤ (q.x -ℤ p.x)) → has_on_right t p ≡ true → has_on_right t q ≡ true
  stays_right h k = lt-test _ _ (plain _ _ _ turn_moves h (lt-tested _ _ k))
    where
      plain : (u v m : ℤ) → v ≡ u -ℤ m → pos 0 <ℤ m → u <ℤ pos 0 → v <ℤ pos 0
      plain u v m e h k = omega (arith, ints, e, h, k)

  stays_left : ((t.b.y -ℤ t.a.y) *ℤ (q.x -ℤ p.x)) <ℤ pos 0 → has_on_left t p ≡ true → has_on_left t q ≡ true
  stays_left h k = lt-test _ _ (plain _ _ _ turn_moves h (lt-tested _ _ k))
    where
      plain : (u v m : ℤ) → v ≡ u -ℤ m → m <ℤ pos 0 → pos 0 <ℤ u → pos 0 <ℤ v
      plain u v m e h k = omega (arith, ints, e, h, k)

module _ (t : Pair) (p : RationalPoint) (some : 0 < p.bottom) where
  up_from : rises_past t p ≡ true → pos 0 <ℤ (t.b.y -ℤ t.a.y)
  up_from h =
      let parts = and_parts (int_le (t.a.y *ℤ pos p.bottom) p.y) (int_lt p.y (t.b.y *ℤ pos p.bottom)) h in
      let l = le-tested _ _ parts.0 in
      let k = lt-tested _ _ parts.1 in
      difference-pos t.a.y t.b.y (cancel-lt (pos p.bottom) t.a.y t.b.y (above_zero p.bottom some) (through t.a.y t.b.y (pos p.bottom) p.y l k))
    where
      through : (a b d y : ℤ) → (a *ℤ d) ≤ℤ y → y <ℤ (b *ℤ d) → (d *ℤ a) <ℤ (d *ℤ b)
      through a b d y h k = let e : d *ℤ a ≡ a *ℤ d = omega (arith, ints) in let f : d *ℤ b ≡ b *ℤ d = omega (arith, ints) in omega (arith, ints, e, f, h, k)

  down_from : falls_past t p ≡ true → (t.b.y -ℤ t.a.y) <ℤ pos 0
  down_from h =
      let parts = and_parts (int_le (t.b.y *ℤ pos p.bottom) p.y) (int_lt p.y (t.a.y *ℤ pos p.bottom)) h in
      let l = le-tested _ _ parts.0 in
      let k = lt-tested _ _ parts.1 in
      plain t.a.y t.b.y (cancel-lt (pos p.bottom) t.b.y t.a.y (above_zero p.bottom some) (through t.b.y t.a.y (pos p.bottom) p.y l k))
    where
      plain : (a b : ℤ) → b <ℤ a → (b -ℤ a) <ℤ pos 0
      plain a b h = omega (arith, ints, h)

      through : (a b d y : ℤ) → (a *ℤ d) ≤ℤ y → y <ℤ (b *ℤ d) → (d *ℤ a) <ℤ (d *ℤ b)
      through a b d y h k = let e : d *ℤ a ≡ a *ℤ d = omega (arith, ints) in let f : d *ℤ b ≡ b *ℤ d = omega (arith, ints) in omega (arith, ints, e, f, h, k)

  not_both_ways : rises_past t p ≡ true → falls_past t p ≡ true → ⊥
  not_both_ways h k = let u = up_from h in let d = down_from k in omega (arith, ints, u, d)

-- ---- a place to the left of its foot, or to the right

turned_neg : (k g : ℤ) → k <ℤ pos 0 → pos 0 <ℤ g → (k *ℤ g) <ℤ pos 0
turned_neg k g h m = let n = mul-neg g k m h in let e : g *ℤ k ≡ k *ℤ g = omega (arith, ints) in omega (arith, ints, e, n)

both_neg : (k g : ℤ) → k <ℤ pos 0 → g <ℤ pos 0 → pos 0 <ℤ (k *ℤ g)
both_neg k g h m = let n = mul-pos (neg_ℤ k) (neg_ℤ g) (omega (arith, ints, h)) (omega (arith, ints, m)) in let e : neg_ℤ k *ℤ neg_ℤ g ≡ k *ℤ g = rw (as_D k, as_D g) (simp diffs (D-eq _ _ _ _ (omega arith))) in omega (arith, ints, e, n)

module _ (s : Pair) (p : RationalPoint) (some : 0 < p.bottom) (t : Pair) where
  -- nothing runs between p and its foot
  module _ (side : p.x <ℤ (s.a.x *ℤ pos p.bottom)) (free : runs_left_of t (foot s p) ≡ true → runs_left_of t p ≡ true) where
    right_gap : pos 0 <ℤ ((foot s p).x -ℤ p.x)
    right_gap = omega (arith, ints, side)

    rises_left_alike : rises_left_of t p ≡ rises_left_of t (foot s p)
    rises_left_alike = alike (rises_past t p) (has_on_right t p) (has_on_right t (foot s p))
        (λ r k. stays_right t p (foot s p) refl refl (mul-pos (t.b.y -ℤ t.a.y) ((foot s p).x -ℤ p.x) (up_from t p some r) right_gap) k)
        (λ r k. elim (or_cases (rises_left_of t p) (falls_left_of t p) (free (or_left _ _ (and_from _ _ r k)))) [
          | inl e ↦ (and_parts (rises_past t p) (has_on_right t p) e).1
          | inr e ↦ absurd (not_both_ways t p some r (and_parts (falls_past t p) (has_on_left t p) e).0)
        ])

    falls_left_alike : falls_left_of t p ≡ falls_left_of t (foot s p)
    falls_left_alike = alike (falls_past t p) (has_on_left t p) (has_on_left t (foot s p))
        (λ r k. stays_left t p (foot s p) refl refl (turned_neg (t.b.y -ℤ t.a.y) ((foot s p).x -ℤ p.x) (down_from t p some r) right_gap) k)
        (λ r k. elim (or_cases (rises_left_of t p) (falls_left_of t p) (free (or_right _ _ (and_from _ _ r k)))) [
          | inl e ↦ absurd (not_both_ways t p some (and_parts (rises_past t p) (has_on_right t p) e).0 r)
          | inr e ↦ (and_parts (falls_past t p) (has_on_left t p) e).1
        ])

  module _ (side : (s.a.x *ℤ pos p.bottom) <ℤ p.x) (free : runs_right_of t (foot s p) ≡ true → runs_right_of t p ≡ true) where
    left_gap : ((foot s p).x -ℤ p.x) <ℤ pos 0
    left_gap = omega (arith, ints, side)

    rises_right_alike : rises_right_of t p ≡ rises_right_of t (foot s p)
    rises_right_alike = alike (rises_past t p) (has_on_left t p) (has_on_left t (foot s p))
        (λ r k. stays_left t p (foot s p) refl refl (mul-neg (t.b.y -ℤ t.a.y) ((foot s p).x -ℤ p.x) (up_from t p some r) left_gap) k)
        (λ r k. elim (or_cases (rises_right_of t p) (falls_right_of t p) (free (or_left _ _ (and_from _ _ r k)))) [
          | inl e ↦ (and_parts (rises_past t p) (has_on_left t p) e).1
          | inr e ↦ absurd (not_both_ways t p some r (and_parts (falls_past t p) (has_on_right t p) e).0)
        ])

    falls_right_alike : falls_right_of t p ≡ falls_right_of t (foot s p)
    falls_right_alike = alike (falls_past t p) (has_on_right t p) (has_on_right t (foot s p))
        (λ r k. stays_right t p (foot s p) refl refl (both_neg (t.b.y -ℤ t.a.y) ((foot s p).x -ℤ p.x) (down_from t p some r) left_gap) k)
        (λ r k. elim (or_cases (rises_right_of t p) (falls_right_of t p) (free (or_right _ _ (and_from _ _ r k)))) [
          | inl e ↦ absurd (not_both_ways t p some (and_parts (rises_past t p) (has_on_left t p) e).0 r)
          | inr e ↦ (and_parts (falls_past t p) (has_on_right t p) e).1
        ])

implied : (a b : Bool) → (not a || b) ≡ true → a ≡ true → b ≡ true
implied true b h e = h
implied false b h e = absurd (cc)

module _ (xs : List WholeSegment) (s : Pair) (p : RationalPoint) (some : 0 < p.bottom) where
  winding_left_at_foot : p.x <ℤ (s.a.x *ℤ pos p.bottom) → list_all (λ t. not (runs_left_of t.pair (foot s p)) || runs_left_of t.pair p) xs ≡ true → winding_left xs p ≡ winding_left xs (foot s p)
  unfolding winding_left
  winding_left_at_foot side free =
      let free_of = λ (t : WholeSegment) (n : Has xs t). implied (runs_left_of t.pair (foot s p)) (runs_left_of t.pair p) (list_all-at (λ t. not (runs_left_of t.pair (foot s p)) || runs_left_of t.pair p) xs t free n) in
      let fall = filter_in (λ t. falls_left_of t.pair p) (λ t. falls_left_of t.pair (foot s p)) xs (λ t n. falls_left_alike s p some t.pair side (free_of t n)) in
      let rise = filter_in (λ t. rises_left_of t.pair p) (λ t. rises_left_of t.pair (foot s p)) xs (λ t n. rises_left_alike s p some t.pair side (free_of t n)) in
      rw (fall, rise) refl

  winding_right_at_foot : (s.a.x *ℤ pos p.bottom) <ℤ p.x → list_all (λ t. not (runs_right_of t.pair (foot s p)) || runs_right_of t.pair p) xs ≡ true → winding_right xs p ≡ winding_right xs (foot s p)
  unfolding winding_right
  winding_right_at_foot side free =
      let free_of = λ (t : WholeSegment) (n : Has xs t). implied (runs_right_of t.pair (foot s p)) (runs_right_of t.pair p) (list_all-at (λ t. not (runs_right_of t.pair (foot s p)) || runs_right_of t.pair p) xs t free n) in
      let rise = filter_in (λ t. rises_right_of t.pair p) (λ t. rises_right_of t.pair (foot s p)) xs (λ t n. rises_right_alike s p some t.pair side (free_of t n)) in
      let fall = filter_in (λ t. falls_right_of t.pair p) (λ t. falls_right_of t.pair (foot s p)) xs (λ t n. falls_right_alike s p some t.pair side (free_of t n)) in
      rw (rise, fall) refl

-- ---- at the foot

one_more_column : (c : ℤ) (d : ℕ) → 0 < d → (c *ℤ pos d) <ℤ ((c +ℤ pos 1) *ℤ pos d)
one_more_column c d h = let e : (c +ℤ pos 1) *ℤ pos d ≡ c *ℤ pos d +ℤ pos d = rw (as_D c) (simp diffs (D-eq _ _ _ _ (omega arith))) in omega (arith, ints, e, h)

no_more : (x : ℤ) → x ≡ x +ℤ neg_ℤ (pos 0)
no_more x = omega (arith, ints)

without_last : (b l k n : ℤ) → b ≡ (l +ℤ k) +ℤ n → k ≡ pos 0 → l ≡ b +ℤ neg_ℤ n
without_last b l k n e f = omega (arith, ints, e, f)

back_twice : (x y : ℤ) → x +ℤ neg_ℤ (neg_ℤ y) ≡ x +ℤ y
back_twice x y = omega (arith, ints)

plus_none : (b l k : ℤ) → b ≡ l +ℤ k → k ≡ pos 0 → l ≡ b
plus_none b l k e f = omega (arith, ints, e, f)

module _ (xs : List WholeSegment) (arranged : IsArranged xs) (balanced : IsBalanced xs) (s : WholeSegment) (m : Has xs s) (p : RationalPoint) (some : 0 < p.bottom)
    (e : s.pair.a.x ≡ s.pair.b.x) (up : s.pair.a.y <ℤ s.pair.b.y) (over : (s.pair.a.y *ℤ pos p.bottom) <ℤ p.y) (under : p.y <ℤ (s.pair.b.y *ℤ pos p.bottom)) where
  abbrev q : RationalPoint
  q = foot s.pair p

  -- ---- turns at the foot, by those at the ends

  turn_at_foot : (u : Pair) (r : Point) → r.x ≡ s.pair.a.x → place_turn u q ≡ pos p.bottom *ℤ turn u.a u.b r +ℤ width u *ℤ (p.y -ℤ r.y *ℤ pos p.bottom)
  unfolding turn
  turn_at_foot u r f = rw f (plain (width u) (u.b.y -ℤ u.a.y) u.a.x u.a.y s.pair.a.x r.y p.y (pos p.bottom))
    where
      plain : (w h ax ay x z y d : ℤ) → w *ℤ (y -ℤ ay *ℤ d) -ℤ h *ℤ (x *ℤ d -ℤ ax *ℤ d) ≡ d *ℤ (w *ℤ (z -ℤ ay) -ℤ h *ℤ (x -ℤ ax)) +ℤ w *ℤ (y -ℤ z *ℤ d)
      plain w h ax ay x z y d = rw (as_D w, as_D h, as_D ax, as_D ay, as_D x, as_D z, as_D y, as_D d) (simp diffs (D-eq _ _ _ _ (omega arith)))

  over_by : pos 0 <ℤ (p.y -ℤ s.pair.a.y *ℤ pos p.bottom)
  over_by = omega (arith, ints, over)

  under_by : (p.y -ℤ s.pair.b.y *ℤ pos p.bottom) <ℤ pos 0
  under_by = omega (arith, ints, under)

  module _ (u : Pair) (wu : u.a.x <ℤ u.b.x) where
    wide_u : pos 0 <ℤ width u
    wide_u = omega (arith, ints, wu)

    -- what is up to the lower end is below the foot
    foot_over : pos 0 ≤ℤ turn u.a u.b s.pair.a → pos 0 <ℤ place_turn u q
    foot_over h = rw (turn_at_foot u s.pair.a refl) (plain _ _ (mul-nonneg (pos p.bottom) (turn u.a u.b s.pair.a) (pos_nonneg p.bottom) h) (mul-pos (width u) (p.y -ℤ s.pair.a.y *ℤ pos p.bottom) wide_u over_by))
      where
        plain : (a b : ℤ) → pos 0 ≤ℤ a → pos 0 <ℤ b → pos 0 <ℤ (a +ℤ b)
        plain a b h k = omega (arith, ints, h, k)

    -- what is not below the upper end is above the foot
    foot_under : turn u.a u.b s.pair.b ≤ℤ pos 0 → place_turn u q <ℤ pos 0
    foot_under h = rw (turn_at_foot u s.pair.b (sym e)) (plain _ _ (mul-nonpos (pos p.bottom) (turn u.a u.b s.pair.b) (pos_nonneg p.bottom) h) (mul-neg (width u) (p.y -ℤ s.pair.b.y *ℤ pos p.bottom) wide_u under_by))
      where
        plain : (a b : ℤ) → a ≤ℤ pos 0 → b <ℤ pos 0 → (a +ℤ b) <ℤ pos 0
        plain a b h k = omega (arith, ints, h, k)

    module _ (apart : IsApart s.pair u) (ua : u.a.x ≤ℤ s.pair.a.x) (ub : s.pair.a.x ≤ℤ u.b.x) where
      -- so the foot lies strictly below or strictly above
      by_lower_end : {P : Type 0} → (pos 0 ≤ℤ turn u.a u.b s.pair.a → pos 0 <ℤ place_turn u q → P) → (turn u.a u.b s.pair.a <ℤ pos 0 → place_turn u q <ℤ pos 0 → P) → P
      by_lower_end f g =
          by_lt_z (turn u.a u.b s.pair.a) (pos 0)
          (λ (down : turn u.a u.b s.pair.a <ℤ pos 0). g down (foot_under (by_lt_z (pos 0) (turn u.a u.b s.pair.b) (λ (k : pos 0 <ℤ turn u.a u.b s.pair.b). absurd (none_between s.pair u e up wu ua ub apart down k)) (λ (k : turn u.a u.b s.pair.b ≤ℤ pos 0). k))))
          (λ (h : pos 0 ≤ℤ turn u.a u.b s.pair.a). f h (foot_over h))

      off_sloped : place_turn u q ≡ pos 0 → ⊥
      off_sloped z = by_lower_end (λ _ k. plain_up (place_turn u q) z k) (λ _ k. plain_down (place_turn u q) z k)
        where
          plain_up : (t : ℤ) → t ≡ pos 0 → pos 0 <ℤ t → ⊥
          plain_up t h k = omega (arith, ints, h, k)

          plain_down : (t : ℤ) → t ≡ pos 0 → t <ℤ pos 0 → ⊥
          plain_down t h k = omega (arith, ints, h, k)

      below_foot : runs_below u q ≡ is_up_to s.pair.a u
      below_foot =
          lt-difference (height_at u q) (q.y *ℤ width u) (place_turn u q) (turn_is_height u q)
          ∙ by_lower_end
          (λ h k. lt-test (pos 0) (place_turn u q) k ∙ sym (le-test (pos 0) (turn u.a u.b s.pair.a) h))
          (λ h k. lt-test_false (pos 0) (place_turn u q) (weakly (place_turn u q) k) ∙ sym (le-test_false (pos 0) (turn u.a u.b s.pair.a) h))
        where
          weakly : (t : ℤ) → t <ℤ pos 0 → t ≤ℤ pos 0
          weakly t h = omega (arith, ints, h)

  -- ---- the ray straight down from the foot

  in_column : IsInColumn q.x q.bottom s.pair.a.x
  in_column = record { low = omega (arith, ints); high = one_more_column s.pair.a.x p.bottom some }

  below_at_foot : winding_below xs q ≡ right_winding xs s
  unfolding right_winding weights_up_to
  below_at_foot =
      sym (same_weights xs arranged balanced q s.pair.a.x in_column)
      ∙ column_weights-same (λ u. runs_below u q) (is_up_to s.pair.a) xs s.pair.a.x
      (λ u n h. let ends = spans_column_parts s.pair.a.x u.pair h in below_foot u.pair (omega (arith, ints, ends)) (apart_in xs arranged balanced s u m n) ends.0 (omega (arith, ints, ends)))

  -- ---- no other segment goes through the foot

  between_parts : (a b z : ℤ) → a ≤ℤ b → is_between a b z ≡ true → (a ≤ℤ z) × (z ≤ℤ b)
  between_parts a b z h k = grind (arith, ints)

  scaled_le : (a b : ℤ) → a ≤ℤ b → (a *ℤ pos p.bottom) ≤ℤ (b *ℤ pos p.bottom)
  scaled_le a b h = let n = mul-le_left (pos p.bottom) a b (omega (arith, ints)) h in omega (arith, ints, n)

  unscaled_le : (a b : ℤ) → (a *ℤ pos p.bottom) ≤ℤ (b *ℤ pos p.bottom) → a ≤ℤ b
  unscaled_le a b h = cancel-le (pos p.bottom) a b (above_zero p.bottom some) (turned a b (pos p.bottom) h)
    where
      turned : (a b d : ℤ) → (a *ℤ d) ≤ℤ (b *ℤ d) → (d *ℤ a) ≤ℤ (d *ℤ b)
      turned a b d h = let f : d *ℤ a ≡ a *ℤ d = omega (arith, ints) in let g : d *ℤ b ≡ b *ℤ d = omega (arith, ints) in omega (arith, ints, f, g, h)

  unscaled_lt : (a b : ℤ) → (a *ℤ pos p.bottom) <ℤ (b *ℤ pos p.bottom) → a <ℤ b
  unscaled_lt a b h = cancel-lt (pos p.bottom) a b (above_zero p.bottom some) (turned a b (pos p.bottom) h)
    where
      turned : (a b d : ℤ) → (a *ℤ d) <ℤ (b *ℤ d) → (d *ℤ a) <ℤ (d *ℤ b)
      turned a b d h = let f : d *ℤ a ≡ a *ℤ d = omega (arith, ints) in let g : d *ℤ b ≡ b *ℤ d = omega (arith, ints) in omega (arith, ints, f, g, h)

  module _ (u : WholeSegment) (n : Has xs u) (other : u.pair ≡ s.pair → ⊥) where
    off_upright : u.pair.a.x ≡ u.pair.b.x → u.pair.a.x ≡ s.pair.a.x → (u.pair.a.y *ℤ pos p.bottom) ≤ℤ p.y → p.y ≤ℤ (u.pair.b.y *ℤ pos p.bottom) → ⊥
    off_upright ux at low high =
        let past : s.pair.a.y <ℤ u.pair.b.y = unscaled_lt s.pair.a.y u.pair.b.y (omega (arith, ints, over, high)) in
        let short : u.pair.a.y <ℤ s.pair.b.y = unscaled_lt u.pair.a.y s.pair.b.y (omega (arith, ints, under, low)) in
        by_lt_z s.pair.a.y u.pair.a.y
        (λ (l : s.pair.a.y <ℤ u.pair.a.y). (apart_in xs arranged balanced s u m n).a_inside (inside_from_order s.pair u.pair.a (inr (e, up)) (upright_level s.pair u.pair.a e at) (inr (sym at, l)) (inr (at ∙ e, short))))
        (λ (l : u.pair.a.y ≤ℤ s.pair.a.y). other (only_one_rises xs arranged balanced s m e up u n (rises ux at l past)))
      where
        rises : u.pair.a.x ≡ u.pair.b.x → u.pair.a.x ≡ s.pair.a.x → u.pair.a.y ≤ℤ s.pair.a.y → s.pair.a.y <ℤ u.pair.b.y → leaves_upward (lies_up_to s.pair.a) u.pair ≡ true
        rises ux at l past =
            let lower : lies_up_to s.pair.a u.pair.a ≡ true = and_from _ _ ((Decides-int_eq u.pair.a.x s.pair.a.x).1 at) (le-test u.pair.a.y s.pair.a.y l) in
            let upper : lies_up_to s.pair.a u.pair.b ≡ false = and_right _ _ (le-test_false u.pair.b.y s.pair.a.y past) in
            and_from _ _ ((Decides-int_eq u.pair.a.x u.pair.b.x).1 ux) (rw (lower, upper) refl)

    off_foot : goes_through u.pair q ≡ false
    unfolding goes_through
    off_foot = false_from_ne_true _ (λ h.
        let parts = and_parts (int_eq (place_turn u.pair q) (pos 0) && is_between (u.pair.a.x *ℤ pos p.bottom) (u.pair.b.x *ℤ pos p.bottom) q.x) _ h in
        let first = and_parts (int_eq (place_turn u.pair q) (pos 0)) _ parts.0 in
        let zero = (Decides-int_eq (place_turn u.pair q) (pos 0)).0 first.0 in
        elim (point_lt-cases u.pair.a u.pair.b (arranged.ordered u n)) [
          | inl w ↦
              let across = between_parts _ _ _ (scaled_le u.pair.a.x u.pair.b.x (le_weak u.pair.a.x u.pair.b.x w)) first.1 in
              off_sloped u.pair w (apart_in xs arranged balanced s u m n) (unscaled_le u.pair.a.x s.pair.a.x across.0) (unscaled_le s.pair.a.x u.pair.b.x across.1) zero
          | inr w ↦
              let across = between_parts _ _ _ (scaled_le u.pair.a.x u.pair.b.x (le_equal u.pair.a.x u.pair.b.x w.0)) first.1 in
              let upward = between_parts _ _ _ (scaled_le u.pair.a.y u.pair.b.y (le_weak u.pair.a.y u.pair.b.y w.1)) parts.1 in
              off_upright w.0 (both u.pair.a.x s.pair.a.x u.pair.b.x w.0 (unscaled_le u.pair.a.x s.pair.a.x across.0) (unscaled_le s.pair.a.x u.pair.b.x across.1)) upward.0 upward.1
        ])
      where
        both : (a b c : ℤ) → a ≡ c → a ≤ℤ b → b ≤ℤ c → a ≡ b
        both a b c h k l = omega (arith, ints, h, k, l)

  -- ---- the other rays from the foot

  abbrev point_left : Point → Bool
  point_left r = int_le (r.x *ℤ pos p.bottom) q.x

  abbrev point_under : Point → Bool
  point_under r = int_le (r.y *ℤ pos p.bottom) q.y

  abbrev left_loss : Point → ℤ
  left_loss r = one (point_left r && point_under r)

  abbrev right_loss : Point → ℤ
  right_loss r = one (point_left r && point_under r) -ℤ one (point_under r)

  abbrev LeftAt : Pair → Type 0
  LeftAt u = one (lies_below u q) ≡ ((one (falls_left_of u q) +ℤ neg_ℤ (one (rises_left_of u q))) +ℤ lost left_loss u) +ℤ neg_ℤ (one (pair_eq u s.pair))

  abbrev RightAt : Pair → Type 0
  RightAt u = one (lies_below u q) ≡ (one (rises_right_of u q) +ℤ neg_ℤ (one (falls_right_of u q))) +ℤ lost right_loss u

  flat_turn : place_turn s.pair q ≡ pos 0
  flat_turn = plain s.pair.a.x s.pair.b.x (p.y -ℤ s.pair.a.y *ℤ pos p.bottom) (s.pair.b.y -ℤ s.pair.a.y) (s.pair.a.x *ℤ pos p.bottom) e
    where
      plain : (a b z h x : ℤ) → a ≡ b → (b -ℤ a) *ℤ z -ℤ h *ℤ (x -ℤ x) ≡ pos 0
      plain a b z h x f = rw f (flat b z h x)
        where
          flat : (b z h x : ℤ) → (b -ℤ b) *ℤ z -ℤ h *ℤ (x -ℤ x) ≡ pos 0
          flat b z h x = let k : b -ℤ b ≡ pos 0 = omega (arith, ints) in let l : x -ℤ x ≡ pos 0 = omega (arith, ints) in rw (k, l) (omega (arith, ints))

  not_on_left : has_on_left s.pair q ≡ false
  not_on_left = rw flat_turn refl

  not_on_right : has_on_right s.pair q ≡ false
  not_on_right = rw flat_turn refl

  same_x : s.pair.b.x *ℤ pos p.bottom ≡ s.pair.a.x *ℤ pos p.bottom
  same_x = ap (λ (z : ℤ). z *ℤ pos p.bottom) (sym e)

  a_left : point_left s.pair.a ≡ true
  a_left = le-test (s.pair.a.x *ℤ pos p.bottom) (s.pair.a.x *ℤ pos p.bottom) (le_itself _)

  a_under : point_under s.pair.a ≡ true
  a_under = le-test (s.pair.a.y *ℤ pos p.bottom) p.y (le_weak _ _ over)

  b_over : point_under s.pair.b ≡ false
  b_over = le-test_false (s.pair.b.y *ℤ pos p.bottom) p.y under

  not_spanned : spans s.pair q ≡ false
  not_spanned = and_right _ _ (lt-test_false q.x (s.pair.b.x *ℤ pos p.bottom) (rw same_x (le_itself _)))

  by_values : (below falls rises here there : Bool) → below ≡ false → falls ≡ false → rises ≡ false → here ≡ true → there ≡ false →
      one below ≡ ((one falls +ℤ neg_ℤ (one rises)) +ℤ (one here -ℤ one there)) +ℤ neg_ℤ (one true)
  by_values below falls rises here there f g h i j = rw (f, g, h, i, j) refl

  by_values_right : (below rises falls here under there past : Bool) → below ≡ false → rises ≡ false → falls ≡ false → here ≡ true → under ≡ true → there ≡ false → past ≡ false →
      one below ≡ (one rises +ℤ neg_ℤ (one falls)) +ℤ ((one here -ℤ one under) -ℤ (one there -ℤ one past))
  by_values_right below rises falls here under there past f g h i j k l = rw (f, g, h, i, j, k, l) refl

  a_here : (point_left s.pair.a && point_under s.pair.a) ≡ true
  a_here = and_from _ _ a_left a_under

  b_not_here : (point_left s.pair.b && point_under s.pair.b) ≡ false
  b_not_here = and_right (point_left s.pair.b) (point_under s.pair.b) b_over

  not_below : lies_below s.pair q ≡ false
  not_below = and_left (spans s.pair q) (runs_below s.pair q) not_spanned

  left_itself : LeftAt s.pair
  left_itself = rw (pair_eq_same s.pair)
      (by_values (lies_below s.pair q) (falls_left_of s.pair q) (rises_left_of s.pair q) (point_left s.pair.a && point_under s.pair.a) (point_left s.pair.b && point_under s.pair.b)
      not_below (and_right (falls_past s.pair q) (has_on_left s.pair q) not_on_left) (and_right (rises_past s.pair q) (has_on_right s.pair q) not_on_right) a_here b_not_here)

  right_itself : RightAt s.pair
  right_itself =
      by_values_right (lies_below s.pair q) (rises_right_of s.pair q) (falls_right_of s.pair q) (point_left s.pair.a && point_under s.pair.a) (point_under s.pair.a) (point_left s.pair.b && point_under s.pair.b) (point_under s.pair.b)
      not_below (and_right (rises_past s.pair q) (has_on_left s.pair q) not_on_left) (and_right (falls_past s.pair q) (has_on_right s.pair q) not_on_right) a_here a_under b_not_here b_over

  other_than : (u : WholeSegment) → pair_eq u.pair s.pair ≡ false → u.pair ≡ s.pair → ⊥
  other_than u f g = both_ways _ f (ap (λ (r : Pair). pair_eq r s.pair) g ∙ pair_eq_same s.pair)

  left_at : (u : WholeSegment) → Has xs u → LeftAt u.pair
  left_at u n = elim (cases_Bool (pair_eq u.pair s.pair)) [
    | inl f ↦ subst LeftAt (sym (same_pair_by_eq u.pair s.pair f)) left_itself
    | inr f ↦ rw f (left_agrees u.pair q some (arranged.ordered u n) (off_foot u n (other_than u f)) ∙ no_more _)
  ]

  right_at : (u : WholeSegment) → Has xs u → RightAt u.pair
  right_at u n = elim (cases_Bool (pair_eq u.pair s.pair)) [
    | inl f ↦ subst RightAt (sym (same_pair_by_eq u.pair s.pair f)) right_itself
    | inr f ↦ right_agrees u.pair q some (arranged.ordered u n) (off_foot u n (other_than u f))
  ]

  abbrev left_sign : Pair → ℤ
  left_sign u = one (falls_left_of u q) +ℤ neg_ℤ (one (rises_left_of u q))

  abbrev right_sign : Pair → ℤ
  right_sign u = one (rises_right_of u q) +ℤ neg_ℤ (one (falls_right_of u q))

  own_subj : weighed (λ u. one (pair_eq u s.pair)) (λ c. c.subj) xs ≡ s.count.subj
  own_subj = sym (tested-subj (λ u. pair_eq u s.pair) xs) ∙ ap (λ (c : Winding). c.subj) (filter_weights_are (λ u. pair_eq u s.pair) xs) ∙ single_sum (λ u. u.count.subj) s xs arranged.sorted m

  own_clip : weighed (λ u. one (pair_eq u s.pair)) (λ c. c.clip) xs ≡ s.count.clip
  own_clip = sym (tested-clip (λ u. pair_eq u s.pair) xs) ∙ ap (λ (c : Winding). c.clip) (filter_weights_are (λ u. pair_eq u s.pair) xs) ∙ single_sum (λ u. u.count.clip) s xs arranged.sorted m

  left_sum : (part : Winding → ℤ) (own : ℤ) → weighed (λ u. one (pair_eq u s.pair)) part xs ≡ own → weighed (lost left_loss) part xs ≡ pos 0 →
      weighed left_sign part xs ≡ weighed (λ u. one (lies_below u q)) part xs +ℤ own
  left_sum part own h k =
      without_last _ _ _ _
      (weighed-in (λ u. one (lies_below u q)) (λ u. (left_sign u +ℤ lost left_loss u) +ℤ neg_ℤ (one (pair_eq u s.pair))) part xs left_at
      ∙ weighed-sum (λ u. left_sign u +ℤ lost left_loss u) (λ u. neg_ℤ (one (pair_eq u s.pair))) part xs
      ∙ ap₂ ◌+ℤ◌ (weighed-sum left_sign (lost left_loss) part xs) (weighed-neg (λ u. one (pair_eq u s.pair)) part xs ∙ ap neg_ℤ h))
      k
      ∙ back_twice (weighed (λ u. one (lies_below u q)) part xs) own

  right_sum : (part : Winding → ℤ) → weighed (lost right_loss) part xs ≡ pos 0 → weighed right_sign part xs ≡ weighed (λ u. one (lies_below u q)) part xs
  right_sum part k =
      plus_none _ _ _
      (weighed-in (λ u. one (lies_below u q)) (λ u. right_sign u +ℤ lost right_loss u) part xs right_at ∙ weighed-sum right_sign (lost right_loss) part xs)
      k

  left_at_foot : winding_left xs q ≡ add (winding_below xs q) (weight s.count)
  unfolding winding_left winding_below
  left_at_foot = same_windings _ _
      (difference-subj (λ u. falls_left_of u q) (λ u. rises_left_of u q) xs ∙ left_sum (λ c. c.subj) s.count.subj own_subj (balanced_loses_nothing left_loss xs balanced).0 ∙ ap (λ (z : ℤ). z +ℤ s.count.subj) (sym (tested-subj (λ u. lies_below u q) xs)))
      (difference-clip (λ u. falls_left_of u q) (λ u. rises_left_of u q) xs ∙ left_sum (λ c. c.clip) s.count.clip own_clip (balanced_loses_nothing left_loss xs balanced).1 ∙ ap (λ (z : ℤ). z +ℤ s.count.clip) (sym (tested-clip (λ u. lies_below u q) xs)))
      (difference-mask (λ u. falls_left_of u q) (λ u. rises_left_of u q) xs ∙ sym (ap (λ (n : ℕ). bit_or n 0) (tested-mask (λ u. lies_below u q) xs)))

  right_at_foot : winding_right xs q ≡ winding_below xs q
  unfolding winding_right winding_below
  right_at_foot = same_windings _ _
      (difference-subj (λ u. rises_right_of u q) (λ u. falls_right_of u q) xs ∙ right_sum (λ c. c.subj) (balanced_loses_nothing right_loss xs balanced).0 ∙ sym (tested-subj (λ u. lies_below u q) xs))
      (difference-clip (λ u. rises_right_of u q) (λ u. falls_right_of u q) xs ∙ right_sum (λ c. c.clip) (balanced_loses_nothing right_loss xs balanced).1 ∙ sym (tested-clip (λ u. lies_below u q) xs))
      (difference-mask (λ u. rises_right_of u q) (λ u. falls_right_of u q) xs ∙ sym (tested-mask (λ u. lies_below u q) xs))

-- ---- the places directly to the left and to the right

module _ (xs : List WholeSegment) (arranged : IsArranged xs) (balanced : IsBalanced xs) (s : WholeSegment) (m : Has xs s) (p : RationalPoint) (some : 0 < p.bottom) where
  upward : s.pair.a.x ≡ s.pair.b.x → s.pair.a.y <ℤ s.pair.b.y
  upward e = elim (point_lt-cases s.pair.a s.pair.b (arranged.ordered s m)) [ inl h ↦ absurd (plain s.pair.a.x s.pair.b.x e h) | inr h ↦ h.1 ]
    where
      plain : (a b : ℤ) → a ≡ b → a <ℤ b → ⊥
      plain a b e h = omega (arith, ints, e, h)

  bottom_is : is_vertical s.pair ≡ true → right_winding xs s ≡ side_bottom xs s
  unfolding side_bottom
  bottom_is v = rw v refl

  pub directly_left : IsTrue (is_directly_left xs s.pair p) → winding_below xs p ≡ side_top xs s
  unfolding is_directly_left
  directly_left h =
      let a = and_parts (((is_vertical s.pair && is_level_with s.pair p) && int_lt p.x (s.pair.a.x *ℤ pos p.bottom)) && is_on_none xs p) _ h in
      let b = and_parts ((is_vertical s.pair && is_level_with s.pair p) && int_lt p.x (s.pair.a.x *ℤ pos p.bottom)) (is_on_none xs p) a.0 in
      let c = and_parts (is_vertical s.pair && is_level_with s.pair p) (int_lt p.x (s.pair.a.x *ℤ pos p.bottom)) b.0 in
      let d = and_parts (is_vertical s.pair) (is_level_with s.pair p) c.0 in
      let l = and_parts (int_lt (s.pair.a.y *ℤ pos p.bottom) p.y) (int_lt p.y (s.pair.b.y *ℤ pos p.bottom)) d.1 in
      let e = (Decides-int_eq s.pair.a.x s.pair.b.x).0 d.0 in
      let over = lt-tested (s.pair.a.y *ℤ pos p.bottom) p.y l.0 in
      let under = lt-tested p.y (s.pair.b.y *ℤ pos p.bottom) l.1 in
      sym (any_ray_will_do xs p arranged.all_ordered balanced some b.1).1
      ∙ winding_left_at_foot xs s.pair p some (lt-tested p.x (s.pair.a.x *ℤ pos p.bottom) c.1) a.1
      ∙ left_at_foot xs arranged balanced s m p some e (upward e) over under
      ∙ ap (λ (c : Winding). add c (weight s.count)) (below_at_foot xs arranged balanced s m p some e (upward e) over under ∙ bottom_is d.0)
      ∙ sym (side_top_is xs arranged balanced s m)

  pub directly_right : IsTrue (is_directly_right xs s.pair p) → winding_below xs p ≡ side_bottom xs s
  unfolding is_directly_right
  directly_right h =
      let a = and_parts (((is_vertical s.pair && is_level_with s.pair p) && int_lt (s.pair.a.x *ℤ pos p.bottom) p.x) && is_on_none xs p) _ h in
      let b = and_parts ((is_vertical s.pair && is_level_with s.pair p) && int_lt (s.pair.a.x *ℤ pos p.bottom) p.x) (is_on_none xs p) a.0 in
      let c = and_parts (is_vertical s.pair && is_level_with s.pair p) (int_lt (s.pair.a.x *ℤ pos p.bottom) p.x) b.0 in
      let d = and_parts (is_vertical s.pair) (is_level_with s.pair p) c.0 in
      let l = and_parts (int_lt (s.pair.a.y *ℤ pos p.bottom) p.y) (int_lt p.y (s.pair.b.y *ℤ pos p.bottom)) d.1 in
      let e = (Decides-int_eq s.pair.a.x s.pair.b.x).0 d.0 in
      let over = lt-tested (s.pair.a.y *ℤ pos p.bottom) p.y l.0 in
      let under = lt-tested p.y (s.pair.b.y *ℤ pos p.bottom) l.1 in
      sym (any_ray_will_do xs p arranged.all_ordered balanced some b.1).2
      ∙ winding_right_at_foot xs s.pair p some (lt-tested (s.pair.a.x *ℤ pos p.bottom) p.x c.1) a.1
      ∙ right_at_foot xs arranged balanced s m p some e (upward e) over under
      ∙ below_at_foot xs arranged balanced s m p some e (upward e) over under
      ∙ bottom_is d.0

-- ---- on both sides

pub sides_tell_places : SidesTellPlaces
sides_tell_places segments mapped planar balanced =
    let arranged = is_arranged segments mapped planar in
    All-from_Has (TellsPlaces segments) segments (λ s m. record {
      top = λ p some h. elim (or_cases (is_directly_above segments s.pair p) (is_directly_left segments s.pair p) h) [
        | inl k ↦ directly_above segments arranged balanced s m p some k
        | inr k ↦ directly_left segments arranged balanced s m p some k
      ];
      bottom = λ p some h. elim (or_cases (is_directly_below segments s.pair p) (is_directly_right segments s.pair p) h) [
        | inl k ↦ directly_below segments arranged balanced s m p some k
        | inr k ↦ directly_right segments arranged balanced s m p some k
      ];
    })

fill_tells_places : (rule : Bool → Bool → Bool) (fill_rule : FillRule) (segments : List WholeSegment) (s : WholeSegment) (p r : RationalPoint) → winding_below segments p ≡ side_top segments s → winding_below segments r ≡ side_bottom segments s → FillTellsPlaces rule fill_rule segments s p r
unfolding with_sides has_sides_apart
fill_tells_places rule fill_rule segments s p r top bottom = record {
  fill = ap₂ (λ (b t : Winding). fill_byte fill_rule b t s.count.mask) (sym bottom) (sym top);
  kept = ap₂ (tells_apart rule fill_rule) (sym bottom) (sym top);
}

pub fills_tell_places : FillsTellPlaces
fills_tell_places fill_rule rule segments mapped planar balanced p r some_p some_r =
    All-weaker (TellsPlaces segments) (λ s. IsTrue (is_on_top_of segments s.pair p) → IsTrue (is_at_bottom_of segments s.pair r) → FillTellsPlaces rule fill_rule segments s p r)
    (λ s tells h k. fill_tells_places rule fill_rule segments s p r (tells.top p some_p h) (tells.bottom r some_r k)) segments (sides_tell_places segments mapped planar balanced)
