-- There is a place on each side of every segment. Beside one that is not vertical take the middle of its first column: there the heights of two
-- segments with whole ends are equal or differ by at least 1 over twice the product of their widths, so a place nearer to the segment than that has no other
-- between. Beside a vertical one take the height half a unit above its lower end, and a place so near that no line changes its side on the way to it.
use Rattle.std.proofs.Common.{◌≡◌, ap, refl, sym, subst, ◌∙◌, arith, ℕ, suc, ◌+◌, ◌*◌, ◌<◌, inl, inr, [], ◌∷◌}
use Rattle.std.specs.Prelude.{ℤ, pos, negsuc, ◌+ℤ◌, ◌-ℤ◌, ◌*ℤ◌, neg_ℤ, ◌<ℤ◌, ◌≤ℤ◌, int_lt, unsigned_abs, IsTrue, Bool, true, false, not, ◌&&◌, ◌||◌, ◌⊎◌, List}
use Rattle.std.specs.List.{list_all}
use Rattle.std.specs.Ordering.{int_eq}
use Rattle.std.proofs.lemmas.Int.{ints}
use Rattle.std.proofs.lemmas.Bool.{and_from, and_left, or_left, or_right, cases_Bool, both_ways, false_from_ne_true}
use Rattle.std.proofs.lemmas.Bool.Decides.{Decides-int_eq}
use Rattle.overlay_geometry.specs.Points.{Pair, pair_eq, is_vertical, is_between}
use Rattle.overlay_geometry.specs.Below.{width, scaled_height}
use Rattle.overlay_geometry.proofs.laws.geometry.Polynomials.{as_D, diffs, D-eq, mul-pos, mul-neg, mul-nonneg, mul-nonpos, mul-lt_left, cancel-lt, cancel-pos, cancel-neg, cancel-zero, difference-pos, difference-nonneg}
use Rattle.overlay_geometry.proofs.laws.geometry.Points.{pair_eq_same}
use Rattle.overlay_geometry.proofs.laws.integers.Tests.{lt-test, lt-test_false, lt-tested, le_itself, le_weak, by_sign}
use Rattle.overlay_geometry.proofs.laws.integers.Products.{abs_nonneg, scaled_le, times_comm, times_nothing, zero_times}
use Rattle.overlay_geometry.proofs.laws.lists.Lists.{Has, list_all-from_Has}
use Rattle.overlay_base.specs.Segments.{WholeSegment}
use Rattle.overlay_base.specs.Places.{RationalPoint, spans, height_at, runs_below, lies_below}
use Rattle.overlay_base.specs.Rays.{lies_above, place_turn, goes_through, has_on_left, has_on_right, rises_past, falls_past}
use Rattle.overlay_base.specs.Rules.{differ}
use Rattle.overlay_sweep.specs.ColumnWindings.{spans_column, is_below_in_column}
use Rattle.overlay_sweep.proofs.laws.columns.ColumnLines.{spans_column-true, point_lt-cases}
use Rattle.overlay_sweep.proofs.laws.columns.Heights.{gap, slope, gap_back, is_below_is}
use Rattle.overlay_sweep.proofs.laws.columns.ColumnOrder.{is_apart, is_low, low_parts, one_is_below, gap_step}
use Rattle.overlay_sweep.proofs.laws.columns.Members.{All-from_Has, IsArranged, is_arranged}
use Rattle.overlay_build.specs.Beside.{is_lower_at, is_directly_above, is_directly_below, is_level_with, runs_left_of, runs_right_of, is_directly_left, is_directly_right, HasPlacesBeside}
use Rattle.overlay_build.specs.Laws.{SidesHavePlaces}
use Rattle.overlay_build.proofs.laws.regions.PlaceColumns.{IsInColumn, one_more, spans_alike, height_from, gap_at}

-- ---- a number above those of all members

above_all_step : {X : Type 0} (f : X → ℕ) (y : X) (ys : List X) (n : ℕ) → ((x : X) → Has ys x → f x < n) → (x : X) → Has (y ∷ ys) x → f x < (suc (f y) + n)
above_all_step f y ys n h x (inl e) = let same : f y ≡ f x = ap f e in omega (arith, same)
above_all_step f y ys n h x (inr m) = let less = h x m in omega (arith, less)

above_all : {X : Type 0} (f : X → ℕ) (xs : List X) → (n : ℕ) × ((x : X) → Has xs x → f x < n)
above_all f [] = (0, λ x m. absurd m)
above_all f (y ∷ ys) = let rest = above_all f ys in (suc (f y) + rest.0, above_all_step f y ys rest.0 rest.1)

below_abs : (z : ℤ) (n : ℕ) → unsigned_abs z < n → z <ℤ pos n
below_abs (pos k) n h = omega (arith, ints, h)
below_abs (negsuc k) n h = omega (arith, ints, h)

above_abs : (z : ℤ) (n : ℕ) → unsigned_abs z < n → neg_ℤ (pos n) <ℤ z
above_abs (pos k) n h = omega (arith, ints, h)
above_abs (negsuc k) n h = omega (arith, ints, h)

times_as : (k n : ℕ) → pos (k * n) ≡ pos k *ℤ pos n
times_as k n = simp diffs (D-eq _ _ _ _ (omega arith))

-- ---- beside a segment that is not vertical

-- of two in a column one is lower in its middle
low_sum : (g h : ℤ) → is_low g h ≡ true → pos 0 <ℤ (g +ℤ h)
low_sum g h e = let parts = low_parts g h e in elim parts.2 [ inl l ↦ omega (arith, ints, parts.0, parts.1, l) | inr l ↦ omega (arith, ints, parts.0, parts.1, l) ]

turned_sum : (g h u v : ℤ) → g ≡ neg_ℤ u → h ≡ neg_ℤ v → pos 0 <ℤ (u +ℤ v) → (g +ℤ h) <ℤ pos 0
turned_sum g h u v e f l = omega (arith, ints, e, f, l)

second_of_two : (a b : Bool) → differ a b ≡ true → a ≡ false → b ≡ true
second_of_two false b h e = h
second_of_two true b h e = absurd (cc)

-- In the middle of a column s, n wide, has the height hs and u, wu wide, the height hu, each times its width and twice k n; and u is lower by g.
module _ (n k wu hs hu h g : ℤ) (some : pos 0 <ℤ n) (many : pos 0 <ℤ k) (own : hs ≡ (k *ℤ n) *ℤ h) (apart : hs *ℤ wu -ℤ hu *ℤ n ≡ (k *ℤ n) *ℤ g) where
  scale : pos 0 <ℤ (k *ℤ n)
  scale = mul-pos k n many some

  lower : pos 0 <ℤ g → (hu *ℤ n) <ℤ (hs *ℤ wu)
  lower l = plain (hs *ℤ wu) (hu *ℤ n) _ apart (mul-pos (k *ℤ n) g scale l)
    where
      plain : (p q r : ℤ) → p -ℤ q ≡ r → pos 0 <ℤ r → q <ℤ p
      plain p q r e l = omega (arith, ints, e, l)

  higher : g <ℤ pos 0 → (hs *ℤ wu) <ℤ (hu *ℤ n)
  higher l = plain (hs *ℤ wu) (hu *ℤ n) _ apart (mul-neg (k *ℤ n) g scale l)
    where
      plain : (p q r : ℤ) → p -ℤ q ≡ r → r <ℤ pos 0 → p <ℤ q
      plain p q r e l = omega (arith, ints, e, l)

  module _ (wide : wu <ℤ k) where
    space : (n *ℤ wu) <ℤ (n *ℤ k)
    space = mul-lt_left n wu k some wide

    own_scaled : hs *ℤ wu ≡ ((k *ℤ n) *ℤ h) *ℤ wu
    own_scaled = ap (λ (z : ℤ). z *ℤ wu) own

    -- what is higher than s is above a place just over s
    stays_over : g <ℤ pos 0 → ((h *ℤ k +ℤ pos 1) *ℤ wu) <ℤ hu
    stays_over l =
        cancel-lt n _ _ some
        (plain (n *ℤ ((h *ℤ k +ℤ pos 1) *ℤ wu)) (n *ℤ hu) (hs *ℤ wu) (hu *ℤ n) _ (n *ℤ wu) (n *ℤ k) _ _
        (over_scaled n k h wu) (times_comm n hu) own_scaled apart space (plus_one n k g) (mul-nonpos (k *ℤ n) (g +ℤ pos 1) (le_weak _ _ scale) (omega (arith, ints, l))))
      where
        over_scaled : (n k h wu : ℤ) → n *ℤ ((h *ℤ k +ℤ pos 1) *ℤ wu) ≡ ((k *ℤ n) *ℤ h) *ℤ wu +ℤ n *ℤ wu
        over_scaled n k h wu = rw (as_D n, as_D k, as_D h, as_D wu) (simp diffs (D-eq _ _ _ _ (omega arith)))

        plus_one : (n k g : ℤ) → (k *ℤ n) *ℤ (g +ℤ pos 1) ≡ (k *ℤ n) *ℤ g +ℤ n *ℤ k
        plus_one n k g = rw (as_D n, as_D k, as_D g) (simp diffs (D-eq _ _ _ _ (omega arith)))

        plain : (p q r t a w d e f : ℤ) → p ≡ a +ℤ w → q ≡ t → r ≡ a → r -ℤ t ≡ e → w <ℤ d → f ≡ e +ℤ d → f ≤ℤ pos 0 → p <ℤ q
        plain p q r t a w d e f h i j k l m o = omega (arith, ints, h, i, j, k, l, m, o)

    -- and what is lower is below one just under it
    stays_under : pos 0 <ℤ g → hu <ℤ ((h *ℤ k -ℤ pos 1) *ℤ wu)
    stays_under l =
        cancel-lt n _ _ some
        (plain (n *ℤ ((h *ℤ k -ℤ pos 1) *ℤ wu)) (n *ℤ hu) (hs *ℤ wu) (hu *ℤ n) _ (n *ℤ wu) (n *ℤ k) _ _
        (under_scaled n k h wu (pos 1)) (times_comm n hu) own_scaled apart space (less_one n k g (pos 1)) (mul-nonneg (k *ℤ n) (g -ℤ pos 1) (le_weak _ _ scale) (omega (arith, ints, l))))
      where
        under_scaled : (n k h wu one : ℤ) → n *ℤ ((h *ℤ k -ℤ one) *ℤ wu) ≡ ((k *ℤ n) *ℤ h) *ℤ wu -ℤ one *ℤ (n *ℤ wu)
        under_scaled n k h wu one = rw (as_D n, as_D k, as_D h, as_D wu, as_D one) (simp diffs (D-eq _ _ _ _ (omega arith)))

        less_one : (n k g one : ℤ) → (k *ℤ n) *ℤ (g -ℤ one) ≡ (k *ℤ n) *ℤ g -ℤ one *ℤ (n *ℤ k)
        less_one n k g one = rw (as_D n, as_D k, as_D g, as_D one) (simp diffs (D-eq _ _ _ _ (omega arith)))

        plain : (p q r t a w d e f : ℤ) → p ≡ a -ℤ pos 1 *ℤ w → q ≡ t → r ≡ a → r -ℤ t ≡ e → w <ℤ d → f ≡ e -ℤ pos 1 *ℤ d → pos 0 ≤ℤ f → q <ℤ p
        plain p q r t a w d e f h i j k l m o = omega (arith, ints, h, i, j, k, l, m, o)

is_under : (n k hs h : ℤ) → pos 0 <ℤ n → hs ≡ (k *ℤ n) *ℤ h → hs <ℤ ((h *ℤ k +ℤ pos 1) *ℤ n)
is_under n k hs h some own = plain hs _ _ n own (scaled n k h) some
  where
    scaled : (n k h : ℤ) → (h *ℤ k +ℤ pos 1) *ℤ n ≡ (k *ℤ n) *ℤ h +ℤ n
    scaled n k h = rw (as_D n, as_D k, as_D h) (simp diffs (D-eq _ _ _ _ (omega arith)))

    plain : (p q r n : ℤ) → p ≡ q → r ≡ q +ℤ n → pos 0 <ℤ n → p <ℤ r
    plain p q r n e f l = omega (arith, ints, e, f, l)

is_over : (n k hs h : ℤ) → pos 0 <ℤ n → hs ≡ (k *ℤ n) *ℤ h → ((h *ℤ k -ℤ pos 1) *ℤ n) <ℤ hs
is_over n k hs h some own = plain hs _ _ n own (scaled n k h (pos 1)) some
  where
    scaled : (n k h one : ℤ) → (h *ℤ k -ℤ one) *ℤ n ≡ (k *ℤ n) *ℤ h -ℤ one *ℤ n
    scaled n k h one = rw (as_D n, as_D k, as_D h, as_D one) (simp diffs (D-eq _ _ _ _ (omega arith)))

    plain : (p q r n : ℤ) → p ≡ q → r ≡ q -ℤ pos 1 *ℤ n → pos 0 <ℤ n → r <ℤ p
    plain p q r n e f l = omega (arith, ints, e, f, l)

above_test : (same there low lower : Bool) → (same ≡ false → there ≡ true → (low ≡ false) ⊎ (lower ≡ true)) → (same || not (there && low) || lower) ≡ true
above_test true there low lower h = refl
above_test false false low lower h = refl
above_test false true low lower h = elim (h refl refl) [ inl e ↦ rw e refl | inr e ↦ or_right (not low) lower e ]

below_test : (same there low lower : Bool) → (same ≡ false → there ≡ true → (low ≡ true) ⊎ (lower ≡ true)) → (same || not there || low || lower) ≡ true
below_test true there low lower h = refl
below_test false false low lower h = refl
below_test false true low lower h = elim (h refl refl) [ inl e ↦ or_left low lower e | inr e ↦ or_right low lower e ]

-- the sum of the heights of s at the borders of its first column, times its width
abbrev middle : Pair → ℤ
middle s = scaled_height s s.a.x +ℤ scaled_height s s.a.x +ℤ (s.b.y -ℤ s.a.y)

-- in the middle of that column, at a height in units of 1 over 2 n
abbrev in_middle : Pair → ℕ → ℤ → RationalPoint
in_middle s n y = record { x = s.a.x *ℤ pos (n + n) +ℤ pos n; y = y; bottom = n + n }

twice_some : (n : ℕ) (z : ℤ) → pos n ≡ z → pos 0 <ℤ z → 0 < (n + n)
twice_some n z e l = omega (arith, ints, e, l)

module _ (xs : List WholeSegment) (arranged : IsArranged xs) (s : WholeSegment) (m : Has xs s) (rightward : s.pair.a.x <ℤ s.pair.b.x)
    (k n : ℕ) (many : pos 0 <ℤ pos k) (scaled : pos n ≡ pos k *ℤ width s.pair) (wide : (u : WholeSegment) → Has xs u → width u.pair <ℤ pos k) where
  own_width : pos 0 <ℤ width s.pair
  own_width = omega (arith, ints)

  some : pos 0 <ℤ (pos k *ℤ width s.pair)
  some = mul-pos (pos k) (width s.pair) many own_width

  module _ (y : ℤ) where
    in_column : IsInColumn (s.pair.a.x *ℤ pos (n + n) +ℤ pos n) (n + n) s.pair.a.x
    in_column = record {
      low = omega (arith, ints);
      high = plain (s.pair.a.x *ℤ pos (n + n)) _ n (one_more s.pair.a.x (n + n)) _ scaled some;
    }
      where
        plain : (u v : ℤ) (n : ℕ) → v ≡ u +ℤ pos (n + n) → (z : ℤ) → pos n ≡ z → pos 0 <ℤ z → (u +ℤ pos n) <ℤ v
        plain u v n e z f l = omega (arith, ints, e, f, l)

    spans_as : (u : Pair) → spans u (in_middle s.pair n y) ≡ spans_column s.pair.a.x u
    spans_as u = spans_alike (in_middle s.pair n y) s.pair.a.x u in_column

    own_spanned : spans_column s.pair.a.x s.pair ≡ true
    own_spanned = spans_column-true s.pair.a.x s.pair (le_itself s.pair.a.x) rightward

    own_height : height_at s.pair (in_middle s.pair n y) ≡ (pos k *ℤ width s.pair) *ℤ middle s.pair
    own_height =
        height_from s.pair.a.x s.pair (in_middle s.pair n y)
        ∙ plain (s.pair.a.x *ℤ pos (n + n)) (pos n) (scaled_height s.pair s.pair.a.x) (s.pair.b.y -ℤ s.pair.a.y)
        ∙ ap (λ (z : ℤ). z *ℤ middle s.pair) scaled
      where
        plain : (u v h d : ℤ) → (v +ℤ v) *ℤ h +ℤ ((u +ℤ v) -ℤ u) *ℤ d ≡ v *ℤ (h +ℤ h +ℤ d)
        plain u v h d = rw (as_D u, as_D v, as_D h, as_D d) (simp diffs (D-eq _ _ _ _ (omega arith)))

    heights_apart : (u : Pair) → height_at s.pair (in_middle s.pair n y) *ℤ width u -ℤ height_at u (in_middle s.pair n y) *ℤ width s.pair
        ≡ (pos k *ℤ width s.pair) *ℤ (gap s.pair.a.x u s.pair +ℤ gap (s.pair.a.x +ℤ pos 1) u s.pair)
    heights_apart u =
        gap_at s.pair.a.x u s.pair (in_middle s.pair n y)
        ∙ plain (s.pair.a.x *ℤ pos (n + n)) (pos n) (gap s.pair.a.x u s.pair) (slope u s.pair) _ (gap_step s.pair.a.x u s.pair)
        ∙ ap (λ (z : ℤ). z *ℤ (gap s.pair.a.x u s.pair +ℤ gap (s.pair.a.x +ℤ pos 1) u s.pair)) scaled
      where
        even : (u v g d : ℤ) → (v +ℤ v) *ℤ g +ℤ ((u +ℤ v) -ℤ u) *ℤ d ≡ v *ℤ (g +ℤ (g +ℤ d))
        even u v g d = rw (as_D u, as_D v, as_D g, as_D d) (simp diffs (D-eq _ _ _ _ (omega arith)))

        plain : (u v g d h : ℤ) → h ≡ g +ℤ d → (v +ℤ v) *ℤ g +ℤ ((u +ℤ v) -ℤ u) *ℤ d ≡ v *ℤ (g +ℤ h)
        plain u v g d h e = even u v g d ∙ ap (λ (z : ℤ). v *ℤ (g +ℤ z)) (sym e)

  other : (u : Pair) → pair_eq u s.pair ≡ false → u ≡ s.pair → ⊥
  other u e q = both_ways _ e (ap (λ (r : Pair). pair_eq r s.pair) q ∙ pair_eq_same s.pair)

  -- another segment is lower or higher than s in the middle of the column
  off_level : (u : WholeSegment) → Has xs u → pair_eq u.pair s.pair ≡ false → spans_column s.pair.a.x u.pair ≡ true →
      (pos 0 <ℤ (gap s.pair.a.x u.pair s.pair +ℤ gap (s.pair.a.x +ℤ pos 1) u.pair s.pair)) ⊎ ((gap s.pair.a.x u.pair s.pair +ℤ gap (s.pair.a.x +ℤ pos 1) u.pair s.pair) <ℤ pos 0)
  off_level u h e spanned =
      let x = s.pair.a.x in
      let one = one_is_below x u.pair s.pair spanned (own_spanned (pos 0)) (is_apart u.pair s.pair (arranged.apart u s h m)) (other u.pair e) in
      elim (cases_Bool (is_below_in_column x u.pair s.pair)) [
        | inl l ↦ inl (low_sum (gap x u.pair s.pair) (gap (x +ℤ pos 1) u.pair s.pair) (sym (is_below_is x u.pair s.pair) ∙ l))
        | inr l ↦ inr (turned_sum _ _ _ _ (gap_back x u.pair s.pair) (gap_back (x +ℤ pos 1) u.pair s.pair) (low_sum (gap x s.pair u.pair) (gap (x +ℤ pos 1) s.pair u.pair) (sym (is_below_is x s.pair u.pair) ∙ second_of_two _ _ one l)))
      ]

  abbrev over : RationalPoint
  over = in_middle s.pair n (middle s.pair *ℤ pos k +ℤ pos 1)

  abbrev under : RationalPoint
  under = in_middle s.pair n (middle s.pair *ℤ pos k -ℤ pos 1)

  over_parts : (u : WholeSegment) → Has xs u → pair_eq u.pair s.pair ≡ false → spans u.pair over ≡ true → (runs_below u.pair over ≡ false) ⊎ (is_lower_at over u.pair s.pair ≡ true)
  over_parts u h e spanned =
      elim (off_level u h e (sym (spans_as over.y u.pair) ∙ spanned)) [
        | inl l ↦ inr (lt-test _ _ (lower (width s.pair) (pos k) (width u.pair) _ _ (middle s.pair) _ own_width many (own_height over.y) (heights_apart over.y u.pair) l))
        | inr l ↦ inl (lt-test_false _ _ (le_weak _ _ (stays_over (width s.pair) (pos k) (width u.pair) _ _ (middle s.pair) _ own_width many (own_height over.y) (heights_apart over.y u.pair) (wide u h) l)))
      ]

  under_parts : (u : WholeSegment) → Has xs u → pair_eq u.pair s.pair ≡ false → spans u.pair under ≡ true → (runs_below u.pair under ≡ true) ⊎ (is_lower_at under s.pair u.pair ≡ true)
  under_parts u h e spanned =
      elim (off_level u h e (sym (spans_as under.y u.pair) ∙ spanned)) [
        | inl l ↦ inl (lt-test _ _ (stays_under (width s.pair) (pos k) (width u.pair) _ _ (middle s.pair) _ own_width many (own_height under.y) (heights_apart under.y u.pair) (wide u h) l))
        | inr l ↦ inr (lt-test _ _ (higher (width s.pair) (pos k) (width u.pair) _ _ (middle s.pair) _ own_width many (own_height under.y) (heights_apart under.y u.pair) l))
      ]

  is_above : IsTrue (is_directly_above xs s.pair over)
  unfolding is_directly_above
  is_above =
      and_from (lies_below s.pair over) _
      (and_from (spans s.pair over) (runs_below s.pair over) (spans_as over.y s.pair ∙ own_spanned (pos 0)) (lt-test _ _ (is_under (width s.pair) (pos k) _ (middle s.pair) own_width (own_height over.y))))
      (list_all-from_Has (λ t. pair_eq t.pair s.pair || not (lies_below t.pair over) || is_lower_at over t.pair s.pair) xs (λ u h. above_test (pair_eq u.pair s.pair) (spans u.pair over) (runs_below u.pair over) (is_lower_at over u.pair s.pair) (over_parts u h)))

  is_below : IsTrue (is_directly_below xs s.pair under)
  unfolding is_directly_below
  is_below =
      and_from (lies_above s.pair under) _
      (and_from (spans s.pair under) (int_lt (under.y *ℤ width s.pair) (height_at s.pair under)) (spans_as under.y s.pair ∙ own_spanned (pos 0)) (lt-test _ _ (is_over (width s.pair) (pos k) _ (middle s.pair) own_width (own_height under.y))))
      (list_all-from_Has (λ t. pair_eq t.pair s.pair || not (spans t.pair under) || runs_below t.pair under || is_lower_at under s.pair t.pair) xs (λ u h. below_test (pair_eq u.pair s.pair) (spans u.pair under) (runs_below u.pair under) (is_lower_at under s.pair u.pair) (under_parts u h)))

  beside_level : HasPlacesBeside xs s.pair
  beside_level = record {
    top = (over, twice_some n _ scaled some, or_left _ _ is_above);
    bottom = (under, twice_some n _ scaled some, or_left _ _ is_below);
  }

-- ---- beside a vertical segment

-- Half a unit above the lower end of s, at an x in units of 1 over 2 n.
abbrev at_half : Pair → ℕ → ℤ → RationalPoint
at_half s n x = record { x = x; y = s.a.y *ℤ pos (n + n) +ℤ pos n; bottom = n + n }

-- twice the turn from the end of t to the place at that height on s, as seen from the start of t
abbrev half_turn : Pair → Pair → ℤ
half_turn s t = width t *ℤ ((s.a.y -ℤ t.a.y) +ℤ (s.a.y -ℤ t.a.y) +ℤ pos 1) -ℤ (t.b.y -ℤ t.a.y) *ℤ ((s.a.x -ℤ t.a.x) +ℤ (s.a.x -ℤ t.a.x))

turn_on : (s t : Pair) (n : ℕ) → place_turn t (at_half s n (s.a.x *ℤ pos (n + n))) ≡ pos n *ℤ half_turn s t
turn_on s t n = plain (width t) (t.b.y -ℤ t.a.y) s.a.x s.a.y t.a.x t.a.y (pos n)
  where
    plain : (w h sx sy tx ty n : ℤ) → w *ℤ ((sy *ℤ (n +ℤ n) +ℤ n) -ℤ ty *ℤ (n +ℤ n)) -ℤ h *ℤ (sx *ℤ (n +ℤ n) -ℤ tx *ℤ (n +ℤ n)) ≡ n *ℤ (w *ℤ ((sy -ℤ ty) +ℤ (sy -ℤ ty) +ℤ pos 1) -ℤ h *ℤ ((sx -ℤ tx) +ℤ (sx -ℤ tx)))
    plain w h sx sy tx ty n = rw (as_D w, as_D h, as_D sx, as_D sy, as_D tx, as_D ty, as_D n) (simp diffs (D-eq _ _ _ _ (omega arith)))

-- off s by d the turn differs by d times the rise of t
turn_off : (s t : Pair) (n : ℕ) (d : ℤ) → place_turn t (at_half s n (s.a.x *ℤ pos (n + n) +ℤ d)) ≡ pos n *ℤ half_turn s t -ℤ (t.b.y -ℤ t.a.y) *ℤ d
turn_off s t n d = plain (width t) (t.b.y -ℤ t.a.y) s.a.x s.a.y t.a.x t.a.y (pos n) d
  where
    plain : (w h sx sy tx ty n d : ℤ) → w *ℤ ((sy *ℤ (n +ℤ n) +ℤ n) -ℤ ty *ℤ (n +ℤ n)) -ℤ h *ℤ ((sx *ℤ (n +ℤ n) +ℤ d) -ℤ tx *ℤ (n +ℤ n)) ≡ n *ℤ (w *ℤ ((sy -ℤ ty) +ℤ (sy -ℤ ty) +ℤ pos 1) -ℤ h *ℤ ((sx -ℤ tx) +ℤ (sx -ℤ tx))) -ℤ h *ℤ d
    plain w h sx sy tx ty n d = rw (as_D w, as_D h, as_D sx, as_D sy, as_D tx, as_D ty, as_D n, as_D d) (simp diffs (D-eq _ _ _ _ (omega arith)))

-- a number that is not 0, times n, keeps its sign where less than n is added
stays_negative : (n t e : ℤ) → pos 0 <ℤ n → e <ℤ n → t <ℤ pos 0 → (n *ℤ t +ℤ e) <ℤ pos 0
stays_negative n t e some small l = plain _ _ n e (more n t) (mul-nonpos n (t +ℤ pos 1) (le_weak _ _ some) (omega (arith, ints, l))) small
  where
    more : (n t : ℤ) → n *ℤ (t +ℤ pos 1) ≡ n *ℤ t +ℤ n
    more n t = rw (as_D n, as_D t) (simp diffs (D-eq _ _ _ _ (omega arith)))

    plain : (u v n e : ℤ) → v ≡ u +ℤ n → v ≤ℤ pos 0 → e <ℤ n → (u +ℤ e) <ℤ pos 0
    plain u v n e f h l = omega (arith, ints, f, h, l)

stays_positive : (n t e : ℤ) → pos 0 <ℤ n → neg_ℤ n <ℤ e → pos 0 <ℤ t → pos 0 <ℤ (n *ℤ t +ℤ e)
stays_positive n t e some great l = plain _ _ n e (less n t (pos 1)) (mul-nonneg n (t -ℤ pos 1) (le_weak _ _ some) (omega (arith, ints, l))) great
  where
    less : (n t one : ℤ) → n *ℤ (t -ℤ one) ≡ n *ℤ t -ℤ one *ℤ n
    less n t one = rw (as_D n, as_D t, as_D one) (simp diffs (D-eq _ _ _ _ (omega arith)))

    plain : (u v n e : ℤ) → v ≡ u -ℤ pos 1 *ℤ n → pos 0 ≤ℤ v → neg_ℤ n <ℤ e → pos 0 <ℤ (u +ℤ e)
    plain u v n e f h l = omega (arith, ints, f, h, l)

same_side : (rises falls here there near off : Bool) → (here ≡ true → near ≡ true) → (there ≡ true → off ≡ true) → (not (rises && here || falls && there) || (rises && near || falls && off)) ≡ true
same_side false false here there near off f g = refl
same_side false true here true near off f g = rw (g refl) refl
same_side false true here false near off f g = refl
same_side true false true there near off f g = rw (f refl) refl
same_side true true true there near off f g = rw (f refl) refl
same_side true false false there near off f g = refl
same_side true true false true near off f g = rw (g refl) (or_right near true refl)
same_side true true false false near off f g = refl

-- One place off a vertical segment, by d that is 1 or -1.
module _ (s : Pair) (n : ℕ) (d : ℤ) (some : pos 0 <ℤ pos n) (t : Pair) (e : ℤ) (moved : (t.b.y -ℤ t.a.y) *ℤ d ≡ neg_ℤ e) (less : e <ℤ pos n) (more : neg_ℤ (pos n) <ℤ e) where
  turn_near : place_turn t (at_half s n (s.a.x *ℤ pos (n + n) +ℤ d)) ≡ pos n *ℤ half_turn s t +ℤ e
  turn_near = turn_off s t n d ∙ plain _ _ e moved
    where
      plain : (u v e : ℤ) → v ≡ neg_ℤ e → u -ℤ v ≡ u +ℤ e
      plain u v e h = omega (arith, ints, h)

  stays_on_right : has_on_right t (at_half s n (s.a.x *ℤ pos (n + n))) ≡ true → has_on_right t (at_half s n (s.a.x *ℤ pos (n + n) +ℤ d)) ≡ true
  stays_on_right h =
      let turned : (pos n *ℤ half_turn s t) <ℤ pos 0 = subst (λ (z : ℤ). z <ℤ pos 0) (turn_on s t n) (lt-tested _ _ h) in
      lt-test _ _ (subst (λ (z : ℤ). z <ℤ pos 0) (sym turn_near) (stays_negative (pos n) (half_turn s t) e some less (cancel-neg (pos n) (half_turn s t) some turned)))

  stays_on_left : has_on_left t (at_half s n (s.a.x *ℤ pos (n + n))) ≡ true → has_on_left t (at_half s n (s.a.x *ℤ pos (n + n) +ℤ d)) ≡ true
  stays_on_left h =
      let turned : pos 0 <ℤ (pos n *ℤ half_turn s t) = subst (λ (z : ℤ). pos 0 <ℤ z) (turn_on s t n) (lt-tested _ _ h) in
      lt-test _ _ (subst (λ (z : ℤ). pos 0 <ℤ z) (sym turn_near) (stays_positive (pos n) (half_turn s t) e some more (cancel-pos (pos n) (half_turn s t) some turned)))

  -- no segment goes through that place: one that goes through the place on s is not horizontal, since that height is no whole number
  module _ (level : e ≡ pos 0 → t.b.y -ℤ t.a.y ≡ pos 0) (ordered : (t.a.x <ℤ t.b.x) ⊎ ((t.a.x ≡ t.b.x) × (t.a.y <ℤ t.b.y))) where
    not_flat : half_turn s t ≡ pos 0 → t.b.y -ℤ t.a.y ≡ pos 0 → ⊥
    not_flat turned flat = elim ordered [
      | inl l ↦ odd (s.a.y -ℤ t.a.y) (cancel-zero (width t) ((s.a.y -ℤ t.a.y) +ℤ (s.a.y -ℤ t.a.y) +ℤ pos 1) (difference-pos _ _ l) (alone _ _ _ turned flat))
      | inr r ↦ upright t.a.y t.b.y r.1 flat
    ]
      where
        odd : (z : ℤ) → z +ℤ z +ℤ pos 1 ≡ pos 0 → ⊥
        odd z h = omega (arith, ints, h)

        alone : (u h z : ℤ) → u -ℤ h *ℤ z ≡ pos 0 → h ≡ pos 0 → u ≡ pos 0
        alone u h z f g = let less : u -ℤ pos 0 *ℤ z ≡ pos 0 = rw g at f in let none = zero_times z in omega (arith, ints, less, none)

        upright : (a b : ℤ) → a <ℤ b → b -ℤ a ≡ pos 0 → ⊥
        upright a b h f = omega (arith, ints, h, f)

    off_line : place_turn t (at_half s n (s.a.x *ℤ pos (n + n) +ℤ d)) ≡ pos 0 → ⊥
    off_line h =
        let sum : pos n *ℤ half_turn s t +ℤ e ≡ pos 0 = sym turn_near ∙ h in
        by_sign {P = ⊥} (half_turn s t)
        (λ l. below _ (stays_negative (pos n) (half_turn s t) e some less l) sum)
        (λ f. not_flat f (level (rest _ e sum (times_nothing (pos n) (half_turn s t) f))))
        (λ l. above _ (stays_positive (pos n) (half_turn s t) e some more l) sum)
      where
        below : (z : ℤ) → z <ℤ pos 0 → z ≡ pos 0 → ⊥
        below z l f = omega (arith, ints, l, f)

        above : (z : ℤ) → pos 0 <ℤ z → z ≡ pos 0 → ⊥
        above z l f = omega (arith, ints, l, f)

        rest : (u e : ℤ) → u +ℤ e ≡ pos 0 → u ≡ pos 0 → e ≡ pos 0
        rest u e f g = omega (arith, ints, f, g)

    goes_past : goes_through t (at_half s n (s.a.x *ℤ pos (n + n) +ℤ d)) ≡ false
    unfolding goes_through
    goes_past =
        let p = at_half s n (s.a.x *ℤ pos (n + n) +ℤ d) in
        and_left (int_eq (place_turn t p) (pos 0) && is_between (t.a.x *ℤ pos p.bottom) (t.b.x *ℤ pos p.bottom) p.x) (is_between (t.a.y *ℤ pos p.bottom) (t.b.y *ℤ pos p.bottom) p.y)
        (and_left (int_eq (place_turn t p) (pos 0)) (is_between (t.a.x *ℤ pos p.bottom) (t.b.x *ℤ pos p.bottom) p.x) (false_from_ne_true _ (λ f. off_line ((Decides-int_eq (place_turn t p) (pos 0)).0 f))))

module _ (xs : List WholeSegment) (arranged : IsArranged xs) (s : WholeSegment) (upright : s.pair.a.x ≡ s.pair.b.x) (upward : s.pair.a.y <ℤ s.pair.b.y)
    (n : ℕ) (some : pos 0 <ℤ pos n) (steep : (u : WholeSegment) → Has xs u → (neg_ℤ (pos n) <ℤ (u.pair.b.y -ℤ u.pair.a.y)) × ((u.pair.b.y -ℤ u.pair.a.y) <ℤ pos n)) where
  abbrev on : RationalPoint
  on = at_half s.pair n (s.pair.a.x *ℤ pos (n + n))

  abbrev near : ℤ → RationalPoint
  near d = at_half s.pair n (s.pair.a.x *ℤ pos (n + n) +ℤ d)

  is_level : (d : ℤ) → is_level_with s.pair (near d) ≡ true
  is_level d =
      and_from (int_lt (s.pair.a.y *ℤ pos (n + n)) (near d).y) (int_lt (near d).y (s.pair.b.y *ℤ pos (n + n)))
      (lt-test _ _ (over (s.pair.a.y *ℤ pos (n + n)) n some))
      (lt-test _ _ (under (s.pair.a.y *ℤ pos (n + n)) n _ _ some (one_more s.pair.a.y (n + n)) (scaled_le (s.pair.a.y +ℤ pos 1) s.pair.b.y (n + n) (omega (arith, ints)))))
    where
      over : (u : ℤ) (n : ℕ) → pos 0 <ℤ pos n → u <ℤ (u +ℤ pos n)
      over u n l = omega (arith, ints, l)

      under : (u : ℤ) (n : ℕ) (v w : ℤ) → pos 0 <ℤ pos n → v ≡ u +ℤ pos (n + n) → v ≤ℤ w → (u +ℤ pos n) <ℤ w
      under u n v w l e h = omega (arith, ints, l, e, h)

  own_vertical : is_vertical s.pair ≡ true
  own_vertical = (Decides-int_eq s.pair.a.x s.pair.b.x).1 upright

  leftward : (h : ℤ) → h *ℤ negsuc 0 ≡ neg_ℤ h
  leftward h = omega (arith, ints)

  rightward_back : (h : ℤ) → h *ℤ pos 1 ≡ neg_ℤ (neg_ℤ h)
  rightward_back h = omega (arith, ints)

  turned_low : (h : ℤ) (n : ℕ) → h <ℤ pos n → neg_ℤ (pos n) <ℤ neg_ℤ h
  turned_low h n l = omega (arith, ints, l)

  turned_high : (h : ℤ) (n : ℕ) → neg_ℤ (pos n) <ℤ h → neg_ℤ h <ℤ pos n
  turned_high h n l = omega (arith, ints, l)

  turned_level : (h : ℤ) → neg_ℤ h ≡ pos 0 → h ≡ pos 0
  turned_level h e = omega (arith, ints, e)

  is_left : IsTrue (is_directly_left xs s.pair (near (negsuc 0)))
  unfolding is_directly_left
  is_left =
      let p = near (negsuc 0) in
      and_from (is_vertical s.pair && is_level_with s.pair p && int_lt p.x (s.pair.a.x *ℤ pos p.bottom) && list_all (λ t. not (goes_through t.pair p)) xs) _
      (and_from (is_vertical s.pair && is_level_with s.pair p && int_lt p.x (s.pair.a.x *ℤ pos p.bottom)) _
      (and_from (is_vertical s.pair && is_level_with s.pair p) _ (and_from (is_vertical s.pair) (is_level_with s.pair p) own_vertical (is_level (negsuc 0))) (lt-test _ _ (before (s.pair.a.x *ℤ pos (n + n)))))
      (list_all-from_Has (λ t. not (goes_through t.pair p)) xs (λ t h. ap not
      (goes_past s.pair n (negsuc 0) some t.pair (t.pair.b.y -ℤ t.pair.a.y) (leftward (t.pair.b.y -ℤ t.pair.a.y)) (steep t h).1 (steep t h).0 (λ e. e) (point_lt-cases t.pair.a t.pair.b (arranged.ordered t h))))))
      (list_all-from_Has (λ t. not (runs_left_of t.pair on) || runs_left_of t.pair p) xs (λ t h. same_side (rises_past t.pair on) (falls_past t.pair on) (has_on_right t.pair on) (has_on_left t.pair on) (has_on_right t.pair p) (has_on_left t.pair p)
      (stays_on_right s.pair n (negsuc 0) some t.pair (t.pair.b.y -ℤ t.pair.a.y) (leftward (t.pair.b.y -ℤ t.pair.a.y)) (steep t h).1 (steep t h).0)
      (stays_on_left s.pair n (negsuc 0) some t.pair (t.pair.b.y -ℤ t.pair.a.y) (leftward (t.pair.b.y -ℤ t.pair.a.y)) (steep t h).1 (steep t h).0)))
    where
      before : (u : ℤ) → (u +ℤ negsuc 0) <ℤ u
      before u = omega (arith, ints)

  is_right : IsTrue (is_directly_right xs s.pair (near (pos 1)))
  unfolding is_directly_right
  is_right =
      let p = near (pos 1) in
      and_from (is_vertical s.pair && is_level_with s.pair p && int_lt (s.pair.a.x *ℤ pos p.bottom) p.x && list_all (λ t. not (goes_through t.pair p)) xs) _
      (and_from (is_vertical s.pair && is_level_with s.pair p && int_lt (s.pair.a.x *ℤ pos p.bottom) p.x) _
      (and_from (is_vertical s.pair && is_level_with s.pair p) _ (and_from (is_vertical s.pair) (is_level_with s.pair p) own_vertical (is_level (pos 1))) (lt-test _ _ (after (s.pair.a.x *ℤ pos (n + n)))))
      (list_all-from_Has (λ t. not (goes_through t.pair p)) xs (λ t h. ap not
      (goes_past s.pair n (pos 1) some t.pair (neg_ℤ (t.pair.b.y -ℤ t.pair.a.y)) (rightward_back (t.pair.b.y -ℤ t.pair.a.y)) (turned_high _ n (steep t h).0) (turned_low _ n (steep t h).1) (turned_level _) (point_lt-cases t.pair.a t.pair.b (arranged.ordered t h))))))
      (list_all-from_Has (λ t. not (runs_right_of t.pair on) || runs_right_of t.pair p) xs (λ t h. same_side (rises_past t.pair on) (falls_past t.pair on) (has_on_left t.pair on) (has_on_right t.pair on) (has_on_left t.pair p) (has_on_right t.pair p)
      (stays_on_left s.pair n (pos 1) some t.pair (neg_ℤ (t.pair.b.y -ℤ t.pair.a.y)) (rightward_back (t.pair.b.y -ℤ t.pair.a.y)) (turned_high _ n (steep t h).0) (turned_low _ n (steep t h).1))
      (stays_on_right s.pair n (pos 1) some t.pair (neg_ℤ (t.pair.b.y -ℤ t.pair.a.y)) (rightward_back (t.pair.b.y -ℤ t.pair.a.y)) (turned_high _ n (steep t h).0) (turned_low _ n (steep t h).1))))
    where
      after : (u : ℤ) → u <ℤ (u +ℤ pos 1)
      after u = omega (arith, ints)

  beside_upright : HasPlacesBeside xs s.pair
  beside_upright = record {
    top = (near (negsuc 0), twice_some n (pos n) refl some, or_right _ _ is_left);
    bottom = (near (pos 1), twice_some n (pos n) refl some, or_right _ _ is_right);
  }

-- ---- beside any

module _ (xs : List WholeSegment) (arranged : IsArranged xs) (s : WholeSegment) (m : Has xs s) where
  beside_wide : s.pair.a.x <ℤ s.pair.b.x → HasPlacesBeside xs s.pair
  beside_wide l =
      let k = above_all (λ u. unsigned_abs (width u.pair)) xs in
      beside_level xs arranged s m l k.0 (k.0 * unsigned_abs (width s.pair)) (above_none _ k.0 (k.1 s m))
      (times_as k.0 (unsigned_abs (width s.pair)) ∙ ap (λ (z : ℤ). pos k.0 *ℤ z) (abs_nonneg (width s.pair) (difference-nonneg _ _ (le_weak _ _ l))))
      (λ u h. below_abs (width u.pair) k.0 (k.1 u h))
    where
      above_none : (a b : ℕ) → a < b → pos 0 <ℤ pos b
      above_none a b h = omega (arith, ints, h)

  beside_tall : s.pair.a.x ≡ s.pair.b.x → s.pair.a.y <ℤ s.pair.b.y → HasPlacesBeside xs s.pair
  beside_tall e l =
      let n = above_all (λ u. unsigned_abs (u.pair.b.y -ℤ u.pair.a.y)) xs in
      beside_upright xs arranged s e l n.0 (above_none _ n.0 (n.1 s m)) (λ u h. (above_abs _ n.0 (n.1 u h), below_abs _ n.0 (n.1 u h)))
    where
      above_none : (a b : ℕ) → a < b → pos 0 <ℤ pos b
      above_none a b h = omega (arith, ints, h)

  beside_any : HasPlacesBeside xs s.pair
  beside_any = elim (point_lt-cases s.pair.a s.pair.b (arranged.ordered s m)) [
    | inl l ↦ beside_wide l
    | inr r ↦ beside_tall r.0 r.1
  ]

pub sides_have_places : SidesHavePlaces
sides_have_places segments mapped planar =
    let arranged = is_arranged segments mapped planar in
    All-from_Has (λ s. HasPlacesBeside segments s.pair) segments (beside_any segments arranged)
