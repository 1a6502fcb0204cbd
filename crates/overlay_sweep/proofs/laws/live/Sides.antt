-- The sides of a segment in an arrangement: its bottom is the sum of what lies beneath it, its top has its own weight on top, and its support's top is its bottom.
use Rattle.std.proofs.Common.{◌≡◌, ap, refl, sym, ◌∙◌, arith, inl, inr}
use Rattle.std.specs.Prelude.{ℤ, pos, ◌+ℤ◌, ◌-ℤ◌, ◌<ℤ◌, ◌≤ℤ◌, Bool, true, false, ◌&&◌, ◌⊎◌, List, [], ◌∷◌, filter}
use Rattle.std.specs.Ordering.{int_eq}
use Rattle.std.proofs.lemmas.Int.{ints, by_lt_z}
use Rattle.std.proofs.lemmas.Bool.{and_parts, and_from, and_right, cases_Bool, both_ways, not-true, false_from_ne_true}
use Rattle.std.proofs.lemmas.Bool.Decides.{Decides-int_eq}
use Rattle.overlay_geometry.specs.Points.{Point, Pair, pair_eq, is_vertical}
use Rattle.overlay_base.specs.Windings.{Winding, add, weight, empty}
use Rattle.overlay_base.specs.Segments.{WholeSegment, total_weight}
use Rattle.overlay_base.specs.Balance.{IsBalanced}
use Rattle.overlay_sweep.specs.ColumnWindings.{spans_column, is_below_in_column, column_bottom, column_top, weights_up_to, right_winding, left_winding, side_bottom, side_top}
use Rattle.overlay_geometry.proofs.laws.geometry.Points.{same_point, same_pair, same_pair_by_eq, pair_eq_same, from_not_same_pair, inside_from_order}
use Rattle.overlay_sweep.proofs.laws.columns.WeightSums.{when, sum_of, sum_of-add}
use Rattle.overlay_sweep.proofs.laws.columns.ColumnLines.{point_lt-cases, is_up_to, lies_up_to, leaves_upward, column_weights, column_weights_are, filter_weights_are, across_up_to}
use Rattle.overlay_sweep.proofs.laws.columns.ColumnOrder.{IsApart, is_apart, below_itself}
use Rattle.overlay_sweep.proofs.laws.columns.AlongSegments.{turn_upright, is_same_along}
use Rattle.overlay_sweep.proofs.laws.columns.Members.{IsArranged, single_sum}
use Rattle.overlay_sweep.proofs.laws.live.Supports.{is_beneath, below_is_beneath, up_to_is_beneath, beneath-below}
use Rattle.overlay_geometry.proofs.laws.lists.Lists.{Has}
use Rattle.overlay_geometry.proofs.laws.integers.Tests.{le-test, le-test_false, le-tested}
use Rattle.overlay_geometry.proofs.laws.integers.Products.{times_nothing}

pub sum_of-same_in : {X : Type 0} (f g : X → ℤ) (xs : List X) → ((x : X) → Has xs x → f x ≡ g x) → sum_of f xs ≡ sum_of g xs
sum_of-same_in f g [] h = refl
sum_of-same_in f g (x ∷ xs) h = omega (arith, ints, h x (inl refl), sum_of-same_in f g xs (λ y m. h y (inr m)))

pub sum_of-zero_in : {X : Type 0} (f : X → ℤ) (xs : List X) → ((x : X) → Has xs x → f x ≡ pos 0) → sum_of f xs ≡ pos 0
sum_of-zero_in f [] h = refl
sum_of-zero_in f (x ∷ xs) h = omega (arith, ints, h x (inl refl), sum_of-zero_in f xs (λ y m. h y (inr m)))

when_spans : (b l m : Bool) (z : ℤ) → (b ≡ true → l ≡ m) → when (b && l) z ≡ when (b && m) z
when_spans true l m z h = rw (h refl) refl
when_spans false l m z h = refl

-- two tests that agree on a column choose the same weights
pub column_weights-same : (low high : Pair → Bool) (xs : List WholeSegment) (c : ℤ) → ((u : WholeSegment) → Has xs u → spans_column c u.pair ≡ true → low u.pair ≡ high u.pair) → column_weights low xs c ≡ column_weights high xs c
column_weights-same low high xs c h =
    let same = λ (w : WholeSegment → ℤ). sum_of-same_in (λ u. when (spans_column c u.pair && low u.pair) (w u)) (λ u. when (spans_column c u.pair && high u.pair) (w u)) xs (λ u m. when_spans (spans_column c u.pair) (low u.pair) (high u.pair) (w u) (h u m)) in
    rw (column_weights_are low xs c, column_weights_are high xs c) (λ i. record { subj = same (λ u. u.count.subj) i; clip = same (λ u. u.count.clip) i; mask = 0 })

not_spanned : (s : Pair) → s.a.x <ℤ s.b.x → is_vertical s ≡ false
not_spanned s h = false_from_ne_true _ (λ e. let same = (Decides-int_eq s.a.x s.b.x).0 e in omega (arith, ints))

nothing : (l r : Bool) (z : ℤ) → (l ≡ true → r ≡ false) → when (l && r) z ≡ pos 0
nothing true r z h = rw (h refl) refl
nothing false r z h = refl

-- ---- the bottom

module _ (xs : List WholeSegment) (arranged : IsArranged xs) (balanced : IsBalanced xs) where
  pub apart_in : (s t : WholeSegment) → Has xs s → Has xs t → IsApart s.pair t.pair
  apart_in s t ms mt = is_apart s.pair t.pair (arranged.apart s t ms mt)

  sort_of : (s : WholeSegment) → Has xs s → (s.pair.a.x <ℤ s.pair.b.x) ⊎ ((s.pair.a.x ≡ s.pair.b.x) × (s.pair.a.y <ℤ s.pair.b.y))
  sort_of s m = point_lt-cases s.pair.a s.pair.b (arranged.ordered s m)

  -- ---- the bottom

  column_bottom_is : (s : WholeSegment) → Has xs s → s.pair.a.x <ℤ s.pair.b.x → column_bottom xs s.pair.a.x s ≡ column_weights (λ u. is_beneath s.pair u) xs s.pair.a.x
  unfolding column_bottom
  column_bottom_is s m w = column_weights-same (λ u. is_below_in_column s.pair.a.x u s.pair) (λ u. is_beneath s.pair u) xs s.pair.a.x (λ u n h. below_is_beneath s.pair u.pair h (apart_in s u m n) w)

  right_winding_is : (s : WholeSegment) → Has xs s → s.pair.a.x ≡ s.pair.b.x → s.pair.a.y <ℤ s.pair.b.y → right_winding xs s ≡ column_weights (λ u. is_beneath s.pair u) xs s.pair.a.x
  unfolding right_winding weights_up_to
  right_winding_is s m e w = column_weights-same (is_up_to s.pair.a) (λ u. is_beneath s.pair u) xs s.pair.a.x (λ u n h. up_to_is_beneath s.pair u.pair h (apart_in s u m n) e w)

  -- the winding below a segment, or to the right of a vertical one, is the sum of the weights of what lies beneath it
  pub side_bottom_is : (s : WholeSegment) → Has xs s → side_bottom xs s ≡ column_weights (λ u. is_beneath s.pair u) xs s.pair.a.x
  unfolding side_bottom
  side_bottom_is s m = elim (sort_of s m) [
    | inl w ↦ rw (not_spanned s.pair w) (column_bottom_is s m w)
    | inr w ↦ rw ((Decides-int_eq s.pair.a.x s.pair.b.x).1 w.0) (right_winding_is s m w.0 w.1)
  ]

  -- ---- the top

  module _ (s : WholeSegment) (m : Has xs s) (e : s.pair.a.x ≡ s.pair.b.x) (h : s.pair.a.y <ℤ s.pair.b.y) where
    -- of the vertical segments only s leads upward from its lower end
    pub only_one_rises : (u : WholeSegment) → Has xs u → leaves_upward (lies_up_to s.pair.a) u.pair ≡ true → u.pair ≡ s.pair
    only_one_rises u n k =
        let apart = apart_in s u m n in
        let first = and_parts (is_vertical u.pair) _ k in
        let second = and_parts (lies_up_to s.pair.a u.pair.a) _ first.1 in
        let lower = and_parts (int_eq u.pair.a.x s.pair.a.x) _ second.0 in
        let ux : u.pair.a.x ≡ u.pair.b.x = (Decides-int_eq u.pair.a.x u.pair.b.x).0 first.0 in
        let at : u.pair.a.x ≡ s.pair.a.x = (Decides-int_eq u.pair.a.x s.pair.a.x).0 lower.0 in
        let low : u.pair.a.y ≤ℤ s.pair.a.y = le-tested _ _ lower.1 in
        let upper : lies_up_to s.pair.a u.pair.b ≡ false = not-true _ second.1 in
        let high : s.pair.a.y <ℤ u.pair.b.y = by_lt_z s.pair.a.y u.pair.b.y (λ (l : s.pair.a.y <ℤ u.pair.b.y). l) (λ (g : u.pair.b.y ≤ℤ s.pair.a.y). absurd (both_ways _ upper (and_from _ _ ((Decides-int_eq u.pair.b.x s.pair.a.x).1 (sym ux ∙ at)) (le-test _ _ g)))) in
        let on_u = λ (q : Point) (x : q.x ≡ u.pair.a.x). turn_upright u.pair q ux ∙ times_nothing (u.pair.b.y -ℤ u.pair.a.y) (u.pair.a.x -ℤ q.x) (omega (arith, ints)) in
        let on_s = λ (q : Point) (x : q.x ≡ s.pair.a.x). turn_upright s.pair q e ∙ times_nothing (s.pair.b.y -ℤ s.pair.a.y) (s.pair.a.x -ℤ q.x) (omega (arith, ints)) in
        let start : u.pair.a ≡ s.pair.a = same_point u.pair.a s.pair.a at (by_lt_z u.pair.a.y s.pair.a.y
        (λ (l : u.pair.a.y <ℤ s.pair.a.y). absurd (apart.a_around (inside_from_order u.pair s.pair.a (inr (ux, omega (arith, ints))) (on_u s.pair.a (sym at)) (inr (at, l)) (inr (sym at ∙ ux, high)))))
        (λ (g : s.pair.a.y ≤ℤ u.pair.a.y). omega (arith, ints))) in
        let end : u.pair.b ≡ s.pair.b = same_point u.pair.b s.pair.b (sym ux ∙ at ∙ e) (by_lt_z u.pair.b.y s.pair.b.y
        (λ (l : u.pair.b.y <ℤ s.pair.b.y). absurd (apart.b_inside (inside_from_order s.pair u.pair.b (inr (e, h)) (on_s u.pair.b (sym ux ∙ at)) (inr (sym at ∙ ux, high)) (inr (sym ux ∙ at ∙ e, l)))))
        (λ (g : s.pair.b.y ≤ℤ u.pair.b.y). by_lt_z s.pair.b.y u.pair.b.y
        (λ (l : s.pair.b.y <ℤ u.pair.b.y). absurd (apart.b_around (inside_from_order u.pair s.pair.b (inr (ux, omega (arith, ints))) (on_u s.pair.b (sym e ∙ sym at)) (inr (at ∙ e, omega (arith, ints))) (inr (sym e ∙ sym at ∙ ux, l)))))
        (λ (k : u.pair.b.y ≤ℤ s.pair.b.y). omega (arith, ints)))) in
        same_pair u.pair s.pair start end

    pub itself_rises : leaves_upward (lies_up_to s.pair.a) s.pair ≡ true
    itself_rises =
        let lower : lies_up_to s.pair.a s.pair.a ≡ true = and_from _ _ ((Decides-int_eq s.pair.a.x s.pair.a.x).1 refl) (le-test s.pair.a.y s.pair.a.y (omega (arith, ints))) in
        let upper : lies_up_to s.pair.a s.pair.b ≡ false = and_right _ _ (le-test_false s.pair.b.y s.pair.a.y h) in
        and_from _ _ ((Decides-int_eq s.pair.a.x s.pair.b.x).1 e) (rw (lower, upper) refl)

    pub rises_is : (u : WholeSegment) → Has xs u → leaves_upward (lies_up_to s.pair.a) u.pair ≡ pair_eq u.pair s.pair
    rises_is u n = elim (cases_Bool (leaves_upward (lies_up_to s.pair.a) u.pair)) [
      | inl k ↦ k ∙ sym (ap (λ (p : Pair). pair_eq p s.pair) (only_one_rises u n k) ∙ pair_eq_same s.pair)
      | inr k ↦ k ∙ sym (from_not_same_pair u.pair s.pair (λ q. both_ways _ k (ap (leaves_upward (lies_up_to s.pair.a)) q ∙ itself_rises)))
    ]

    rising_sum : (w : WholeSegment → ℤ) → sum_of (λ u. when (leaves_upward (lies_up_to s.pair.a) u.pair) (w u)) xs ≡ w s
    rising_sum w = sum_of-same_in _ (λ u. when (pair_eq u.pair s.pair) (w u)) xs (λ u n. ap (λ (b : Bool). when b (w u)) (rises_is u n)) ∙ single_sum w s xs arranged.sorted m

    rising_weight : total_weight (filter (λ u. leaves_upward (lies_up_to s.pair.a) u.pair) xs) ≡ weight s.count
    rising_weight = filter_weights_are (leaves_upward (lies_up_to s.pair.a)) xs ∙ (λ i. record { subj = rising_sum (λ u. u.count.subj) i; clip = rising_sum (λ u. u.count.clip) i; mask = 0 })

    -- left of a vertical segment the winding is that to its right with its own weight
    pub left_winding_is : left_winding xs s ≡ add (right_winding xs s) (weight s.count)
    unfolding left_winding right_winding
    left_winding_is = sym (across_up_to xs arranged.all_ordered balanced s.pair.a) ∙ ap (λ (w : Winding). add (weights_up_to xs s.pair.a.x s.pair.a) w) rising_weight

  -- the top of a segment has its own weight on its bottom
  pub side_top_is : (s : WholeSegment) → Has xs s → side_top xs s ≡ add (side_bottom xs s) (weight s.count)
  unfolding side_top side_bottom column_top
  side_top_is s m = elim (sort_of s m) [
    | inl w ↦ rw (not_spanned s.pair w) refl
    | inr w ↦ rw ((Decides-int_eq s.pair.a.x s.pair.b.x).1 w.0) (left_winding_is s m w.0 w.1)
  ]

  -- ---- the support

  -- of what lies beneath s, t is the highest
  pub record IsHighest (s t : WholeSegment) : Type 0 where
    pub found : Has xs t
    pub live : spans_column s.pair.a.x t.pair ≡ true
    pub beneath : is_beneath s.pair t.pair ≡ true
    pub highest : (u : WholeSegment) → Has xs u → spans_column s.pair.a.x u.pair ≡ true → is_beneath s.pair u.pair ≡ true → (t.pair ≡ u.pair → ⊥) → is_below_in_column s.pair.a.x u.pair t.pair ≡ true

  one_apart : (q l r k : Bool) (z : ℤ) → (q ≡ true → (l ≡ true) × (r ≡ true) × (k ≡ false)) → (q ≡ false → l ≡ true → r ≡ k) → when (l && r) z ≡ when (l && k) z +ℤ when q z
  one_apart true l r k z f g = let p = f refl in rw (p.0, p.1, p.2) (omega (arith, ints))
  one_apart false true r k z f g = rw (g refl refl) (omega (arith, ints))
  one_apart false false r k z f g = refl

  module _ (s t : WholeSegment) (m : Has xs s) (top : IsHighest s t) where
    alike : (u : WholeSegment) → Has xs u → spans_column s.pair.a.x u.pair ≡ true → (t.pair ≡ u.pair → ⊥) → is_beneath s.pair u.pair ≡ is_below_in_column s.pair.a.x u.pair t.pair
    alike u n h other = elim (cases_Bool (is_beneath s.pair u.pair)) [
      | inl e ↦ e ∙ sym (top.highest u n h e other)
      | inr e ↦ e ∙ sym (false_from_ne_true _ (λ k. both_ways _ e (beneath-below s.pair t.pair u.pair (sort_of s m) top.live h (apart_in s t m top.found) (apart_in s u m n) top.beneath k)))
    ]

    split_at : (w : WholeSegment → ℤ) (u : WholeSegment) → Has xs u → when (spans_column s.pair.a.x u.pair && is_beneath s.pair u.pair) (w u) ≡ when (spans_column s.pair.a.x u.pair && is_below_in_column s.pair.a.x u.pair t.pair) (w u) +ℤ when (pair_eq u.pair t.pair) (w u)
    split_at w u n = one_apart (pair_eq u.pair t.pair) (spans_column s.pair.a.x u.pair) (is_beneath s.pair u.pair) (is_below_in_column s.pair.a.x u.pair t.pair) (w u)
        (λ e. let q = same_pair_by_eq u.pair t.pair e in (ap (spans_column s.pair.a.x) q ∙ top.live, ap (is_beneath s.pair) q ∙ top.beneath, ap (λ (p : Pair). is_below_in_column s.pair.a.x p t.pair) q ∙ below_itself s.pair.a.x t.pair))
        (λ e h. alike u n h (λ q. both_ways _ e (ap (λ (p : Pair). pair_eq p t.pair) (sym q) ∙ pair_eq_same t.pair)))

    support_sum : (w : WholeSegment → ℤ) → sum_of (λ u. when (spans_column s.pair.a.x u.pair && is_beneath s.pair u.pair) (w u)) xs ≡ sum_of (λ u. when (spans_column s.pair.a.x u.pair && is_below_in_column s.pair.a.x u.pair t.pair) (w u)) xs +ℤ w t
    support_sum w =
        let split = sum_of-same_in _ (λ u. when (spans_column s.pair.a.x u.pair && is_below_in_column s.pair.a.x u.pair t.pair) (w u) +ℤ when (pair_eq u.pair t.pair) (w u)) xs (λ u n. split_at w u n) in
        let sum = sum_of-add (λ u. when (spans_column s.pair.a.x u.pair && is_below_in_column s.pair.a.x u.pair t.pair) (w u) +ℤ when (pair_eq u.pair t.pair) (w u)) (λ u. when (spans_column s.pair.a.x u.pair && is_below_in_column s.pair.a.x u.pair t.pair) (w u)) (λ u. when (pair_eq u.pair t.pair) (w u)) xs (λ u. refl) in
        let one = single_sum w t xs arranged.sorted top.found in
        split ∙ sum ∙ ap (λ (z : ℤ). sum_of (λ u. when (spans_column s.pair.a.x u.pair && is_below_in_column s.pair.a.x u.pair t.pair) (w u)) xs +ℤ z) one

    column_top_is : column_weights (λ u. is_beneath s.pair u) xs s.pair.a.x ≡ column_top xs s.pair.a.x t
    unfolding column_top column_bottom
    column_top_is =
        rw (column_weights_are (λ u. is_beneath s.pair u) xs s.pair.a.x, column_weights_are (λ u. is_below_in_column s.pair.a.x u t.pair) xs s.pair.a.x)
        (λ i. record { subj = support_sum (λ u. u.count.subj) i; clip = support_sum (λ u. u.count.clip) i; mask = 0 })

    -- the bottom of s is the top of the highest beneath it
    pub bottom_is_top : side_bottom xs s ≡ side_top xs t
    bottom_is_top = side_bottom_is s m ∙ column_top_is ∙ (is_same_along xs t (arranged.free t top.found) balanced).above s.pair.a.x top.live

  -- where nothing lies beneath s its bottom is empty
  pub bottom_is_empty : (s : WholeSegment) → Has xs s → ((u : WholeSegment) → Has xs u → spans_column s.pair.a.x u.pair ≡ true → is_beneath s.pair u.pair ≡ false) → side_bottom xs s ≡ empty
  bottom_is_empty s m none =
      let zero = λ (w : WholeSegment → ℤ). sum_of-zero_in (λ u. when (spans_column s.pair.a.x u.pair && is_beneath s.pair u.pair) (w u)) xs (λ u n. nothing (spans_column s.pair.a.x u.pair) (is_beneath s.pair u.pair) (w u) (none u n)) in
      side_bottom_is s m ∙ column_weights_are (λ u. is_beneath s.pair u) xs s.pair.a.x ∙ (λ i. record { subj = zero (λ u. u.count.subj) i; clip = zero (λ u. u.count.clip) i; mask = 0 })
