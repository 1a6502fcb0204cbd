-- The winding at a place directly above or below a segment is that of the segment's side: of the segments in the column
-- those below the place are those below the segment, with the segment itself where the place is above it.
use Rattle.std.proofs.Common.{◌≡◌, ap, refl, sym, ◌∙◌, arith, ◌<◌, inl, inr}
use Rattle.std.specs.Prelude.{ℤ, pos, ◌+ℤ◌, ◌*ℤ◌, ◌<ℤ◌, ◌≤ℤ◌, int_lt, IsTrue, Bool, true, false, not, ◌&&◌, ◌||◌, List}
use Rattle.std.specs.List.{list_all}
use Rattle.std.proofs.lemmas.Int.{ints}
use Rattle.std.proofs.lemmas.Bool.{and_parts, cases_Bool, both_ways, false_from_ne_true}
use Rattle.overlay_geometry.specs.Points.{Pair, pair_eq}
use Rattle.overlay_base.specs.Segments.{WholeSegment}
use Rattle.overlay_geometry.specs.Below.{width}
use Rattle.overlay_base.specs.Balance.{IsBalanced}
use Rattle.overlay_base.specs.Places.{RationalPoint, spans, height_at, runs_below, lies_below, winding_below}
use Rattle.overlay_base.specs.Rays.{lies_above}
use Rattle.overlay_base.specs.Rules.{differ}
use Rattle.overlay_geometry.proofs.laws.geometry.Points.{same_pair_by_eq, pair_eq_same}
use Rattle.overlay_geometry.proofs.laws.lists.Lists.{Has, list_all-at}
use Rattle.overlay_sweep.specs.ColumnWindings.{spans_column, is_below_in_column, column_bottom, column_top, side_bottom, side_top}
use Rattle.overlay_sweep.proofs.laws.columns.WeightSums.{when, sum_of, sum_of-add}
use Rattle.overlay_sweep.proofs.laws.columns.ColumnLines.{column_weights, column_weights_are}
use Rattle.overlay_sweep.proofs.laws.columns.Heights.{gap, is_below_is}
use Rattle.overlay_sweep.proofs.laws.columns.ColumnOrder.{low_parts, one_is_below, below_itself}
use Rattle.overlay_sweep.proofs.laws.columns.AlongSegments.{is_same_along}
use Rattle.overlay_sweep.proofs.laws.columns.Members.{IsArranged, single_sum}
use Rattle.overlay_sweep.proofs.laws.live.Sides.{sum_of-same_in, apart_in, column_weights-same}
use Rattle.overlay_build.specs.Beside.{is_lower_at, is_directly_above, is_directly_below}
use Rattle.overlay_build.proofs.laws.regions.PlaceColumns.{IsInColumn, column_of, spans_alike, not_higher_in_column, lower_in_column}
use Rattle.overlay_build.proofs.laws.regions.Regions.{wide, same_weights}
use Rattle.overlay_geometry.proofs.laws.integers.Tests.{lt-test, lt-tested, lt_not_le}

first_of_two : (a b : Bool) → differ a b ≡ true → b ≡ false → a ≡ true
first_of_two true b h e = refl
first_of_two false b h e = absurd (cc)

with_itself : (q l r k : Bool) (z : ℤ) → (q ≡ true → (l ≡ true) × (r ≡ true) × (k ≡ false)) → (q ≡ false → l ≡ true → r ≡ k) → when (l && r) z ≡ when (l && k) z +ℤ when q z
with_itself true l r k z f g = let p = f refl in rw (p.0, p.1, p.2) (omega (arith, ints))
with_itself false true r k z f g = rw (g refl refl) (omega (arith, ints))
with_itself false false r k z f g = refl

module _ (xs : List WholeSegment) (arranged : IsArranged xs) (balanced : IsBalanced xs) (s : WholeSegment) (m : Has xs s) (p : RationalPoint) (x : ℤ) (at : IsInColumn p.x p.bottom x) where
  module _ (hs : IsTrue (spans_column x s.pair)) where
    -- where u is below s in the column, it is at most as high at p
    not_higher : (u v : Pair) → is_below_in_column x u v ≡ true → (height_at u p *ℤ width v) ≤ℤ (height_at v p *ℤ width u)
    not_higher u v h = let parts = low_parts (gap x u v) (gap (x +ℤ pos 1) u v) (sym (is_below_is x u v) ∙ h) in not_higher_in_column p x u v at parts.0 parts.1

    follows : (u v : Pair) → IsTrue (spans_column x u) → IsTrue (spans_column x v) → is_below_in_column x u v ≡ true → runs_below v p ≡ true → runs_below u p ≡ true
    follows u v hu hv h k =
        let parts = low_parts (gap x u v) (gap (x +ℤ pos 1) u v) (sym (is_below_is x u v) ∙ h) in
        lt-test _ _ (lower_in_column p x u v at (wide xs arranged balanced p x at u hu) (wide xs arranged balanced p x at v hv) parts.0 parts.1 (lt-tested _ _ k))

    other : (u : WholeSegment) → pair_eq u.pair s.pair ≡ false → u.pair ≡ s.pair → ⊥
    other u e q = both_ways _ e (ap (λ (r : Pair). pair_eq r s.pair) q ∙ pair_eq_same s.pair)

    one_of_two : (u : WholeSegment) → Has xs u → IsTrue (spans_column x u.pair) → pair_eq u.pair s.pair ≡ false → differ (is_below_in_column x u.pair s.pair) (is_below_in_column x s.pair u.pair) ≡ true
    one_of_two u n hu e = one_is_below x u.pair s.pair hu hs (apart_in xs arranged balanced u s n m) (other u e)

    spans_p : (u : WholeSegment) → IsTrue (spans_column x u.pair) → spans u.pair p ≡ true
    spans_p u hu = spans_alike p x u.pair at ∙ hu

    -- ---- above

    module _ (low : runs_below s.pair p ≡ true) (between : list_all (λ t. pair_eq t.pair s.pair || not (lies_below t.pair p) || is_lower_at p t.pair s.pair) xs ≡ true) where
      lower_of : (u : WholeSegment) → Has xs u → IsTrue (spans_column x u.pair) → pair_eq u.pair s.pair ≡ false → runs_below u.pair p ≡ true → (height_at u.pair p *ℤ width s.pair) <ℤ (height_at s.pair p *ℤ width u.pair)
      lower_of u n hu e k =
          let all = list_all-at (λ t. pair_eq t.pair s.pair || not (lies_below t.pair p) || is_lower_at p t.pair s.pair) xs u between n in
          let below : lies_below u.pair p ≡ true = rw (spans_p u hu, k) refl in
          lt-tested _ _ (rest (pair_eq u.pair s.pair) (lies_below u.pair p) (is_lower_at p u.pair s.pair) all e below)
        where
          rest : (a b c : Bool) → (a || not b || c) ≡ true → a ≡ false → b ≡ true → c ≡ true
          rest true b c h e f = absurd (cc)
          rest false true c h e f = h
          rest false false c h e f = absurd (cc)

      alike_above : (u : WholeSegment) → Has xs u → pair_eq u.pair s.pair ≡ false → IsTrue (spans_column x u.pair) → runs_below u.pair p ≡ is_below_in_column x u.pair s.pair
      alike_above u n e hu = elim (cases_Bool (runs_below u.pair p)) [
        | inl k ↦ k ∙ sym (first_of_two _ _ (one_of_two u n hu e) (false_from_ne_true _ (λ back. lt_not_le _ _ (lower_of u n hu e k) (not_higher s.pair u.pair back))))
        | inr k ↦ k ∙ sym (false_from_ne_true _ (λ below. both_ways _ k (follows u.pair s.pair hu hs below low)))
      ]

      top_sum : (w : WholeSegment → ℤ) → sum_of (λ u. when (spans_column x u.pair && runs_below u.pair p) (w u)) xs ≡ sum_of (λ u. when (spans_column x u.pair && is_below_in_column x u.pair s.pair) (w u)) xs +ℤ w s
      top_sum w =
          sum_of-same_in _ (λ u. when (spans_column x u.pair && is_below_in_column x u.pair s.pair) (w u) +ℤ when (pair_eq u.pair s.pair) (w u)) xs
          (λ u n. with_itself (pair_eq u.pair s.pair) (spans_column x u.pair) (runs_below u.pair p) (is_below_in_column x u.pair s.pair) (w u)
          (λ e. let q = same_pair_by_eq u.pair s.pair e in (ap (spans_column x) q ∙ hs, ap (λ (r : Pair). runs_below r p) q ∙ low, ap (λ (r : Pair). is_below_in_column x r s.pair) q ∙ below_itself x s.pair))
          (λ e hu. alike_above u n e hu))
          ∙ sum_of-add (λ u. when (spans_column x u.pair && is_below_in_column x u.pair s.pair) (w u) +ℤ when (pair_eq u.pair s.pair) (w u)) (λ u. when (spans_column x u.pair && is_below_in_column x u.pair s.pair) (w u)) (λ u. when (pair_eq u.pair s.pair) (w u)) xs (λ u. refl)
          ∙ ap (λ (z : ℤ). sum_of (λ u. when (spans_column x u.pair && is_below_in_column x u.pair s.pair) (w u)) xs +ℤ z) (single_sum w s xs arranged.sorted m)

      top_weights : column_weights (λ u. runs_below u p) xs x ≡ column_top xs x s
      unfolding column_top column_bottom
      top_weights =
          rw (column_weights_are (λ u. runs_below u p) xs x, column_weights_are (λ u. is_below_in_column x u s.pair) xs x)
          (λ i. record { subj = top_sum (λ u. u.count.subj) i; clip = top_sum (λ u. u.count.clip) i; mask = 0 })

      winds_above : winding_below xs p ≡ side_top xs s
      winds_above = sym (same_weights xs arranged balanced p x at) ∙ top_weights ∙ (is_same_along xs s (arranged.free s m) balanced).above x hs

    -- ---- below

    module _ (high : runs_below s.pair p ≡ false) (between : list_all (λ t. pair_eq t.pair s.pair || not (spans t.pair p) || runs_below t.pair p || is_lower_at p s.pair t.pair) xs ≡ true) where
      higher_of : (u : WholeSegment) → Has xs u → IsTrue (spans_column x u.pair) → pair_eq u.pair s.pair ≡ false → runs_below u.pair p ≡ false → (height_at s.pair p *ℤ width u.pair) <ℤ (height_at u.pair p *ℤ width s.pair)
      higher_of u n hu e k =
          let all = list_all-at (λ t. pair_eq t.pair s.pair || not (spans t.pair p) || runs_below t.pair p || is_lower_at p s.pair t.pair) xs u between n in
          lt-tested _ _ (rest (pair_eq u.pair s.pair) (spans u.pair p) (runs_below u.pair p) (is_lower_at p s.pair u.pair) all e (spans_p u hu) k)
        where
          rest : (a b c d : Bool) → (a || not b || c || d) ≡ true → a ≡ false → b ≡ true → c ≡ false → d ≡ true
          rest true b c d h e f g = absurd (cc)
          rest false false c d h e f g = absurd (cc)
          rest false true true d h e f g = absurd (cc)
          rest false true false d h e f g = h

      alike_below : (u : WholeSegment) → Has xs u → spans_column x u.pair ≡ true → runs_below u.pair p ≡ is_below_in_column x u.pair s.pair
      alike_below u n hu = elim (cases_Bool (pair_eq u.pair s.pair)) [
        | inl e ↦ let q = same_pair_by_eq u.pair s.pair e in ap (λ (r : Pair). runs_below r p) q ∙ high ∙ sym (ap (λ (r : Pair). is_below_in_column x r s.pair) q ∙ below_itself x s.pair)
        | inr e ↦ elim (cases_Bool (runs_below u.pair p)) [
          | inl k ↦ k ∙ sym (first_of_two _ _ (one_of_two u n hu e) (false_from_ne_true _ (λ back. both_ways _ high (follows s.pair u.pair hs hu back k))))
          | inr k ↦ k ∙ sym (false_from_ne_true _ (λ below. lt_not_le _ _ (higher_of u n hu e k) (not_higher u.pair s.pair below)))
        ]
      ]

      winds_below : winding_below xs p ≡ side_bottom xs s
      unfolding column_bottom
      winds_below =
          sym (same_weights xs arranged balanced p x at)
          ∙ column_weights-same (λ u. runs_below u p) (λ u. is_below_in_column x u s.pair) xs x alike_below
          ∙ (is_same_along xs s (arranged.free s m) balanced).below x hs

-- ---- the places directly above and below a segment

not_under : (u v : ℤ) → int_lt u v ≡ true → int_lt v u ≡ false
not_under u v h = grind (arith, ints)

module _ (xs : List WholeSegment) (arranged : IsArranged xs) (balanced : IsBalanced xs) (s : WholeSegment) (m : Has xs s) (p : RationalPoint) (some : 0 < p.bottom) where
  pub directly_above : IsTrue (is_directly_above xs s.pair p) → winding_below xs p ≡ side_top xs s
  unfolding is_directly_above
  directly_above h =
      let column = column_of p.x p.bottom some in
      let parts = and_parts (lies_below s.pair p) _ h in
      let lower = and_parts (spans s.pair p) (runs_below s.pair p) parts.0 in
      winds_above xs arranged balanced s m p column.0 column.1 (sym (spans_alike p column.0 s.pair column.1) ∙ lower.0) lower.1 parts.1

  pub directly_below : IsTrue (is_directly_below xs s.pair p) → winding_below xs p ≡ side_bottom xs s
  unfolding is_directly_below
  directly_below h =
      let column = column_of p.x p.bottom some in
      let parts = and_parts (lies_above s.pair p) _ h in
      let higher = and_parts (spans s.pair p) (int_lt (p.y *ℤ width s.pair) (height_at s.pair p)) parts.0 in
      winds_below xs arranged balanced s m p column.0 column.1 (sym (spans_alike p column.0 s.pair column.1) ∙ higher.0) (not_under (p.y *ℤ width s.pair) (height_at s.pair p) higher.1) parts.1
