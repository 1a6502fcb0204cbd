-- Around a point: the segments that start there are a chain in the column to its right, those that end there a chain in the column to its
-- left.
use Rattle.std.proofs.Common.{◌≡◌, ap, refl, sym, ◌∙◌, arith, inl, inr}
use Rattle.std.specs.Prelude.{ℤ, pos, ◌+ℤ◌, ◌-ℤ◌, ◌*ℤ◌, ◌<ℤ◌, ◌≤ℤ◌, Bool, true, false, cond, ◌&&◌, ◌⊎◌, List, [], ◌∷◌, filter}
use Rattle.std.specs.List.{list_all}
use Rattle.std.proofs.lemmas.Int.{ints, by_lt_z}
use Rattle.std.proofs.lemmas.Bool.{and_parts, and_from, or_left, false_from_ne_true}
use Rattle.overlay_geometry.specs.Points.{Point, Pair, turn, point_eq, pair_cmp, is_strictly_inside}
use Rattle.overlay_geometry.specs.Sorting.{is_strictly_sorted}
use Rattle.overlay_base.specs.Windings.{Winding}
use Rattle.overlay_base.specs.Segments.{WholeSegment, pairs}
use Rattle.overlay_base.specs.Balance.{IsBalanced}
use Rattle.overlay_geometry.specs.Below.{width}
use Rattle.overlay_sweep.specs.ColumnWindings.{spans_column, is_below_in_column, column_bottom, column_top, weights_up_to, side_bottom, side_top}
use Rattle.overlay_base.specs.Rules.{differ}
use Rattle.overlay_geometry.proofs.laws.geometry.Polynomials.{mul-pos, mul-neg}
use Rattle.overlay_geometry.proofs.laws.geometry.Points.{same_point, same_by_eq, point_eq_same, at_a, at_b, inside_from_order, turn_same_outer, turn_same_last}
use Rattle.overlay_sweep.proofs.laws.columns.WeightSums.{when, sum_of, sum_of-add, sum_of-filter}
use Rattle.overlay_sweep.proofs.laws.columns.ColumnLines.{spans_column_parts, is_under, is_up_to, column_weights, column_weights_are}
use Rattle.overlay_sweep.proofs.laws.columns.Chains.{is_pairwise, gain_along_chain}
use Rattle.overlay_sweep.proofs.laws.columns.Heights.{gap, gap_back, gap_at_other_end, is_below_is}
use Rattle.overlay_sweep.proofs.laws.columns.ColumnOrder.{crosses_in_column, low-right, low-second, one_is_below, below_itself, is_below-trans}
use Rattle.overlay_sweep.proofs.laws.columns.AlongSegments.{is_same_along, neg_of_neg, neg_of_pos}
use Rattle.overlay_sweep.proofs.laws.columns.Members.{IsArranged, sorted_all, sorted_tail, differ_when_less}
use Rattle.overlay_sweep.proofs.laws.live.Supports.{is_beneath, below_is_beneath, not_beneath}
use Rattle.overlay_sweep.proofs.laws.live.Sides.{sum_of-same_in, apart_in}
use Rattle.overlay_geometry.proofs.laws.lists.Lists.{Has, Has-filter_out, list_all-at, list_all-from_Has}
use Rattle.overlay_geometry.proofs.laws.integers.Tests.{le-test, le-test_false, lt-test, lt-test_false, by_sign}

-- how much more G is at the one winding than at the other
abbrev pub gain : (ℤ → ℤ → ℤ) → Winding → Winding → ℤ
gain G b t = G t.subj t.clip -ℤ G b.subj b.clip

-- how much more it is at the top of a segment than at its bottom
abbrev pub gain_of : (ℤ → ℤ → ℤ) → List WholeSegment → WholeSegment → ℤ
gain_of G xs s = gain G (side_bottom xs s) (side_top xs s)

-- members of a list that is sorted by pairs differ, so what holds of every two different ones holds pairwise
pub pairwise_in : (below : WholeSegment → WholeSegment → Bool) (test : WholeSegment → Bool) (xs : List WholeSegment) → is_strictly_sorted pair_cmp (pairs xs) ≡ true →
    ((s t : WholeSegment) → Has xs s → Has xs t → test s ≡ true → test t ≡ true → (s.pair ≡ t.pair → ⊥) → differ (below s t) (below t s) ≡ true) → is_pairwise below (filter test xs) ≡ true
pairwise_in below test [] h k = refl
pairwise_in below test (x ∷ xs) h k =
    let rest = pairwise_in below test xs (sorted_tail x xs h) (λ s t m n. k s t (inr m) (inr n)) in
    pairwise_step below test x xs (test x) refl (λ e. list_all-from_Has (λ y. differ (below x y) (below y x)) (filter test xs) (λ y n. let z = Has-filter_out test xs y n in k x y (inl refl) (inr z.0) e z.1 (differ_when_less x.pair y.pair (list_all-at _ xs y (sorted_all x xs h) z.0)))) rest
  where
    pairwise_step : (below : WholeSegment → WholeSegment → Bool) (test : WholeSegment → Bool) (x : WholeSegment) (xs : List WholeSegment) (b : Bool) → test x ≡ b → (test x ≡ true → list_all (λ y. differ (below x y) (below y x)) (filter test xs) ≡ true) → is_pairwise below (filter test xs) ≡ true → is_pairwise below (cond b (x ∷ filter test xs) (filter test xs)) ≡ true
    pairwise_step below test x xs true e f g = and_from _ _ (f e) g
    pairwise_step below test x xs false e f g = g

in_three : (sp bl un at : Bool) (z : ℤ) → (sp ≡ true → ((bl ≡ true) × (un ≡ true) × (at ≡ false)) ⊎ (((bl ≡ false) × (un ≡ false) × (at ≡ false)) ⊎ ((un ≡ false) × (at ≡ true)))) → when (sp && bl) z ≡ when (sp && un) z +ℤ when (sp && at) (when bl z)
in_three false bl un at z h = refl
in_three true bl un at z h = elim (h refl) [
  | inl e ↦ rw (e.0, e.1, e.2) (omega (arith, ints))
  | inr (inl e) ↦ rw (e.0, e.1, e.2) refl
  | inr (inr e) ↦ rw (e.0, e.1) (omega (arith, ints))
]

in_two : (sp up un at : Bool) (z : ℤ) → (sp ≡ true → ((up ≡ true) × (un ≡ true) × (at ≡ false)) ⊎ (((up ≡ false) × (un ≡ false) × (at ≡ false)) ⊎ ((up ≡ true) × (un ≡ false) × (at ≡ true)))) → when (sp && up) z ≡ when (sp && un) z +ℤ when (sp && at) z
in_two false up un at z h = refl
in_two true up un at z h = elim (h refl) [
  | inl e ↦ rw (e.0, e.1, e.2) (omega (arith, ints))
  | inr (inl e) ↦ rw (e.0, e.1, e.2) refl
  | inr (inr e) ↦ rw (e.0, e.1, e.2) (omega (arith, ints))
]

module _ (xs : List WholeSegment) (arranged : IsArranged xs) (balanced : IsBalanced xs) (p : Point) (x : ℤ) (at : Pair → Bool)
    (on : (u : WholeSegment) → Has xs u → spans_column x u.pair ≡ true → at u.pair ≡ true → turn u.pair.a u.pair.b p ≡ pos 0)
    (only : (u : WholeSegment) → Has xs u → spans_column x u.pair ≡ true → turn u.pair.a u.pair.b p ≡ pos 0 → at u.pair ≡ true)
    (under : (u s : WholeSegment) → Has xs u → Has xs s → spans_column x u.pair ≡ true → spans_column x s.pair ≡ true → at s.pair ≡ true → pos 0 <ℤ turn u.pair.a u.pair.b p → is_below_in_column x u.pair s.pair ≡ true)
    (over : (u s : WholeSegment) → Has xs u → Has xs s → spans_column x u.pair ≡ true → spans_column x s.pair ≡ true → at s.pair ≡ true → turn u.pair.a u.pair.b p <ℤ pos 0 → is_below_in_column x u.pair s.pair ≡ false) where
  abbrev is_there : WholeSegment → Bool
  is_there s = spans_column x s.pair && at s.pair

  abbrev below_there : WholeSegment → WholeSegment → Bool
  below_there t s = is_below_in_column x t.pair s.pair

  abbrev lowest : (WholeSegment → ℤ) → ℤ
  lowest w = sum_of (λ u. when (spans_column x u.pair && is_under p u.pair) (w u)) xs

  not_at : (u : WholeSegment) → Has xs u → spans_column x u.pair ≡ true → (turn u.pair.a u.pair.b p ≡ pos 0 → ⊥) → at u.pair ≡ false
  not_at u m h none = false_from_ne_true (at u.pair) (λ e. none (on u m h e))

  -- what is below a member is under p, or a member itself
  below_split : (w : WholeSegment → ℤ) (s : WholeSegment) → Has xs s → spans_column x s.pair ≡ true → at s.pair ≡ true →
      sum_of (λ u. when (spans_column x u.pair && is_below_in_column x u.pair s.pair) (w u)) xs ≡ lowest w +ℤ sum_of (λ t. when (below_there t s) (w t)) (filter is_there xs)
  below_split w s m hs sat =
      let split = sum_of-same_in (λ u. when (spans_column x u.pair && is_below_in_column x u.pair s.pair) (w u)) (λ u. when (spans_column x u.pair && is_under p u.pair) (w u) +ℤ when (is_there u) (when (below_there u s) (w u))) xs
      (λ u n. in_three (spans_column x u.pair) (is_below_in_column x u.pair s.pair) (is_under p u.pair) (at u.pair) (w u) (λ h. by_sign (turn u.pair.a u.pair.b p)
      (λ (down : turn u.pair.a u.pair.b p <ℤ pos 0). inr (inl (over u s n m h hs sat down, lt-test_false (pos 0) (turn u.pair.a u.pair.b p) (omega (arith, ints)), not_at u n h (λ z. omega (arith, ints)))))
      (λ (zero : turn u.pair.a u.pair.b p ≡ pos 0). inr (inr (lt-test_false (pos 0) (turn u.pair.a u.pair.b p) (omega (arith, ints)), only u n h zero)))
      (λ (up : pos 0 <ℤ turn u.pair.a u.pair.b p). inl (under u s n m h hs sat up, lt-test (pos 0) (turn u.pair.a u.pair.b p) up, not_at u n h (λ z. omega (arith, ints)))))) in
      let sum = sum_of-add (λ u. when (spans_column x u.pair && is_under p u.pair) (w u) +ℤ when (is_there u) (when (below_there u s) (w u))) (λ u. when (spans_column x u.pair && is_under p u.pair) (w u)) (λ u. when (is_there u) (when (below_there u s) (w u))) xs (λ u. refl) in
      split ∙ sum ∙ ap (λ (z : ℤ). lowest w +ℤ z) (sym (sum_of-filter is_there (λ t. when (below_there t s) (w t)) xs))

  -- what is at most as high as p is under p, or a member
  up_to_split : (w : WholeSegment → ℤ) → sum_of (λ u. when (spans_column x u.pair && is_up_to p u.pair) (w u)) xs ≡ lowest w +ℤ sum_of w (filter is_there xs)
  up_to_split w =
      let split = sum_of-same_in (λ u. when (spans_column x u.pair && is_up_to p u.pair) (w u)) (λ u. when (spans_column x u.pair && is_under p u.pair) (w u) +ℤ when (is_there u) (w u)) xs
      (λ u n. in_two (spans_column x u.pair) (is_up_to p u.pair) (is_under p u.pair) (at u.pair) (w u) (λ h. by_sign (turn u.pair.a u.pair.b p)
      (λ (down : turn u.pair.a u.pair.b p <ℤ pos 0). inr (inl (le-test_false (pos 0) (turn u.pair.a u.pair.b p) down, lt-test_false (pos 0) (turn u.pair.a u.pair.b p) (omega (arith, ints)), not_at u n h (λ z. omega (arith, ints)))))
      (λ (zero : turn u.pair.a u.pair.b p ≡ pos 0). inr (inr (le-test (pos 0) (turn u.pair.a u.pair.b p) (omega (arith, ints)), lt-test_false (pos 0) (turn u.pair.a u.pair.b p) (omega (arith, ints)), only u n h zero)))
      (λ (up : pos 0 <ℤ turn u.pair.a u.pair.b p). inl (le-test (pos 0) (turn u.pair.a u.pair.b p) (omega (arith, ints)), lt-test (pos 0) (turn u.pair.a u.pair.b p) up, not_at u n h (λ z. omega (arith, ints)))))) in
      let sum = sum_of-add (λ u. when (spans_column x u.pair && is_under p u.pair) (w u) +ℤ when (is_there u) (w u)) (λ u. when (spans_column x u.pair && is_under p u.pair) (w u)) (λ u. when (is_there u) (w u)) xs (λ u. refl) in
      split ∙ sum ∙ ap (λ (z : ℤ). lowest w +ℤ z) (sym (sum_of-filter is_there w xs))

  there_in : (s : WholeSegment) → Has (filter is_there xs) s → Has xs s × (spans_column x s.pair ≡ true) × (at s.pair ≡ true)
  there_in s n = let k = Has-filter_out is_there xs s n in let parts = and_parts (spans_column x s.pair) (at s.pair) k.1 in (k.0, parts.0, parts.1)

  pairwise_there : is_pairwise below_there (filter is_there xs) ≡ true
  pairwise_there = pairwise_in below_there is_there xs arranged.sorted
      (λ s t m n a b other. one_is_below x s.pair t.pair (and_parts (spans_column x s.pair) (at s.pair) a).0 (and_parts (spans_column x t.pair) (at t.pair) b).0 (apart_in xs arranged balanced s t m n) other)

  module _ (G : ℤ → ℤ → ℤ) where
    same_gain : (b c b' c' d e d' e' : ℤ) → b ≡ b' → c ≡ c' → d ≡ d' → e ≡ e' → G d e -ℤ G b c ≡ G d' e' -ℤ G b' c'
    same_gain b c b' c' d e d' e' p q r s = rw (p, q, r, s) refl

    column_gain : (s : WholeSegment) → Has xs s → spans_column x s.pair ≡ true →
        gain_of G xs s ≡ G (sum_of (λ u. when (spans_column x u.pair && is_below_in_column x u.pair s.pair) u.count.subj) xs +ℤ s.count.subj) (sum_of (λ u. when (spans_column x u.pair && is_below_in_column x u.pair s.pair) u.count.clip) xs +ℤ s.count.clip)
        -ℤ G (sum_of (λ u. when (spans_column x u.pair && is_below_in_column x u.pair s.pair) u.count.subj) xs) (sum_of (λ u. when (spans_column x u.pair && is_below_in_column x u.pair s.pair) u.count.clip) xs)
    unfolding column_top column_bottom
    column_gain s m h =
        let along = is_same_along xs s (arranged.free s m) balanced in
        rw (← along.below x h, ← along.above x h, column_weights_are (λ u. is_below_in_column x u s.pair) xs x) refl

    abbrev chain_gain : WholeSegment → ℤ
    chain_gain s = G ((lowest (λ u. u.count.subj) +ℤ sum_of (λ t. when (below_there t s) t.count.subj) (filter is_there xs)) +ℤ s.count.subj) ((lowest (λ u. u.count.clip) +ℤ sum_of (λ t. when (below_there t s) t.count.clip) (filter is_there xs)) +ℤ s.count.clip)
        -ℤ G (lowest (λ u. u.count.subj) +ℤ sum_of (λ t. when (below_there t s) t.count.subj) (filter is_there xs)) (lowest (λ u. u.count.clip) +ℤ sum_of (λ t. when (below_there t s) t.count.clip) (filter is_there xs))

    gain_there : (s : WholeSegment) → Has (filter is_there xs) s → gain_of G xs s ≡ chain_gain s
    gain_there s n =
        let k = there_in s n in
        let u = below_split (λ t. t.count.subj) s k.0 k.1 k.2 in
        let v = below_split (λ t. t.count.clip) s k.0 k.1 k.2 in
        column_gain s k.0 k.1 ∙ same_gain _ _ _ _ _ _ _ _ u v (ap (λ (z : ℤ). z +ℤ s.count.subj) u) (ap (λ (z : ℤ). z +ℤ s.count.clip) v)

    -- the gains of the members add up to that from just below p to just above
    pub sum_there : sum_of (gain_of G xs) (filter is_there xs) ≡ gain G (column_weights (is_under p) xs x) (weights_up_to xs x p)
    unfolding weights_up_to
    sum_there =
        let there : list_all is_there (filter is_there xs) ≡ true = list_all-from_Has is_there (filter is_there xs) (λ s n. (Has-filter_out is_there xs s n).1) in
        let chain = gain_along_chain below_there is_there
        (λ s t u a b c h k. is_below-trans x s.pair t.pair u.pair (and_parts (spans_column x s.pair) (at s.pair) a).0 (and_parts (spans_column x t.pair) (at t.pair) b).0 (and_parts (spans_column x u.pair) (at u.pair) c).0 h k)
        (λ s a. below_itself x s.pair) G (λ s. s.count.subj) (λ s. s.count.clip) (lowest (λ s. s.count.subj)) (lowest (λ s. s.count.clip)) (filter is_there xs) there pairwise_there in
        sum_of-same_in (gain_of G xs) chain_gain (filter is_there xs) gain_there ∙ chain
        ∙ same_gain _ _ _ _ _ _ _ _ (ap (λ (w : Winding). w.subj) (sym (column_weights_are (is_under p) xs x))) (ap (λ (w : Winding). w.clip) (sym (column_weights_are (is_under p) xs x)))
        (sym (up_to_split (λ s. s.count.subj)) ∙ ap (λ (w : Winding). w.subj) (sym (column_weights_are (is_up_to p) xs x))) (sym (up_to_split (λ s. s.count.clip)) ∙ ap (λ (w : Winding). w.clip) (sym (column_weights_are (is_up_to p) xs x)))

-- ---- the two chains at a point that lies strictly inside no segment

module _ (xs : List WholeSegment) (arranged : IsArranged xs) (balanced : IsBalanced xs) (p : Point) (free_point : (u : WholeSegment) → Has xs u → is_strictly_inside u.pair p ≡ true → ⊥) (G : ℤ → ℤ → ℤ) where
  pub starts_only : (u : WholeSegment) → Has xs u → spans_column p.x u.pair ≡ true → turn u.pair.a u.pair.b p ≡ pos 0 → point_eq u.pair.a p ≡ true
  starts_only u m h e =
      let k = spans_column_parts p.x u.pair h in
      by_lt_z u.pair.a.x p.x
      (λ (l : u.pair.a.x <ℤ p.x). absurd (free_point u m (inside_from_order u.pair p (inl (omega (arith, ints))) e (inl l) (inl k.1))))
      (λ (g : p.x ≤ℤ u.pair.a.x). let x : p.x ≡ u.pair.a.x = omega (arith, ints) in
      let same = same_point u.pair.a p (sym x) (sym (at_a u.pair.a u.pair.b p (omega (arith, ints)) e x)) in
      ap (λ (q : Point). point_eq q p) same ∙ point_eq_same p)

  pub ends_only : (u : WholeSegment) → Has xs u → spans_column (p.x -ℤ pos 1) u.pair ≡ true → turn u.pair.a u.pair.b p ≡ pos 0 → point_eq u.pair.b p ≡ true
  ends_only u m h e =
      let k = spans_column_parts (p.x -ℤ pos 1) u.pair h in
      by_lt_z p.x u.pair.b.x
      (λ (l : p.x <ℤ u.pair.b.x). absurd (free_point u m (inside_from_order u.pair p (inl (omega (arith, ints))) e (inl (omega (arith, ints))) (inl l))))
      (λ (g : u.pair.b.x ≤ℤ p.x). let x : p.x ≡ u.pair.b.x = omega (arith, ints) in
      let same = same_point u.pair.b p (sym x) (sym (at_b u.pair.a u.pair.b p (omega (arith, ints)) e x)) in
      ap (λ (q : Point). point_eq q p) same ∙ point_eq_same p)

  start_order : (u s : WholeSegment) → Has xs u → Has xs s → spans_column p.x u.pair ≡ true → spans_column p.x s.pair ≡ true → point_eq s.pair.a p ≡ true → is_below_in_column p.x u.pair s.pair ≡ is_beneath s.pair u.pair
  start_order u s m n hu hs e =
      let same = same_by_eq s.pair.a p e in
      let x : s.pair.a.x ≡ p.x = ap (λ (q : Point). q.x) same in
      let k = spans_column_parts p.x s.pair hs in
      ap (λ (z : ℤ). is_below_in_column z u.pair s.pair) (sym x) ∙ below_is_beneath s.pair u.pair (ap (λ (z : ℤ). spans_column z u.pair) x ∙ hu) (apart_in xs arranged balanced s u n m) (omega (arith, ints))

  -- the segments that start at p, in the column to its right
  pub gain_right : sum_of (gain_of G xs) (filter (λ s. spans_column p.x s.pair && point_eq s.pair.a p) xs) ≡ gain G (column_weights (is_under p) xs p.x) (weights_up_to xs p.x p)
  gain_right = sum_there xs arranged balanced p p.x (λ u. point_eq u.a p)
      (λ u m h e. ap (turn u.pair.a u.pair.b) (sym (same_by_eq u.pair.a p e)) ∙ turn_same_outer u.pair.a u.pair.b)
      starts_only
      (λ u s m n hu hs e up. start_order u s m n hu hs e ∙ or_left _ _ (lt-test (pos 0) (turn u.pair.a u.pair.b s.pair.a) (let same = ap (turn u.pair.a u.pair.b) (same_by_eq s.pair.a p e) in omega (arith, ints))))
      (λ u s m n hu hs e down. start_order u s m n hu hs e ∙ not_beneath s.pair u.pair (let same = ap (turn u.pair.a u.pair.b) (same_by_eq s.pair.a p e) in omega (arith, ints)))
      G

  pub end_gap : (u s : WholeSegment) → point_eq s.pair.b p ≡ true → gap ((p.x -ℤ pos 1) +ℤ pos 1) u.pair s.pair ≡ width s.pair *ℤ turn u.pair.a u.pair.b p
  end_gap u s e =
      let same = same_by_eq s.pair.b p e in
      let x : (p.x -ℤ pos 1) +ℤ pos 1 ≡ s.pair.b.x = (let y : s.pair.b.x ≡ p.x = ap (λ (q : Point). q.x) same in omega (arith, ints)) in
      ap (λ (z : ℤ). gap z u.pair s.pair) x ∙ gap_at_other_end u.pair s.pair ∙ ap (λ (q : Point). width s.pair *ℤ turn u.pair.a u.pair.b q) same

  pub end_under : (u s : WholeSegment) → Has xs u → Has xs s → spans_column (p.x -ℤ pos 1) u.pair ≡ true → spans_column (p.x -ℤ pos 1) s.pair ≡ true → point_eq s.pair.b p ≡ true → pos 0 <ℤ turn u.pair.a u.pair.b p → is_below_in_column (p.x -ℤ pos 1) u.pair s.pair ≡ true
  end_under u s m n hu hs e up =
      let k = spans_column_parts (p.x -ℤ pos 1) s.pair hs in
      let g = end_gap u s e in
      let more = mul-pos (width s.pair) (turn u.pair.a u.pair.b p) (omega (arith, ints)) up in
      let right : pos 0 <ℤ gap ((p.x -ℤ pos 1) +ℤ pos 1) u.pair s.pair = omega (arith, ints) in
      let apart = apart_in xs arranged balanced s u n m in
      is_below_is (p.x -ℤ pos 1) u.pair s.pair ∙ low-second (gap (p.x -ℤ pos 1) u.pair s.pair) (gap ((p.x -ℤ pos 1) +ℤ pos 1) u.pair s.pair)
      (by_lt_z (gap (p.x -ℤ pos 1) u.pair s.pair) (pos 0)
      (λ (l : gap (p.x -ℤ pos 1) u.pair s.pair <ℤ pos 0). absurd (apart.cross (crosses_in_column (p.x -ℤ pos 1) s.pair u.pair hs hu (neg_of_neg _ _ (gap_back (p.x -ℤ pos 1) s.pair u.pair) l) (neg_of_pos _ _ (gap_back ((p.x -ℤ pos 1) +ℤ pos 1) s.pair u.pair) right))))
      (λ (q : pos 0 ≤ℤ gap (p.x -ℤ pos 1) u.pair s.pair). q))
      right

  pub end_over : (u s : WholeSegment) → Has xs u → Has xs s → spans_column (p.x -ℤ pos 1) u.pair ≡ true → spans_column (p.x -ℤ pos 1) s.pair ≡ true → point_eq s.pair.b p ≡ true → turn u.pair.a u.pair.b p <ℤ pos 0 → is_below_in_column (p.x -ℤ pos 1) u.pair s.pair ≡ false
  end_over u s m n hu hs e down =
      let k = spans_column_parts (p.x -ℤ pos 1) s.pair hs in
      let g = end_gap u s e in
      let less = mul-neg (width s.pair) (turn u.pair.a u.pair.b p) (omega (arith, ints)) down in
      is_below_is (p.x -ℤ pos 1) u.pair s.pair ∙ low-right (gap (p.x -ℤ pos 1) u.pair s.pair) (gap ((p.x -ℤ pos 1) +ℤ pos 1) u.pair s.pair) (omega (arith, ints))

  -- the segments that end at p, in the column to its left
  pub gain_left : sum_of (gain_of G xs) (filter (λ s. spans_column (p.x -ℤ pos 1) s.pair && point_eq s.pair.b p) xs) ≡ gain G (column_weights (is_under p) xs (p.x -ℤ pos 1)) (weights_up_to xs (p.x -ℤ pos 1) p)
  gain_left = sum_there xs arranged balanced p (p.x -ℤ pos 1) (λ u. point_eq u.b p)
      (λ u m h e. ap (turn u.pair.a u.pair.b) (sym (same_by_eq u.pair.b p e)) ∙ turn_same_last u.pair.a u.pair.b)
      ends_only end_under end_over G
