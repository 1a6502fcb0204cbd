-- Around a point, the vertical segments: from below and upward at most one each, with the windings of the two chains beside it. Along each
-- a number of windings gains what it gains between the two columns.
use Rattle.std.proofs.Common.{◌≡◌, ap, refl, sym, ◌∙◌, arith, inl, inr}
use Rattle.std.specs.Prelude.{ℤ, pos, ◌+ℤ◌, ◌-ℤ◌, ◌*ℤ◌, ◌<ℤ◌, ◌≤ℤ◌, Bool, true, false, ◌&&◌, ◌⊎◌, List, [], ◌∷◌, filter}
use Rattle.std.specs.Ordering.{int_eq}
use Rattle.std.proofs.lemmas.Int.{ints, by_lt_z}
use Rattle.std.proofs.lemmas.Bool.{and_parts, and_from, cases_Bool, both_ways, false_from_ne_true, not-true}
use Rattle.std.proofs.lemmas.Bool.Decides.{Decides-int_eq}
use Rattle.overlay_geometry.specs.Points.{Point, Pair, turn, point_eq, pair_eq, pair_cmp, pair_lt, is_vertical, is_strictly_inside}
use Rattle.overlay_geometry.specs.Sorting.{is_strictly_sorted}
use Rattle.overlay_base.specs.Windings.{Winding, add, empty}
use Rattle.overlay_base.specs.Segments.{WholeSegment, pairs, total_weight}
use Rattle.overlay_base.specs.Balance.{IsBalanced}
use Rattle.overlay_geometry.specs.Below.{width}
use Rattle.overlay_sweep.specs.ColumnWindings.{weights_up_to, right_winding, left_winding, side_bottom, side_top}
use Rattle.overlay_geometry.proofs.laws.geometry.Polynomials.{mul-pos, mul-neg, cancel-pos, cancel-neg}
use Rattle.overlay_geometry.proofs.laws.geometry.Points.{same_point, same_pair, same_by_eq, point_eq_same, pair_eq_same, from_not_same_pair, inside_from_order}
use Rattle.overlay_base.proofs.laws.geometry.Apart.{do_cross_from}
use Rattle.overlay_sweep.proofs.laws.columns.WeightSums.{when, sum_of}
use Rattle.overlay_sweep.proofs.laws.columns.ColumnLines.{spans_column_parts, point_lt-cases, is_under, is_up_to, lies_under, lies_up_to, leaves_upward, turn_over_start, turn_over_end, column_weights, filter_weights_are, across_under, across_up_to}
use Rattle.overlay_sweep.proofs.laws.columns.ColumnOrder.{IsApart}
use Rattle.overlay_sweep.proofs.laws.columns.AlongSegments.{turn_upright, turn_higher}
use Rattle.overlay_sweep.proofs.laws.columns.Members.{IsArranged, sorted_all, sorted_tail, differ_when_less}
use Rattle.overlay_sweep.proofs.laws.live.Sides.{sum_of-same_in, sum_of-zero_in, column_weights-same, apart_in, itself_rises, rises_is}
use Rattle.overlay_build.proofs.laws.sides.Vertices.{gain, gain_of}
use Rattle.overlay_geometry.proofs.laws.lists.Lists.{Has, list_all-at, by_list_any}
use Rattle.overlay_geometry.proofs.laws.integers.Tests.{le-test, le-test_false, lt-test, lt-test_false, le-tested, lt-tested}
use Rattle.overlay_geometry.proofs.laws.integers.Products.{zero_plus, minus_itself, times_nothing}

-- ---- sums over parts of a list

pub when_nothing : (b : Bool) (z : ℤ) → b ≡ false → when b z ≡ pos 0
when_nothing b z e = rw e refl

-- one segment of an arrangement
pub single_sum : (g : WholeSegment → ℤ) (t : WholeSegment) (xs : List WholeSegment) → is_strictly_sorted pair_cmp (pairs xs) ≡ true → Has xs t → sum_of (λ u. when (pair_eq u.pair t.pair) (g u)) xs ≡ g t
single_sum g t [] h m = absurd m
single_sum g t (x ∷ xs) h (inl e) =
    let rest : sum_of (λ u. when (pair_eq u.pair t.pair) (g u)) xs ≡ pos 0 = sum_of-zero_in (λ u. when (pair_eq u.pair t.pair) (g u)) xs (λ y n. when_nothing _ (g y) (from_not_same_pair y.pair t.pair (λ q. differ_when_less x.pair y.pair (list_all-at (λ z. pair_lt x.pair z.pair) xs y (sorted_all x xs h) n) (ap (λ (u : WholeSegment). u.pair) e ∙ sym q)))) in
    let here : pair_eq x.pair t.pair ≡ true = ap (λ (u : WholeSegment). pair_eq u.pair t.pair) e ∙ pair_eq_same t.pair in
    rw (here, rest) (plus_nothing (g x) ∙ ap g e)
  where
    plus_nothing : (z : ℤ) → z +ℤ pos 0 ≡ z
    plus_nothing z = omega (arith, ints)
single_sum g t (x ∷ xs) h (inr m) = rw (from_not_same_pair x.pair t.pair (differ_when_less x.pair t.pair (list_all-at (λ z. pair_lt x.pair z.pair) xs t (sorted_all x xs h) m))) (zero_plus _ ∙ single_sum g t xs (sorted_tail x xs h) m)

same_value : (G : ℤ → ℤ → ℤ) (b c : ℤ) → G (b +ℤ pos 0) (c +ℤ pos 0) -ℤ G b c ≡ pos 0
same_value G b c = let p : b +ℤ pos 0 ≡ b = omega (arith, ints) in let q : c +ℤ pos 0 ≡ c = omega (arith, ints) in rw (p, q) (minus_itself (G b c))

gains_nothing : (G : ℤ → ℤ → ℤ) (r l u : Winding) → add r u ≡ l → u ≡ empty → gain G r l ≡ pos 0
gains_nothing G r l u e z = ap (gain G r) (sym e ∙ ap (λ (w : Winding). add r w) z) ∙ same_value G r.subj r.clip

no_weight : (test : Pair → Bool) (xs : List WholeSegment) → ((u : WholeSegment) → Has xs u → test u.pair ≡ false) → total_weight (filter (λ u. test u.pair) xs) ≡ empty
no_weight test xs h =
    let zero = λ (w : WholeSegment → ℤ). sum_of-zero_in (λ u. when (test u.pair) (w u)) xs (λ u m. ap (λ (b : Bool). when b (w u)) (h u m)) in
    filter_weights_are test xs ∙ (λ i. record { subj = zero (λ u. u.count.subj) i; clip = zero (λ u. u.count.clip) i; mask = 0 })

-- ---- beside a vertical segment: what is at most as high as its lower end is strictly under its upper end

sign_down : (w m g : ℤ) → pos 0 <ℤ w → g ≡ w *ℤ m → g <ℤ pos 0 → m <ℤ pos 0
sign_down w m g h e p = cancel-neg w m h (omega (arith, ints))

sign_up : (w m g : ℤ) → pos 0 <ℤ w → g ≡ w *ℤ m → pos 0 <ℤ g → pos 0 <ℤ m
sign_up w m g h e p = cancel-pos w m h (omega (arith, ints))

pub upright_level : (t : Pair) (q : Point) → t.a.x ≡ t.b.x → q.x ≡ t.a.x → turn t.a t.b q ≡ pos 0
upright_level t q e x = turn_upright t q e ∙ times_nothing (t.b.y -ℤ t.a.y) (t.a.x -ℤ q.x) (omega (arith, ints))

module _ (s u : Pair) (e : s.a.x ≡ s.b.x) (h : s.a.y <ℤ s.b.y) (wu : u.a.x <ℤ u.b.x) (ua : u.a.x ≤ℤ s.a.x) (ub : s.a.x ≤ℤ u.b.x) (apart : IsApart s u) where
  through_start : u.a.x ≡ s.a.x → turn u.a u.b s.a <ℤ pos 0 → pos 0 <ℤ turn u.a u.b s.b → ⊥
  through_start x p q =
      let low = sign_down (u.b.x -ℤ u.a.x) (s.a.y -ℤ u.a.y) _ (omega (arith, ints)) (turn_over_start u s.a x) p in
      let high = sign_up (u.b.x -ℤ u.a.x) (s.b.y -ℤ u.a.y) _ (omega (arith, ints)) (turn_over_start u s.b (x ∙ e)) q in
      apart.a_inside (inside_from_order s u.a (inr (e, h)) (upright_level s u.a e x) (inr (sym x, omega (arith, ints))) (inr (x ∙ e, omega (arith, ints))))

  through_end : u.b.x ≡ s.a.x → turn u.a u.b s.a <ℤ pos 0 → pos 0 <ℤ turn u.a u.b s.b → ⊥
  through_end x p q =
      let low = sign_down (u.b.x -ℤ u.a.x) (s.a.y -ℤ u.b.y) _ (omega (arith, ints)) (turn_over_end u s.a x) p in
      let high = sign_up (u.b.x -ℤ u.a.x) (s.b.y -ℤ u.b.y) _ (omega (arith, ints)) (turn_over_end u s.b (x ∙ e)) q in
      apart.b_inside (inside_from_order s u.b (inr (e, h)) (upright_level s u.b e x) (inr (sym x, omega (arith, ints))) (inr (x ∙ e, omega (arith, ints))))

  through_middle : u.a.x <ℤ s.a.x → s.a.x <ℤ u.b.x → turn u.a u.b s.a <ℤ pos 0 → pos 0 <ℤ turn u.a u.b s.b → ⊥
  through_middle l r p q =
      let left = turn_upright s u.a e in
      let right = turn_upright s u.b e in
      let m = mul-pos (s.b.y -ℤ s.a.y) (s.a.x -ℤ u.a.x) (omega (arith, ints)) (omega (arith, ints)) in
      let n = mul-neg (s.b.y -ℤ s.a.y) (s.a.x -ℤ u.b.x) (omega (arith, ints)) (omega (arith, ints)) in
      apart.cross (do_cross_from s u (inr (omega (arith, ints), omega (arith, ints))) (inl (p, q)))

  pub none_between : turn u.a u.b s.a <ℤ pos 0 → pos 0 <ℤ turn u.a u.b s.b → ⊥
  none_between p q =
      by_lt_z u.a.x s.a.x
      (λ (l : u.a.x <ℤ s.a.x). by_lt_z s.a.x u.b.x (λ (r : s.a.x <ℤ u.b.x). through_middle l r p q) (λ (r : u.b.x ≤ℤ s.a.x). through_end (omega (arith, ints)) p q))
      (λ (g : s.a.x ≤ℤ u.a.x). through_start (omega (arith, ints)) p q)

  pub up_to_is_under : is_up_to s.a u ≡ is_under s.b u
  up_to_is_under =
      let rise = turn_higher u s.a s.b e in
      let more = mul-pos (width u) (s.b.y -ℤ s.a.y) (omega (arith, ints)) (omega (arith, ints)) in
      by_lt_z (turn u.a u.b s.a) (pos 0)
      (λ (down : turn u.a u.b s.a <ℤ pos 0). le-test_false (pos 0) (turn u.a u.b s.a) down ∙ sym (lt-test_false (pos 0) (turn u.a u.b s.b) (by_lt_z (pos 0) (turn u.a u.b s.b) (λ (up : pos 0 <ℤ turn u.a u.b s.b). absurd (none_between down up)) (λ (q : turn u.a u.b s.b ≤ℤ pos 0). q))))
      (λ (up : pos 0 ≤ℤ turn u.a u.b s.a). le-test (pos 0) (turn u.a u.b s.a) up ∙ sym (lt-test (pos 0) (turn u.a u.b s.b) (omega (arith, ints))))

-- ---- at a point that lies strictly inside no segment

module _ (xs : List WholeSegment) (arranged : IsArranged xs) (balanced : IsBalanced xs) (p : Point) (free_point : (u : WholeSegment) → Has xs u → is_strictly_inside u.pair p ≡ true → ⊥) (G : ℤ → ℤ → ℤ) where
  abbrev starts_upright : WholeSegment → Bool
  starts_upright s = is_vertical s.pair && point_eq s.pair.a p

  abbrev ends_upright : WholeSegment → Bool
  ends_upright s = is_vertical s.pair && point_eq s.pair.b p

  pub upright_of : (s : WholeSegment) → Has xs s → is_vertical s.pair ≡ true → (s.pair.a.x ≡ s.pair.b.x) × (s.pair.a.y <ℤ s.pair.b.y)
  upright_of s m v =
      let e = (Decides-int_eq s.pair.a.x s.pair.b.x).0 v in
      elim (point_lt-cases s.pair.a s.pair.b (arranged.ordered s m)) [ inl w ↦ absurd (omega (arith, ints)) | inr h ↦ h ]

  one_gain : (test : WholeSegment → Bool) (s : WholeSegment) → Has xs s → ((u : WholeSegment) → Has xs u → test u ≡ pair_eq u.pair s.pair) → sum_of (λ u. when (test u) (gain_of G xs u)) xs ≡ gain_of G xs s
  one_gain test s m h = sum_of-same_in (λ u. when (test u) (gain_of G xs u)) (λ u. when (pair_eq u.pair s.pair) (gain_of G xs u)) xs (λ u n. ap (λ (b : Bool). when b (gain_of G xs u)) (h u n)) ∙ single_sum (gain_of G xs) s xs arranged.sorted m

  none_gains : (test : WholeSegment → Bool) → ((u : WholeSegment) → Has xs u → test u ≡ false) → sum_of (λ u. when (test u) (gain_of G xs u)) xs ≡ pos 0
  none_gains test h = sum_of-zero_in (λ u. when (test u) (gain_of G xs u)) xs (λ u n. when_nothing (test u) (gain_of G xs u) (h u n))

  upright_sides : (s : WholeSegment) → is_vertical s.pair ≡ true → gain_of G xs s ≡ gain G (right_winding xs s) (left_winding xs s)
  unfolding side_bottom side_top
  upright_sides s v = rw v refl

  -- upward
  start_only_one : (s u : WholeSegment) → Has xs s → Has xs u → starts_upright s ≡ true → starts_upright u ≡ pair_eq u.pair s.pair
  start_only_one s u m n h =
      let sp = and_parts (is_vertical s.pair) (point_eq s.pair.a p) h in
      let su = upright_of s m sp.0 in
      let rises = rises_is xs arranged balanced s m su.0 su.1 u n in
      elim (cases_Bool (starts_upright u)) [
        | inl e ↦
            (let up = and_parts (is_vertical u.pair) (point_eq u.pair.a p) e in
            let uu = upright_of u n up.0 in
            let same : u.pair.a ≡ s.pair.a = same_by_eq u.pair.a p up.1 ∙ sym (same_by_eq s.pair.a p sp.1) in
            e ∙ sym (sym rises ∙ ap (λ (q : Point). leaves_upward (lies_up_to q) u.pair) (sym same) ∙ itself_rises xs arranged balanced u n uu.0 uu.1))
        | inr e ↦ e ∙ sym (from_not_same_pair u.pair s.pair (λ q. both_ways _ e (ap (λ (r : Pair). is_vertical r && point_eq r.a p) q ∙ h)))
      ]

  start_sides : (s : WholeSegment) → starts_upright s ≡ true → gain_of G xs s ≡ gain G (weights_up_to xs p.x p) (weights_up_to xs (p.x -ℤ pos 1) p)
  unfolding right_winding left_winding
  start_sides s h =
      let sp = and_parts (is_vertical s.pair) (point_eq s.pair.a p) h in
      upright_sides s sp.0 ∙ ap (λ (q : Point). gain G (weights_up_to xs q.x q) (weights_up_to xs (q.x -ℤ pos 1) q)) (same_by_eq s.pair.a p sp.1)

  pub passes : (u : WholeSegment) → Has xs u → is_vertical u.pair ≡ true → u.pair.a.x ≡ p.x → u.pair.a.y <ℤ p.y → p.y <ℤ u.pair.b.y → ⊥
  passes u n v x low high =
      let up = upright_of u n v in
      free_point u n (inside_from_order u.pair p (inr up) (upright_level u.pair p up.0 (sym x)) (inr (x, low)) (inr (sym x ∙ up.0, high)))

  none_leaves_up : ((u : WholeSegment) → Has xs u → starts_upright u ≡ false) → (u : WholeSegment) → Has xs u → leaves_upward (lies_up_to p) u.pair ≡ false
  none_leaves_up none u n = false_from_ne_true (leaves_upward (lies_up_to p) u.pair) (λ k.
      let first = and_parts (is_vertical u.pair) _ k in
      let second = and_parts (lies_up_to p u.pair.a) _ first.1 in
      let lower = and_parts (int_eq u.pair.a.x p.x) _ second.0 in
      let x = (Decides-int_eq u.pair.a.x p.x).0 lower.0 in
      let up = upright_of u n first.0 in
      let low = le-tested u.pair.a.y p.y lower.1 in
      let upper = not-true (lies_up_to p u.pair.b) second.1 in
      let high : p.y <ℤ u.pair.b.y = by_lt_z p.y u.pair.b.y (λ (l : p.y <ℤ u.pair.b.y). l) (λ (g : u.pair.b.y ≤ℤ p.y). absurd (both_ways (lies_up_to p u.pair.b) upper (and_from _ _ ((Decides-int_eq u.pair.b.x p.x).1 (sym up.0 ∙ x)) (le-test u.pair.b.y p.y g)))) in
      by_lt_z u.pair.a.y p.y (λ (l : u.pair.a.y <ℤ p.y). passes u n first.0 x l high)
      (λ (g : p.y ≤ℤ u.pair.a.y). both_ways (starts_upright u) (none u n) (and_from _ _ first.0 (ap (λ (q : Point). point_eq q p) (same_point u.pair.a p x (omega (arith, ints))) ∙ point_eq_same p))))

  pub gain_up : sum_of (λ u. when (starts_upright u) (gain_of G xs u)) xs ≡ gain G (weights_up_to xs p.x p) (weights_up_to xs (p.x -ℤ pos 1) p)
  gain_up = by_list_any starts_upright xs
      (λ s m h. one_gain starts_upright s m (λ u n. start_only_one s u m n h) ∙ start_sides s h)
      (λ none. none_gains starts_upright none ∙ sym (gains_nothing G _ _ _ (across_up_to xs arranged.all_ordered balanced p) (no_weight (leaves_upward (lies_up_to p)) xs (none_leaves_up none))))

  -- downward
  pub end_only_one : (s u : WholeSegment) → Has xs s → Has xs u → ends_upright s ≡ true → ends_upright u ≡ true → u.pair ≡ s.pair
  end_only_one s u m n h k =
      let sp = and_parts (is_vertical s.pair) (point_eq s.pair.b p) h in
      let up = and_parts (is_vertical u.pair) (point_eq u.pair.b p) k in
      let su = upright_of s m sp.0 in
      let uu = upright_of u n up.0 in
      let apart = apart_in xs arranged balanced s u m n in
      let same : u.pair.b ≡ s.pair.b = same_by_eq u.pair.b p up.1 ∙ sym (same_by_eq s.pair.b p sp.1) in
      let bx : u.pair.b.x ≡ s.pair.b.x = ap (λ (q : Point). q.x) same in
      let by : u.pair.b.y ≡ s.pair.b.y = ap (λ (q : Point). q.y) same in
      let x : u.pair.a.x ≡ s.pair.a.x = uu.0 ∙ bx ∙ sym su.0 in
      let low = su.1 in let high = uu.1 in
      let start : u.pair.a ≡ s.pair.a = same_point u.pair.a s.pair.a x (by_lt_z u.pair.a.y s.pair.a.y
      (λ (l : u.pair.a.y <ℤ s.pair.a.y). absurd (apart.a_around (inside_from_order u.pair s.pair.a (inr uu) (upright_level u.pair s.pair.a uu.0 (sym x)) (inr (x, l)) (inr (sym x ∙ uu.0, omega (arith, ints))))))
      (λ (g : s.pair.a.y ≤ℤ u.pair.a.y). by_lt_z s.pair.a.y u.pair.a.y
      (λ (l : s.pair.a.y <ℤ u.pair.a.y). absurd (apart.a_inside (inside_from_order s.pair u.pair.a (inr su) (upright_level s.pair u.pair.a su.0 x) (inr (sym x, l)) (inr (x ∙ su.0, omega (arith, ints))))))
      (λ (k : u.pair.a.y ≤ℤ s.pair.a.y). omega (arith, ints)))) in
      same_pair u.pair s.pair start same

  end_only : (s u : WholeSegment) → Has xs s → Has xs u → ends_upright s ≡ true → ends_upright u ≡ pair_eq u.pair s.pair
  end_only s u m n h = elim (cases_Bool (ends_upright u)) [
    | inl e ↦ e ∙ sym (ap (λ (r : Pair). pair_eq r s.pair) (end_only_one s u m n h e) ∙ pair_eq_same s.pair)
    | inr e ↦ e ∙ sym (from_not_same_pair u.pair s.pair (λ q. both_ways _ e (ap (λ (r : Pair). is_vertical r && point_eq r.b p) q ∙ h)))
  ]

  pub end_level : (s : WholeSegment) → Has xs s → is_vertical s.pair ≡ true → (x : ℤ) → (x ≡ s.pair.a.x) ⊎ (x ≡ s.pair.a.x -ℤ pos 1) → weights_up_to xs x s.pair.a ≡ column_weights (is_under s.pair.b) xs x
  unfolding weights_up_to
  end_level s m v x near = column_weights-same (is_up_to s.pair.a) (is_under s.pair.b) xs x (λ u n h.
      let su = upright_of s m v in
      let k = spans_column_parts x u.pair h in
      up_to_is_under s.pair u.pair su.0 su.1 (omega (arith, ints)) (elim near [ inl e ↦ omega (arith, ints) | inr e ↦ omega (arith, ints) ]) (elim near [ inl e ↦ omega (arith, ints) | inr e ↦ omega (arith, ints) ]) (apart_in xs arranged balanced s u m n))

  end_sides : (s : WholeSegment) → Has xs s → ends_upright s ≡ true → gain_of G xs s ≡ gain G (column_weights (is_under p) xs p.x) (column_weights (is_under p) xs (p.x -ℤ pos 1))
  unfolding right_winding left_winding
  end_sides s m h =
      let sp = and_parts (is_vertical s.pair) (point_eq s.pair.b p) h in
      let su = upright_of s m sp.0 in
      upright_sides s sp.0
      ∙ rw (end_level s m sp.0 s.pair.a.x (inl refl), end_level s m sp.0 (s.pair.a.x -ℤ pos 1) (inr refl)) refl
      ∙ ap (λ (z : ℤ). gain G (column_weights (is_under s.pair.b) xs z) (column_weights (is_under s.pair.b) xs (z -ℤ pos 1))) su.0
      ∙ ap (λ (q : Point). gain G (column_weights (is_under q) xs q.x) (column_weights (is_under q) xs (q.x -ℤ pos 1))) (same_by_eq s.pair.b p sp.1)

  none_leaves_under : ((u : WholeSegment) → Has xs u → ends_upright u ≡ false) → (u : WholeSegment) → Has xs u → leaves_upward (lies_under p) u.pair ≡ false
  none_leaves_under none u n = false_from_ne_true (leaves_upward (lies_under p) u.pair) (λ k.
      let first = and_parts (is_vertical u.pair) _ k in
      let second = and_parts (lies_under p u.pair.a) _ first.1 in
      let lower = and_parts (int_eq u.pair.a.x p.x) _ second.0 in
      let x = (Decides-int_eq u.pair.a.x p.x).0 lower.0 in
      let up = upright_of u n first.0 in
      let low = lt-tested u.pair.a.y p.y lower.1 in
      let upper = not-true (lies_under p u.pair.b) second.1 in
      let high : p.y ≤ℤ u.pair.b.y = by_lt_z u.pair.b.y p.y (λ (l : u.pair.b.y <ℤ p.y). absurd (both_ways (lies_under p u.pair.b) upper (and_from _ _ ((Decides-int_eq u.pair.b.x p.x).1 (sym up.0 ∙ x)) (lt-test u.pair.b.y p.y l)))) (λ (g : p.y ≤ℤ u.pair.b.y). g) in
      by_lt_z p.y u.pair.b.y (λ (l : p.y <ℤ u.pair.b.y). passes u n first.0 x low l)
      (λ (g : u.pair.b.y ≤ℤ p.y). both_ways (ends_upright u) (none u n) (and_from _ _ first.0 (ap (λ (q : Point). point_eq q p) (same_point u.pair.b p (sym up.0 ∙ x) (omega (arith, ints))) ∙ point_eq_same p))))

  pub gain_down : sum_of (λ u. when (ends_upright u) (gain_of G xs u)) xs ≡ gain G (column_weights (is_under p) xs p.x) (column_weights (is_under p) xs (p.x -ℤ pos 1))
  gain_down = by_list_any ends_upright xs
      (λ s m h. one_gain ends_upright s m (λ u n. end_only s u m n h) ∙ end_sides s m h)
      (λ none. none_gains ends_upright none ∙ sym (gains_nothing G _ _ _ (across_under xs arranged.all_ordered balanced p) (no_weight (leaves_upward (lies_under p)) xs (none_leaves_under none))))
