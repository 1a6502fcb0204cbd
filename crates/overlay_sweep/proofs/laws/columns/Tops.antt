-- Chain windings are column windings: by the order of starts and angles, each segment's chain has the windings of its two sides.
use Rattle.std.proofs.Common.{◌≡◌, ap, refl, sym, ◌∙◌, arith, inl, inr}
use Rattle.std.specs.Prelude.{ℕ, zero, suc, ◌<◌, ◌≤◌, ℤ, pos, ◌<ℤ◌, int_le, int_lt, Bool, true, false, cond, ◌&&◌, List, [], ◌∷◌, filter, length, Option, Some, None}
use Rattle.std.specs.Ordering.{is_lt, ordering_then}
use Rattle.std.proofs.lemmas.Int.{ints}
use Rattle.std.proofs.lemmas.Bool.{and_parts, and_from, or_left, or_right, or_cases, both_ways, false_from_ne_true}
use Rattle.overlay_geometry.specs.Points.{Point, Pair, turn, point_eq}
use Rattle.overlay_base.specs.Windings.{Winding, add, empty, weight}
use Rattle.overlay_base.specs.Segments.{WholeSegment}
use Rattle.overlay_base.specs.Balance.{IsBalanced}
use Rattle.overlay_geometry.specs.Below.{width, height_cmp, angle_cmp}
use Rattle.overlay_sweep.specs.ColumnWindings.{spans_column, side_bottom, side_top, IsSameAlong}
use Rattle.overlay_sweep.specs.ChainWindings.{neighbor_at_start, directly_below, support, top_within, top, bottom, is_live}
use Rattle.overlay_sweep.specs.Laws.{ChainsAreColumns}
use Rattle.overlay_geometry.proofs.laws.geometry.Points.{same_by_eq, turn_same_outer}
use Rattle.overlay_sweep.proofs.laws.columns.ColumnLines.{spans_column_parts, spans_column-true, is_under}
use Rattle.overlay_sweep.proofs.laws.columns.AlongSegments.{is_same_along}
use Rattle.overlay_sweep.proofs.laws.columns.Members.{greatest_is, greatest_none, All-from_Has, IsArranged, is_arranged}
use Rattle.overlay_sweep.proofs.laws.live.Supports.{is_beneath, is_earlier, angle_same, angle_asymmetric, angle-trans, first_same, first_asymmetric, first-trans, below_neighbor, below_highest, wide_from_angle, earlier-trans, earlier_itself, earlier_beneath}
use Rattle.overlay_sweep.proofs.laws.live.Sides.{side_top_is, bottom_is_top, bottom_is_empty, IsHighest, apart_in}
use Rattle.overlay_geometry.proofs.laws.lists.Lists.{Has, Has-filter, Has-filter_out}
use Rattle.overlay_geometry.proofs.laws.integers.Tests.{le-test, lt-test, le-tested, lt-tested}
use Rattle.overlay_geometry.proofs.laws.integers.Products.{zero_plus}

pub by_option : {K P : Type 0} (o : Option K) → (o ≡ None → P) → ((t : K) → o ≡ Some t → P) → P
by_option None f g = f refl
by_option (Some t) f g = g t refl

pub spans_live : (x : ℤ) (s : Pair) → is_live x s ≡ true → spans_column x s ≡ true
spans_live x s h = let parts = and_parts (int_le s.a.x x) (int_lt x s.b.x) h in spans_column-true x s (le-tested _ _ parts.0) (lt-tested _ _ parts.1)

pub live_spans : (x : ℤ) (s : Pair) → spans_column x s ≡ true → is_live x s ≡ true
live_spans x s h = let parts = spans_column_parts x s h in and_from _ _ (le-test _ _ parts.0) (lt-test _ _ parts.1)

abbrev pub starts_before : WholeSegment → WholeSegment → Bool
starts_before s t = point_eq t.pair.a s.pair.a && is_lt (angle_cmp t.pair s.pair)

abbrev pub lives_under : WholeSegment → WholeSegment → Bool
lives_under s t = is_live s.pair.a.x t.pair && is_under s.pair.a t.pair

module _ (xs : List WholeSegment) (arranged : IsArranged xs) (s : WholeSegment) (m : Has xs s) where
  wide_here : (u : WholeSegment) → spans_column s.pair.a.x u.pair ≡ true → pos 0 <ℤ width u.pair
  wide_here u h = let p = spans_column_parts s.pair.a.x u.pair h in omega (arith, ints)

  pub here_neighbor : (u : WholeSegment) → Has (filter (λ t. starts_before s t) xs) u → Has xs u × (spans_column s.pair.a.x u.pair ≡ true)
  here_neighbor u n =
      let k = Has-filter_out (λ t. starts_before s t) xs u n in
      let parts = and_parts (point_eq u.pair.a s.pair.a) _ k.1 in
      let start : u.pair.a.x ≡ s.pair.a.x = ap (λ (p : Point). p.x) (same_by_eq u.pair.a s.pair.a parts.0) in
      let wide = wide_from_angle u.pair s.pair (arranged.ordered u k.0) (arranged.ordered s m) parts.1 in
      (k.0, spans_column-true s.pair.a.x u.pair (omega (arith, ints)) (omega (arith, ints)))

  pub neighbor_is : (t : WholeSegment) → neighbor_at_start xs s ≡ Some t → Has (filter (λ u. starts_before s u) xs) t × ((u : WholeSegment) → Has (filter (λ u. starts_before s u) xs) u → is_lt (angle_cmp t.pair u.pair) ≡ false)
  unfolding neighbor_at_start
  neighbor_is t e = greatest_is (λ t u. angle_cmp t.pair u.pair) (λ u. Has xs u × (spans_column s.pair.a.x u.pair ≡ true))
      (λ u h. angle_same u.pair) (λ u v h k l. angle_asymmetric u.pair v.pair l)
      (λ u v w h k l. angle-trans u.pair v.pair w.pair (wide_here u h.1) (wide_here v k.1) (wide_here w l.1))
      (filter (λ u. starts_before s u) xs) t here_neighbor e

  pub here_live : (u : WholeSegment) → Has (filter (λ t. lives_under s t) xs) u → Has xs u × (spans_column s.pair.a.x u.pair ≡ true)
  here_live u n =
      let k = Has-filter_out (λ t. lives_under s t) xs u n in
      (k.0, spans_live s.pair.a.x u.pair (and_parts (is_live s.pair.a.x u.pair) _ k.1).0)

  pub directly_is : (t : WholeSegment) → directly_below xs s.pair.a ≡ Some t → Has (filter (λ u. lives_under s u) xs) t × ((u : WholeSegment) → Has (filter (λ u. lives_under s u) xs) u → is_lt (ordering_then (height_cmp s.pair.a.x t.pair u.pair) (angle_cmp t.pair u.pair)) ≡ false)
  unfolding directly_below
  directly_is t e = greatest_is (λ t u. ordering_then (height_cmp s.pair.a.x t.pair u.pair) (angle_cmp t.pair u.pair)) (λ u. Has xs u × (spans_column s.pair.a.x u.pair ≡ true))
      (λ u h. first_same s.pair.a.x u.pair) (λ u v h k l. first_asymmetric s.pair.a.x u.pair v.pair l)
      (λ u v w h k l. first-trans u.pair v.pair w.pair (wide_here u h.1) (wide_here v k.1) (wide_here w l.1) s.pair.a.x)
      (filter (λ u. lives_under s u) xs) t here_live e

  pub no_neighbor : neighbor_at_start xs s ≡ None → (u : WholeSegment) → Has xs u → starts_before s u ≡ true → ⊥
  unfolding neighbor_at_start
  no_neighbor e u n h = greatest_none (λ t u. angle_cmp t.pair u.pair) (filter (λ u. starts_before s u) xs) u e (Has-filter (λ u. starts_before s u) xs u n h)

  none_directly : directly_below xs s.pair.a ≡ None → (u : WholeSegment) → Has xs u → lives_under s u ≡ true → ⊥
  unfolding directly_below
  none_directly e u n h = greatest_none (λ t u. ordering_then (height_cmp s.pair.a.x t.pair u.pair) (angle_cmp t.pair u.pair)) (filter (λ u. lives_under s u) xs) u e (Has-filter (λ u. lives_under s u) xs u n h)

  not_under_start : (u : WholeSegment) → u.pair.a ≡ s.pair.a → is_under s.pair.a u.pair ≡ true → ⊥
  not_under_start u e h =
      let zero : turn u.pair.a u.pair.b s.pair.a ≡ pos 0 = ap (turn u.pair.a u.pair.b) (sym e) ∙ turn_same_outer u.pair.a u.pair.b in
      let up = lt-tested (pos 0) (turn u.pair.a u.pair.b s.pair.a) h in
      omega (arith, ints)

  starts_from_beneath : (u : WholeSegment) → u.pair.a ≡ s.pair.a → is_beneath s.pair u.pair ≡ true → starts_before s u ≡ true
  starts_from_beneath u e q = elim (or_cases (is_under s.pair.a u.pair) _ q) [ inl h ↦ absurd (not_under_start u e h) | inr h ↦ h ]

  module _ (balanced : IsBalanced xs) where
    highest_neighbor : (t : WholeSegment) → neighbor_at_start xs s ≡ Some t → IsHighest xs arranged balanced s t
    highest_neighbor t e =
        let k = neighbor_is t e in
        let here = here_neighbor t k.0 in
        let before = (Has-filter_out (λ u. starts_before s u) xs t k.0).1 in
        let same = same_by_eq t.pair.a s.pair.a (and_parts (point_eq t.pair.a s.pair.a) _ before).0 in
        record {
          found = here.0;
          live = here.1;
          beneath = or_right (is_under s.pair.a t.pair) _ before;
          highest = λ u n h q other. below_neighbor s.pair t.pair u.pair here.1 h (apart_in xs arranged balanced t u here.0 n) other same q (λ ua. k.1 u (Has-filter (λ v. starts_before s v) xs u n (starts_from_beneath u ua q)));
        }

    highest_directly : (t : WholeSegment) → neighbor_at_start xs s ≡ None → directly_below xs s.pair.a ≡ Some t → IsHighest xs arranged balanced s t
    highest_directly t none e =
        let k = directly_is t e in
        let here = here_live t k.0 in
        let lives = (Has-filter_out (λ u. lives_under s u) xs t k.0).1 in
        record {
          found = here.0;
          live = here.1;
          beneath = or_left _ _ (and_parts (is_live s.pair.a.x t.pair) _ lives).1;
          highest = λ u n h q other. elim (or_cases (is_under s.pair.a u.pair) _ q) [
            | inl under ↦ below_highest s.pair.a.x t.pair u.pair here.1 h (apart_in xs arranged balanced t u here.0 n) other (k.1 u (Has-filter (λ v. lives_under s v) xs u n (and_from _ _ (live_spans s.pair.a.x u.pair h) under)))
            | inr before ↦ absurd (no_neighbor none u n before)
          ];
        }

    nothing_beneath : neighbor_at_start xs s ≡ None → directly_below xs s.pair.a ≡ None → (u : WholeSegment) → Has xs u → spans_column s.pair.a.x u.pair ≡ true → is_beneath s.pair u.pair ≡ false
    nothing_beneath e f u n h = false_from_ne_true (is_beneath s.pair u.pair) (λ q. elim (or_cases (is_under s.pair.a u.pair) _ q) [
      | inl under ↦ none_directly f u n (and_from _ _ (live_spans s.pair.a.x u.pair h) under)
      | inr before ↦ no_neighbor e u n before
    ])

    -- the support of s is the highest beneath it; where it has none, nothing lies beneath
    pub by_support : {P : Type 0} → (support xs s ≡ None → ((u : WholeSegment) → Has xs u → spans_column s.pair.a.x u.pair ≡ true → is_beneath s.pair u.pair ≡ false) → P) → ((t : WholeSegment) → support xs s ≡ Some t → IsHighest xs arranged balanced s t → P) → P
    unfolding support
    by_support f g = by_option (neighbor_at_start xs s)
        (λ e. by_option (directly_below xs s.pair.a) (λ d. f (rw (e, d) refl) (nothing_beneath e d)) (λ t d. g t (rw (e, d) refl) (highest_directly t e d)))
        (λ t e. g t (rw e refl) (highest_neighbor t e))

-- ---- how many begin earlier

filter_le_step : (a b : Bool) (x y : List WholeSegment) (z : WholeSegment) → (a ≡ true → b ≡ true) → length x ≤ length y → length (cond a (z ∷ x) x) ≤ length (cond b (z ∷ y) y)
filter_le_step true true x y z h k = omega arith
filter_le_step true false x y z h k = absurd (both_ways false refl (h refl))
filter_le_step false true x y z h k = omega arith
filter_le_step false false x y z h k = k

pub length-filter_le : (p q : WholeSegment → Bool) (xs : List WholeSegment) → ((x : WholeSegment) → Has xs x → p x ≡ true → q x ≡ true) → length (filter p xs) ≤ length (filter q xs)
length-filter_le p q [] h = omega arith
length-filter_le p q (x ∷ xs) h = filter_le_step (p x) (q x) (filter p xs) (filter q xs) x (h x (inl refl)) (length-filter_le p q xs (λ y m. h y (inr m)))

filter_less_step : (a b : Bool) (x y : List WholeSegment) (z : WholeSegment) → (a ≡ true → b ≡ true) → length x < length y → length (cond a (z ∷ x) x) < length (cond b (z ∷ y) y)
filter_less_step true true x y z h k = omega arith
filter_less_step true false x y z h k = absurd (both_ways false refl (h refl))
filter_less_step false true x y z h k = omega arith
filter_less_step false false x y z h k = k

filter_less_here : (a b : Bool) (x y : List WholeSegment) (z : WholeSegment) → a ≡ false → b ≡ true → length x ≤ length y → length (cond a (z ∷ x) x) < length (cond b (z ∷ y) y)
filter_less_here a b x y z e f k = rw (e, f) (omega arith)

pub length-filter_less : (p q : WholeSegment → Bool) (t : WholeSegment) (xs : List WholeSegment) → ((x : WholeSegment) → Has xs x → p x ≡ true → q x ≡ true) → Has xs t → p t ≡ false → q t ≡ true → length (filter p xs) < length (filter q xs)
length-filter_less p q t [] h m e f = absurd m
length-filter_less p q t (x ∷ xs) h (inl s) e f = filter_less_here (p x) (q x) (filter p xs) (filter q xs) x (ap p s ∙ e) (ap q s ∙ f) (length-filter_le p q xs (λ y m. h y (inr m)))
length-filter_less p q t (x ∷ xs) h (inr m) e f = filter_less_step (p x) (q x) (filter p xs) (filter q xs) x (h x (inl refl)) (length-filter_less p q t xs (λ y n. h y (inr n)) m e f)

pub filter_all : (xs : List WholeSegment) → length (filter (λ u. true) xs) ≤ length xs
filter_all [] = omega arith
filter_all (x ∷ xs) = let h = filter_all xs in omega (arith, h)

pub empty_add : (c : Winding) → add empty (weight c) ≡ weight c
empty_add c = λ i. record { subj = zero_plus c.subj i; clip = zero_plus c.clip i; mask = 0 }

module _ (xs : List WholeSegment) (arranged : IsArranged xs) (balanced : IsBalanced xs) where
  rank : WholeSegment → ℕ
  rank s = length (filter (λ u. is_earlier u.pair s.pair) xs)

  rank-less : (s t : WholeSegment) → Has xs s → IsHighest xs arranged balanced s t → rank t < rank s
  unfolding rank
  rank-less s t m top =
      let before = earlier_beneath s.pair t.pair top.live top.beneath in
      length-filter_less (λ u. is_earlier u.pair t.pair) (λ u. is_earlier u.pair s.pair) t xs
      (λ u n h. earlier-trans u.pair t.pair s.pair (arranged.ordered u n) (arranged.ordered t top.found) (arranged.ordered s m) h before)
      top.found (earlier_itself t.pair) before

  rank-bound : (s : WholeSegment) → rank s ≤ length xs
  unfolding rank
  rank-bound s = let h = length-filter_le (λ u. is_earlier u.pair s.pair) (λ u. true) xs (λ u m e. refl) in let k = filter_all xs in omega (arith, h, k)

  top_within_is : (n : ℕ) (s : WholeSegment) → Has xs s → rank s ≤ n → top_within n xs s ≡ side_top xs s
  unfolding top_within
  top_within_is zero s m h = by_support xs arranged s m balanced
      (λ e none. sym (side_top_is xs arranged balanced s m ∙ ap (λ (w : Winding). add w (weight s.count)) (bottom_is_empty xs arranged balanced s m none) ∙ empty_add s.count))
      (λ t e top. absurd (let less = rank-less s t m top in omega (arith, less, h)))
  top_within_is (suc n) s m h = by_support xs arranged s m balanced
      (λ e none. rw e (sym (side_top_is xs arranged balanced s m ∙ ap (λ (w : Winding). add w (weight s.count)) (bottom_is_empty xs arranged balanced s m none))))
      (λ t e top. rw e (ap (λ (w : Winding). add w (weight s.count)) (top_within_is n t top.found (let less = rank-less s t m top in omega (arith, less, h)) ∙ sym (bottom_is_top xs arranged balanced s t m top)) ∙ sym (side_top_is xs arranged balanced s m)))

  pub top_is : (s : WholeSegment) → Has xs s → top xs s ≡ side_top xs s
  unfolding top
  top_is s m = top_within_is (length xs) s m (rank-bound s)

  pub bottom_is : (s : WholeSegment) → Has xs s → bottom xs s ≡ side_bottom xs s
  unfolding bottom
  bottom_is s m = by_support xs arranged s m balanced
      (λ e none. rw e (sym (bottom_is_empty xs arranged balanced s m none)))
      (λ t e top. rw e (top_is t top.found ∙ sym (bottom_is_top xs arranged balanced s t m top)))

-- with balance the chain's windings are those of the columns
pub chains_are_columns : ChainsAreColumns
chains_are_columns xs map planar balanced =
    let arranged = is_arranged xs map planar in
    All-from_Has (λ s. IsSameAlong xs s × (bottom xs s ≡ side_bottom xs s) × (top xs s ≡ side_top xs s)) xs (λ s m. (is_same_along xs s (arranged.free s m) balanced, bottom_is xs arranged balanced s m, top_is xs arranged balanced s m))
