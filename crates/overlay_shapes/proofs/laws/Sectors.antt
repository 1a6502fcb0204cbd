-- Around a point of an arrangement, the segments that have an end there in order of their angles: what winds beside each of them is what winds just below the point to its right, with the segments that come before it. So it winds alike beside two between which none lies.
use Rattle.std.proofs.Common.{◌≡◌, ap, subst, refl, sym, ◌∙◌, arith, inl, inr}
use Rattle.std.specs.Prelude.{ℤ, pos, ◌+ℤ◌, ◌-ℤ◌, ◌*ℤ◌, ◌<ℤ◌, ◌≤ℤ◌, neg_ℤ, int_lt, Bool, true, false, not, ◌&&◌, ◌||◌, ◌⊎◌, if◌then◌else◌, List, [], ◌∷◌}
use Rattle.std.specs.Ordering.{int_eq, is_lt}
use Rattle.std.proofs.lemmas.Int.{ints, by_lt_z}
use Rattle.std.proofs.lemmas.Bool.{and_parts, and_from, and_left, and_right, or_parts, cases_Bool, both_ways, false_from_ne_true, not-true}
use Rattle.std.proofs.lemmas.Bool.Decides.{Decides-int_eq}
use Rattle.overlay_geometry.specs.Points.{Point, Pair, turn, point_eq, point_lt, pair_eq, is_vertical, is_strictly_inside}
use Rattle.overlay_geometry.specs.Below.{width, angle_cmp}
use Rattle.overlay_base.specs.Windings.{Winding, add, weight}
use Rattle.overlay_base.specs.Segments.{WholeSegment}
use Rattle.overlay_base.specs.Balance.{IsBalanced}
use Rattle.overlay_sweep.specs.ColumnWindings.{spans_column, is_below_in_column, column_bottom, right_winding, side_bottom, side_top}
use Rattle.overlay_geometry.proofs.laws.geometry.Polynomials.{as_D, diffs, D-eq, mul-nonneg, mul-nonneg_both}
use Rattle.overlay_geometry.proofs.laws.geometry.Points.{Before, by_order, Before-irreflexive, from_before, same_point, same_pair, same_by_eq, same_pair_by_eq, point_eq_same, from_not_same, pair_eq_same, inside_from_order, turn_swaps_first, turn_swaps_last, turn_same_outer, turn_same_last}
use Rattle.overlay_geometry.proofs.laws.integers.Tests.{le-test, le-test_false, lt-test, lt-test_false, le-tested, lt-tested, by_sign}
use Rattle.overlay_geometry.proofs.laws.integers.Products.{times_nothing}
use Rattle.overlay_geometry.proofs.laws.lists.Lists.{Has}
use Rattle.overlay_sweep.proofs.laws.columns.WeightSums.{when, sum_of}
use Rattle.overlay_sweep.proofs.laws.columns.BalancedSums.{flow, subj_flow-balanced, clip_flow-balanced}
use Rattle.overlay_sweep.proofs.laws.columns.ColumnLines.{spans_column-true, spans_column-false_before, spans_column-false_after, point_lt-cases, is_under, is_up_to, lies_up_to, leaves_upward, up_to_side, across_line-balanced, column_weights, column_weights_are}
use Rattle.overlay_sweep.proofs.laws.columns.Heights.{gap, slope, is_below_is}
use Rattle.overlay_sweep.proofs.laws.columns.ColumnOrder.{IsApart, is_apart, gap_step, low-first, low-left, below_itself}
use Rattle.overlay_sweep.proofs.laws.columns.AlongSegments.{is_same_along}
use Rattle.overlay_sweep.proofs.laws.columns.Members.{IsArranged, single_sum}
use Rattle.overlay_sweep.proofs.laws.live.Supports.{is_beneath, is_lt-angle_cmp}
use Rattle.overlay_sweep.proofs.laws.live.Sides.{sum_of-zero_in, side_bottom_is, side_top_is, itself_rises}
use Rattle.overlay_build.proofs.laws.sides.Vertices.{starts_only, ends_only, end_gap, end_under, end_over}
use Rattle.overlay_build.proofs.laws.sides.Uprights.{upright_of, passes, end_level}
use Rattle.overlay_shapes.specs.Sectors.{lies_in_sector, leads_into_sector}
use Rattle.overlay_shapes.proofs.laws.Rays.{comes_before, runs_along, alike, cyclic, in_sector_is, before-trans, before_one_way, before_either_way}

-- the end of a pair that is not p
abbrev pub other_end : Pair → Point → Point
other_end s p = if point_eq s.a p then s.b else s.a

-- the winding on the side of s that is counterclockwise from it as seen from its end p, and that on the other
abbrev pub counterclockwise_side : List WholeSegment → WholeSegment → Point → Winding
counterclockwise_side xs s p = if point_eq s.pair.a p then side_top xs s else side_bottom xs s

abbrev pub clockwise_side : List WholeSegment → WholeSegment → Point → Winding
clockwise_side xs s p = if point_eq s.pair.a p then side_bottom xs s else side_top xs s

-- ---- sums

-- where two functions give each element as much as two others, so do their sums
sums_alike : {X : Type 0} (f g h k : X → ℤ) (xs : List X) → ((x : X) → Has xs x → f x +ℤ g x ≡ h x +ℤ k x) → sum_of f xs +ℤ sum_of g xs ≡ sum_of h xs +ℤ sum_of k xs
sums_alike f g h k [] e = refl
sums_alike f g h k (x ∷ xs) e = omega (arith, ints, e x (inl refl), sums_alike f g h k xs (λ y m. e y (inr m)))

nothing : WholeSegment → ℤ
nothing u = pos 0

sum_of-nothing : (xs : List WholeSegment) → sum_of nothing xs ≡ pos 0
unfolding nothing
sum_of-nothing xs = sum_of-zero_in (λ (u : WholeSegment). pos 0) xs (λ u m. refl)

-- ---- the segments at a point

module _ (xs : List WholeSegment) (arranged : IsArranged xs) (p : Point) where
  abbrev starts : WholeSegment → Bool
  starts u = point_eq u.pair.a p

  abbrev ends : WholeSegment → Bool
  ends u = point_eq u.pair.b p

  abbrev far : WholeSegment → Point
  far u = other_end u.pair p

  abbrev precedes : WholeSegment → WholeSegment → Bool
  precedes u e = comes_before p (far u) (far e)

  apart_of : (u f : WholeSegment) → Has xs u → Has xs f → IsApart u.pair f.pair
  apart_of u f m n = is_apart u.pair f.pair (arranged.apart u f m n)

  order_of : (u : WholeSegment) → Has xs u → Before u.pair.a u.pair.b
  order_of u m = point_lt-cases u.pair.a u.pair.b (arranged.ordered u m)

  one_not_before : (q r : Point) → q ≡ r → Before q r → ⊥
  one_not_before q r e h = Before-irreflexive r (subst (λ (z : Point). Before z r) e h)

  record Starts (u : WholeSegment) : Type 0 where
    here : u.pair.a ≡ p
    yes : starts u ≡ true
    no_end : ends u ≡ false
    far_is : far u ≡ u.pair.b
    later : Before p u.pair.b
    ahead : point_lt p (far u) ≡ true

  start_of : (u : WholeSegment) → Has xs u → starts u ≡ true → Starts u
  start_of u m h =
      let same = same_by_eq u.pair.a p h in
      let o : Before p u.pair.b = subst (λ (z : Point). Before z u.pair.b) same (order_of u m) in
      record {
        here = same;
        yes = h;
        no_end = from_not_same u.pair.b p (λ e. one_not_before p u.pair.b (sym e) o);
        far_is = rw h refl;
        later = o;
        ahead = rw h (from_before p u.pair.b o);
      }

  record Ends (u : WholeSegment) : Type 0 where
    here : u.pair.b ≡ p
    yes : ends u ≡ true
    no_start : starts u ≡ false
    far_is : far u ≡ u.pair.a
    earlier : Before u.pair.a p
    behind : point_lt p (far u) ≡ false

  end_of : (u : WholeSegment) → Has xs u → ends u ≡ true → Ends u
  end_of u m h =
      let same = same_by_eq u.pair.b p h in
      let o : Before u.pair.a p = subst (λ (z : Point). Before u.pair.a z) same (order_of u m) in
      let not_here : starts u ≡ false = from_not_same u.pair.a p (λ e. one_not_before u.pair.a p e o) in
      record {
        here = same;
        yes = h;
        no_start = not_here;
        far_is = rw not_here refl;
        earlier = o;
        behind = rw not_here (false_from_ne_true (point_lt p u.pair.a) (λ k. one_not_before p p refl (before_both p u.pair.a (point_lt-cases p u.pair.a k) o)));
      }
    where
      before_both : (q r : Point) → Before q r → Before r q → Before q q
      before_both q r h k = grind (arith, ints)

  -- by which end of a segment lies at p
  by_ends : {P : Type 0} (u : WholeSegment) → Has xs u → (Starts u → P) → (Ends u → P) → (starts u ≡ false → ends u ≡ false → P) → P
  by_ends u m f g h = elim (cases_Bool (starts u)) [
    | inl e ↦ f (start_of u m e)
    | inr e ↦ elim (cases_Bool (ends u)) [ inl k ↦ g (end_of u m k) | inr k ↦ h e k ]
  ]

  abbrev IsThere : WholeSegment → Type 0
  IsThere u = Starts u ⊎ Ends u

  far_apart : (u : WholeSegment) → Has xs u → IsThere u → p ≡ far u → ⊥
  far_apart u m (inl s) e = one_not_before p u.pair.b (e ∙ s.far_is) s.later
  far_apart u m (inr s) e = one_not_before u.pair.a p (sym (e ∙ s.far_is)) s.earlier

  -- ---- two with one direction are one

  same_start : (u f : WholeSegment) → Has xs u → Has xs f → Starts u → Starts f → turn p u.pair.b f.pair.b ≡ pos 0 → u.pair ≡ f.pair
  same_start u f m n s t e = by_order u.pair.b f.pair.b
      (λ (less : Before u.pair.b f.pair.b). absurd ((apart_of f u n m).b_inside
      (inside_from_order f.pair u.pair.b (order_of f n) (ap (λ (z : Point). turn z f.pair.b u.pair.b) t.here ∙ (let k = turn_swaps_last p u.pair.b f.pair.b in omega (arith, ints))) (subst (λ (z : Point). Before z u.pair.b) (sym t.here) s.later) less)))
      (λ (same : u.pair.b ≡ f.pair.b). same_pair u.pair f.pair (s.here ∙ sym t.here) same)
      (λ (more : Before f.pair.b u.pair.b). absurd ((apart_of u f m n).b_inside
      (inside_from_order u.pair f.pair.b (order_of u m) (ap (λ (z : Point). turn z u.pair.b f.pair.b) s.here ∙ e) (subst (λ (z : Point). Before z f.pair.b) (sym s.here) t.later) more)))

  same_end : (u f : WholeSegment) → Has xs u → Has xs f → Ends u → Ends f → turn p u.pair.a f.pair.a ≡ pos 0 → u.pair ≡ f.pair
  same_end u f m n s t e = by_order u.pair.a f.pair.a
      (λ (less : Before u.pair.a f.pair.a). absurd ((apart_of u f m n).a_inside
      (inside_from_order u.pair f.pair.a (order_of u m) (ap (λ (z : Point). turn u.pair.a z f.pair.a) s.here ∙ (let k = turn_swaps_first u.pair.a p f.pair.a in omega (arith, ints))) less (subst (λ (z : Point). Before f.pair.a z) (sym s.here) t.earlier))))
      (λ (same : u.pair.a ≡ f.pair.a). same_pair u.pair f.pair same (s.here ∙ sym t.here))
      (λ (more : Before f.pair.a u.pair.a). absurd ((apart_of f u n m).a_inside
      (inside_from_order f.pair u.pair.a (order_of f n) (ap (λ (z : Point). turn f.pair.a z u.pair.a) t.here ∙ (let k = turn_swaps_first f.pair.a p u.pair.a in let l = turn_swaps_last p f.pair.a u.pair.a in omega (arith, ints))) more (subst (λ (z : Point). Before u.pair.a z) (sym t.here) s.earlier))))

  not_level : (q r : Point) → (turn p q r ≡ pos 0 → ⊥) → int_eq (turn p q r) (pos 0) ≡ false
  not_level q r h = false_from_ne_true _ (λ e. h ((Decides-int_eq (turn p q r) (pos 0)).0 e))

  two_ways : (u f : WholeSegment) → Has xs u → Has xs f → IsThere u → IsThere f → (u.pair ≡ f.pair → ⊥) → runs_along p (far u) (far f) ≡ false
  two_ways u f m n (inl s) (inl t) other = and_right _ _ (not_level (far u) (far f) (λ e. other (same_start u f m n s t (ap (λ (z : Point). turn p z f.pair.b) (sym s.far_is) ∙ ap (turn p (far u)) (sym t.far_is) ∙ e))))
  two_ways u f m n (inl s) (inr t) other = and_left (alike (point_lt p (far u)) (point_lt p (far f))) (int_eq (turn p (far u) (far f)) (pos 0)) (rw (s.ahead, t.behind) refl)
  two_ways u f m n (inr s) (inl t) other = and_left (alike (point_lt p (far u)) (point_lt p (far f))) (int_eq (turn p (far u) (far f)) (pos 0)) (rw (s.behind, t.ahead) refl)
  two_ways u f m n (inr s) (inr t) other = and_right _ _ (not_level (far u) (far f) (λ e. other (same_end u f m n s t (ap (λ (z : Point). turn p z f.pair.a) (sym s.far_is) ∙ ap (turn p (far u)) (sym t.far_is) ∙ e))))

  -- ---- what comes before what

  before_start : (u e : WholeSegment) → Starts u → Starts e → precedes u e ≡ int_lt (pos 0) (turn p u.pair.b e.pair.b)
  before_start u e s t = rw (s.ahead, t.ahead) (ap (λ (z : Point). int_lt (pos 0) (turn p z (far e))) s.far_is ∙ ap (λ (z : Point). int_lt (pos 0) (turn p u.pair.b z)) t.far_is)

  before_end : (u e : WholeSegment) → Ends u → Ends e → precedes u e ≡ int_lt (pos 0) (turn p u.pair.a e.pair.a)
  before_end u e s t = rw (s.behind, t.behind) (ap (λ (z : Point). int_lt (pos 0) (turn p z (far e))) s.far_is ∙ ap (λ (z : Point). int_lt (pos 0) (turn p u.pair.a z)) t.far_is)

  starts_first : (u e : WholeSegment) → Starts u → Ends e → precedes u e ≡ true
  starts_first u e s t = rw (s.ahead, t.behind) refl

  ends_later : (u e : WholeSegment) → Ends u → Starts e → precedes u e ≡ false
  ends_later u e s t = rw (s.behind, t.ahead) refl

  not_itself : (f : WholeSegment) → precedes f f ≡ false
  not_itself f = false_from_ne_true _ (λ e. both_ways _ (before_one_way p (far f) (far f) e) e)

  on_start : (u : WholeSegment) → Starts u → turn u.pair.a u.pair.b p ≡ pos 0
  on_start u s = ap (turn u.pair.a u.pair.b) (sym s.here) ∙ turn_same_outer u.pair.a u.pair.b

  on_end : (u : WholeSegment) → Ends u → turn u.pair.a u.pair.b p ≡ pos 0
  on_end u s = ap (turn u.pair.a u.pair.b) (sym s.here) ∙ turn_same_last u.pair.a u.pair.b

  same_or_not : {P : Type 0} (u f : WholeSegment) → (pair_eq u.pair f.pair ≡ true → u.pair ≡ f.pair → P) → (pair_eq u.pair f.pair ≡ false → (u.pair ≡ f.pair → ⊥) → P) → P
  same_or_not u f g h = elim (cases_Bool (pair_eq u.pair f.pair)) [
    | inl e ↦ g e (same_pair_by_eq u.pair f.pair e)
    | inr e ↦ h e (λ q. both_ways _ e (ap (λ (r : Pair). pair_eq r f.pair) q ∙ pair_eq_same f.pair))
  ]

  -- ---- slopes and turns

  product_plain : (a b c d : ℤ) → a *ℤ b -ℤ c *ℤ d ≡ b *ℤ a -ℤ c *ℤ d
  product_plain a b c d = rw (as_D a, as_D b, as_D c, as_D d) (simp diffs (D-eq _ _ _ _ (omega arith)))

  pub slope_of_starts : (u e : Pair) → u.a ≡ p → e.a ≡ p → slope u e ≡ turn p u.b e.b
  unfolding slope turn
  slope_of_starts u e hu he = rw (hu, he) (product_plain (e.b.y -ℤ p.y) (u.b.x -ℤ p.x) (u.b.y -ℤ p.y) (e.b.x -ℤ p.x))

  ends_plain : (px py ux uy ex ey : ℤ) → (py -ℤ ey) *ℤ (px -ℤ ux) -ℤ (py -ℤ uy) *ℤ (px -ℤ ex) ≡ (ux -ℤ px) *ℤ (ey -ℤ py) -ℤ (uy -ℤ py) *ℤ (ex -ℤ px)
  ends_plain px py ux uy ex ey = rw (as_D px, as_D py, as_D ux, as_D uy, as_D ex, as_D ey) (simp diffs (D-eq _ _ _ _ (omega arith)))

  pub slope_of_ends : (u e : Pair) → u.b ≡ p → e.b ≡ p → slope u e ≡ turn p u.a e.a
  unfolding slope turn
  slope_of_ends u e hu he = rw (hu, he) (ends_plain p.x p.y u.a.x u.a.y e.a.x e.a.y)

  upright_turn_plain : (x y ux uy ex ey : ℤ) → ux ≡ x → (ux -ℤ x) *ℤ (ey -ℤ y) -ℤ (uy -ℤ y) *ℤ (ex -ℤ x) ≡ neg_ℤ ((uy -ℤ y) *ℤ (ex -ℤ x))
  upright_turn_plain x y ux uy ex ey e = rw (e, as_D x, as_D y, as_D uy, as_D ex, as_D ey) (simp diffs (D-eq _ _ _ _ (omega arith)))

  upright_ray : (q r : Point) → q.x ≡ p.x → turn p q r ≡ neg_ℤ ((q.y -ℤ p.y) *ℤ (r.x -ℤ p.x))
  unfolding turn
  upright_ray q r e = upright_turn_plain p.x p.y q.x q.y r.x r.y e

  -- nothing that starts at p comes after what leads straight up, and nothing that ends there after what comes from straight below
  not_before_up : (q r : Point) → q.x ≡ p.x → p.y <ℤ q.y → p.x ≤ℤ r.x → turn p q r ≤ℤ pos 0
  not_before_up q r e h k = let t = upright_ray q r e in let m = mul-nonneg (q.y -ℤ p.y) (r.x -ℤ p.x) (omega (arith, ints)) (omega (arith, ints)) in omega (arith, ints)

  not_before_down : (q r : Point) → q.x ≡ p.x → q.y <ℤ p.y → r.x ≤ℤ p.x → turn p q r ≤ℤ pos 0
  not_before_down q r e h k = let t = upright_ray q r e in let m = mul-nonneg_both (q.y -ℤ p.y) (r.x -ℤ p.x) (omega (arith, ints)) (omega (arith, ints)) in omega (arith, ints)

  rightward : (q : Point) → Before p q → p.x ≤ℤ q.x
  rightward q (inl h) = omega (arith, ints)
  rightward q (inr h) = omega (arith, ints)

  leftward : (q : Point) → Before q p → q.x ≤ℤ p.x
  leftward q (inl h) = omega (arith, ints)
  leftward q (inr h) = omega (arith, ints)

  is_upright : (s : Pair) → s.a.x ≡ s.b.x → is_vertical s ≡ true
  is_upright s e = (Decides-int_eq s.a.x s.b.x).1 e

  not_upright : (s : Pair) → s.a.x <ℤ s.b.x → is_vertical s ≡ false
  not_upright s h = false_from_ne_true _ (λ e. let same = (Decides-int_eq s.a.x s.b.x).0 e in omega (arith, ints))

  module _ (balanced : IsBalanced xs) (free_point : (u : WholeSegment) → Has xs u → is_strictly_inside u.pair p ≡ true → ⊥) where
    -- ---- what leads straight up from p

    rises_from : (u : WholeSegment) → Has xs u → Starts u → leaves_upward (lies_up_to p) u.pair ≡ not (spans_column p.x u.pair)
    rises_from u m s =
        let x : u.pair.a.x ≡ p.x = ap (λ (z : Point). z.x) s.here in
        elim s.later [
          | inl h ↦
              (let spans = spans_column-true p.x u.pair (omega (arith, ints)) h in
              and_left _ _ (not_upright u.pair (omega (arith, ints))) ∙ sym (ap not spans))
          | inr h ↦
              (let spans = spans_column-false_after p.x u.pair (omega (arith, ints)) in
              let y : u.pair.a.y ≡ p.y = ap (λ (z : Point). z.y) s.here in
              ap (λ (z : Point). leaves_upward (lies_up_to z) u.pair) (sym s.here) ∙ itself_rises xs arranged balanced u m (x ∙ h.0) (omega (arith, ints)) ∙ sym (ap not spans))
        ]

    rises_past : (u : WholeSegment) → Has xs u → starts u ≡ false → leaves_upward (lies_up_to p) u.pair ≡ false
    rises_past u m none = false_from_ne_true _ (λ k.
        let first = and_parts (is_vertical u.pair) _ k in
        let second = and_parts (lies_up_to p u.pair.a) _ first.1 in
        let lower = and_parts (int_eq u.pair.a.x p.x) _ second.0 in
        let x = (Decides-int_eq u.pair.a.x p.x).0 lower.0 in
        let up = upright_of xs arranged balanced p free_point (λ a b. a) u m first.0 in
        let low = le-tested u.pair.a.y p.y lower.1 in
        let upper = not-true (lies_up_to p u.pair.b) second.1 in
        let high : p.y <ℤ u.pair.b.y = by_lt_z p.y u.pair.b.y (λ (l : p.y <ℤ u.pair.b.y). l) (λ (g : u.pair.b.y ≤ℤ p.y). absurd (both_ways (lies_up_to p u.pair.b) upper (and_from _ _ ((Decides-int_eq u.pair.b.x p.x).1 (sym up.0 ∙ x)) (le-test u.pair.b.y p.y g)))) in
        by_lt_z u.pair.a.y p.y (λ (l : u.pair.a.y <ℤ p.y). passes xs arranged balanced p free_point (λ a b. a) u m first.0 x l high)
        (λ (g : p.y ≤ℤ u.pair.a.y). both_ways (starts u) none (ap (λ (q : Point). point_eq q p) (same_point u.pair.a p x (omega (arith, ints))) ∙ point_eq_same p)))

    -- ---- sums of one number

    module _ (w : WholeSegment → ℤ) (flows : (inside : Point → Bool) → flow w inside xs ≡ pos 0) where
      -- what the segment adds, counterclockwise around p
      abbrev value : WholeSegment → ℤ
      value u = when (starts u) (w u) -ℤ when (ends u) (w u)

      abbrev so_far : WholeSegment → ℤ
      so_far e = sum_of (λ u. when (precedes u e) (value u)) xs

      abbrev below_right : ℤ
      below_right = sum_of (λ u. when (spans_column p.x u.pair && is_under p u.pair) (w u)) xs

      abbrev up_to_left : ℤ
      up_to_left = sum_of (λ u. when (spans_column (p.x -ℤ pos 1) u.pair && is_up_to p u.pair) (w u)) xs

      abbrev all_starts : ℤ
      all_starts = sum_of (λ u. when (starts u) (w u)) xs

      -- -- from just below p on its right to just above p on its left

      across_start : (sp up un st lv : Bool) (z : ℤ) → st ≡ true → up ≡ true → un ≡ false → lv ≡ not sp → when (sp && up) z +ℤ when lv z ≡ when (sp && un) z +ℤ when st z
      across_start true up un st lv z a b c d = rw (d, a, b, c) (omega (arith, ints))
      across_start false up un st lv z a b c d = rw (d, a) (omega (arith, ints))

      across_other : (sp up un st lv : Bool) (z : ℤ) → st ≡ false → lv ≡ false → (sp ≡ true → up ≡ un) → when (sp && up) z +ℤ when lv z ≡ when (sp && un) z +ℤ when st z
      across_other true up un st lv z a b c = rw (a, b, c refl) refl
      across_other false up un st lv z a b c = rw (a, b) refl

      off_line : (u : WholeSegment) → (turn u.pair.a u.pair.b p ≡ pos 0 → ⊥) → is_up_to p u.pair ≡ is_under p u.pair
      off_line u h = by_sign (turn u.pair.a u.pair.b p)
          (λ (down : turn u.pair.a u.pair.b p <ℤ pos 0). le-test_false (pos 0) _ down ∙ sym (lt-test_false (pos 0) (turn u.pair.a u.pair.b p) (omega (arith, ints))))
          (λ (zero : turn u.pair.a u.pair.b p ≡ pos 0). absurd (h zero))
          (λ (up : pos 0 <ℤ turn u.pair.a u.pair.b p). le-test (pos 0) (turn u.pair.a u.pair.b p) (omega (arith, ints)) ∙ sym (lt-test (pos 0) _ up))

      up_to_left_is : up_to_left ≡ below_right +ℤ all_starts
      up_to_left_is =
          let line = across_line-balanced p.x (lies_up_to p) (is_up_to p) (up_to_side p) w xs arranged.all_ordered (flows (lies_up_to p)) in
          sym line ∙ sums_alike (λ u. when (spans_column p.x u.pair && is_up_to p u.pair) (w u)) (λ u. when (leaves_upward (lies_up_to p) u.pair) (w u)) (λ u. when (spans_column p.x u.pair && is_under p u.pair) (w u)) (λ u. when (starts u) (w u)) xs
          (λ u m. elim (cases_Bool (starts u)) [
            | inl e ↦
                (let s = start_of u m e in
                let on = on_start u s in
                across_start (spans_column p.x u.pair) (is_up_to p u.pair) (is_under p u.pair) (starts u) (leaves_upward (lies_up_to p) u.pair) (w u) e (le-test (pos 0) (turn u.pair.a u.pair.b p) (omega (arith, ints))) (lt-test_false (pos 0) (turn u.pair.a u.pair.b p) (omega (arith, ints))) (rises_from u m s))
            | inr e ↦
                across_other (spans_column p.x u.pair) (is_up_to p u.pair) (is_under p u.pair) (starts u) (leaves_upward (lies_up_to p) u.pair) (w u) e (rises_past u m e)
                (λ h. off_line u (λ on. both_ways _ e (starts_only xs arranged balanced p free_point (λ a b. a) u m h on)))
          ])

      -- -- below a segment that starts at p

      first_start : (sp un st lt en bf : Bool) (z : ℤ) → st ≡ true → en ≡ false → un ≡ false → lt ≡ bf → (bf ≡ true → sp ≡ true) → when (sp && (un || (st && lt))) z ≡ when (sp && un) z +ℤ when bf (when st z -ℤ when en z)
      first_start sp un st lt en bf z a b c d e = rw (a, b, c, d) (by_two sp bf e)
        where
          by_two : (sp bf : Bool) → (bf ≡ true → sp ≡ true) → when (sp && bf) z ≡ when (sp && false) z +ℤ when bf (z -ℤ pos 0)
          by_two true true h = omega (arith, ints)
          by_two true false h = refl
          by_two false true h = absurd (let k = h refl in cc)
          by_two false false h = refl

      first_end : (sp un st lt en bf : Bool) (z : ℤ) → st ≡ false → un ≡ false → bf ≡ false → when (sp && (un || (st && lt))) z ≡ when (sp && un) z +ℤ when bf (when st z -ℤ when en z)
      first_end true un st lt en bf z a b c = rw (a, b, c) refl
      first_end false un st lt en bf z a b c = rw c refl

      first_other : (sp un st lt en bf : Bool) (z : ℤ) → st ≡ false → en ≡ false → when (sp && (un || (st && lt))) z ≡ when (sp && un) z +ℤ when bf (when st z -ℤ when en z)
      first_other sp un st lt en bf z a b = rw (a, b) (by_three sp un bf)
        where
          by_three : (sp un bf : Bool) → when (sp && (un || false)) z ≡ when (sp && un) z +ℤ when bf (pos 0 -ℤ pos 0)
          by_three true true true = omega (arith, ints)
          by_three true true false = omega (arith, ints)
          by_three true false true = refl
          by_three true false false = refl
          by_three false un true = refl
          by_three false un false = refl

      -- what starts at p and has a smaller angle than another spans the column to the right
      spans_when_before : (u e : WholeSegment) → Starts u → Starts e → precedes u e ≡ true → spans_column p.x u.pair ≡ true
      spans_when_before u e s t h =
          let up = lt-tested (pos 0) (turn p u.pair.b e.pair.b) (sym (before_start u e s t) ∙ h) in
          let x : u.pair.a.x ≡ p.x = ap (λ (z : Point). z.x) s.here in
          elim s.later [
            | inl k ↦ spans_column-true p.x u.pair (omega (arith, ints)) k
            | inr k ↦ absurd (let n = not_before_up u.pair.b e.pair.b (sym k.0) k.1 (rightward e.pair.b t.later) in omega (arith, ints))
          ]

      plus_nothing : (u : WholeSegment) (a b : ℤ) → a ≡ b → a +ℤ nothing u ≡ b
      unfolding nothing
      plus_nothing u a b e = omega (arith, ints)

      start_bottom : (e : WholeSegment) → Has xs e → Starts e → sum_of (λ u. when (spans_column e.pair.a.x u.pair && is_beneath e.pair u.pair) (w u)) xs ≡ below_right +ℤ so_far e
      start_bottom e n t =
          let moved : sum_of (λ u. when (spans_column e.pair.a.x u.pair && is_beneath e.pair u.pair) (w u)) xs ≡ sum_of (λ u. when (spans_column p.x u.pair && (is_under p u.pair || (starts u && is_lt (angle_cmp u.pair e.pair)))) (w u)) xs =
          ap (λ (z : Point). sum_of (λ u. when (spans_column z.x u.pair && (is_under z u.pair || (point_eq u.pair.a z && is_lt (angle_cmp u.pair e.pair)))) (w u)) xs) t.here in
          let split = sums_alike (λ u. when (spans_column p.x u.pair && (is_under p u.pair || (starts u && is_lt (angle_cmp u.pair e.pair)))) (w u)) nothing (λ u. when (spans_column p.x u.pair && is_under p u.pair) (w u)) (λ u. when (precedes u e) (value u)) xs (λ u m. plus_nothing u _ _ (at_each u m)) in
          let none = sum_of-nothing xs in
          omega (arith, ints, moved, split, none)
        where
          at_each : (u : WholeSegment) → Has xs u → when (spans_column p.x u.pair && (is_under p u.pair || (starts u && is_lt (angle_cmp u.pair e.pair)))) (w u) ≡ when (spans_column p.x u.pair && is_under p u.pair) (w u) +ℤ when (precedes u e) (value u)
          at_each u m = by_ends u m
              (λ s. let on = on_start u s in first_start (spans_column p.x u.pair) (is_under p u.pair) (starts u) (is_lt (angle_cmp u.pair e.pair)) (ends u) (precedes u e) (w u) s.yes s.no_end (lt-test_false (pos 0) (turn u.pair.a u.pair.b p) (omega (arith, ints)))
              (is_lt-angle_cmp u.pair e.pair ∙ ap (int_lt (pos 0)) (slope_of_starts u.pair e.pair s.here t.here) ∙ sym (before_start u e s t)) (spans_when_before u e s t))
              (λ s. let on = on_end u s in first_end (spans_column p.x u.pair) (is_under p u.pair) (starts u) (is_lt (angle_cmp u.pair e.pair)) (ends u) (precedes u e) (w u) s.no_start (lt-test_false (pos 0) (turn u.pair.a u.pair.b p) (omega (arith, ints))) (ends_later u e s t))
              (λ h k. first_other (spans_column p.x u.pair) (is_under p u.pair) (starts u) (is_lt (angle_cmp u.pair e.pair)) (ends u) (precedes u e) (w u) h k)

      -- -- below a segment that ends at p and is not vertical

      below_of_ends : (u e : WholeSegment) → Has xs u → Has xs e → Ends u → Ends e → u.pair.a.x <ℤ p.x → e.pair.a.x <ℤ p.x → (u.pair ≡ e.pair → ⊥) → is_below_in_column (p.x -ℤ pos 1) u.pair e.pair ≡ not (precedes u e)
      below_of_ends u e m n s t wu we other =
          let level : gap ((p.x -ℤ pos 1) +ℤ pos 1) u.pair e.pair ≡ pos 0 = end_gap xs arranged balanced p free_point (λ a b. a) u e t.yes ∙ times_nothing (width e.pair) _ (on_end u s) in
          let step = gap_step (p.x -ℤ pos 1) u.pair e.pair in
          let turns = slope_of_ends u.pair e.pair s.here t.here in
          is_below_is (p.x -ℤ pos 1) u.pair e.pair ∙
          by_sign (turn p u.pair.a e.pair.a)
          (λ (down : turn p u.pair.a e.pair.a <ℤ pos 0). low-first (gap (p.x -ℤ pos 1) u.pair e.pair) (gap ((p.x -ℤ pos 1) +ℤ pos 1) u.pair e.pair) (omega (arith, ints)) (omega (arith, ints)) ∙ sym (ap not (before_end u e s t ∙ lt-test_false (pos 0) (turn p u.pair.a e.pair.a) (omega (arith, ints)))))
          (λ (zero : turn p u.pair.a e.pair.a ≡ pos 0). absurd (other (same_end u e m n s t zero)))
          (λ (up : pos 0 <ℤ turn p u.pair.a e.pair.a). low-left (gap (p.x -ℤ pos 1) u.pair e.pair) (gap ((p.x -ℤ pos 1) +ℤ pos 1) u.pair e.pair) (omega (arith, ints)) ∙ sym (ap not (before_end u e s t ∙ lt-test (pos 0) (turn p u.pair.a e.pair.a) up)))

      level_same : (sp bl en bf eq up : Bool) (z : ℤ) → eq ≡ true → sp ≡ true → bl ≡ false → bf ≡ false → up ≡ true → when (sp && bl) z +ℤ (when (en && bf) z +ℤ when eq z) ≡ when (sp && up) z +ℤ pos 0
      level_same sp bl true bf eq up z a b c d e = rw (a, b, c, d, e) (omega (arith, ints))
      level_same sp bl false bf eq up z a b c d e = rw (a, b, c, e) (omega (arith, ints))

      level_end : (sp bl en bf eq up : Bool) (z : ℤ) → eq ≡ false → en ≡ true → up ≡ true → ((sp ≡ false) × (bf ≡ false)) ⊎ ((sp ≡ true) × (bl ≡ not bf)) → when (sp && bl) z +ℤ (when (en && bf) z +ℤ when eq z) ≡ when (sp && up) z +ℤ pos 0
      level_end sp bl en bf eq up z a b c (inl h) = rw (a, b, c, h.0, h.1) (omega (arith, ints))
      level_end sp bl en true eq up z a b c (inr h) = rw (a, b, c, h.0, h.1) (omega (arith, ints))
      level_end sp bl en false eq up z a b c (inr h) = rw (a, b, c, h.0, h.1) (omega (arith, ints))

      level_other : (sp bl en bf eq up : Bool) (z : ℤ) → eq ≡ false → en ≡ false → (sp ≡ true → bl ≡ up) → when (sp && bl) z +ℤ (when (en && bf) z +ℤ when eq z) ≡ when (sp && up) z +ℤ pos 0
      level_other true bl en bf eq up z a b c = rw (a, b, c refl) (omega (arith, ints))
      level_other false bl en bf eq up z a b c = rw (a, b) (omega (arith, ints))

      all_start : (st en bf : Bool) (z q : ℤ) → st ≡ true → en ≡ false → bf ≡ true → when bf (when st z -ℤ when en z) +ℤ (when (en && bf) z +ℤ q) ≡ when st z +ℤ q
      all_start st en bf z q a b c = rw (a, b, c) (omega (arith, ints))

      all_end : (st en bf : Bool) (z q : ℤ) → st ≡ false → en ≡ true → when bf (when st z -ℤ when en z) +ℤ (when (en && bf) z +ℤ q) ≡ when st z +ℤ q
      all_end st en true z q a b = rw (a, b) (omega (arith, ints))
      all_end st en false z q a b = rw (a, b) (omega (arith, ints))

      all_other : (st en bf : Bool) (z q : ℤ) → st ≡ false → en ≡ false → when bf (when st z -ℤ when en z) +ℤ (when (en && bf) z +ℤ q) ≡ when st z +ℤ q
      all_other st en true z q a b = rw (a, b) (omega (arith, ints))
      all_other st en false z q a b = rw (a, b) (omega (arith, ints))

      add_nothing : (u : WholeSegment) (a b : ℤ) → a ≡ b +ℤ pos 0 → a ≡ b +ℤ nothing u
      unfolding nothing
      add_nothing u a b e = e

      module _ (e : WholeSegment) (n : Has xs e) (t : Ends e) (wide : e.pair.a.x <ℤ p.x) where
        spans_e : spans_column (p.x -ℤ pos 1) e.pair ≡ true
        spans_e = let x : e.pair.b.x ≡ p.x = ap (λ (z : Point). z.x) t.here in spans_column-true (p.x -ℤ pos 1) e.pair (omega (arith, ints)) (omega (arith, ints))

        -- what ends at p lies below e on the left, is e, or comes before it
        end_split : (u : WholeSegment) → Has xs u → when (spans_column (p.x -ℤ pos 1) u.pair && is_below_in_column (p.x -ℤ pos 1) u.pair e.pair) (w u) +ℤ (when (ends u && precedes u e) (w u) +ℤ when (pair_eq u.pair e.pair) (w u)) ≡ when (spans_column (p.x -ℤ pos 1) u.pair && is_up_to p u.pair) (w u) +ℤ pos 0
        end_split u m = same_or_not u e
            (λ h q. level_same (spans_column (p.x -ℤ pos 1) u.pair) (is_below_in_column (p.x -ℤ pos 1) u.pair e.pair) (ends u) (precedes u e) (pair_eq u.pair e.pair) (is_up_to p u.pair) (w u) h
            (ap (spans_column (p.x -ℤ pos 1)) q ∙ spans_e) (ap (λ (r : Pair). is_below_in_column (p.x -ℤ pos 1) r e.pair) q ∙ below_itself (p.x -ℤ pos 1) e.pair) (ap (λ (r : Pair). comes_before p (other_end r p) (far e)) q ∙ not_itself e)
            (ap (λ (r : Pair). is_up_to p r) q ∙ (let on = on_end e t in le-test (pos 0) (turn e.pair.a e.pair.b p) (omega (arith, ints)))))
            (λ h other. elim (cases_Bool (ends u)) [
              | inl k ↦
                  (let s = end_of u m k in
                  let on = on_end u s in
                  let x : u.pair.b.x ≡ p.x = ap (λ (z : Point). z.x) s.here in
                  level_end (spans_column (p.x -ℤ pos 1) u.pair) (is_below_in_column (p.x -ℤ pos 1) u.pair e.pair) (ends u) (precedes u e) (pair_eq u.pair e.pair) (is_up_to p u.pair) (w u) h k (le-test (pos 0) (turn u.pair.a u.pair.b p) (omega (arith, ints)))
                  (elim s.earlier [
                    | inl l ↦ inr (spans_column-true (p.x -ℤ pos 1) u.pair (omega (arith, ints)) (omega (arith, ints)), below_of_ends u e m n s t l wide other)
                    | inr l ↦
                        inl (
                          spans_column-false_before (p.x -ℤ pos 1) u.pair (omega (arith, ints)),
                          before_end u e s t ∙ lt-test_false (pos 0) (turn p u.pair.a e.pair.a) (not_before_down u.pair.a e.pair.a l.0 l.1 (leftward e.pair.a t.earlier)),
                        )
                  ]))
              | inr k ↦
                  level_other (spans_column (p.x -ℤ pos 1) u.pair) (is_below_in_column (p.x -ℤ pos 1) u.pair e.pair) (ends u) (precedes u e) (pair_eq u.pair e.pair) (is_up_to p u.pair) (w u) h k
                  (λ l. by_sign (turn u.pair.a u.pair.b p)
                  (λ (down : turn u.pair.a u.pair.b p <ℤ pos 0). end_over xs arranged balanced p free_point (λ a b. a) u e m n l spans_e t.yes down ∙ sym (le-test_false (pos 0) (turn u.pair.a u.pair.b p) down))
                  (λ (zero : turn u.pair.a u.pair.b p ≡ pos 0). absurd (both_ways _ k (ends_only xs arranged balanced p free_point (λ a b. a) u m l zero)))
                  (λ (up : pos 0 <ℤ turn u.pair.a u.pair.b p). end_under xs arranged balanced p free_point (λ a b. a) u e m n l spans_e t.yes up ∙ sym (le-test (pos 0) (turn u.pair.a u.pair.b p) (omega (arith, ints)))))
            ])

        value_split : (u : WholeSegment) → Has xs u → when (precedes u e) (value u) +ℤ (when (ends u && precedes u e) (w u) +ℤ when (pair_eq u.pair e.pair) (w u)) ≡ when (starts u) (w u) +ℤ when (pair_eq u.pair e.pair) (w u)
        value_split u m = by_ends u m
            (λ s. all_start (starts u) (ends u) (precedes u e) (w u) (when (pair_eq u.pair e.pair) (w u)) s.yes s.no_end (starts_first u e s t))
            (λ s. all_end (starts u) (ends u) (precedes u e) (w u) (when (pair_eq u.pair e.pair) (w u)) s.no_start s.yes)
            (λ h k. all_other (starts u) (ends u) (precedes u e) (w u) (when (pair_eq u.pair e.pair) (w u)) h k)

        end_bottom : sum_of (λ u. when (spans_column (p.x -ℤ pos 1) u.pair && is_below_in_column (p.x -ℤ pos 1) u.pair e.pair) (w u)) xs ≡ (below_right +ℤ so_far e) -ℤ w e
        end_bottom =
            let first = sums_alike (λ u. when (spans_column (p.x -ℤ pos 1) u.pair && is_below_in_column (p.x -ℤ pos 1) u.pair e.pair) (w u)) (λ u. when (ends u && precedes u e) (w u) +ℤ when (pair_eq u.pair e.pair) (w u)) (λ u. when (spans_column (p.x -ℤ pos 1) u.pair && is_up_to p u.pair) (w u)) nothing xs
            (λ u m. add_nothing u _ _ (end_split u m)) in
            let second = sums_alike (λ u. when (precedes u e) (value u)) (λ u. when (ends u && precedes u e) (w u) +ℤ when (pair_eq u.pair e.pair) (w u)) (λ u. when (starts u) (w u)) (λ u. when (pair_eq u.pair e.pair) (w u)) xs value_split in
            let none = sum_of-nothing xs in
            let one = single_sum w e xs arranged.sorted n in
            let all = up_to_left_is in
            omega (arith, ints, first, second, none, one, all)

      -- -- neighbors

      next_same : (b c eq : Bool) (v : ℤ) → eq ≡ true → b ≡ false → c ≡ true → when b v +ℤ when eq v ≡ when c v +ℤ pos 0
      next_same b c eq v e f g = rw (e, f, g) (omega (arith, ints))

      next_other : (b c eq : Bool) (v : ℤ) → eq ≡ false → b ≡ c → when b v +ℤ when eq v ≡ when c v +ℤ pos 0
      next_other b c eq v e f = rw (e, f) refl

      next_none : (b c eq : Bool) (v : ℤ) → v ≡ pos 0 → when b v +ℤ when eq v ≡ when c v +ℤ pos 0
      next_none b c eq v e = rw (when_none b v e, when_none c v e, when_none eq v e) refl
        where
          when_none : (b : Bool) (v : ℤ) → v ≡ pos 0 → when b v ≡ pos 0
          when_none true v e = e
          when_none false v e = refl

      no_value : (u : WholeSegment) → starts u ≡ false → ends u ≡ false → value u ≡ pos 0
      no_value u h k = rw (h, k) refl

      -- where a test holds of f and of what comes before it, and of nothing else at p
      up_to_sum : (f : WholeSegment) (test : WholeSegment → Bool) → Has xs f → ((u : WholeSegment) → u.pair ≡ f.pair → test u ≡ true) → ((u : WholeSegment) → Has xs u → IsThere u → (u.pair ≡ f.pair → ⊥) → precedes u f ≡ test u) → so_far f +ℤ value f ≡ sum_of (λ u. when (test u) (value u)) xs
      up_to_sum f test n here others =
          let split = sums_alike (λ u. when (precedes u f) (value u)) (λ u. when (pair_eq u.pair f.pair) (value u)) (λ u. when (test u) (value u)) nothing xs
          (λ u m. add_nothing u _ _ (by_ends u m (λ s. there u m (inl s)) (λ s. there u m (inr s)) (λ h k. next_none (precedes u f) (test u) (pair_eq u.pair f.pair) (value u) (no_value u h k)))) in
          let none = sum_of-nothing xs in
          let one = single_sum value f xs arranged.sorted n in
          omega (arith, ints, split, none, one)
        where
          there : (u : WholeSegment) → Has xs u → IsThere u → when (precedes u f) (value u) +ℤ when (pair_eq u.pair f.pair) (value u) ≡ when (test u) (value u) +ℤ pos 0
          there u m at = same_or_not u f
              (λ h q. next_same (precedes u f) (test u) (pair_eq u.pair f.pair) (value u) h (ap (λ (r : Pair). comes_before p (other_end r p) (far f)) q ∙ not_itself f) (here u q))
              (λ h other. next_other (precedes u f) (test u) (pair_eq u.pair f.pair) (value u) h (others u m at other))

      -- what comes last
      last_sum : (f : WholeSegment) → Has xs f → ((u : WholeSegment) → Has xs u → IsThere u → (u.pair ≡ f.pair → ⊥) → precedes u f ≡ true) → so_far f +ℤ value f ≡ pos 0
      last_sum f n others = up_to_sum f (λ u. true) n (λ u q. refl) others ∙ flows (λ q. point_eq q p)

      -- what comes first
      first_sum : (e : WholeSegment) → ((u : WholeSegment) → Has xs u → IsThere u → precedes u e ≡ false) → so_far e ≡ pos 0
      first_sum e none = sum_of-zero_in (λ u. when (precedes u e) (value u)) xs (λ u m. by_ends u m (λ s. off (precedes u e) (value u) (inl (none u m (inl s)))) (λ s. off (precedes u e) (value u) (inl (none u m (inr s)))) (λ h k. off (precedes u e) (value u) (inr (no_value u h k))))
        where
          off : (b : Bool) (v : ℤ) → (b ≡ false) ⊎ (v ≡ pos 0) → when b v ≡ pos 0
          off b v (inl h) = rw h refl
          off true v (inr h) = h
          off false v (inr h) = refl

      -- what comes from straight below is last
      upright_last : (e : WholeSegment) → Has xs e → (t : Ends e) → e.pair.a.x ≡ p.x → e.pair.a.y <ℤ p.y → so_far e ≡ w e
      upright_last e n t x y =
          let last = last_sum e n (λ u m at other. elim at [
            | inl s ↦ starts_first u e s t
            | inr s ↦
                before_either_way p (far e) (far u) (two_ways e u n m (inr t) (inr s) (λ q. other (sym q)))
                (before_end e u t s ∙ lt-test_false (pos 0) (turn p e.pair.a u.pair.a) (not_before_down e.pair.a u.pair.a x y (leftward u.pair.a s.earlier)))
          ]) in
          let v : value e ≡ pos 0 -ℤ w e = rw (t.no_start, t.yes) refl in
          omega (arith, ints, last, v)

      module _ (f e : WholeSegment) (mf : Has xs f) (me : Has xs e) (tf : IsThere f) (te : IsThere e) (other : f.pair ≡ e.pair → ⊥)
          (between : (u : WholeSegment) → Has xs u → IsThere u → lies_in_sector p (far f) (far e) (far u) ≡ false) where
        not_between : (u : WholeSegment) → Has xs u → IsThere u → cyclic (precedes f u) (precedes u e) (precedes e f) ≡ false
        not_between u m at = sym (in_sector_is p (far f) (far e) (far u) (far_apart f mf tf) (far_apart e me te) (far_apart u m at) (two_ways f e mf me tf te other)) ∙ between u m at

        from_cyclic : (a b c : Bool) → cyclic a b c ≡ false → c ≡ false → a ≡ true → b ≡ false
        from_cyclic a true c h e k = absurd (both_ways _ h (rw (e, k) refl))
        from_cyclic a false c h e k = refl

        from_cyclic_both : (a b c : Bool) → cyclic a b c ≡ false → c ≡ true → (a ≡ false) × (b ≡ false)
        from_cyclic_both true b c h k = absurd (both_ways _ h (rw k (last_of b)))
          where
            last_of : (b : Bool) → cyclic true b true ≡ true
            last_of true = refl
            last_of false = refl
        from_cyclic_both false true c h k = absurd (both_ways _ h (rw k refl))
        from_cyclic_both false false c h k = (refl, refl)

        in_order : precedes f e ≡ true → so_far f +ℤ value f ≡ so_far e
        in_order h = up_to_sum f (λ u. precedes u e) mf (λ u q. ap (λ (r : Pair). comes_before p (other_end r p) (far e)) q ∙ h)
            (λ u m at apart. elim (cases_Bool (precedes u f)) [
              | inl k ↦ k ∙ sym (before-trans p (far u) (far e) (far f) (far_apart u m at) (far_apart e me te) (far_apart f mf tf) k h)
              | inr k ↦
                  k
                  ∙ sym (from_cyclic (precedes f u) (precedes u e) (precedes e f) (not_between u m at) (before_one_way p (far f) (far e) h)
                  (before_either_way p (far u) (far f) (two_ways u f m mf at tf apart) k))
            ])

        around : precedes f e ≡ false → so_far f +ℤ value f ≡ so_far e
        around h =
            let back = before_either_way p (far f) (far e) (two_ways f e mf me tf te other) h in
            let last = last_sum f mf (λ u m at apart. before_either_way p (far f) (far u) (two_ways f u mf m tf at (λ q. apart (sym q))) (from_cyclic_both (precedes f u) (precedes u e) (precedes e f) (not_between u m at) back).0) in
            let first = first_sum e (λ u m at. (from_cyclic_both (precedes f u) (precedes u e) (precedes e f) (not_between u m at) back).1) in
            last ∙ sym first

        next_sum : so_far f +ℤ value f ≡ so_far e
        next_sum = elim (cases_Bool (precedes f e)) [ inl h ↦ in_order h | inr h ↦ around h ]

      -- -- the number on the side that is to the right or below

      bottom_of_start : (e : WholeSegment) → Has xs e → Starts e → sum_of (λ u. when (spans_column e.pair.a.x u.pair && is_beneath e.pair u.pair) (w u)) xs ≡ (below_right +ℤ so_far e) -ℤ when (ends e) (w e)
      bottom_of_start e n t =
          let none : when (ends e) (w e) ≡ pos 0 = rw t.no_end refl in
          let b = start_bottom e n t in
          omega (arith, ints, none, b)

      bottom_of_end : (e : WholeSegment) → Has xs e → (t : Ends e) → e.pair.a.x <ℤ p.x → sum_of (λ u. when (spans_column (p.x -ℤ pos 1) u.pair && is_below_in_column (p.x -ℤ pos 1) u.pair e.pair) (w u)) xs ≡ (below_right +ℤ so_far e) -ℤ when (ends e) (w e)
      bottom_of_end e n t wide =
          let all : when (ends e) (w e) ≡ w e = rw t.yes refl in
          let b = end_bottom e n t wide in
          omega (arith, ints, all, b)

      bottom_of_upright : (e : WholeSegment) → Has xs e → (t : Ends e) → e.pair.a.x ≡ p.x → e.pair.a.y <ℤ p.y → below_right ≡ (below_right +ℤ so_far e) -ℤ when (ends e) (w e)
      bottom_of_upright e n t x y =
          let all : when (ends e) (w e) ≡ w e = rw t.yes refl in
          let b = upright_last e n t x y in
          omega (arith, ints, all, b)

    -- ---- sides

    abbrev subj_of : WholeSegment → ℤ
    subj_of u = u.count.subj

    abbrev clip_of : WholeSegment → ℤ
    clip_of u = u.count.clip

    abbrev subj_flows : (inside : Point → Bool) → flow subj_of inside xs ≡ pos 0
    subj_flows inside = subj_flow-balanced xs balanced inside

    abbrev clip_flows : (inside : Point → Bool) → flow clip_of inside xs ≡ pos 0
    clip_flows inside = clip_flow-balanced xs balanced inside

    abbrev number : (w : WholeSegment → ℤ) → ((inside : Point → Bool) → flow w inside xs ≡ pos 0) → WholeSegment → ℤ
    number w flows e = below_right w flows +ℤ so_far w flows e

    abbrev bottom_number : WholeSegment → Winding
    bottom_number e = record { subj = number subj_of subj_flows e -ℤ when (ends e) e.count.subj; clip = number clip_of clip_flows e -ℤ when (ends e) e.count.clip; mask = 0 }

    bottom_is_start : (e : WholeSegment) → Has xs e → Starts e → side_bottom xs e ≡ bottom_number e
    bottom_is_start e n t =
        side_bottom_is xs arranged balanced e n ∙ column_weights_are (λ u. is_beneath e.pair u) xs e.pair.a.x
        ∙ (λ i. record { subj = bottom_of_start subj_of subj_flows e n t i; clip = bottom_of_start clip_of clip_flows e n t i; mask = 0 })

    bottom_is_end : (e : WholeSegment) → Has xs e → Ends e → e.pair.a.x <ℤ p.x → side_bottom xs e ≡ bottom_number e
    unfolding column_bottom
    bottom_is_end e n t wide =
        let spans = spans_e subj_of subj_flows e n t wide in
        let along = is_same_along xs e (arranged.free e n) balanced in
        sym (along.below (p.x -ℤ pos 1) spans) ∙ column_weights_are (λ u. is_below_in_column (p.x -ℤ pos 1) u e.pair) xs (p.x -ℤ pos 1)
        ∙ (λ i. record { subj = bottom_of_end subj_of subj_flows e n t wide i; clip = bottom_of_end clip_of clip_flows e n t wide i; mask = 0 })

    bottom_is_upright : (e : WholeSegment) → Has xs e → Ends e → e.pair.a.x ≡ p.x → e.pair.a.y <ℤ p.y → side_bottom xs e ≡ bottom_number e
    unfolding side_bottom right_winding
    bottom_is_upright e n t x y =
        let end : e.pair.b.x ≡ p.x = ap (λ (z : Point). z.x) t.here in
        let v = is_upright e.pair (x ∙ sym end) in
        rw v (end_level xs arranged balanced p free_point (λ a b. a) e n v e.pair.a.x (inl refl)
        ∙ ap (λ (z : Point). column_weights (is_under z) xs e.pair.a.x) t.here ∙ ap (λ (z : ℤ). column_weights (is_under p) xs z) x
        ∙ column_weights_are (is_under p) xs p.x
        ∙ (λ i. record { subj = bottom_of_upright subj_of subj_flows e n t x y i; clip = bottom_of_upright clip_of clip_flows e n t x y i; mask = 0 }))

    bottom_is : (e : WholeSegment) → Has xs e → IsThere e → side_bottom xs e ≡ bottom_number e
    bottom_is e n (inl t) = bottom_is_start e n t
    bottom_is e n (inr t) = elim t.earlier [ inl h ↦ bottom_is_end e n t h | inr h ↦ bottom_is_upright e n t h.0 h.1 ]

    top_is : (e : WholeSegment) → Has xs e → IsThere e → side_top xs e ≡ add (bottom_number e) (weight e.count)
    top_is e n at = side_top_is xs arranged balanced e n ∙ ap (λ (b : Winding). add b (weight e.count)) (bottom_is e n at)

    abbrev past : (w : WholeSegment → ℤ) → ((inside : Point → Bool) → flow w inside xs ≡ pos 0) → WholeSegment → ℤ
    past w flows f = number w flows f +ℤ value w flows f

    start_past : (a z : ℤ) (st en : Bool) → st ≡ true → en ≡ false → (a -ℤ when en z) +ℤ z ≡ a +ℤ (when st z -ℤ when en z)
    start_past a z st en h k = rw (h, k) (omega (arith, ints))

    end_past : (a z : ℤ) (st en : Bool) → st ≡ false → en ≡ true → a -ℤ when en z ≡ a +ℤ (when st z -ℤ when en z)
    end_past a z st en h k = rw (h, k) (omega (arith, ints))

    start_before : (a z : ℤ) (en : Bool) → en ≡ false → a -ℤ when en z ≡ a
    start_before a z en h = rw h (omega (arith, ints))

    end_before : (a z : ℤ) (en : Bool) → en ≡ true → (a -ℤ when en z) +ℤ z ≡ a
    end_before a z en h = rw h (omega (arith, ints))

    choose_yes : (b : Bool) (x y : Winding) → b ≡ true → (if b then x else y) ≡ x
    choose_yes b x y e = rw e refl

    choose_no : (b : Bool) (x y : Winding) → b ≡ false → (if b then x else y) ≡ y
    choose_no b x y e = rw e refl

    counterclockwise_is : (f : WholeSegment) → Has xs f → IsThere f → counterclockwise_side xs f p ≡ record { subj = past subj_of subj_flows f; clip = past clip_of clip_flows f; mask = 0 }
    counterclockwise_is f n (inl s) = choose_yes (starts f) (side_top xs f) (side_bottom xs f) s.yes ∙ (top_is f n (inl s) ∙ (λ i. record { subj = start_past (number subj_of subj_flows f) f.count.subj (starts f) (ends f) s.yes s.no_end i; clip = start_past (number clip_of clip_flows f) f.count.clip (starts f) (ends f) s.yes s.no_end i; mask = 0 }))
    counterclockwise_is f n (inr s) = choose_no (starts f) (side_top xs f) (side_bottom xs f) s.no_start ∙ (bottom_is f n (inr s) ∙ (λ i. record { subj = end_past (number subj_of subj_flows f) f.count.subj (starts f) (ends f) s.no_start s.yes i; clip = end_past (number clip_of clip_flows f) f.count.clip (starts f) (ends f) s.no_start s.yes i; mask = 0 }))

    clockwise_is : (e : WholeSegment) → Has xs e → IsThere e → clockwise_side xs e p ≡ record { subj = number subj_of subj_flows e; clip = number clip_of clip_flows e; mask = 0 }
    clockwise_is e n (inl s) = choose_yes (starts e) (side_bottom xs e) (side_top xs e) s.yes ∙ (bottom_is e n (inl s) ∙ (λ i. record { subj = start_before (number subj_of subj_flows e) e.count.subj (ends e) s.no_end i; clip = start_before (number clip_of clip_flows e) e.count.clip (ends e) s.no_end i; mask = 0 }))
    clockwise_is e n (inr s) = choose_no (starts e) (side_bottom xs e) (side_top xs e) s.no_start ∙ (top_is e n (inr s) ∙ (λ i. record { subj = end_before (number subj_of subj_flows e) e.count.subj (ends e) s.yes i; clip = end_before (number clip_of clip_flows e) e.count.clip (ends e) s.yes i; mask = 0 }))

    leads_out : (q r : Point) (u : WholeSegment) → IsThere u → leads_into_sector p q r u.pair ≡ false → lies_in_sector p q r (far u) ≡ false
    leads_out q r u (inl s) h = ap (lies_in_sector p q r) s.far_is ∙ (rw s.yes at (or_parts (starts u && lies_in_sector p q r u.pair.b) _ h).0)
    leads_out q r u (inr s) h = ap (lies_in_sector p q r) s.far_is ∙ (rw s.yes at (or_parts (starts u && lies_in_sector p q r u.pair.b) _ h).1)

    more_sum : (b d v n : ℤ) → d +ℤ v ≡ n → (b +ℤ d) +ℤ v ≡ b +ℤ n
    more_sum b d v n e = omega (arith, ints, e)

    sides_there : (f e : WholeSegment) → Has xs f → Has xs e → IsThere f → IsThere e → (f.pair ≡ e.pair → ⊥) → ((u : WholeSegment) → Has xs u → leads_into_sector p (far f) (far e) u.pair ≡ false) → counterclockwise_side xs f p ≡ clockwise_side xs e p
    sides_there f e mf me tf te other none =
        let next = λ (w : WholeSegment → ℤ) (flows : (inside : Point → Bool) → flow w inside xs ≡ pos 0). more_sum (below_right w flows) (so_far w flows f) (value w flows f) (so_far w flows e) (next_sum w flows f e mf me tf te other (λ u m at. leads_out (far f) (far e) u at (none u m))) in
        counterclockwise_is f mf tf
        ∙ (λ i. record { subj = next subj_of subj_flows i; clip = next clip_of clip_flows i; mask = 0 })
        ∙ sym (clockwise_is e me te)

-- Two segments with an end at p lead different ways from there.
module _ (xs : List WholeSegment) (arranged : IsArranged xs) (p : Point) (f : WholeSegment) (mf : Has xs f) (tf : (f.pair.a ≡ p) ⊎ (f.pair.b ≡ p)) where
  free : (u : WholeSegment) → Has xs u → is_strictly_inside u.pair p ≡ true → ⊥
  free u m h = elim tf [
    | inl a ↦ (apart_of xs arranged p u f m mf).a_inside (ap (is_strictly_inside u.pair) a ∙ h)
    | inr b ↦ (apart_of xs arranged p u f m mf).b_inside (ap (is_strictly_inside u.pair) b ∙ h)
  ]

  there : (s : WholeSegment) → Has xs s → (s.pair.a ≡ p) ⊎ (s.pair.b ≡ p) → IsThere xs arranged p s
  there s m (inl a) = inl (start_of xs arranged p s m (ap (λ (z : Point). point_eq z p) a ∙ point_eq_same p))
  there s m (inr b) = inr (end_of xs arranged p s m (ap (λ (z : Point). point_eq z p) b ∙ point_eq_same p))

  pub leads_away : p ≡ other_end f.pair p → ⊥
  leads_away = far_apart xs arranged p f mf (there f mf tf)

  pub ways_differ : (e : WholeSegment) → Has xs e → (e.pair.a ≡ p) ⊎ (e.pair.b ≡ p) → (f.pair ≡ e.pair → ⊥) → runs_along p (other_end f.pair p) (other_end e.pair p) ≡ false
  ways_differ e me te other = two_ways xs arranged p f e mf me (there f mf tf) (there e me te) other

-- Where no member of an arrangement leads into the sector from f counterclockwise to e, it winds alike beside both.
pub sides_of_sector : (xs : List WholeSegment) → IsArranged xs → IsBalanced xs → (p : Point) (f e : WholeSegment) → Has xs f → Has xs e → (f.pair.a ≡ p) ⊎ (f.pair.b ≡ p) → (e.pair.a ≡ p) ⊎ (e.pair.b ≡ p) → (f.pair ≡ e.pair → ⊥) →
    ((u : WholeSegment) → Has xs u → leads_into_sector p (other_end f.pair p) (other_end e.pair p) u.pair ≡ false) → counterclockwise_side xs f p ≡ clockwise_side xs e p
sides_of_sector xs arranged balanced p f e mf me tf te other none =
    let at = there xs arranged p f mf tf in
    sides_there xs arranged p balanced (free xs arranged p f mf tf) f e mf me (at f mf tf) (at e me te) other none
