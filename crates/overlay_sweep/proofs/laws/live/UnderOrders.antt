-- Of two segments that are live at one x, the code's order says which runs below the other there.
use Rattle.std.proofs.Common.{◌≡◌, ap, refl, sym, subst, ◌∙◌, arith, inl, inr, Ordering, Less, Equal, Greater}
use Rattle.std.specs.Prelude.{ℕ, zero, suc, ℤ, pos, ◌+ℤ◌, ◌-ℤ◌, ◌<ℤ◌, ◌≤ℤ◌, int_lt, unsigned_abs, Bool, true, false, not, ◌&&◌, ◌||◌}
use Rattle.std.specs.Ordering.{is_lt, ordering_then, MatchOrdering}
use Rattle.std.proofs.lemmas.Int.{ints}
use Rattle.std.proofs.lemmas.Bool.{both_ways, cases_Bool}
use Rattle.overlay_geometry.specs.Points.{Point, Pair, turn, step, cross_product, point_cmp, point_eq, pair_eq}
use Rattle.overlay_geometry.specs.Turns.{clock_order}
use Rattle.overlay_geometry.specs.Below.{height_cmp, angle_cmp, under_segment_order}
use Rattle.overlay_geometry.proofs.laws.geometry.Points.{Before, point_ranked, point_eq_same, from_not_same, same_pair_by_eq, not_same_pair, turn_same_outer, turn_same_last, Before-x}
use Rattle.overlay_base.specs.Rules.{differ}
use Rattle.overlay_sweep.specs.ColumnWindings.{spans_column, is_below_in_column}
use Rattle.overlay_sweep.proofs.laws.live.Below.{is_below_point}
use Rattle.overlay_sweep.proofs.laws.columns.Heights.{is_lt-cmp}
use Rattle.overlay_sweep.proofs.laws.columns.ColumnLines.{spans_column_parts, spans_column-true, is_under}
use Rattle.overlay_sweep.proofs.laws.columns.ColumnOrder.{IsApart, apart_back, one_is_below}
use Rattle.overlay_sweep.proofs.laws.columns.AlongSegments.{below_in_right_column, below_in_left_column}
use Rattle.overlay_sweep.proofs.laws.live.Supports.{is_beneath, below_is_beneath, below_highest, first_same, first_asymmetric, shares_start}
use Rattle.overlay_geometry.proofs.laws.integers.Tests.{lt-test_false, by_sign}
use Rattle.overlay_geometry.proofs.laws.lists.Keys.{is_eq-true}

-- ---- the order in a column is the same in each

column_back : (n : ℕ) (start : ℤ) → (start +ℤ pos (suc n)) -ℤ pos 1 ≡ start +ℤ pos n
column_back n start = omega (arith, ints)

module _ (s u : Pair) (apart : IsApart s u) where
  same_from_start : (n : ℕ) → spans_column (s.a.x +ℤ pos n) s ≡ true → spans_column (s.a.x +ℤ pos n) u ≡ true → u.a.x ≤ℤ s.a.x → is_below_in_column (s.a.x +ℤ pos n) u s ≡ is_below_in_column s.a.x u s
  same_from_start zero hs hu early = let none : s.a.x +ℤ pos 0 ≡ s.a.x = omega (arith, ints) in ap (λ x. is_below_in_column x u s) none
  same_from_start (suc n) hs hu early =
      let sp = spans_column_parts (s.a.x +ℤ pos (suc n)) s hs in
      let up = spans_column_parts (s.a.x +ℤ pos (suc n)) u hu in
      let back = column_back n s.a.x in
      let inside : s.a.x <ℤ (s.a.x +ℤ pos (suc n)) = omega (arith, ints) in
      let s_left : spans_column (s.a.x +ℤ pos n) s ≡ true = spans_column-true (s.a.x +ℤ pos n) s (omega (arith, ints)) (omega (arith, ints)) in
      let u_left : spans_column (s.a.x +ℤ pos n) u ≡ true = spans_column-true (s.a.x +ℤ pos n) u (omega (arith, ints)) (omega (arith, ints)) in
      below_in_right_column (s.a.x +ℤ pos (suc n)) s inside sp.1 u apart hu
      ∙ sym (below_in_left_column (s.a.x +ℤ pos (suc n)) s inside sp.1 u apart (subst (λ x. spans_column x u ≡ true) (sym back) u_left))
      ∙ ap (λ x. is_below_in_column x u s) back
      ∙ same_from_start n s_left u_left early

as_distance : (x y : ℤ) → x ≤ℤ y → (n : ℕ) × (y ≡ x +ℤ pos n)
as_distance x y h = (unsigned_abs (y -ℤ x), omega (arith, ints))

-- below a segment, in a column that both span, is what is beneath its start
below_by_start : (x : ℤ) (s u : Pair) → IsApart s u → spans_column x s ≡ true → spans_column x u ≡ true → u.a.x ≤ℤ s.a.x → is_below_in_column x u s ≡ is_beneath s u
below_by_start x s u apart hs hu early =
    let sp = spans_column_parts x s hs in
    let up = spans_column_parts x u hu in
    let far = as_distance s.a.x x sp.0 in
    ap (λ z. is_below_in_column z u s) far.1
    ∙ same_from_start s u apart far.0 (subst (λ z. spans_column z s ≡ true) far.1 hs) (subst (λ z. spans_column z u ≡ true) far.1 hu) early
    ∙ below_is_beneath s u (spans_column-true s.a.x u early (omega (arith, ints))) apart (omega (arith, ints))

-- ---- the order from below at x

differ_right : (a b : Bool) → differ a b ≡ true → b ≡ true → a ≡ false
differ_right true true h e = absurd (both_ways false refl h)
differ_right false b h e = refl
differ_right true false h e = absurd (both_ways false refl e)

differ_not : (a b : Bool) → differ a b ≡ true → a ≡ not b
differ_not true true h = absurd (both_ways false refl h)
differ_not true false h = refl
differ_not false true h = refl
differ_not false false h = absurd (both_ways false refl h)

first_is_below : (x : ℤ) (s t : Pair) → spans_column x s ≡ true → spans_column x t ≡ true → IsApart s t → (s ≡ t → ⊥) → is_lt (ordering_then (height_cmp x s t) (angle_cmp s t)) ≡ is_below_in_column x s t
first_is_below x s t hs ht apart other = elim (cases_Bool (is_lt (ordering_then (height_cmp x s t) (angle_cmp s t)))) [
  | inl less ↦ less ∙ sym (below_highest x t s ht hs (apart_back s t apart) (λ e. other (sym e)) (first_asymmetric x s t less))
  | inr more ↦ more ∙ sym (differ_right _ _ (one_is_below x s t hs ht apart other) (below_highest x s t hs ht apart other more))
]

-- ---- by the starts

or_nothing : (a b c : Bool) → b ≡ false → (a || (b && c)) ≡ a
or_nothing true b c e = refl
or_nothing false b c e = rw e refl

or_second : (a b c : Bool) → a ≡ false → b ≡ true → (a || (b && c)) ≡ c
or_second a b c e f = rw (e, f) refl

cross_is_turn : (s t : Pair) → s.a ≡ t.a → is_lt (angle_cmp s t) ≡ int_lt (pos 0) (turn s.a s.b t.b)
unfolding angle_cmp turn
cross_is_turn s t e = is_lt-cmp (pos 0) (cross_product (step s.a s.b) (step t.a t.b)) ∙ ap (λ q. int_lt (pos 0) (cross_product (step s.a s.b) (step q t.b))) (sym e)

before_differs : (p q : Point) → Before p q → p ≡ q → ⊥
before_differs p q b e = elim b [ inl l ↦ (let x : p.x ≡ q.x = ap (λ (r : Point). r.x) e in omega (arith, ints)) | inr l ↦ (let y : p.y ≡ q.y = ap (λ (r : Point). r.y) e in let m = l.1 in omega (arith, ints)) ]

not_positive : (z : ℤ) → (z ≡ pos 0 → ⊥) → int_lt z (pos 0) ≡ not (int_lt (pos 0) z)
not_positive z n = by_sign z (λ (down : z <ℤ pos 0). grind (arith, ints)) (λ (flat : z ≡ pos 0). absurd (n flat)) (λ (up : pos 0 <ℤ z). grind (arith, ints))

module _ (x : ℤ) (s t : Pair) (hs : spans_column x s ≡ true) (ht : spans_column x t ≡ true) (apart : IsApart s t) (other : s ≡ t → ⊥) where
  by_later : Before s.a t.a → is_lt (clock_order s.a t.a s.b) ≡ is_below_in_column x s t
  by_later b =
      is_below_point s.a s.b t.a
      ∙ sym (below_by_start x t s (apart_back s t apart) ht hs (Before-x s.a t.a b) ∙ or_nothing (is_under t.a s) (point_eq s.a t.a) (is_lt (angle_cmp s t)) (from_not_same s.a t.a (before_differs s.a t.a b)))

  by_angle : s.a ≡ t.a → is_lt (clock_order s.a t.b s.b) ≡ is_below_in_column x s t
  by_angle e =
      let level : turn s.a s.b t.a ≡ pos 0 = ap (turn s.a s.b) (sym e) ∙ turn_same_outer s.a s.b in
      let start : s.a.x ≡ t.a.x = ap (λ (p : Point). p.x) e in
      is_below_point s.a s.b t.b ∙ sym (cross_is_turn s t e)
      ∙ sym (below_by_start x t s (apart_back s t apart) ht hs (omega (arith, ints))
      ∙ or_second (is_under t.a s) (point_eq s.a t.a) (is_lt (angle_cmp s t)) (lt-test_false (pos 0) (turn s.a s.b t.a) (omega (arith, ints))) (subst (λ p. point_eq s.a p ≡ true) e (point_eq_same s.a)))

  by_earlier : Before t.a s.a → is_lt (clock_order t.a t.b s.a) ≡ is_below_in_column x s t
  by_earlier b =
      let sp = spans_column_parts x s hs in
      let tp = spans_column_parts x t ht in
      let at_start : spans_column s.a.x t ≡ true = spans_column-true s.a.x t (Before-x t.a s.a b) (omega (arith, ints)) in
      is_lt-cmp (turn t.a t.b s.a) (pos 0)
      ∙ not_positive (turn t.a t.b s.a) (λ flat. before_differs t.a s.a b (shares_start s t at_start apart flat))
      ∙ ap not (sym (below_by_start x s t apart hs ht (Before-x t.a s.a b) ∙ or_nothing (is_under s.a t) (point_eq t.a s.a) (is_lt (angle_cmp t s)) (from_not_same t.a s.a (before_differs t.a s.a b))))
      ∙ sym (differ_not (is_below_in_column x s t) (is_below_in_column x t s) (one_is_below x s t hs ht apart other))

  under_is_below : is_lt (under_segment_order s t) ≡ is_below_in_column x s t
  under_is_below = by_rank (point_cmp s.a t.a) (point_ranked s.a t.a (point_cmp s.a t.a) refl)
    where
      by_rank : (o : Ordering) → MatchOrdering o (Before s.a t.a) (s.a ≡ t.a) (Before t.a s.a) → is_lt (elim o as (λ _. Ordering) [ Less ↦ clock_order s.a t.a s.b | Equal ↦ clock_order s.a t.b s.b | Greater ↦ clock_order t.a t.b s.a ]) ≡ is_below_in_column x s t
      by_rank Less m = by_later m
      by_rank Equal m = by_angle m
      by_rank Greater m = by_earlier m

level_itself : (s : Pair) (o : Ordering) → o ≡ Equal → is_lt (elim o as (λ _. Ordering) [ Less ↦ clock_order s.a s.a s.b | Equal ↦ clock_order s.a s.b s.b | Greater ↦ clock_order s.a s.b s.a ]) ≡ false
level_itself s Less e = absurd (cc)
level_itself s Equal e = is_lt-cmp (turn s.a s.b s.b) (pos 0) ∙ lt-test_false (turn s.a s.b s.b) (pos 0) (let flat = turn_same_last s.a s.b in omega (arith, ints))
level_itself s Greater e = absurd (cc)

same_compares : (p : Point) → point_cmp p p ≡ Equal
same_compares p = is_eq-true (point_cmp p p) (point_eq_same p)

-- the code's order is the order by height, and by angle from one start
pub under_is_first : (x : ℤ) (s t : Pair) → spans_column x s ≡ true → spans_column x t ≡ true → IsApart s t → is_lt (under_segment_order s t) ≡ is_lt (ordering_then (height_cmp x s t) (angle_cmp s t))
under_is_first x s t hs ht apart = elim (cases_Bool (pair_eq s t)) [
  | inl e ↦ subst (λ u. is_lt (under_segment_order s u) ≡ is_lt (ordering_then (height_cmp x s u) (angle_cmp s u))) (same_pair_by_eq s t e) (level_itself s (point_cmp s.a s.a) (same_compares s.a) ∙ sym (first_same x s))
  | inr e ↦ let other = not_same_pair s t e in under_is_below x s t hs ht apart other ∙ sym (first_is_below x s t hs ht apart other)
]

not_not : (b : Bool) → not (not b) ≡ b
not_not true = refl
not_not false = refl

-- a segment lies to another, which starts elsewhere, as its start does
pub under_by_point : (x : ℤ) (e t : Pair) → spans_column x e ≡ true → spans_column x t ≡ true → IsApart e t → t.a.x ≤ℤ e.a.x → (t.a ≡ e.a → ⊥) → not (is_lt (under_segment_order e t)) ≡ int_lt (pos 0) (turn t.a t.b e.a)
under_by_point x e t he ht apart early other =
    let differs : e ≡ t → ⊥ = λ s. other (ap (λ (u : Pair). u.a) (sym s)) in
    let below : is_below_in_column x t e ≡ is_under e.a t = below_by_start x e t apart he ht early ∙ or_nothing (is_under e.a t) (point_eq t.a e.a) (is_lt (angle_cmp t e)) (from_not_same t.a e.a other) in
    let order : is_lt (under_segment_order e t) ≡ not (is_under e.a t) = under_is_below x e t he ht apart differs ∙ differ_not (is_below_in_column x e t) (is_below_in_column x t e) (one_is_below x e t he ht apart differs) ∙ ap not below in
    ap not order ∙ not_not (is_under e.a t)
