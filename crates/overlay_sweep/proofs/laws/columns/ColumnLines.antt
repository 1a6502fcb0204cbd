-- Across a vertical line: the weights below a height in the column to its right, less those in the column to its left, are undone by the vertical segments on the line that pass that height.
use Rattle.std.proofs.Common.{◌≡◌, refl, sym, ◌∙◌, arith, inl, inr}
use Rattle.std.proofs.Common.{Less, Equal, Greater}
use Rattle.std.specs.Prelude.{ℤ, pos, ◌+ℤ◌, ◌-ℤ◌, ◌*ℤ◌, ◌<ℤ◌, ◌≤ℤ◌, int_le, int_lt, Bool, true, false, not, ◌&&◌, ◌⊎◌, List, [], ◌∷◌, filter}
use Rattle.std.specs.declared.cmp.Ordering.{Ordering}
use Rattle.std.specs.Ordering.{int_cmp, int_eq, is_lt, ordering_then, MatchOrdering}
use Rattle.std.proofs.lemmas.Int.{ints, by_lt_z}
use Rattle.std.proofs.lemmas.Cmp.{int_ranked}
use Rattle.std.proofs.lemmas.Bool.{and_parts, and_from, and_left, and_right, false_from_ne_true}
use Rattle.std.proofs.lemmas.Bool.Decides.{Decides-int_eq}
use Rattle.overlay_geometry.specs.Points.{Point, Pair, turn, is_ordered, is_vertical, point_lt}
use Rattle.overlay_base.specs.Windings.{Winding, add}
use Rattle.overlay_base.specs.Segments.{WholeSegment, are_ordered, total_weight}
use Rattle.overlay_base.specs.Balance.{IsBalanced}
use Rattle.overlay_sweep.specs.ColumnWindings.{spans_column, column, weights_up_to}
use Rattle.overlay_geometry.proofs.laws.geometry.Polynomials.{as_D, diffs, D-eq, mul-pos, mul-neg, mul-nonneg, mul-le_left}
use Rattle.overlay_sweep.proofs.laws.columns.WeightSums.{when, sum_of, sum_of-filter, sum_of-same, total_weight_is}
use Rattle.overlay_sweep.proofs.laws.columns.BalancedSums.{flow, subj_flow-balanced, clip_flow-balanced}
use Rattle.overlay_geometry.proofs.laws.integers.Tests.{le-test, le-test_false, lt-test, lt-test_false, le-tested, lt-tested}

-- ---- tests on whole numbers

pub spans_column-true : (x : ℤ) (s : Pair) → s.a.x ≤ℤ x → x <ℤ s.b.x → spans_column x s ≡ true
spans_column-true x s h k = and_from _ _ (le-test s.a.x x h) (le-test (x +ℤ pos 1) s.b.x (omega (arith, ints)))

pub spans_column-false_before : (x : ℤ) (s : Pair) → x <ℤ s.a.x → spans_column x s ≡ false
spans_column-false_before x s h = and_left _ _ (le-test_false s.a.x x h)

pub spans_column-false_after : (x : ℤ) (s : Pair) → s.b.x ≤ℤ x → spans_column x s ≡ false
spans_column-false_after x s h = and_right _ _ (le-test_false (x +ℤ pos 1) s.b.x (omega (arith, ints)))

pub spans_column_parts : (x : ℤ) (s : Pair) → spans_column x s ≡ true → (s.a.x ≤ℤ x) × (x <ℤ s.b.x)
spans_column_parts x s h =
    let l : int_le s.a.x x ≡ true = (and_parts _ _ h).0 in
    let r : int_le (x +ℤ pos 1) s.b.x ≡ true = (and_parts (int_le s.a.x x) _ h).1 in
    (omega (arith, ints), omega (arith, ints))

lt-cases : (p q : Point) (o u : Ordering) → MatchOrdering o (p.x <ℤ q.x) (p.x ≡ q.x) (q.x <ℤ p.x) → MatchOrdering u (p.y <ℤ q.y) (p.y ≡ q.y) (q.y <ℤ p.y) → is_lt (ordering_then o u) ≡ true → (p.x <ℤ q.x) ⊎ ((p.x ≡ q.x) × (p.y <ℤ q.y))
lt-cases p q Less u ho hu e = inl ho
lt-cases p q Equal Less ho hu e = inr (ho, hu)
lt-cases p q Equal Equal ho hu e = absurd (cc)
lt-cases p q Equal Greater ho hu e = absurd (cc)
lt-cases p q Greater u ho hu e = absurd (cc)

-- a segment runs to the right, or straight up
pub point_lt-cases : (p q : Point) → point_lt p q ≡ true → (p.x <ℤ q.x) ⊎ ((p.x ≡ q.x) × (p.y <ℤ q.y))
point_lt-cases p q e = lt-cases p q (int_cmp p.x q.x) (int_cmp p.y q.y) (int_ranked p.x q.x _ refl) (int_ranked p.y q.y _ refl) e

-- ---- the law with no geometry

-- On the line x = c, `inside` is a set of points that goes downward without end; `low` says of a segment that touches the line whether it meets it there.
pub record IsLowSide (c : ℤ) (inside : Point → Bool) (low : Pair → Bool) : Type 0 where
  pub on_line : (q : Point) → inside q ≡ true → q.x ≡ c
  pub at_start : (s : Pair) → s.a.x ≡ c → s.a.x <ℤ s.b.x → low s ≡ inside s.a
  pub at_end : (s : Pair) → s.b.x ≡ c → s.a.x <ℤ s.b.x → low s ≡ inside s.b
  pub downward : (s : Pair) → s.a.x ≡ s.b.x → s.a.y <ℤ s.b.y → inside s.b ≡ true → inside s.a ≡ true

-- a vertical segment that leaves the set upward
abbrev pub leaves_upward : (Point → Bool) → Pair → Bool
leaves_upward inside s = is_vertical s && (inside s.a && not (inside s.b))

up_only : (a b : Bool) (z : ℤ) → (b ≡ true → a ≡ true) → when (a && not b) z ≡ when a z -ℤ when b z
up_only true true z h = omega (arith, ints)
up_only true false z h = omega (arith, ints)
up_only false true z h = absurd (let e = h refl in cc)
up_only false false z h = omega (arith, ints)

module _ (c : ℤ) (inside : Point → Bool) (low : Pair → Bool) (side : IsLowSide c inside low) where
  off : (q : Point) → (q.x ≡ c → ⊥) → inside q ≡ false
  off q h = false_from_ne_true (inside q) (λ e. h (side.on_line q e))

  module _ (s : Pair) (z : ℤ) where
    abbrev AtLine : Type 0
    AtLine = (when (spans_column c s && low s) z -ℤ when (spans_column (c -ℤ pos 1) s && low s) z) +ℤ when (leaves_upward inside s) z ≡ when (inside s.a) z -ℤ when (inside s.b) z

    by_tests : (r l v i j m : Bool) → spans_column c s ≡ r → spans_column (c -ℤ pos 1) s ≡ l → is_vertical s ≡ v → inside s.a ≡ i → inside s.b ≡ j → low s ≡ m →
        (when (r && m) z -ℤ when (l && m) z) +ℤ when (v && (i && not j)) z ≡ when i z -ℤ when j z → AtLine
    by_tests r l v i j m er el ev ei ej em h = rw (er, el, ev, ei, ej, em) h

    rightward : s.a.x <ℤ s.b.x → AtLine
    rightward h =
        let v : is_vertical s ≡ false = false_from_ne_true _ (λ e. let x = (Decides-int_eq s.a.x s.b.x).0 e in omega (arith, ints)) in
        by_lt_z c s.a.x (λ (before : c <ℤ s.a.x). by_tests false false false false false (low s) (spans_column-false_before c s before) (spans_column-false_before (c -ℤ pos 1) s (omega (arith, ints))) v (off s.a (λ e. omega (arith, ints))) (off s.b (λ e. omega (arith, ints))) refl (omega (arith, ints)))
        (λ (from_a : s.a.x ≤ℤ c). by_lt_z c s.b.x
        (λ (to_b : c <ℤ s.b.x). by_lt_z s.a.x c
        (λ (inner : s.a.x <ℤ c). by_tests true true false false false (low s) (spans_column-true c s from_a to_b) (spans_column-true (c -ℤ pos 1) s (omega (arith, ints)) (omega (arith, ints))) v (off s.a (λ e. omega (arith, ints))) (off s.b (λ e. omega (arith, ints))) refl (omega (arith, ints)))
        (λ (at : c ≤ℤ s.a.x). by_tests true false false (inside s.a) false (inside s.a) (spans_column-true c s from_a to_b) (spans_column-false_before (c -ℤ pos 1) s (omega (arith, ints))) v refl (off s.b (λ e. omega (arith, ints))) (side.at_start s (omega (arith, ints)) h) (omega (arith, ints))))
        (λ (past_b : s.b.x ≤ℤ c). by_lt_z s.b.x c
        (λ (after : s.b.x <ℤ c). by_tests false false false false false (low s) (spans_column-false_after c s past_b) (spans_column-false_after (c -ℤ pos 1) s (omega (arith, ints))) v (off s.a (λ e. omega (arith, ints))) (off s.b (λ e. omega (arith, ints))) refl (omega (arith, ints)))
        (λ (at : c ≤ℤ s.b.x). by_tests false true false false (inside s.b) (inside s.b) (spans_column-false_after c s past_b) (spans_column-true (c -ℤ pos 1) s (omega (arith, ints)) (omega (arith, ints))) v (off s.a (λ e. omega (arith, ints))) refl (side.at_end s (omega (arith, ints)) h) (omega (arith, ints)))))

    upward : s.a.x ≡ s.b.x → s.a.y <ℤ s.b.y → AtLine
    upward e h =
        let v : is_vertical s ≡ true = (Decides-int_eq s.a.x s.b.x).1 e in
        let u = up_only (inside s.a) (inside s.b) z (side.downward s e h) in
        let r : spans_column c s ≡ false = by_lt_z c s.a.x (λ (l : c <ℤ s.a.x). spans_column-false_before c s l) (λ (g : s.a.x ≤ℤ c). spans_column-false_after c s (omega (arith, ints))) in
        let l : spans_column (c -ℤ pos 1) s ≡ false = by_lt_z (c -ℤ pos 1) s.a.x (λ (l : (c -ℤ pos 1) <ℤ s.a.x). spans_column-false_before _ s l) (λ (g : s.a.x ≤ℤ (c -ℤ pos 1)). spans_column-false_after _ s (omega (arith, ints))) in
        by_tests false false true (inside s.a) (inside s.b) (low s) r l v refl refl refl (omega (arith, ints, u))

    at_line : is_ordered s ≡ true → AtLine
    at_line o = elim (point_lt-cases s.a s.b o) [ inl h ↦ rightward h | inr h ↦ upward h.0 h.1 ]

  -- the sum in the right column, less that in the left one, and that of the vertical segments which leave the set
  pub across_line : (w : WholeSegment → ℤ) (xs : List WholeSegment) → are_ordered xs ≡ true →
      (sum_of (λ s. when (spans_column c s.pair && low s.pair) (w s)) xs -ℤ sum_of (λ s. when (spans_column (c -ℤ pos 1) s.pair && low s.pair) (w s)) xs) +ℤ sum_of (λ s. when (leaves_upward inside s.pair) (w s)) xs ≡ flow w inside xs
  across_line w [] o = omega (arith, ints)
  across_line w (s ∷ ss) o =
      let here = at_line s.pair (w s) (and_parts (is_ordered s.pair) (are_ordered ss) o).0 in
      let rest = across_line w ss (and_parts (is_ordered s.pair) (are_ordered ss) o).1 in
      omega (arith, ints, here, rest)

-- ---- the same for the weights of balanced segments

when-and : (a b : Bool) (z : ℤ) → when a (when b z) ≡ when (a && b) z
when-and true b z = refl
when-and false b z = refl

-- the numbers of the segments of a column that pass a test, added
pub column_sum : (w : WholeSegment → ℤ) (low : Pair → Bool) (c : ℤ) (xs : List WholeSegment) → sum_of w (filter (λ t. low t.pair) (column xs c)) ≡ sum_of (λ s. when (spans_column c s.pair && low s.pair) (w s)) xs
column_sum w low c xs =
    sum_of-filter (λ t. low t.pair) w (column xs c) ∙ sum_of-filter (λ s. spans_column c s.pair) (λ t. when (low t.pair) (w t)) xs
    ∙ sum_of-same (λ s. when (spans_column c s.pair) (when (low s.pair) (w s))) (λ s. when (spans_column c s.pair && low s.pair) (w s)) xs (λ s. when-and (spans_column c s.pair) (low s.pair) (w s))

-- the weights of the segments of a column that pass a test, added
abbrev pub column_weights : (Pair → Bool) → List WholeSegment → ℤ → Winding
column_weights low xs c = total_weight (filter (λ t. low t.pair) (column xs c))

pub column_weights_are : (low : Pair → Bool) (xs : List WholeSegment) (c : ℤ) → column_weights low xs c ≡ record { subj = sum_of (λ s. when (spans_column c s.pair && low s.pair) s.count.subj) xs; clip = sum_of (λ s. when (spans_column c s.pair && low s.pair) s.count.clip) xs; mask = 0 }
column_weights_are low xs c = rw (total_weight_is (filter (λ t. low t.pair) (column xs c)), column_sum (λ s. s.count.subj) low c xs, column_sum (λ s. s.count.clip) low c xs) refl

pub filter_weights_are : (test : Pair → Bool) (xs : List WholeSegment) → total_weight (filter (λ t. test t.pair) xs) ≡ record { subj = sum_of (λ s. when (test s.pair) s.count.subj) xs; clip = sum_of (λ s. when (test s.pair) s.count.clip) xs; mask = 0 }
filter_weights_are test xs = rw (total_weight_is (filter (λ t. test t.pair) xs), sum_of-filter (λ t. test t.pair) (λ s. s.count.subj) xs, sum_of-filter (λ t. test t.pair) (λ s. s.count.clip) xs) refl

pub across_line-balanced : (c : ℤ) (inside : Point → Bool) (low : Pair → Bool) → IsLowSide c inside low → (w : WholeSegment → ℤ) (xs : List WholeSegment) → are_ordered xs ≡ true → flow w inside xs ≡ pos 0 →
    sum_of (λ s. when (spans_column c s.pair && low s.pair) (w s)) xs +ℤ sum_of (λ s. when (leaves_upward inside s.pair) (w s)) xs ≡ sum_of (λ s. when (spans_column (c -ℤ pos 1) s.pair && low s.pair) (w s)) xs
across_line-balanced c inside low side w xs o e = let line = across_line c inside low side w xs o in omega (arith, ints, e, line)

-- the weights of the right column and of the vertical segments that leave the set make those of the left column
pub across_line_weights : (c : ℤ) (inside : Point → Bool) (low : Pair → Bool) → IsLowSide c inside low → (xs : List WholeSegment) → are_ordered xs ≡ true → IsBalanced xs →
    add (column_weights low xs c) (total_weight (filter (λ s. leaves_upward inside s.pair) xs)) ≡ column_weights low xs (c -ℤ pos 1)
across_line_weights c inside low side xs o balanced =
    rw (column_weights_are low xs c, column_weights_are low xs (c -ℤ pos 1), filter_weights_are (leaves_upward inside) xs)
    (λ i. record { subj = across_line-balanced c inside low side (λ s. s.count.subj) xs o (subj_flow-balanced xs balanced inside) i; clip = across_line-balanced c inside low side (λ s. s.count.clip) xs o (clip_flow-balanced xs balanced inside) i; mask = 0 })

-- ---- just below and just above a point

abbrev pub is_under : Point → Pair → Bool
is_under p t = int_lt (pos 0) (turn t.a t.b p)

abbrev pub is_up_to : Point → Pair → Bool
is_up_to p t = int_le (pos 0) (turn t.a t.b p)

abbrev pub lies_under : Point → Point → Bool
lies_under p q = int_eq q.x p.x && int_lt q.y p.y

abbrev pub lies_up_to : Point → Point → Bool
lies_up_to p q = int_eq q.x p.x && int_le q.y p.y

mul-nonpos : (w d : ℤ) → pos 0 <ℤ w → d ≤ℤ pos 0 → (w *ℤ d) ≤ℤ pos 0
mul-nonpos w d h k = let m = mul-le_left w d (pos 0) (omega (arith, ints)) k in let e : w *ℤ pos 0 ≡ pos 0 = omega (arith, ints) in rw e at m

-- a factor above 0 changes no sign
pub lt-scaled : (w a b : ℤ) → pos 0 <ℤ w → int_lt (pos 0) (w *ℤ (b -ℤ a)) ≡ int_lt a b
lt-scaled w a b h = by_lt_z a b
    (λ (l : a <ℤ b). lt-test _ _ (mul-pos w (b -ℤ a) h (omega (arith, ints))) ∙ sym (lt-test a b l))
    (λ (g : b ≤ℤ a). lt-test_false _ _ (mul-nonpos w (b -ℤ a) h (omega (arith, ints))) ∙ sym (lt-test_false a b g))

pub le-scaled : (w a b : ℤ) → pos 0 <ℤ w → int_le (pos 0) (w *ℤ (b -ℤ a)) ≡ int_le a b
le-scaled w a b h = by_lt_z b a
    (λ (l : b <ℤ a). le-test_false _ _ (mul-neg w (b -ℤ a) h (omega (arith, ints))) ∙ sym (le-test_false a b l))
    (λ (g : a ≤ℤ b). le-test _ _ (mul-nonneg w (b -ℤ a) (omega (arith, ints)) (omega (arith, ints))) ∙ sym (le-test a b g))

start_turn : (ax ay bx by y : ℤ) → (bx -ℤ ax) *ℤ (y -ℤ ay) -ℤ (by -ℤ ay) *ℤ (ax -ℤ ax) ≡ (bx -ℤ ax) *ℤ (y -ℤ ay)
start_turn ax ay bx by y = rw (as_D ax, as_D ay, as_D bx, as_D by, as_D y) (simp diffs (D-eq _ _ _ _ (omega arith)))

end_turn : (ax ay bx by y : ℤ) → (bx -ℤ ax) *ℤ (y -ℤ ay) -ℤ (by -ℤ ay) *ℤ (bx -ℤ ax) ≡ (bx -ℤ ax) *ℤ (y -ℤ by)
end_turn ax ay bx by y = rw (as_D ax, as_D ay, as_D bx, as_D by, as_D y) (simp diffs (D-eq _ _ _ _ (omega arith)))

-- over its ends a segment's turn is a difference of heights
pub turn_over_start : (s : Pair) (p : Point) → s.a.x ≡ p.x → turn s.a s.b p ≡ (s.b.x -ℤ s.a.x) *ℤ (p.y -ℤ s.a.y)
unfolding turn
turn_over_start s p e = rw (← e) (start_turn s.a.x s.a.y s.b.x s.b.y p.y)

pub turn_over_end : (s : Pair) (p : Point) → s.b.x ≡ p.x → turn s.a s.b p ≡ (s.b.x -ℤ s.a.x) *ℤ (p.y -ℤ s.b.y)
unfolding turn
turn_over_end s p e = rw (← e) (end_turn s.a.x s.a.y s.b.x s.b.y p.y)

both_tests : (a b c : Bool) → a ≡ true → c ≡ b → c ≡ (a && b)
both_tests a b c e f = rw e f

pub under_side : (p : Point) → IsLowSide p.x (lies_under p) (is_under p)
under_side p = record {
  on_line = λ q e. (Decides-int_eq q.x p.x).0 (and_parts (int_eq q.x p.x) _ e).0;
  at_start = λ s e h. both_tests _ _ _ ((Decides-int_eq s.a.x p.x).1 e) (rw (turn_over_start s p e) (lt-scaled (s.b.x -ℤ s.a.x) s.a.y p.y (omega (arith, ints))));
  at_end = λ s e h. both_tests _ _ _ ((Decides-int_eq s.b.x p.x).1 e) (rw (turn_over_end s p e) (lt-scaled (s.b.x -ℤ s.a.x) s.b.y p.y (omega (arith, ints))));
  downward = λ s e h k. let below = lt-tested s.b.y p.y (and_parts (int_eq s.b.x p.x) _ k).1 in and_from _ _ ((Decides-int_eq s.a.x p.x).1 (e ∙ (Decides-int_eq s.b.x p.x).0 (and_parts (int_eq s.b.x p.x) _ k).0)) (lt-test s.a.y p.y (omega (arith, ints)));
}

pub up_to_side : (p : Point) → IsLowSide p.x (lies_up_to p) (is_up_to p)
up_to_side p = record {
  on_line = λ q e. (Decides-int_eq q.x p.x).0 (and_parts (int_eq q.x p.x) _ e).0;
  at_start = λ s e h. both_tests _ _ _ ((Decides-int_eq s.a.x p.x).1 e) (rw (turn_over_start s p e) (le-scaled (s.b.x -ℤ s.a.x) s.a.y p.y (omega (arith, ints))));
  at_end = λ s e h. both_tests _ _ _ ((Decides-int_eq s.b.x p.x).1 e) (rw (turn_over_end s p e) (le-scaled (s.b.x -ℤ s.a.x) s.b.y p.y (omega (arith, ints))));
  downward = λ s e h k. let below = le-tested s.b.y p.y (and_parts (int_eq s.b.x p.x) _ k).1 in and_from _ _ ((Decides-int_eq s.a.x p.x).1 (e ∙ (Decides-int_eq s.b.x p.x).0 (and_parts (int_eq s.b.x p.x) _ k).0)) (le-test s.a.y p.y (omega (arith, ints)));
}

module _ (xs : List WholeSegment) (ordered : are_ordered xs ≡ true) (balanced : IsBalanced xs) (p : Point) where
  -- just below a point
  pub across_under : add (column_weights (is_under p) xs p.x) (total_weight (filter (λ s. leaves_upward (lies_under p) s.pair) xs)) ≡ column_weights (is_under p) xs (p.x -ℤ pos 1)
  across_under = across_line_weights p.x (lies_under p) (is_under p) (under_side p) xs ordered balanced

  -- just above a point
  pub across_up_to : add (weights_up_to xs p.x p) (total_weight (filter (λ s. leaves_upward (lies_up_to p) s.pair) xs)) ≡ weights_up_to xs (p.x -ℤ pos 1) p
  unfolding weights_up_to
  across_up_to = across_line_weights p.x (lies_up_to p) (is_up_to p) (up_to_side p) xs ordered balanced
