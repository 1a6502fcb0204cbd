-- Fragments: each lies in its column, encloses its part of the segment, and begins where the one before ends.
use Rattle.std.proofs.Common.{◌≡◌, refl, sym, ap, subst, if◌then◌else◌, ℕ, zero, suc, ◌+◌, ◌-◌, ◌*◌, ◌<◌, ◌≤◌, ◌∙◌, ◌⊎◌, inl, inr, arith, Bool, true, false, IsTrue, IsFalse, List, [], ◌∷◌, map}
use Rattle.std.specs.Prelude.{ℤ, pos, negsuc, ◌+ℤ◌, ◌-ℤ◌, ◌*ℤ◌, ◌≤ℤ◌, ◌<ℤ◌, neg_ℤ, unsigned_abs}
use Rattle.std.specs.Int.{int_min, int_max}
use Rattle.std.specs.List.{list_all, range_with_len}
use Rattle.std.proofs.lemmas.Int.{ints, by_lt_z, clamps}
use Rattle.std.proofs.lemmas.Nat.{mul-le}
use Rattle.std.proofs.lemmas.Grind.{div_ceil_times}
use Rattle.std.proofs.Math.Nat.{add-zero, div-mul-le_self}
use Rattle.overlay_geometry.specs.Points.{Pair, is_ordered, is_vertical}
use Rattle.overlay_geometry.specs.Below.{width, scaled_height}
use Rattle.overlay_grid.specs.Grid.{Layout, column_index, pos_of, Fragment, rect_between, toward, least_rise, greatest_rise, fragment_in, fragments, holds_height, holds_both_heights, follow_on}
use Rattle.overlay_geometry.specs.Ranges.{Rect}
use Rattle.overlay_grid.specs.Laws.{FragmentsEnclose}
use Rattle.overlay_geometry.proofs.laws.geometry.Polynomials.{as_D, diffs, D-eq, mul-le_left}
use Rattle.overlay_grid.proofs.laws.grid.GridColumns.{pos_of-column_index, pos_of-column_index_next, column_index-from, column_index-before, column_index-monotone, pos_of-monotone, pos_of-next, then_less, less_to}
use Rattle.overlay_intersections.proofs.laws.marks.MarkBoxes.{join_tests}
use Rattle.overlay_geometry.proofs.laws.integers.Tests.{le-test, eq-test, le-tested, lt_through, lt_before}
use Rattle.overlay_geometry.proofs.laws.integers.Products.{abs_nonneg, minus_times}

-- ---- pairs from left to right

-- a runs left of b
pub record RunsRight (s : Pair) : Type 0 where
  pub forward : s.a.x <ℤ s.b.x

pub runs_right : (s : Pair) → IsTrue (is_ordered s) → IsFalse (is_vertical s) → RunsRight s
runs_right s h k = record { forward = grind (arith, ints) }

pub RunsRight-not_vertical : (s : Pair) → RunsRight s → IsFalse (is_vertical s)
RunsRight-not_vertical s r = let f = r.forward in grind (arith, ints)

-- a lies straight below b
pub record RunsUp (s : Pair) : Type 0 where
  pub upright : s.a.x ≡ s.b.x
  pub upward : s.a.y <ℤ s.b.y

ordered_same_x : (s : Pair) → IsTrue (is_ordered s) → s.b.x ≤ℤ s.a.x → s.a.x ≡ s.b.x
ordered_same_x s o h = grind (arith, ints)

ordered_up : (s : Pair) → IsTrue (is_ordered s) → s.b.x ≤ℤ s.a.x → s.a.y <ℤ s.b.y
ordered_up s o h = grind (arith, ints)

pub runs : (s : Pair) → IsTrue (is_ordered s) → RunsUp s ⊎ RunsRight s
runs s o = by_lt_z s.a.x s.b.x (λ less. inr (record { forward = less })) (λ more. inl (record { upright = ordered_same_x s o more; upward = ordered_up s o more }))

-- ---- rises

-- how much s falls or rises up to x, times its width
unfoldable pub rise : Pair → ℤ → ℕ
rise s x = unsigned_abs (s.b.y -ℤ s.a.y) * unsigned_abs (x -ℤ s.a.x)

pub least_rise-times : (s : Pair) (x : ℤ) → least_rise s x * unsigned_abs (width s) ≤ rise s x
unfolding least_rise rise
least_rise-times s x = div-mul-le_self (unsigned_abs (s.b.y -ℤ s.a.y) * unsigned_abs (x -ℤ s.a.x)) (unsigned_abs (s.b.x -ℤ s.a.x))

pub greatest_rise-times : (s : Pair) (x : ℤ) → 0 < unsigned_abs (width s) → rise s x ≤ greatest_rise s x * unsigned_abs (width s)
unfolding greatest_rise rise
greatest_rise-times s x h = (div_ceil_times (unsigned_abs (s.b.y -ℤ s.a.y) * unsigned_abs (x -ℤ s.a.x)) (unsigned_abs (s.b.x -ℤ s.a.x)) h).0

-- the rise as a whole number, upward and downward
product_up : (m n : ℕ) (u v : ℤ) → pos m ≡ u → pos n ≡ v → pos (m * n) ≡ v *ℤ u
product_up m n u v e f = rw (← e, ← f) (omega (arith, ints))

times_neg : (u v : ℤ) → v *ℤ neg_ℤ u ≡ neg_ℤ (v *ℤ u)
times_neg u v = rw (as_D u, as_D v) (simp diffs (D-eq _ _ _ _ (omega arith)))

product_down : (m n : ℕ) (u v : ℤ) → pos m ≡ neg_ℤ u → pos n ≡ v → neg_ℤ (pos (m * n)) ≡ v *ℤ u
product_down m n u v e f = let g = product_up m n (neg_ℤ u) v e f in let k = times_neg u v in omega (arith, ints)

pub abs_neg : (z : ℤ) → z <ℤ pos 0 → pos (unsigned_abs z) ≡ neg_ℤ z
abs_neg (pos n) h = absurd (omega (arith, ints))
abs_neg (negsuc n) h = omega (arith, ints)

pub rise_up : (s : Pair) (x : ℤ) → s.a.x ≤ℤ x → s.a.y ≤ℤ s.b.y → pos (rise s x) ≡ (x -ℤ s.a.x) *ℤ (s.b.y -ℤ s.a.y)
unfolding rise
rise_up s x h k = product_up _ _ (s.b.y -ℤ s.a.y) (x -ℤ s.a.x) (abs_nonneg (s.b.y -ℤ s.a.y) (omega (arith, ints))) (abs_nonneg (x -ℤ s.a.x) (omega (arith, ints)))

pub rise_down : (s : Pair) (x : ℤ) → s.a.x ≤ℤ x → s.b.y <ℤ s.a.y → neg_ℤ (pos (rise s x)) ≡ (x -ℤ s.a.x) *ℤ (s.b.y -ℤ s.a.y)
unfolding rise
rise_down s x h k = product_down _ _ (s.b.y -ℤ s.a.y) (x -ℤ s.a.x) (abs_neg (s.b.y -ℤ s.a.y) (omega (arith, ints))) (abs_nonneg (x -ℤ s.a.x) (omega (arith, ints)))

abs_le : (s : Pair) (x y : ℤ) → s.a.x ≤ℤ x → x ≤ℤ y → unsigned_abs (x -ℤ s.a.x) ≤ unsigned_abs (y -ℤ s.a.x)
abs_le s x y h k =
    let e = abs_nonneg (x -ℤ s.a.x) (omega (arith, ints)) in
    let f = abs_nonneg (y -ℤ s.a.x) (omega (arith, ints)) in
    omega (arith, ints)

-- it does not shrink from left to right
pub rise-monotone : (s : Pair) (x y : ℤ) → s.a.x ≤ℤ x → x ≤ℤ y → rise s x ≤ rise s y
unfolding rise
rise-monotone s x y h k = mul-le _ _ _ _ (omega arith) (abs_le s x y h k)

-- ---- heights in a fragment

-- the height of s at x, times its width, lies between those of the rectangle's borders
pub record Holds (s : Pair) (r : Rect) (x : ℤ) : Type 0 where
  pub low : (r.min_y *ℤ width s) ≤ℤ scaled_height s x
  pub high : scaled_height s x ≤ℤ (r.max_y *ℤ width s)

pub holds_height-from_Holds : (s : Pair) (r : Rect) (x : ℤ) → Holds s r x → IsTrue (holds_height s r x)
unfolding holds_height
holds_height-from_Holds s r x h = join_tests _ _ (le-test _ _ h.low) (le-test _ _ h.high)

mul-le_right : (a b w : ℤ) → pos 0 ≤ℤ w → a ≤ℤ b → (a *ℤ w) ≤ℤ (b *ℤ w)
mul-le_right a b w h k = let m = mul-le_left w a b h k in omega (arith, ints)

times_plus : (u v w : ℤ) → (u +ℤ v) *ℤ w ≡ u *ℤ w +ℤ v *ℤ w
times_plus u v w = rw (as_D u, as_D v, as_D w) (simp diffs (D-eq _ _ _ _ (omega arith)))

within_up : (p q w h : ℤ) → pos 0 ≤ℤ w → (p *ℤ w) ≤ℤ h → h ≤ℤ (q *ℤ w) → ((int_min p q *ℤ w) ≤ℤ h) × (h ≤ℤ (int_max p q *ℤ w))
within_up p q w h k l m =
    let low = mul-le_right (int_min p q) p w k (omega (arith, ints, clamps)) in
    let high = mul-le_right q (int_max p q) w k (omega (arith, ints, clamps)) in
    (omega (arith, ints), omega (arith, ints))

within_down : (p q w h : ℤ) → pos 0 ≤ℤ w → (q *ℤ w) ≤ℤ h → h ≤ℤ (p *ℤ w) → ((int_min p q *ℤ w) ≤ℤ h) × (h ≤ℤ (int_max p q *ℤ w))
within_down p q w h k l m =
    let low = mul-le_right (int_min p q) q w k (omega (arith, ints, clamps)) in
    let high = mul-le_right p (int_max p q) w k (omega (arith, ints, clamps)) in
    (omega (arith, ints), omega (arith, ints))

-- with rises from m to n
heights_up : (y w d m n h : ℤ) → pos 0 ≤ℤ w → (m *ℤ w) ≤ℤ d → d ≤ℤ (n *ℤ w) → h ≡ y *ℤ w +ℤ d → ((int_min (y +ℤ m) (y +ℤ n) *ℤ w) ≤ℤ h) × (h ≤ℤ (int_max (y +ℤ m) (y +ℤ n) *ℤ w))
heights_up y w d m n h k l o e =
    let f = times_plus y m w in
    let g = times_plus y n w in
    within_up (y +ℤ m) (y +ℤ n) w h k (omega (arith, ints)) (omega (arith, ints))

heights_down : (y w d m n h : ℤ) → pos 0 ≤ℤ w → (m *ℤ w) ≤ℤ d → d ≤ℤ (n *ℤ w) → h ≡ y *ℤ w +ℤ neg_ℤ d → ((int_min (y -ℤ m) (y -ℤ n) *ℤ w) ≤ℤ h) × (h ≤ℤ (int_max (y -ℤ m) (y -ℤ n) *ℤ w))
heights_down y w d m n h k l o e =
    let f = minus_times y m w in
    let g = minus_times y n w in
    within_down (y -ℤ m) (y -ℤ n) w h k (omega (arith, ints)) (omega (arith, ints))

pub toward_up : (s : Pair) (n : ℕ) → s.a.y ≤ℤ s.b.y → toward s n ≡ s.a.y +ℤ pos n
unfolding toward
toward_up s n h = grind (arith, ints)

pub toward_down : (s : Pair) (n : ℕ) → s.b.y <ℤ s.a.y → toward s n ≡ s.a.y -ℤ pos n
unfolding toward
toward_down s n h = grind (arith, ints)

nat_times : (m v e : ℕ) (w : ℤ) → pos v ≡ w → m * v ≤ e → (pos m *ℤ w) ≤ℤ pos e
nat_times m v e w f h = rw (← f) (omega (arith, ints))

times_nat : (m v e : ℕ) (w : ℤ) → pos v ≡ w → e ≤ m * v → pos e ≤ℤ (pos m *ℤ w)
times_nat m v e w f h = rw (← f) (omega (arith, ints))

-- the rectangle with the least rise at one x and the greatest at another holds the heights between
pub rect_holds : (s : Pair) (x y z : ℤ) → RunsRight s → s.a.x ≤ℤ x → x ≤ℤ z → z ≤ℤ y →
    ((int_min (toward s (least_rise s x)) (toward s (greatest_rise s y)) *ℤ width s) ≤ℤ scaled_height s z) × (scaled_height s z ≤ℤ (int_max (toward s (least_rise s x)) (toward s (greatest_rise s y)) *ℤ width s))
unfolding scaled_height
rect_holds s x y z r h k l =
    let fw = r.forward in
    let v : ℕ = unsigned_abs (width s) in
    let ev : pos v ≡ width s = abs_nonneg (width s) (omega (arith, ints)) in
    let some : 0 < v = omega (arith, ints) in
    let lx : least_rise s x * v ≤ rise s x = least_rise-times s x in
    let gy : rise s y ≤ greatest_rise s y * v = greatest_rise-times s y some in
    let m1 : rise s x ≤ rise s z = rise-monotone s x z h k in
    let m2 : rise s z ≤ rise s y = rise-monotone s z y (omega (arith, ints)) l in
    let low = nat_times (least_rise s x) v (rise s z) (width s) ev (omega arith) in
    let high = times_nat (greatest_rise s y) v (rise s z) (width s) ev (omega arith) in
    let wide : pos 0 ≤ℤ width s = omega (arith, ints) in
    by_lt_z s.b.y s.a.y
    (λ (falls : s.b.y <ℤ s.a.y). rw (toward_down s (least_rise s x) falls, toward_down s (greatest_rise s y) falls)
    (heights_down s.a.y (width s) (pos (rise s z)) (pos (least_rise s x)) (pos (greatest_rise s y)) _ wide low high (ap (λ (d : ℤ). s.a.y *ℤ width s +ℤ d) (sym (rise_down s z (omega (arith, ints)) falls)))))
    (λ (climbs : s.a.y ≤ℤ s.b.y). rw (toward_up s (least_rise s x) climbs, toward_up s (greatest_rise s y) climbs)
    (heights_up s.a.y (width s) (pos (rise s z)) (pos (least_rise s x)) (pos (greatest_rise s y)) _ wide low high (ap (λ (d : ℤ). s.a.y *ℤ width s +ℤ d) (sym (rise_up s z (omega (arith, ints)) climbs)))))

pub min_left : (u v : ℤ) → u ≤ℤ v → int_min u v ≡ u
min_left u v h = grind (arith, ints)

pub max_right : (u v : ℤ) → u ≤ℤ v → int_max u v ≡ v
max_right u v h = grind (arith, ints)

-- the borders of s in a column
abbrev pub left_in : Layout → Pair → ℕ → ℤ
left_in l s i = int_max s.a.x (pos_of l i)

abbrev pub right_in : Layout → Pair → ℕ → ℤ
right_in l s i = int_min s.b.x (pos_of l (i + 1))

-- the rectangle in a column holds the heights from its left border to its right one
pub fragment_in-holds : (l : Layout) (s : Pair) (i : ℕ) (x : ℤ) → RunsRight s → left_in l s i ≤ℤ x → x ≤ℤ right_in l s i → Holds s (fragment_in l s i).rect x
unfolding fragment_in rect_between
fragment_in-holds l s i x r h k =
    let (low, high) = rect_holds s (left_in l s i) (right_in l s i) x r (omega (arith, ints, clamps)) h k in
    record { low = low; high = high }

pub fragment_in-column : (l : Layout) (s : Pair) (i : ℕ) → (fragment_in l s i).column ≡ i
unfolding fragment_in
fragment_in-column l s i = refl

pub fragment_in-min_x : (l : Layout) (s : Pair) (i : ℕ) → left_in l s i ≤ℤ right_in l s i → (fragment_in l s i).rect.min_x ≡ left_in l s i
unfolding fragment_in rect_between
fragment_in-min_x l s i h = min_left _ _ h

pub fragment_in-max_x : (l : Layout) (s : Pair) (i : ℕ) → left_in l s i ≤ℤ right_in l s i → (fragment_in l s i).rect.max_x ≡ right_in l s i
unfolding fragment_in rect_between
fragment_in-max_x l s i h = max_right _ _ h

holds_at_left : (l : Layout) (s : Pair) (i : ℕ) → RunsRight s → left_in l s i ≤ℤ right_in l s i → IsTrue (holds_height s (fragment_in l s i).rect (left_in l s i))
holds_at_left l s i r h = holds_height-from_Holds s _ _ (fragment_in-holds l s i (left_in l s i) r (omega (arith, ints)) h)

holds_at_right : (l : Layout) (s : Pair) (i : ℕ) → RunsRight s → left_in l s i ≤ℤ right_in l s i → IsTrue (holds_height s (fragment_in l s i).rect (right_in l s i))
holds_at_right l s i r h = holds_height-from_Holds s _ _ (fragment_in-holds l s i (right_in l s i) r h (omega (arith, ints)))

pub fragment_in-holds_both_heights : (l : Layout) (s : Pair) (i : ℕ) → RunsRight s → left_in l s i ≤ℤ right_in l s i → IsTrue (holds_both_heights s (fragment_in l s i).rect)
unfolding holds_both_heights
fragment_in-holds_both_heights l s i r h =
    let left : IsTrue (holds_height s (fragment_in l s i).rect (fragment_in l s i).rect.min_x) = rw (fragment_in-min_x l s i h) (holds_at_left l s i r h) in
    let right : IsTrue (holds_height s (fragment_in l s i).rect (fragment_in l s i).rect.max_x) = rw (fragment_in-max_x l s i h) (holds_at_right l s i r h) in
    join_tests _ _ left right

-- ---- the columns that a segment enters

entered_before : (p q v : ℤ) → p ≤ℤ q → q ≤ℤ (v -ℤ pos 1) → p <ℤ v
entered_before p q v h k = omega (arith, ints)

pub borders_follow : (u v p q : ℤ) → u <ℤ v → p <ℤ q → p <ℤ v → u <ℤ q → int_max u p ≤ℤ int_min v q
borders_follow u v p q h k m n = omega (arith, ints, clamps)

clip_before : (u v p : ℤ) → p <ℤ v → int_max u (int_min v p) ≡ int_max u p
clip_before u v p h = omega (arith, ints, clamps)

clip_after : (u v p : ℤ) → u <ℤ v → u <ℤ p → int_max u (int_min v p) ≡ int_min v p
clip_after u v p h k = omega (arith, ints, clamps)

pub clip_low : (u v p : ℤ) → p ≤ℤ u → u <ℤ v → int_max u (int_min v p) ≡ u
clip_low u v p h k = omega (arith, ints, clamps)

pub clip_high : (u v p : ℤ) → (v -ℤ pos 1) <ℤ p → u <ℤ v → int_max u (int_min v p) ≡ v
clip_high u v p h k = omega (arith, ints, clamps)

-- the numbers strictly between u and v reach into column i
pub record Enters (l : Layout) (u v : ℤ) (i : ℕ) : Type 0 where
  pub begins : pos_of l i <ℤ v
  pub ends : u <ℤ pos_of l (i + 1)

pub enters : (l : Layout) (u v : ℤ) (i : ℕ) → l.min_x ≤ℤ u → u <ℤ v → column_index l u ≤ i → i ≤ column_index l (v -ℤ pos 1) → Enters l u v i
enters l u v i h k m n =
    let b1 = pos_of-column_index l (v -ℤ pos 1) (omega (arith, ints)) in
    let b2 = pos_of-monotone l i (column_index l (v -ℤ pos 1)) n in
    let c1 = pos_of-column_index_next l u h in
    let c2 = pos_of-monotone l (column_index l u + 1) (i + 1) (omega arith) in
    record { begins = entered_before _ _ _ b2 b1; ends = lt_through _ _ _ c1 c2 }

pub Enters-first : (l : Layout) (u v : ℤ) (i : ℕ) → l.min_x ≤ℤ u → Enters l u v i → column_index l u ≤ i
Enters-first l u v i h e = let c = column_index-before l (i + 1) u h e.ends in omega arith

pub Enters-last : (l : Layout) (u v : ℤ) (i : ℕ) → Enters l u v i → i ≤ column_index l (v -ℤ pos 1)
Enters-last l u v i e = column_index-from l i (v -ℤ pos 1) (lt_before _ _ e.begins)

pub Enters-wider : (l : Layout) (u v u' v' : ℤ) (i : ℕ) → u' ≤ℤ u → v ≤ℤ v' → Enters l u v i → Enters l u' v' i
Enters-wider l u v u' v' i h k e = record { begins = lt_through _ _ _ e.begins k; ends = then_less _ _ _ h e.ends }

-- a border, moved into a range
abbrev pub border : Layout → ℤ → ℤ → ℕ → ℤ
border l u v i = int_max u (int_min v (pos_of l i))

pub border_begins : (l : Layout) (u v : ℤ) (i : ℕ) → Enters l u v i → border l u v i ≡ int_max u (pos_of l i)
border_begins l u v i e = clip_before u v (pos_of l i) e.begins

pub border_ends : (l : Layout) (u v : ℤ) (i : ℕ) → u <ℤ v → Enters l u v i → border l u v (i + 1) ≡ int_min v (pos_of l (i + 1))
border_ends l u v i h e = clip_after u v (pos_of l (i + 1)) h e.ends

pub left_in-right_in : (l : Layout) (s : Pair) (i : ℕ) → RunsRight s → Enters l s.a.x s.b.x i → left_in l s i ≤ℤ right_in l s i
left_in-right_in l s i r e = let n = pos_of-next l i in borders_follow s.a.x s.b.x (pos_of l i) (pos_of l (i + 1)) r.forward n e.begins e.ends

-- ---- lists over a range of columns

pub all_in_range : {X : Type 0} (p : X → Bool) (f : ℕ → X) (a n : ℕ) → ((i : ℕ) → a ≤ i → i < a + n → IsTrue (p (f i))) → IsTrue (list_all p (map f (range_with_len a n)))
all_in_range p f a zero h = refl
all_in_range p f a (suc n) h = join_tests _ _ (h a (omega arith) (omega arith)) (all_in_range p f (a + 1) n (λ i k m. h i (omega arith) (omega arith)))

follow_none : (x y : ℤ) → x ≡ y → IsTrue (follow_on x [] y)
unfolding follow_on
follow_none x y e = eq-test x y e

follow_rest : {x x' y y' : ℤ} (rects : List Rect) → x ≡ x' → y ≡ y' → IsTrue (follow_on x rects y) → IsTrue (follow_on x' rects y')
follow_rest {x} {x'} {y} {y'} rects e f h = subst (λ (z : ℤ). IsTrue (follow_on z rects y')) e (subst (λ (z : ℤ). IsTrue (follow_on x rects z)) f h)

next_place : (g : ℕ → ℤ) (a n : ℕ) → g (a + 1 + n) ≡ g (a + suc n)
next_place g a n = ap g (omega arith)

follow_in_range : (f : ℕ → Fragment) (g : ℕ → ℤ) (a n : ℕ) → ((i : ℕ) → a ≤ i → i < a + n → (f i).rect.min_x ≡ g i) → ((i : ℕ) → a ≤ i → i < a + n → (f i).rect.max_x ≡ g (i + 1)) →
    IsTrue (follow_on (g a) (map (λ r. r.rect) (map f (range_with_len a n))) (g (a + n)))
unfolding follow_on
follow_in_range f g a zero h k = follow_none (g a) (g (a + 0)) (ap g (sym (add-zero a)))
follow_in_range f g a (suc n) h k =
    join_tests _ _ (eq-test _ _ (h a (omega arith) (omega arith)))
    (follow_rest (map (λ r. r.rect) (map f (range_with_len (a + 1) n))) (sym (k a (omega arith) (omega arith))) (next_place g a n)
    (follow_in_range f g (a + 1) n (λ i m o. h i (omega arith) (omega arith)) (λ i m o. k i (omega arith) (omega arith))))

choose_false : {X : Type 0} (c : Bool) (x y : X) → IsFalse c → (if c then x else y) ≡ y
choose_false true x y h = absurd (grind arith)
choose_false false x y h = refl

sum_of_rest : (m n : ℕ) → m ≤ n → m + (n + 1 - m) ≡ n + 1
sum_of_rest m n h = omega arith

up_to_end : (a n e i : ℕ) → a + n ≡ e + 1 → i < a + n → i ≤ e
up_to_end a n e i h k = omega arith

-- ---- the fragments of a segment

-- one for each column that it enters
unfoldable pub column_count : Layout → Pair → ℕ
column_count l s = column_index l (s.b.x -ℤ pos 1) + 1 - column_index l s.a.x

pub fragments_flat : (l : Layout) (s : Pair) → IsFalse (is_vertical s) → fragments l s ≡ map (λ i. fragment_in l s i) (range_with_len (column_index l s.a.x) (column_count l s))
unfolding fragments column_count
fragments_flat l s h = choose_false _ _ _ h

pub column_count-end : (l : Layout) (s : Pair) → RunsRight s → l.min_x ≤ℤ s.a.x → column_index l s.a.x + column_count l s ≡ column_index l (s.b.x -ℤ pos 1) + 1
unfolding column_count
column_count-end l s r h =
    let m = column_index-monotone l s.a.x (s.b.x -ℤ pos 1) h (lt_before _ _ r.forward) in
    sum_of_rest _ _ m

pub entered_column : (l : Layout) (s : Pair) (i : ℕ) → RunsRight s → l.min_x ≤ℤ s.a.x → column_index l s.a.x ≤ i → i < column_index l s.a.x + column_count l s → Enters l s.a.x s.b.x i
entered_column l s i r h k m = enters l s.a.x s.b.x i h r.forward k (up_to_end _ _ _ _ (column_count-end l s r h) m)

-- the first border is the left end, the last one the right end
border_first : (l : Layout) (s : Pair) → RunsRight s → l.min_x ≤ℤ s.a.x → border l s.a.x s.b.x (column_index l s.a.x) ≡ s.a.x
border_first l s r h = clip_low s.a.x s.b.x (pos_of l (column_index l s.a.x)) (pos_of-column_index l s.a.x h) r.forward

border_last : (l : Layout) (s : Pair) → RunsRight s → l.min_x ≤ℤ s.a.x → border l s.a.x s.b.x (column_index l s.a.x + column_count l s) ≡ s.b.x
border_last l s r h =
    let high = pos_of-column_index_next l (s.b.x -ℤ pos 1) (less_to _ _ _ h r.forward) in
    ap (border l s.a.x s.b.x) (column_count-end l s r h) ∙ clip_high s.a.x s.b.x (pos_of l (column_index l (s.b.x -ℤ pos 1) + 1)) high r.forward

follow_between : (l : Layout) (s : Pair) (rects : List Rect) → RunsRight s → l.min_x ≤ℤ s.a.x → IsTrue (follow_on (border l s.a.x s.b.x (column_index l s.a.x)) rects (border l s.a.x s.b.x (column_index l s.a.x + column_count l s))) → IsTrue (follow_on s.a.x rects s.b.x)
follow_between l s rects r h f = follow_rest rects (border_first l s r h) (border_last l s r h) f

pub fragments_enclose : FragmentsEnclose
fragments_enclose l s o f low =
    let r = runs_right s o f in
    let h : l.min_x ≤ℤ s.a.x = le-tested _ _ low in
    let first : ℕ = column_index l s.a.x in
    let count : ℕ = column_count l s in
    let inside : (i : ℕ) → first ≤ i → i < first + count → Enters l s.a.x s.b.x i = λ i k m. entered_column l s i r h k m in
    rw (fragments_flat l s f) (
      all_in_range (λ f. holds_both_heights s f.rect) (λ i. fragment_in l s i) first count (λ i k m. fragment_in-holds_both_heights l s i r (left_in-right_in l s i r (inside i k m))),
      follow_between l s (map (λ f. f.rect) (map (λ i. fragment_in l s i) (range_with_len first count))) r h
          (follow_in_range (λ i. fragment_in l s i) (border l s.a.x s.b.x) first count
          (λ i k m. fragment_in-min_x l s i (left_in-right_in l s i r (inside i k m)) ∙ sym (border_begins l s.a.x s.b.x i (inside i k m)))
          (λ i k m. fragment_in-max_x l s i (left_in-right_in l s i r (inside i k m)) ∙ sym (border_ends l s.a.x s.b.x i r.forward (inside i k m)))),
    )

-- ---- vertical pairs

-- the fragment of a vertical pair
unfoldable pub upright_fragment : Layout → Pair → Fragment
upright_fragment l s = record { column = column_index l s.a.x; rect = rect_between s.a.x s.a.y s.b.x s.b.y }

pub RunsUp-vertical : (s : Pair) → RunsUp s → IsTrue (is_vertical s)
RunsUp-vertical s u = let e = u.upright in eq-test _ _ e

choose_true : {X : Type 0} (c : Bool) (x y : X) → IsTrue c → (if c then x else y) ≡ x
choose_true true x y h = refl
choose_true false x y h = absurd (grind arith)

pub fragments_upright : (l : Layout) (s : Pair) → RunsUp s → fragments l s ≡ upright_fragment l s ∷ []
unfolding fragments upright_fragment
fragments_upright l s u = choose_true _ _ _ (RunsUp-vertical s u)
