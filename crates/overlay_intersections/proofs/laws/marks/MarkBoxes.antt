-- Two pairs where one marks the other have closed boxes that meet.
use Rattle.std.proofs.Common.{◌≡◌, ◌⊎◌, inl, inr, arith, Bool, true, false, not, ◌&&◌, ◌||◌, IsTrue}
use Rattle.std.specs.Prelude.{ℤ, pos, ◌+ℤ◌, ◌-ℤ◌, ◌*ℤ◌, ◌≤ℤ◌, ◌<ℤ◌, neg_ℤ}
use Rattle.std.specs.Int.{int_min, int_max}
use Rattle.std.proofs.lemmas.Int.{ints, by_lt_z, clamps}
use Rattle.overlay_geometry.specs.Points.{Point, Pair, turn, is_in_box, is_end, lies_on, is_strictly_inside}
use Rattle.overlay_geometry.specs.Meeting.{have_opposite_signs, separates, do_cross}
use Rattle.overlay_intersections.specs.Looked.{ranges_meet}
use Rattle.overlay_geometry.proofs.laws.geometry.Polynomials.{as_D, diffs, D-eq, mul-pos, mul-nonneg}
use Rattle.overlay_geometry.proofs.laws.integers.Tests.{le-test, le-tested, eq-tested}

-- ---- what a mark says

pub from_or : (b c : Bool) → IsTrue (b || c) → IsTrue b ⊎ IsTrue c
from_or true c h = inl h
from_or false c h = inr h

-- a point strictly inside a pair
pub record Inside (s : Pair) (p : Point) : Type 0 where
  pub on_line : turn s.a s.b p ≡ pos 0
  pub left : int_min s.a.x s.b.x ≤ℤ p.x
  pub right : p.x ≤ℤ int_max s.a.x s.b.x
  pub low : int_min s.a.y s.b.y ≤ℤ p.y
  pub high : p.y ≤ℤ int_max s.a.y s.b.y
  pub not_a : p.x ≡ s.a.x → p.y ≡ s.a.y → ⊥
  pub not_b : p.x ≡ s.b.x → p.y ≡ s.b.y → ⊥

pub both : (b c : Bool) → IsTrue (b && c) → IsTrue b × IsTrue c
both true c h = (grind arith, h)
both false c h = absurd (grind arith)

not_end_a : (s : Pair) (p : Point) → IsTrue (not (is_end s p)) → p.x ≡ s.a.x → p.y ≡ s.a.y → ⊥
not_end_a s p h e f = grind (arith, ints)

not_end_b : (s : Pair) (p : Point) → IsTrue (not (is_end s p)) → p.x ≡ s.b.x → p.y ≡ s.b.y → ⊥
not_end_b s p h e f = grind (arith, ints)

pub inside : (s : Pair) (p : Point) → IsTrue (is_strictly_inside s p) → Inside s p
unfolding is_strictly_inside lies_on is_in_box
inside s p h =
    let (on, off) = both _ _ h in
    let (line, box) = both _ _ on in
    let (xs, ys) = both _ _ box in
    let (x1, x2) = both _ _ xs in
    let (y1, y2) = both _ _ ys in
    record {
      on_line = eq-tested _ _ line;
      left = le-tested _ _ x1;
      right = le-tested _ _ x2;
      low = le-tested _ _ y1;
      high = le-tested _ _ y2;
      not_a = λ e f. not_end_a s p off e f;
      not_b = λ e f. not_end_b s p off e f;
    }

-- t crosses s from the right of s to its left: from below to above where s runs rightward
pub record RisesThrough (s t : Pair) : Type 0 where
  pub start_below : turn s.a s.b t.a <ℤ pos 0
  pub end_above : pos 0 <ℤ turn s.a s.b t.b
  pub left_above : pos 0 <ℤ turn t.a t.b s.a
  pub right_below : turn t.a t.b s.b <ℤ pos 0

-- of a crossing, one rises through the other
pub crossing_turns : (s t : Pair) → turn s.a s.b t.b -ℤ turn s.a s.b t.a ≡ turn t.a t.b s.a -ℤ turn t.a t.b s.b
unfolding turn
crossing_turns s t = rw (as_D s.a.x, as_D s.a.y, as_D s.b.x, as_D s.b.y, as_D t.a.x, as_D t.a.y, as_D t.b.x, as_D t.b.y) (simp diffs (D-eq _ _ _ _ (omega arith)))

signs : (u v u' v' : ℤ) → v -ℤ u ≡ u' -ℤ v' → IsTrue (have_opposite_signs u v && have_opposite_signs u' v') →
    ((u <ℤ pos 0) × (pos 0 <ℤ v) × (pos 0 <ℤ u') × (v' <ℤ pos 0)) ⊎ ((u' <ℤ pos 0) × (pos 0 <ℤ v') × (pos 0 <ℤ u) × (v <ℤ pos 0))
signs u v u' v' e h = by_lt_z u (pos 0) (λ less. inl (grind (arith, ints), grind (arith, ints), grind (arith, ints), grind (arith, ints))) (λ more. inr (grind (arith, ints), grind (arith, ints), grind (arith, ints), grind (arith, ints)))

pub crossing_rises : (s t : Pair) → IsTrue (do_cross s t) → RisesThrough s t ⊎ RisesThrough t s
unfolding do_cross separates
crossing_rises s t h = elim (signs (turn s.a s.b t.a) (turn s.a s.b t.b) (turn t.a t.b s.a) (turn t.a t.b s.b) (crossing_turns s t) h) [
  | inl (p, q, r, k) ↦ inl (record { start_below = p; end_above = q; left_above = r; right_below = k })
  | inr (p, q, r, k) ↦ inr (record { start_below = p; end_above = q; left_above = r; right_below = k })
]

-- ---- boxes

weigh : (k l m n p q r s c : ℤ) → k *ℤ (p -ℤ c) +ℤ l *ℤ (q -ℤ c) +ℤ m *ℤ (c -ℤ r) +ℤ n *ℤ (c -ℤ s) ≡ (k *ℤ p +ℤ l *ℤ q) -ℤ (m *ℤ r +ℤ n *ℤ s) -ℤ ((k +ℤ l) -ℤ (m +ℤ n)) *ℤ c
weigh k l m n p q r s c = rw (as_D k, as_D l, as_D m, as_D n, as_D p, as_D q, as_D r, as_D s, as_D c) (simp diffs (D-eq _ _ _ _ (omega arith)))

pub zero_times : (z c : ℤ) → z ≡ pos 0 → z *ℤ c ≡ pos 0
zero_times z c e = rw e (omega (arith, ints))

-- two means of one sum of weights differ where the numbers of the one are c or more, those of the other c or less, and the first is not c
pub means_apart_first : (k l m n p q r s c : ℤ) → pos 0 <ℤ k → pos 0 <ℤ l → pos 0 <ℤ m → pos 0 <ℤ n → k +ℤ l ≡ m +ℤ n → k *ℤ p +ℤ l *ℤ q ≡ m *ℤ r +ℤ n *ℤ s →
    c <ℤ p → c ≤ℤ q → r ≤ℤ c → s ≤ℤ c → ⊥
means_apart_first k l m n p q r s c hk hl hm hn e f cp cq rc sc =
    let a1 : pos 0 <ℤ (k *ℤ (p -ℤ c)) = mul-pos k (p -ℤ c) hk (omega (arith, ints)) in
    let a2 : pos 0 ≤ℤ (l *ℤ (q -ℤ c)) = mul-nonneg l (q -ℤ c) (omega (arith, ints)) (omega (arith, ints)) in
    let a3 : pos 0 ≤ℤ (m *ℤ (c -ℤ r)) = mul-nonneg m (c -ℤ r) (omega (arith, ints)) (omega (arith, ints)) in
    let a4 : pos 0 ≤ℤ (n *ℤ (c -ℤ s)) = mul-nonneg n (c -ℤ s) (omega (arith, ints)) (omega (arith, ints)) in
    let z = zero_times ((k +ℤ l) -ℤ (m +ℤ n)) c (omega (arith, ints)) in
    let w = weigh k l m n p q r s c in
    omega (arith, ints)

pub means_apart_last : (k l m n p q r s c : ℤ) → pos 0 <ℤ k → pos 0 <ℤ l → pos 0 <ℤ m → pos 0 <ℤ n → k +ℤ l ≡ m +ℤ n → k *ℤ p +ℤ l *ℤ q ≡ m *ℤ r +ℤ n *ℤ s →
    c ≤ℤ p → c ≤ℤ q → r ≤ℤ c → s <ℤ c → ⊥
means_apart_last k l m n p q r s c hk hl hm hn e f cp cq rc sc =
    let a1 : pos 0 ≤ℤ (k *ℤ (p -ℤ c)) = mul-nonneg k (p -ℤ c) (omega (arith, ints)) (omega (arith, ints)) in
    let a2 : pos 0 ≤ℤ (l *ℤ (q -ℤ c)) = mul-nonneg l (q -ℤ c) (omega (arith, ints)) (omega (arith, ints)) in
    let a3 : pos 0 ≤ℤ (m *ℤ (c -ℤ r)) = mul-nonneg m (c -ℤ r) (omega (arith, ints)) (omega (arith, ints)) in
    let a4 : pos 0 <ℤ (n *ℤ (c -ℤ s)) = mul-pos n (c -ℤ s) hn (omega (arith, ints)) in
    let z = zero_times ((k +ℤ l) -ℤ (m +ℤ n)) c (omega (arith, ints)) in
    let w = weigh k l m n p q r s c in
    omega (arith, ints)

-- the boxes of two pairs, as inequalities
pub ranges_from : (u v u' v' : ℤ) → int_max (int_min u v) (int_min u' v') ≤ℤ int_min (int_max u v) (int_max u' v') → IsTrue (ranges_meet u v u' v')
unfolding ranges_meet
ranges_from u v u' v' h = le-test _ _ h

pub from_ranges_meet : (u v u' v' : ℤ) → IsTrue (ranges_meet u v u' v') → int_max (int_min u v) (int_min u' v') ≤ℤ int_min (int_max u v) (int_max u' v')
unfolding ranges_meet
from_ranges_meet u v u' v' h = le-tested _ _ h

pub ranges_swap : (u v u' v' : ℤ) → IsTrue (ranges_meet u v u' v') → IsTrue (ranges_meet u' v' u v)
ranges_swap u v u' v' h = let k = from_ranges_meet u v u' v' h in ranges_from u' v' u v (omega (arith, ints, clamps))

pub join_tests : (b c : Bool) → IsTrue b → IsTrue c → IsTrue (b && c)
join_tests true c h k = k
join_tests false c h k = h

-- The point at which they cross is a mean of the ends of t, by their turns from s, and of those of s, by their turns from t.
pub crossing_mean_x : (s t : Pair) → turn s.a s.b t.b *ℤ (t.a.x -ℤ s.a.x) +ℤ neg_ℤ (turn s.a s.b t.a) *ℤ (t.b.x -ℤ s.a.x) ≡ turn t.a t.b s.a *ℤ (s.b.x -ℤ s.a.x) +ℤ neg_ℤ (turn t.a t.b s.b) *ℤ pos 0
unfolding turn
crossing_mean_x s t = rw (as_D s.a.x, as_D s.a.y, as_D s.b.x, as_D s.b.y, as_D t.a.x, as_D t.a.y, as_D t.b.x, as_D t.b.y) (simp diffs (D-eq _ _ _ _ (omega arith)))
