-- Laws of turns, of the order of points and of pairs, and of points on a segment.
use Rattle.std.proofs.Common.{◌≡◌, refl, sym, ap, subst, ◌∙◌, ◌⊎◌, ap₂, ⊎_elim, inl, inr, arith, true, false, IsTrue, IsFalse, ◌&&◌}
use Rattle.std.specs.Prelude.{ℤ, pos, ◌+ℤ◌, ◌-ℤ◌, ◌*ℤ◌, ◌≤ℤ◌, ◌<ℤ◌, neg_ℤ}
use Rattle.std.proofs.lemmas.Int.{ints, by_lt_z}
use Rattle.std.proofs.lemmas.Cmp.{int_cmp_total, on_total, then_total, by_ranked, tied_itself}
use Rattle.std.specs.Cmp.{IsTotalOrder}
use Rattle.std.proofs.lemmas.Bool.{or_parts, or_from, both_ways, false_from_ne_true}
use Rattle.std.specs.declared.cmp.Ordering.{Ordering}
use Rattle.std.specs.declared.cmp.Ordering.TheVariants.{Less, Equal, Greater}
use Rattle.std.specs.Ordering.{int_cmp, is_eq, is_lt, is_gt, ordering_then, ordering_reverse, MatchOrdering}
use Rattle.overlay_geometry.specs.Points.{Point, Pair, point_cmp, point_eq, point_lt, pair_cmp, pair_eq, pair_lt, is_ordered, turn, is_in_box, is_end, lies_on, is_strictly_inside, moved}
use Rattle.overlay_geometry.specs.Meeting.{are_collinear}
use Rattle.overlay_geometry.specs.Laws.{TurnChangesSign, PointsAreOrdered, PairsAreOrdered, LiesOnByOrder, LiesInsideByOrder}
use Rattle.overlay_geometry.proofs.laws.lists.Keys.{is_lt-true}
use Rattle.overlay_geometry.proofs.laws.geometry.Polynomials.{as_D, difference-pos, diffs, D-eq, mul-nonneg, mul-nonpos, mul-nonpos_left, mul-nonneg_both, cancel-nonneg, cancel-nonpos, cancel-zero}
use Rattle.overlay_geometry.proofs.laws.integers.Tests.{le_equal}
use Rattle.overlay_geometry.proofs.laws.integers.Products.{minus_from, neg_zero, neg_swap}

-- ---- turns

pub turn_rotates : (p q r : Point) → turn p q r ≡ turn q r p
unfolding turn
turn_rotates p q r = rw (as_D p.x, as_D p.y, as_D q.x, as_D q.y, as_D r.x, as_D r.y) (simp diffs (D-eq _ _ _ _ (omega arith)))

-- two arguments in each other's place: the sign changes
pub turn_swaps_first : (p q r : Point) → turn p q r ≡ neg_ℤ (turn q p r)
unfolding turn
turn_swaps_first p q r = rw (as_D p.x, as_D p.y, as_D q.x, as_D q.y, as_D r.x, as_D r.y) (simp diffs (D-eq _ _ _ _ (omega arith)))

pub turn_swaps_last : (p q r : Point) → turn p q r ≡ neg_ℤ (turn p r q)
unfolding turn
turn_swaps_last p q r = rw (as_D p.x, as_D p.y, as_D q.x, as_D q.y, as_D r.x, as_D r.y) (simp diffs (D-eq _ _ _ _ (omega arith)))

pub turn_swaps_outer : (p q r : Point) → turn p q r ≡ neg_ℤ (turn r q p)
unfolding turn
turn_swaps_outer p q r = rw (as_D p.x, as_D p.y, as_D q.x, as_D q.y, as_D r.x, as_D r.y) (simp diffs (D-eq _ _ _ _ (omega arith)))

pub turn_same_last : (p q : Point) → turn p q q ≡ pos 0
unfolding turn
turn_same_last p q = rw (as_D p.x, as_D p.y, as_D q.x, as_D q.y) (simp diffs (D-eq _ _ _ _ (omega arith)))

pub turn_same_outer : (p q : Point) → turn p q p ≡ pos 0
unfolding turn
turn_same_outer p q = rw (as_D p.x, as_D p.y, as_D q.x, as_D q.y) (simp diffs (D-eq _ _ _ _ (omega arith)))

-- four points
pub turn_split : (p q r s : Point) → turn p q r +ℤ turn p r s ≡ turn p q s +ℤ turn q r s
unfolding turn
turn_split p q r s = rw (as_D p.x, as_D p.y, as_D q.x, as_D q.y, as_D r.x, as_D r.y, as_D s.x, as_D s.y) (simp diffs (D-eq _ _ _ _ (omega arith)))

pub turn_moved : (v p q r : Point) → turn (moved v p) (moved v q) (moved v r) ≡ turn p q r
unfolding turn
turn_moved v p q r = rw (as_D p.x, as_D p.y, as_D q.x, as_D q.y, as_D r.x, as_D r.y, as_D v.x, as_D v.y) (simp diffs (D-eq _ _ _ _ (omega arith)))

-- ---- the order of points

pub point_cmp_total : IsTotalOrder point_cmp
point_cmp_total = then_total (on_total (λ (p : Point). p.x) int_cmp_total) (on_total (λ (p : Point). p.y) int_cmp_total)

pub pair_cmp_total : IsTotalOrder pair_cmp
pair_cmp_total = then_total (on_total (λ (s : Pair). s.a) point_cmp_total) (on_total (λ (s : Pair). s.b) point_cmp_total)

-- p comes before q
abbrev pub Before : Point → Point → Type 0
Before p q = (p.x <ℤ q.x) ⊎ ((p.x ≡ q.x) × (p.y <ℤ q.y))

-- p comes before q or is q
abbrev pub UpTo : Point → Point → Type 0
UpTo p q = (p.x <ℤ q.x) ⊎ ((p.x ≡ q.x) × (p.y ≤ℤ q.y))

pub same_point : (p q : Point) → p.x ≡ q.x → p.y ≡ q.y → p ≡ q
same_point p q h k = ap₂ (λ (x : ℤ) (y : ℤ). let made : Point = record { x = x; y = y } in made) h k

pub before : (p q : Point) → IsTrue (point_lt p q) → Before p q
before p q h = grind (arith, ints)

pub from_before : (p q : Point) → Before p q → IsTrue (point_lt p q)
from_before p q h = grind (arith, ints)

pub not_before : (p q : Point) → IsFalse (point_lt p q) → UpTo q p
not_before p q h = grind (arith, ints)

pub same_by_eq : (p q : Point) → IsTrue (point_eq p q) → p ≡ q
same_by_eq p q h = grind (arith, ints)

-- points that compare as equal are equal
pub point_same : (p q : Point) → point_cmp p q ≡ Equal → p ≡ q
point_same p q h = same_by_eq p q (ap is_eq h)

from_greater : (p q : Point) → point_cmp p q ≡ Greater → Before q p
from_greater p q h = grind (arith, ints)

-- what the order's result says
pub point_ranked : (p q : Point) (r : Ordering) → r ≡ point_cmp p q → MatchOrdering r (Before p q) (p ≡ q) (Before q p)
point_ranked p q Less e = before p q (ap is_lt (sym e))
point_ranked p q Equal e = same_by_eq p q (ap is_eq (sym e))
point_ranked p q Greater e = from_greater p q (sym e)

pub point_eq_same : (p : Point) → IsTrue (point_eq p p)
point_eq_same p = grind (arith, ints)

pub not_same : (p q : Point) → IsFalse (point_eq p q) → p ≡ q → ⊥
not_same p q h e = both_ways (point_eq p q) h (rw e (point_eq_same q))

pub from_not_same : (p q : Point) → (p ≡ q → ⊥) → IsFalse (point_eq p q)
from_not_same p q h = false_from_ne_true (point_eq p q) (λ t. h (same_by_eq p q t))

pub Before-trans : (p q r : Point) → Before p q → Before q r → Before p r
Before-trans p q r h k = grind (arith, ints)

pub Before-irreflexive : (p : Point) → Before p p → ⊥
Before-irreflexive p h = omega (arith, ints)

pub by_order : {P : Type 0} (p q : Point) → (Before p q → P) → (p ≡ q → P) → (Before q p → P) → P
by_order p q f g h = by_ranked (Before p q) (p ≡ q) (Before q p) (point_cmp p q) (point_ranked p q (point_cmp p q) refl) (λ _. f) (λ _. g) (λ _. h)

pub UpTo-same : (p : Point) → UpTo p p
UpTo-same p = inr (refl, omega (arith, ints))

pub UpTo-Before : (p q : Point) → Before p q → UpTo p q
UpTo-Before p q (inl h) = inl h
UpTo-Before p q (inr (e, h)) = inr (e, omega (arith, ints))

pub by_UpTo : {P : Type 0} (p q : Point) → UpTo p q → (Before p q → P) → (p ≡ q → P) → P
by_UpTo p q h f g = by_order p q f g (λ back. absurd (omega (arith, ints)))

pub Before-UpTo-trans : (p q r : Point) → Before p q → UpTo q r → Before p r
Before-UpTo-trans p q r h k = grind (arith, ints)

pub UpTo-Before-trans : (p q r : Point) → UpTo p q → Before q r → Before p r
UpTo-Before-trans p q r h k = grind (arith, ints)

pub UpTo-trans : (p q r : Point) → UpTo p q → UpTo q r → UpTo p r
UpTo-trans p q r h k = grind (arith, ints)

pub UpTo-not_Before : (p q : Point) → UpTo p q → Before q p → ⊥
UpTo-not_Before p q h k = omega (arith, ints)

-- ---- points on the line through a and b

mean_plain : (wx wy ax ay bx by px py : ℤ) → (bx -ℤ ax) *ℤ (wx *ℤ py -ℤ wy *ℤ px) ≡ (bx -ℤ px) *ℤ (wx *ℤ ay -ℤ wy *ℤ ax) +ℤ (px -ℤ ax) *ℤ (wx *ℤ by -ℤ wy *ℤ bx) +ℤ wx *ℤ ((bx -ℤ ax) *ℤ (py -ℤ ay) -ℤ (by -ℤ ay) *ℤ (px -ℤ ax))
mean_plain wx wy ax ay bx by px py = rw (as_D wx, as_D wy, as_D ax, as_D ay, as_D bx, as_D by, as_D px, as_D py) (simp diffs (D-eq _ _ _ _ (omega arith)))

mean_plain_y : (wx wy ax ay bx by px py : ℤ) → (by -ℤ ay) *ℤ (wx *ℤ py -ℤ wy *ℤ px) ≡ (by -ℤ py) *ℤ (wx *ℤ ay -ℤ wy *ℤ ax) +ℤ (py -ℤ ay) *ℤ (wx *ℤ by -ℤ wy *ℤ bx) +ℤ wy *ℤ ((bx -ℤ ax) *ℤ (py -ℤ ay) -ℤ (by -ℤ ay) *ℤ (px -ℤ ax))
mean_plain_y wx wy ax ay bx by px py = rw (as_D wx, as_D wy, as_D ax, as_D ay, as_D bx, as_D by, as_D px, as_D py) (simp diffs (D-eq _ _ _ _ (omega arith)))

-- For every line through two points u, v: a point's turn is a mean of those of a and b, by its distances in x from the two, but for a multiple of its turn from a and b. The same by distances in y.
pub mean_x : (u v a b p : Point) → (b.x -ℤ a.x) *ℤ turn u v p ≡ (b.x -ℤ p.x) *ℤ turn u v a +ℤ (p.x -ℤ a.x) *ℤ turn u v b +ℤ (v.x -ℤ u.x) *ℤ turn a b p
unfolding turn
mean_x u v a b p = rw (minus_from u.x a.x b.x, minus_from u.x p.x b.x, minus_from u.x a.x p.x, minus_from u.y a.y p.y, minus_from u.y a.y b.y) (mean_plain (v.x -ℤ u.x) (v.y -ℤ u.y) (a.x -ℤ u.x) (a.y -ℤ u.y) (b.x -ℤ u.x) (b.y -ℤ u.y) (p.x -ℤ u.x) (p.y -ℤ u.y))

pub mean_y : (u v a b p : Point) → (b.y -ℤ a.y) *ℤ turn u v p ≡ (b.y -ℤ p.y) *ℤ turn u v a +ℤ (p.y -ℤ a.y) *ℤ turn u v b +ℤ (v.y -ℤ u.y) *ℤ turn a b p
unfolding turn
mean_y u v a b p = rw (minus_from u.y a.y b.y, minus_from u.y p.y b.y, minus_from u.y a.y p.y, minus_from u.x a.x p.x, minus_from u.x a.x b.x) (mean_plain_y (v.x -ℤ u.x) (v.y -ℤ u.y) (a.x -ℤ u.x) (a.y -ℤ u.y) (b.x -ℤ u.x) (b.y -ℤ u.y) (p.x -ℤ u.x) (p.y -ℤ u.y))

-- ---- slopes: c times the rise m is d times the run n

-- the line through a and b, seen from b
turn_from_b : (a b p : Point) → turn a b p ≡ (b.x -ℤ a.x) *ℤ (p.y -ℤ b.y) -ℤ (b.y -ℤ a.y) *ℤ (p.x -ℤ b.x)
unfolding turn
turn_from_b a b p = rw (as_D a.x, as_D a.y, as_D b.x, as_D b.y, as_D p.x, as_D p.y) (simp diffs (D-eq _ _ _ _ (omega arith)))

turn_from_a : (a b p : Point) → turn a b p ≡ (b.x -ℤ a.x) *ℤ (p.y -ℤ a.y) -ℤ (b.y -ℤ a.y) *ℤ (p.x -ℤ a.x)
unfolding turn
turn_from_a a b p = refl

no_rise : (c d m n : ℤ) → pos 0 <ℤ c → c *ℤ m -ℤ d *ℤ n ≡ pos 0 → n ≡ pos 0 → m ≡ pos 0
no_rise c d m n p h e = cancel-zero c m p (let k = rw e at h in omega (arith, ints))

no_run : (c d m n : ℤ) → pos 0 <ℤ d → c *ℤ m -ℤ d *ℤ n ≡ pos 0 → c ≡ pos 0 → n ≡ pos 0
no_run c d m n p h e = cancel-zero d n p (let k = rw e at h in omega (arith, ints))

-- where the line is not vertical, x determines the point on it
pub at_a : (a b p : Point) → a.x <ℤ b.x → turn a b p ≡ pos 0 → p.x ≡ a.x → p.y ≡ a.y
at_a a b p w h e =
    let z = no_rise (b.x -ℤ a.x) (b.y -ℤ a.y) (p.y -ℤ a.y) (p.x -ℤ a.x) (omega (arith, ints)) (sym (turn_from_a a b p) ∙ h) (omega (arith, ints)) in
    omega (arith, ints)

pub at_b : (a b p : Point) → a.x <ℤ b.x → turn a b p ≡ pos 0 → p.x ≡ b.x → p.y ≡ b.y
at_b a b p w h e =
    let z = no_rise (b.x -ℤ a.x) (b.y -ℤ a.y) (p.y -ℤ b.y) (p.x -ℤ b.x) (omega (arith, ints)) (sym (turn_from_b a b p) ∙ h) (omega (arith, ints)) in
    omega (arith, ints)

-- where it is vertical, all have one x
pub on_vertical : (a b p : Point) → a.x ≡ b.x → a.y <ℤ b.y → turn a b p ≡ pos 0 → p.x ≡ a.x
on_vertical a b p v w h =
    let z = no_run (b.x -ℤ a.x) (b.y -ℤ a.y) (p.y -ℤ a.y) (p.x -ℤ a.x) (omega (arith, ints)) (sym (turn_from_a a b p) ∙ h) (omega (arith, ints)) in
    omega (arith, ints)

-- How p lies between a and b on their line, in weights with a sum above 0: for every line its turn is the mean of theirs.
pub record Weights (a b p : Point) : Type 0 where
  pub of_a : ℤ
  pub of_b : ℤ
  pub total : pos 0 <ℤ (of_a +ℤ of_b)
  pub mean : (u v : Point) → (of_a +ℤ of_b) *ℤ turn u v p ≡ of_a *ℤ turn u v a +ℤ of_b *ℤ turn u v b
  pub before_b : Before p b → pos 0 <ℤ of_a
  pub up_to_b : UpTo p b → pos 0 ≤ℤ of_a
  pub after_b : Before b p → of_a <ℤ pos 0
  pub after_a : Before a p → pos 0 <ℤ of_b
  pub from_a : UpTo a p → pos 0 ≤ℤ of_b
  pub before_a : Before p a → of_b <ℤ pos 0

drop_last : (c m n k l z : ℤ) → k ≡ c → c *ℤ m ≡ n +ℤ l *ℤ z → z ≡ pos 0 → k *ℤ m ≡ n
drop_last c m n k l z e h o = rw e (let i = rw o at h in omega (arith, ints))

below_zero : (a b : ℤ) → a <ℤ b → (a -ℤ b) <ℤ pos 0
below_zero a b h = omega (arith, ints)

strict_x : (p q : Point) → (p.x ≡ q.x → p.y ≡ q.y) → Before p q → p.x <ℤ q.x
strict_x p q tells (inl h) = h
strict_x p q tells (inr (e, h)) = absurd (let k = tells e in omega (arith, ints))

weights_x : (a b p : Point) → a.x <ℤ b.x → turn a b p ≡ pos 0 → Weights a b p
weights_x a b p w h =
    let to_b = strict_x p b (at_b a b p w h) in
    let past_b = strict_x b p (λ e. sym (at_b a b p w h (sym e))) in
    let to_a = strict_x p a (at_a a b p w h) in
    let past_a = strict_x a p (λ e. sym (at_a a b p w h (sym e))) in
    record {
      of_a = b.x -ℤ p.x;
      of_b = p.x -ℤ a.x;
      total = omega (arith, ints);
      mean = λ u v. drop_last (b.x -ℤ a.x) (turn u v p) _ _ (v.x -ℤ u.x) (turn a b p) (omega (arith, ints)) (mean_x u v a b p) h;
      before_b = λ k. difference-pos p.x b.x (to_b k);
      up_to_b = λ k. omega (arith, ints);
      after_b = λ k. let less = past_b k in below_zero b.x p.x less;
      after_a = λ k. difference-pos a.x p.x (past_a k);
      from_a = λ k. omega (arith, ints);
      before_a = λ k. let less = to_a k in below_zero p.x a.x less;
    }

weights_y : (a b p : Point) → a.x ≡ b.x → a.y <ℤ b.y → turn a b p ≡ pos 0 → Weights a b p
weights_y a b p v w h =
    let x = on_vertical a b p v w h in
    record {
      of_a = b.y -ℤ p.y;
      of_b = p.y -ℤ a.y;
      total = omega (arith, ints);
      mean = λ u v. drop_last (b.y -ℤ a.y) (turn u v p) _ _ (v.y -ℤ u.y) (turn a b p) (omega (arith, ints)) (mean_y u v a b p) h;
      before_b = λ k. omega (arith, ints);
      up_to_b = λ k. omega (arith, ints);
      after_b = λ k. omega (arith, ints);
      after_a = λ k. omega (arith, ints);
      from_a = λ k. omega (arith, ints);
      before_a = λ k. omega (arith, ints);
    }

pub weights : (a b p : Point) → Before a b → turn a b p ≡ pos 0 → Weights a b p
weights a b p (inl w) h = weights_x a b p w h
weights a b p (inr (v, w)) h = weights_y a b p v w h

-- ---- points on an ordered pair

box_across : (s : Pair) (p : Point) → IsTrue (is_in_box s p) → s.a.x ≤ℤ s.b.x → (s.a.x ≤ℤ p.x) × (p.x ≤ℤ s.b.x)
unfolding is_in_box
box_across s p h k = grind (arith, ints)

box_upward : (s : Pair) (p : Point) → IsTrue (is_in_box s p) → s.a.y ≤ℤ s.b.y → (s.a.y ≤ℤ p.y) × (p.y ≤ℤ s.b.y)
unfolding is_in_box
box_upward s p h k = grind (arith, ints)

from_box_upward : (s : Pair) (p : Point) → s.a.x ≤ℤ p.x → p.x ≤ℤ s.b.x → s.a.y ≤ℤ p.y → p.y ≤ℤ s.b.y → IsTrue (is_in_box s p)
unfolding is_in_box
from_box_upward s p h k l m = grind (arith, ints)

from_box_downward : (s : Pair) (p : Point) → s.a.x ≤ℤ p.x → p.x ≤ℤ s.b.x → s.b.y ≤ℤ p.y → p.y ≤ℤ s.a.y → IsTrue (is_in_box s p)
unfolding is_in_box
from_box_downward s p h k l m = grind (arith, ints)

pub lies_on_parts : (s : Pair) (p : Point) → IsTrue (lies_on s p) → (turn s.a s.b p ≡ pos 0) × IsTrue (is_in_box s p)
unfolding lies_on
lies_on_parts s p h = grind (arith, ints)

lies_on_from_parts : (s : Pair) (p : Point) → turn s.a s.b p ≡ pos 0 → IsTrue (is_in_box s p) → IsTrue (lies_on s p)
unfolding lies_on
lies_on_from_parts s p h k = grind (arith, ints)

pub inside_parts : (s : Pair) (p : Point) → IsTrue (is_strictly_inside s p) → IsTrue (lies_on s p) × IsFalse (is_end s p)
unfolding is_strictly_inside
inside_parts s p h = grind (arith, ints)

pub inside_from_parts : (s : Pair) (p : Point) → IsTrue (lies_on s p) → IsFalse (is_end s p) → IsTrue (is_strictly_inside s p)
unfolding is_strictly_inside
inside_from_parts s p h k = grind (arith, ints)

UpTo-by_x : (p q : Point) → p.x ≤ℤ q.x → (p.x ≡ q.x → p.y ≤ℤ q.y) → UpTo p q
UpTo-by_x p q h tells = by_lt_z p.x q.x (λ less. inl less) (λ (back : q.x ≤ℤ p.x). let e : p.x ≡ q.x = omega (arith, ints) in inr (e, tells e))

box_order : (s : Pair) (p : Point) → Before s.a s.b → turn s.a s.b p ≡ pos 0 → IsTrue (is_in_box s p) → UpTo s.a p × UpTo p s.b
box_order s p (inl w) h b =
    let r = box_across s p b (omega (arith, ints)) in
    (UpTo-by_x s.a p r.0 (λ e. le_equal _ _ (sym (at_a s.a s.b p w h (sym e)))), UpTo-by_x p s.b r.1 (λ e. le_equal _ _ (at_b s.a s.b p w h e)))
box_order s p (inr (v, w)) h b =
    let r = box_upward s p b (omega (arith, ints)) in
    let x = on_vertical s.a s.b p v w h in
    (inr (sym x, r.0), inr (x ∙ v, r.1))

pub UpTo-x : (p q : Point) → UpTo p q → p.x ≤ℤ q.x
UpTo-x p q h = omega (arith, ints)

pub Before-x : (p q : Point) → Before p q → p.x ≤ℤ q.x
Before-x p q h = omega (arith, ints)

pub ordered_x : (s : Pair) → IsTrue (is_ordered s) → s.a.x ≤ℤ s.b.x
ordered_x s h = Before-x s.a s.b (before s.a s.b h)

pub starts_in_order : (s t : Pair) → is_gt (pair_cmp s t) ≡ false → s.a.x ≤ℤ t.a.x
starts_in_order s t h = grind (arith, ints)

equal_sides : (c d m n : ℤ) → c *ℤ m -ℤ d *ℤ n ≡ pos 0 → c *ℤ m ≡ d *ℤ n
equal_sides c d m n h = omega (arith, ints)

rises : (c d m n : ℤ) → pos 0 <ℤ c → c *ℤ m -ℤ d *ℤ n ≡ pos 0 → pos 0 ≤ℤ (d *ℤ n) → pos 0 ≤ℤ m
rises c d m n p h k = cancel-nonneg c m p (rw (equal_sides c d m n h) k)

falls : (c d m n : ℤ) → pos 0 <ℤ c → c *ℤ m -ℤ d *ℤ n ≡ pos 0 → (d *ℤ n) ≤ℤ pos 0 → m ≤ℤ pos 0
falls c d m n p h k = cancel-nonpos c m p (rw (equal_sides c d m n h) k)

order_box : (s : Pair) (p : Point) → Before s.a s.b → turn s.a s.b p ≡ pos 0 → UpTo s.a p → UpTo p s.b → IsTrue (is_in_box s p)
order_box s p (inl w) h k l =
    let dx : pos 0 <ℤ (s.b.x -ℤ s.a.x) = omega (arith, ints) in
    let from_a = sym (turn_from_a s.a s.b p) ∙ h in
    let from_b = sym (turn_from_b s.a s.b p) ∙ h in
    let xa = UpTo-x s.a p k in
    let xb = UpTo-x p s.b l in
    let na : pos 0 ≤ℤ (p.x -ℤ s.a.x) = omega (arith, ints) in
    let nb : (p.x -ℤ s.b.x) ≤ℤ pos 0 = omega (arith, ints) in
    by_lt_z s.b.y s.a.y
    (λ down.
    let d : (s.b.y -ℤ s.a.y) ≤ℤ pos 0 = omega (arith, ints) in
    let ma = falls (s.b.x -ℤ s.a.x) (s.b.y -ℤ s.a.y) (p.y -ℤ s.a.y) (p.x -ℤ s.a.x) dx from_a (mul-nonpos_left (s.b.y -ℤ s.a.y) (p.x -ℤ s.a.x) d na) in
    let mb = rises (s.b.x -ℤ s.a.x) (s.b.y -ℤ s.a.y) (p.y -ℤ s.b.y) (p.x -ℤ s.b.x) dx from_b (mul-nonneg_both (s.b.y -ℤ s.a.y) (p.x -ℤ s.b.x) d nb) in
    from_box_downward s p xa xb (omega (arith, ints)) (omega (arith, ints)))
    (λ up.
    let d : pos 0 ≤ℤ (s.b.y -ℤ s.a.y) = omega (arith, ints) in
    let ma = rises (s.b.x -ℤ s.a.x) (s.b.y -ℤ s.a.y) (p.y -ℤ s.a.y) (p.x -ℤ s.a.x) dx from_a (mul-nonneg (s.b.y -ℤ s.a.y) (p.x -ℤ s.a.x) d na) in
    let mb = falls (s.b.x -ℤ s.a.x) (s.b.y -ℤ s.a.y) (p.y -ℤ s.b.y) (p.x -ℤ s.b.x) dx from_b (mul-nonpos (s.b.y -ℤ s.a.y) (p.x -ℤ s.b.x) d nb) in
    from_box_upward s p xa xb (omega (arith, ints)) (omega (arith, ints)))
order_box s p (inr (v, w)) h k l =
    let x = on_vertical s.a s.b p v w h in
    from_box_upward s p (omega (arith, ints)) (omega (arith, ints)) (omega (arith, ints)) (omega (arith, ints))

-- p lies on the pair: on its line, and in the order of points from a to b
pub lies_on_order : (s : Pair) (p : Point) → Before s.a s.b → IsTrue (lies_on s p) → (turn s.a s.b p ≡ pos 0) × UpTo s.a p × UpTo p s.b
lies_on_order s p o h =
    let parts = lies_on_parts s p h in
    let r = box_order s p o parts.0 parts.1 in
    (parts.0, r.0, r.1)

pub lies_on_from_order : (s : Pair) (p : Point) → Before s.a s.b → turn s.a s.b p ≡ pos 0 → UpTo s.a p → UpTo p s.b → IsTrue (lies_on s p)
lies_on_from_order s p o h k l = lies_on_from_parts s p h (order_box s p o h k l)

-- p lies strictly inside the pair: on its line, and strictly between a and b
pub not_end : (s : Pair) (p : Point) → IsFalse (is_end s p) → ((p ≡ s.a) → ⊥) × ((p ≡ s.b) → ⊥)
not_end s p h =
    let parts = or_parts (point_eq p s.a) (point_eq p s.b) h in
    (not_same p s.a parts.0, not_same p s.b parts.1)

pub not_end_from : (s : Pair) (p : Point) → ((p ≡ s.a) → ⊥) → ((p ≡ s.b) → ⊥) → IsFalse (is_end s p)
not_end_from s p h k = or_from (point_eq p s.a) (point_eq p s.b) (from_not_same p s.a h) (from_not_same p s.b k)

pub inside_order : (s : Pair) (p : Point) → Before s.a s.b → IsTrue (is_strictly_inside s p) → (turn s.a s.b p ≡ pos 0) × Before s.a p × Before p s.b
inside_order s p o h =
    let parts = inside_parts s p h in
    let r = lies_on_order s p o parts.0 in
    let n = not_end s p parts.1 in
    (r.0, by_UpTo s.a p r.1 (λ k. k) (λ e. absurd (n.0 (sym e))), by_UpTo p s.b r.2 (λ k. k) (λ e. absurd (n.1 e)))

pub inside_from_order : (s : Pair) (p : Point) → Before s.a s.b → turn s.a s.b p ≡ pos 0 → Before s.a p → Before p s.b → IsTrue (is_strictly_inside s p)
inside_from_order s p o h k l =
    inside_from_parts s p (lies_on_from_order s p o h (UpTo-Before s.a p k) (UpTo-Before p s.b l))
    (not_end_from s p (λ e. Before-irreflexive p (rw (← e) at k)) (λ e. Before-irreflexive p (rw (← e) at l)))

-- ---- collinear points and pairs

pub mean_zero : (k m n f g z : ℤ) → pos 0 <ℤ k → k *ℤ z ≡ m *ℤ f +ℤ n *ℤ g → f ≡ pos 0 → g ≡ pos 0 → z ≡ pos 0
mean_zero k m n f g z p e hf hg = cancel-zero k z p (let i = rw (hf, hg) at e in omega (arith, ints))

-- what has no turn from the line's two points has none from any other of its points
pub Weights-zero : (a b p u v : Point) → Weights a b p → turn u v a ≡ pos 0 → turn u v b ≡ pos 0 → turn u v p ≡ pos 0
Weights-zero a b p u v w h k = mean_zero (w.of_a +ℤ w.of_b) w.of_a w.of_b (turn u v a) (turn u v b) (turn u v p) w.total (w.mean u v) h k

-- all points of one line: with two different ones, no three of the others turn
pub collinear : (a b p q r : Point) → Before a b → turn a b p ≡ pos 0 → turn a b q ≡ pos 0 → turn a b r ≡ pos 0 → turn p q r ≡ pos 0
collinear a b p q r o hp hq hr =
    let apq = Weights-zero a b q a p (weights a b q o hq) (turn_same_outer a p) (neg_zero _ _ (turn_swaps_last a p b) hp) in
    let bpq = Weights-zero a b q b p (weights a b q o hq) (turn_rotates b p a ∙ turn_rotates p a b ∙ hp) (turn_same_outer b p) in
    Weights-zero a b r p q (weights a b r o hr) (turn_rotates p q a ∙ turn_rotates q a p ∙ apq) (turn_rotates p q b ∙ turn_rotates q b p ∙ bpq)

pub are_collinear_turns : (s t : Pair) → IsTrue (are_collinear s t) → (turn s.a s.b t.a ≡ pos 0) × (turn s.a s.b t.b ≡ pos 0)
unfolding are_collinear
are_collinear_turns s t h = grind (arith, ints)

pub are_collinear_from : (s t : Pair) → turn s.a s.b t.a ≡ pos 0 → turn s.a s.b t.b ≡ pos 0 → IsTrue (are_collinear s t)
unfolding are_collinear
are_collinear_from s t h k = grind (arith, ints)

pub are_collinear_swap : (s t : Pair) → Before s.a s.b → IsTrue (are_collinear s t) → IsTrue (are_collinear t s)
are_collinear_swap s t o h =
    let e = are_collinear_turns s t h in
    are_collinear_from t s (collinear s.a s.b t.a t.b s.a o e.0 e.1 (turn_same_outer s.a s.b)) (collinear s.a s.b t.a t.b s.b o e.0 e.1 (turn_same_last s.a s.b))

-- the same for two points that differ, in either order
pub collinear_apart : (a b p q r : Point) → (a ≡ b → ⊥) → turn a b p ≡ pos 0 → turn a b q ≡ pos 0 → turn a b r ≡ pos 0 → turn p q r ≡ pos 0
collinear_apart a b p q r n hp hq hr =
    by_order a b (λ o. collinear a b p q r o hp hq hr) (λ e. absurd (n e))
    (λ o. collinear b a p q r o (neg_zero _ _ (turn_swaps_first b a p) hp) (neg_zero _ _ (turn_swaps_first b a q) hq) (neg_zero _ _ (turn_swaps_first b a r) hr))

-- ---- the order of pairs

pub same_pair : (s t : Pair) → s.a ≡ t.a → s.b ≡ t.b → s ≡ t
same_pair s t h k = ap₂ (λ (a : Point) (b : Point). let made : Pair = record { a = a; b = b } in made) h k

-- s comes before t
abbrev pub PairBefore : Pair → Pair → Type 0
PairBefore s t = Before s.a t.a ⊎ ((s.a ≡ t.a) × Before s.b t.b)

then_less : (o r : Ordering) → is_lt (ordering_then o r) ≡ true → (o ≡ Less) ⊎ ((o ≡ Equal) × (r ≡ Less))
then_less Less r h = inl refl
then_less Equal Less h = inr (refl, refl)
then_less Equal Equal h = absurd (both_ways false refl h)
then_less Equal Greater h = absurd (both_ways false refl h)
then_less Greater r h = absurd (both_ways false refl h)

then_equal : (o r : Ordering) → is_eq (ordering_then o r) ≡ true → (o ≡ Equal) × (r ≡ Equal)
then_equal Less r h = absurd (both_ways false refl h)
then_equal Equal Less h = absurd (both_ways false refl h)
then_equal Equal Equal h = (refl, refl)
then_equal Equal Greater h = absurd (both_ways false refl h)
then_equal Greater r h = absurd (both_ways false refl h)

pub pair_before : (s t : Pair) → IsTrue (pair_lt s t) → PairBefore s t
pair_before s t h = ⊎_elim (λ e. inl (before s.a t.a (ap is_lt e))) (λ e. inr (same_by_eq s.a t.a (ap is_eq e.0), before s.b t.b (ap is_lt e.1))) (then_less (point_cmp s.a t.a) (point_cmp s.b t.b) h)

pub same_pair_by_eq : (s t : Pair) → IsTrue (pair_eq s t) → s ≡ t
same_pair_by_eq s t h = let e = then_equal (point_cmp s.a t.a) (point_cmp s.b t.b) h in same_pair s t (same_by_eq s.a t.a (ap is_eq e.0)) (same_by_eq s.b t.b (ap is_eq e.1))

-- pairs that compare as equal are equal
pub pair_same : (s t : Pair) → pair_cmp s t ≡ Equal → s ≡ t
pair_same s t h = same_pair_by_eq s t (ap is_eq h)

pub pair_cmp_same : (s : Pair) → pair_cmp s s ≡ Equal
pair_cmp_same s = tied_itself pair_cmp_total s

pub pair_eq_same : (s : Pair) → IsTrue (pair_eq s s)
pair_eq_same s = ap is_eq (pair_cmp_same s)

pub not_same_pair : (s t : Pair) → IsFalse (pair_eq s t) → s ≡ t → ⊥
not_same_pair s t h e = both_ways (pair_eq s t) h (rw e (pair_eq_same t))

pub from_not_same_pair : (s t : Pair) → (s ≡ t → ⊥) → IsFalse (pair_eq s t)
from_not_same_pair s t h = false_from_ne_true (pair_eq s t) (λ e. h (same_pair_by_eq s t e))

pub point_lt-trans : (p q r : Point) → IsTrue (point_lt p q) → IsTrue (point_lt q r) → IsTrue (point_lt p r)
point_lt-trans p q r h k = ap is_lt (point_cmp_total.trans p q r (is_lt-true _ h) (is_lt-true _ k))

pub pair_lt-trans : (s t u : Pair) → IsTrue (pair_lt s t) → IsTrue (pair_lt t u) → IsTrue (pair_lt s u)
pair_lt-trans s t u h k = ap is_lt (pair_cmp_total.trans s t u (is_lt-true _ h) (is_lt-true _ k))

pub point_lt-irreflexive : (p : Point) → IsFalse (point_lt p p)
point_lt-irreflexive p = ap is_lt (tied_itself point_cmp_total p)

pub pair_lt-irreflexive : (s : Pair) → IsFalse (pair_lt s s)
pair_lt-irreflexive s = ap is_lt (pair_cmp_same s)

by_cmp : {P : Type 0} (o : Ordering) → (o ≡ Less → P) → (o ≡ Equal → P) → (o ≡ Greater → P) → P
by_cmp Less f g h = f refl
by_cmp Equal f g h = g refl
by_cmp Greater f g h = h refl

-- the one, the other, or both are one
pub by_pair_order : {P : Type 0} (s t : Pair) → (IsTrue (pair_lt s t) → P) → (s ≡ t → P) → (IsTrue (pair_lt t s) → P) → P
by_pair_order s t f g h =
    by_cmp (pair_cmp s t) (λ e. f (ap is_lt e)) (λ e. g (same_pair_by_eq s t (ap is_eq e)))
    (λ e. h (ap is_lt (pair_cmp_total.antisymm t s ∙ ap ordering_reverse e)))

-- ---- the laws of turns and orders, as contracts name them

pub turn_changes_sign : TurnChangesSign
turn_changes_sign p q r = (neg_swap _ _ (turn_swaps_first p q r), neg_swap _ _ (turn_swaps_last p q r), neg_swap _ _ (turn_swaps_outer p q r))

pub points_are_ordered : PointsAreOrdered
points_are_ordered = (point_cmp_total, λ p q. (point_same p q, λ e. subst (λ (r : Point). point_cmp p r ≡ Equal) e (tied_itself point_cmp_total p)))

pub pairs_are_ordered : PairsAreOrdered
pairs_are_ordered = (pair_cmp_total, λ s t. (pair_same s t, λ e. subst (λ (r : Pair). pair_cmp s r ≡ Equal) e (pair_cmp_same s)))

UpTo-not_less : (p q : Point) → UpTo p q → IsFalse (point_lt q p)
UpTo-not_less p q h = false_from_ne_true (point_lt q p) (λ t. UpTo-not_Before p q h (before q p t))

pub lies_on_by_order : LiesOnByOrder
lies_on_by_order s p o = (
  λ h. let r = lies_on_order s p (before s.a s.b o) h in (r.0, UpTo-not_less s.a p r.1, UpTo-not_less p s.b r.2),
  λ r. lies_on_from_order s p (before s.a s.b o) r.0 (not_before p s.a r.1) (not_before s.b p r.2),
)

pub lies_inside_by_order : LiesInsideByOrder
lies_inside_by_order s p o = (
  λ h. let r = inside_order s p (before s.a s.b o) h in (r.0, from_before s.a p r.1, from_before p s.b r.2),
  λ r. inside_from_order s p (before s.a s.b o) r.0 (before s.a p r.1) (before p s.b r.2),
)

-- ---- equal points, number by number

pub is_eq-then : (a b : Ordering) → is_eq (ordering_then a b) ≡ (is_eq a && is_eq b)
is_eq-then Less b = refl
is_eq-then Equal b = refl
is_eq-then Greater b = refl

pub point_eq-parts : (p q : Point) → point_eq p q ≡ (is_eq (int_cmp p.x q.x) && is_eq (int_cmp p.y q.y))
point_eq-parts p q = is_eq-then (int_cmp p.x q.x) (int_cmp p.y q.y)
