-- A place strictly inside a segment, and where it lies with respect to the other segments of an arrangement: on the left or on the right of
-- each, or on its line and beyond an end. Times the bottom of the place all points are whole, so what holds of whole points holds of it.
use Rattle.std.proofs.Common.{◌≡◌, ap, refl, sym, subst, ◌∙◌, arith, ℕ, ◌+◌, ◌<◌, inl, inr, IsTrue}
use Rattle.std.specs.Prelude.{ℤ, pos, negsuc, ◌+ℤ◌, ◌-ℤ◌, ◌*ℤ◌, neg_ℤ, ◌<ℤ◌, unsigned_abs, ◌⊎◌}
use Rattle.std.proofs.lemmas.Int.{ints}
use Rattle.std.proofs.lemmas.Bool.{cases_Bool}
use Rattle.overlay_geometry.specs.Points.{Point, Pair, turn, is_strictly_inside}
use Rattle.overlay_geometry.specs.Below.{width}
use Rattle.overlay_geometry.specs.Meeting.{do_cross, are_collinear}
use Rattle.overlay_geometry.proofs.laws.geometry.Polynomials.{as_D, diffs, D-eq, mul-pos, mul-lt_left, cancel-lt, cancel-eq, cancel-pos, cancel-neg, cancel-zero, from_difference-pos, difference-pos}
use Rattle.overlay_geometry.proofs.laws.geometry.Points.{Before, Before-trans, by_order, same_pair, inside_from_order, are_collinear_turns, are_collinear_from, are_collinear_swap}
use Rattle.overlay_geometry.proofs.laws.integers.Tests.{by_sign}
use Rattle.overlay_geometry.proofs.laws.integers.Products.{minus_times, times_comm, times_nothing}
use Rattle.overlay_base.specs.Places.{RationalPoint}
use Rattle.overlay_base.specs.Rays.{place_turn}
use Rattle.overlay_base.proofs.laws.geometry.Apart.{Opposite, do_cross_parts, do_cross_from}
use Rattle.overlay_sweep.proofs.laws.columns.ColumnOrder.{IsApart}
use Rattle.overlay_cuts.proofs.laws.planar.Meetings.{crosses_at_inside}

-- ---- points, times a number

abbrev pub enlarged : ℕ → Point → Point
enlarged d p = record { x = p.x *ℤ pos d; y = p.y *ℤ pos d }

abbrev pub enlarged_pair : ℕ → Pair → Pair
enlarged_pair d s = record { a = enlarged d s.a; b = enlarged d s.b }

-- the numbers of a place as a whole point
abbrev pub tops : RationalPoint → Point
tops p = record { x = p.x; y = p.y }

product : (a b c e d : ℤ) → (a *ℤ d) *ℤ (b *ℤ d) -ℤ (c *ℤ d) *ℤ (e *ℤ d) ≡ (d *ℤ d) *ℤ (a *ℤ b -ℤ c *ℤ e)
product a b c e d = rw (as_D a, as_D b, as_D c, as_D e, as_D d) (simp diffs (D-eq _ _ _ _ (omega arith)))

pub turn_enlarged : (d : ℕ) (p q r : Point) → turn (enlarged d p) (enlarged d q) (enlarged d r) ≡ (pos d *ℤ pos d) *ℤ turn p q r
unfolding turn
turn_enlarged d p q r =
    plain (q.x -ℤ p.x) (r.y -ℤ p.y) (q.y -ℤ p.y) (r.x -ℤ p.x) (pos d) _ _ _ _
    (sym (minus_times q.x p.x (pos d))) (sym (minus_times r.y p.y (pos d))) (sym (minus_times q.y p.y (pos d))) (sym (minus_times r.x p.x (pos d)))
  where
    plain : (a b c e d a' b' c' e' : ℤ) → a' ≡ a *ℤ d → b' ≡ b *ℤ d → c' ≡ c *ℤ d → e' ≡ e *ℤ d → a' *ℤ b' -ℤ c' *ℤ e' ≡ (d *ℤ d) *ℤ (a *ℤ b -ℤ c *ℤ e)
    plain a b c e d a' b' c' e' h i j k = rw (h, i, j, k) (product a b c e d)

pub turn_tops : (u : Pair) (p : RationalPoint) → turn (enlarged p.bottom u.a) (enlarged p.bottom u.b) (tops p) ≡ pos p.bottom *ℤ place_turn u p
unfolding turn
turn_tops u p =
    plain (width u) (u.b.y -ℤ u.a.y) (p.y -ℤ u.a.y *ℤ pos p.bottom) (p.x -ℤ u.a.x *ℤ pos p.bottom) (pos p.bottom) _ _
    (sym (minus_times u.b.x u.a.x (pos p.bottom))) (sym (minus_times u.b.y u.a.y (pos p.bottom)))
  where
    ring : (w r m n d : ℤ) → (w *ℤ d) *ℤ m -ℤ (r *ℤ d) *ℤ n ≡ d *ℤ (w *ℤ m -ℤ r *ℤ n)
    ring w r m n d = rw (as_D w, as_D r, as_D m, as_D n, as_D d) (simp diffs (D-eq _ _ _ _ (omega arith)))

    plain : (w r m n d w' r' : ℤ) → w' ≡ w *ℤ d → r' ≡ r *ℤ d → w' *ℤ m -ℤ r' *ℤ n ≡ d *ℤ (w *ℤ m -ℤ r *ℤ n)
    plain w r m n d w' r' h i = rw (h, i) (ring w r m n d)

pub pos_some : (d : ℕ) → 0 < d → pos 0 <ℤ pos d
pos_some d h = omega (arith, ints)

pub times_less : (u v : ℤ) (d : ℕ) → 0 < d → u <ℤ v → (u *ℤ pos d) <ℤ (v *ℤ pos d)
times_less u v d h l = plain _ _ _ _ (times_comm (pos d) u) (times_comm (pos d) v) (mul-lt_left (pos d) u v (pos_some d h) l)
  where
    plain : (a b a' b' : ℤ) → a ≡ a' → b ≡ b' → a <ℤ b → a' <ℤ b'
    plain a b a' b' e f l = omega (arith, ints, e, f, l)

pub less_of_times : (u v : ℤ) (d : ℕ) → 0 < d → (u *ℤ pos d) <ℤ (v *ℤ pos d) → u <ℤ v
less_of_times u v d h l = cancel-lt (pos d) u v (pos_some d h) (plain _ _ _ _ (times_comm u (pos d)) (times_comm v (pos d)) l)
  where
    plain : (a b a' b' : ℤ) → a ≡ a' → b ≡ b' → a <ℤ b → a' <ℤ b'
    plain a b a' b' e f l = omega (arith, ints, e, f, l)

pub same_of_times : (u v : ℤ) (d : ℕ) → 0 < d → u *ℤ pos d ≡ v *ℤ pos d → u ≡ v
same_of_times u v d h e = cancel-eq (pos d) u v (pos_some d h) (times_comm (pos d) u ∙ e ∙ times_comm v (pos d))

pub Before-enlarged : (d : ℕ) (p q : Point) → 0 < d → Before p q → Before (enlarged d p) (enlarged d q)
Before-enlarged d p q h (inl l) = inl (times_less p.x q.x d h l)
Before-enlarged d p q h (inr (e, l)) = inr (ap (λ (z : ℤ). z *ℤ pos d) e, times_less p.y q.y d h l)

pub Before-shrunk : (d : ℕ) (p q : Point) → 0 < d → Before (enlarged d p) (enlarged d q) → Before p q
Before-shrunk d p q h (inl l) = inl (less_of_times p.x q.x d h l)
Before-shrunk d p q h (inr (e, l)) = inr (same_of_times p.x q.x d h e, less_of_times p.y q.y d h l)

-- ---- a place strictly inside a segment, and off another one

pub record IsInside (s : Pair) (p : RationalPoint) : Type 0 where
  pub on_line : place_turn s p ≡ pos 0
  pub after_a : Before (enlarged p.bottom s.a) (tops p)
  pub before_b : Before (tops p) (enlarged p.bottom s.b)

-- on the line of u, and before its start or after its end
abbrev pub IsBeyondEnds : Pair → RationalPoint → Type 0
IsBeyondEnds u p = (place_turn u p ≡ pos 0) × (Before (tops p) (enlarged p.bottom u.a) ⊎ Before (enlarged p.bottom u.b) (tops p))

abbrev pub IsOff : Pair → RationalPoint → Type 0
IsOff u p = (place_turn u p <ℤ pos 0) ⊎ ((pos 0 <ℤ place_turn u p) ⊎ IsBeyondEnds u p)

square_some : (d : ℕ) → 0 < d → pos 0 <ℤ (pos d *ℤ pos d)
square_some d h = mul-pos (pos d) (pos d) (pos_some d h) (pos_some d h)

zero_of_enlarged : (d : ℕ) (p q r : Point) → 0 < d → turn (enlarged d p) (enlarged d q) (enlarged d r) ≡ pos 0 → turn p q r ≡ pos 0
zero_of_enlarged d p q r h e = cancel-zero (pos d *ℤ pos d) (turn p q r) (square_some d h) (sym (turn_enlarged d p q r) ∙ e)

opposite_of_times : (c f g f' g' : ℤ) → pos 0 <ℤ c → f' ≡ c *ℤ f → g' ≡ c *ℤ g → Opposite f' g' → Opposite f g
opposite_of_times c f g f' g' h i j (inl o) = inl (cancel-neg c f h (subst (λ (z : ℤ). z <ℤ pos 0) i o.0), cancel-pos c g h (subst (λ (z : ℤ). pos 0 <ℤ z) j o.1))
opposite_of_times c f g f' g' h i j (inr o) = inr (cancel-pos c f h (subst (λ (z : ℤ). pos 0 <ℤ z) i o.0), cancel-neg c g h (subst (λ (z : ℤ). z <ℤ pos 0) j o.1))

pub do_cross-shrunk : (d : ℕ) (s t : Pair) → 0 < d → IsTrue (do_cross (enlarged_pair d s) (enlarged_pair d t)) → IsTrue (do_cross s t)
do_cross-shrunk d s t h c =
    let parts = do_cross_parts (enlarged_pair d s) (enlarged_pair d t) c in
    do_cross_from s t
    (opposite_of_times (pos d *ℤ pos d) _ _ _ _ (square_some d h) (turn_enlarged d s.a s.b t.a) (turn_enlarged d s.a s.b t.b) parts.0)
    (opposite_of_times (pos d *ℤ pos d) _ _ _ _ (square_some d h) (turn_enlarged d t.a t.b s.a) (turn_enlarged d t.a t.b s.b) parts.1)

module _ (s u : Pair) (p : RationalPoint) (some : 0 < p.bottom) (os : Before s.a s.b) (ou : Before u.a u.b) (i : IsInside s p) (apart : IsApart s u) (other : s ≡ u → ⊥) where
  line_of_tops : turn (enlarged p.bottom s.a) (enlarged p.bottom s.b) (tops p) ≡ pos 0
  line_of_tops = turn_tops s p ∙ times_nothing (pos p.bottom) (place_turn s p) i.on_line

  -- a whole point at that place lies strictly inside s
  whole_inside : (e : Point) → tops p ≡ enlarged p.bottom e → IsTrue (is_strictly_inside s e)
  whole_inside e same =
      inside_from_order s e os
      (zero_of_enlarged p.bottom s.a s.b e some (subst (λ (q : Point). turn (enlarged p.bottom s.a) (enlarged p.bottom s.b) q ≡ pos 0) same line_of_tops))
      (Before-shrunk p.bottom s.a e some (subst (λ (q : Point). Before (enlarged p.bottom s.a) q) same i.after_a))
      (Before-shrunk p.bottom e s.b some (subst (λ (q : Point). Before q (enlarged p.bottom s.b)) same i.before_b))

  module _ (zero : place_turn u p ≡ pos 0) (after : Before (enlarged p.bottom u.a) (tops p)) (ahead : Before (tops p) (enlarged p.bottom u.b)) where
    inside_first : IsTrue (is_strictly_inside (enlarged_pair p.bottom s) (tops p))
    inside_first = inside_from_order (enlarged_pair p.bottom s) (tops p) (Before-enlarged p.bottom s.a s.b some os) line_of_tops i.after_a i.before_b

    inside_second : IsTrue (is_strictly_inside (enlarged_pair p.bottom u) (tops p))
    inside_second = inside_from_order (enlarged_pair p.bottom u) (tops p) (Before-enlarged p.bottom u.a u.b some ou) (turn_tops u p ∙ times_nothing (pos p.bottom) (place_turn u p) zero) after ahead

    first_reaches : Before s.a u.b
    first_reaches = Before-shrunk p.bottom s.a u.b some (Before-trans _ _ _ i.after_a ahead)

    second_reaches : Before u.a s.b
    second_reaches = Before-shrunk p.bottom u.a s.b some (Before-trans _ _ _ after i.before_b)

    same_ends : s.a ≡ u.a → turn u.a u.b s.b ≡ pos 0 → turn s.a s.b u.b ≡ pos 0 → ⊥
    same_ends e us su =
        by_order s.b u.b
        (λ l. apart.b_around (inside_from_order u s.b ou us second_reaches l))
        (λ f. other (same_pair s u e f))
        (λ l. apart.b_inside (inside_from_order s u.b os su first_reaches l))

    on_one_line : IsTrue (are_collinear s u) → ⊥
    on_one_line c =
        let su = are_collinear_turns s u c in
        let us = are_collinear_turns u s (are_collinear_swap s u os c) in
        by_order s.a u.a
        (λ l. apart.a_inside (inside_from_order s u.a os su.0 l second_reaches))
        (λ e. same_ends e us.1 su.1)
        (λ l. apart.a_around (inside_from_order u s.a ou us.0 l first_reaches))

    collinear_shrunk : IsTrue (are_collinear (enlarged_pair p.bottom s) (enlarged_pair p.bottom u)) → IsTrue (are_collinear s u)
    collinear_shrunk c =
        let both = are_collinear_turns (enlarged_pair p.bottom s) (enlarged_pair p.bottom u) c in
        let first = zero_of_enlarged p.bottom s.a s.b u.a some both.0 in
        let second = zero_of_enlarged p.bottom s.a s.b u.b some both.1 in
        are_collinear_from s u first second

    not_inside_both : ⊥
    not_inside_both = elim (cases_Bool (are_collinear (enlarged_pair p.bottom s) (enlarged_pair p.bottom u))) [
      | inl c ↦ on_one_line (collinear_shrunk c)
      | inr c ↦ apart.cross (do_cross-shrunk p.bottom s u some
          (crosses_at_inside (enlarged_pair p.bottom s) (enlarged_pair p.bottom u) (tops p) (Before-enlarged p.bottom s.a s.b some os) (Before-enlarged p.bottom u.a u.b some ou) inside_first inside_second c))
    ]

  beyond_b : place_turn u p ≡ pos 0 → Before (enlarged p.bottom u.a) (tops p) → Before (enlarged p.bottom u.b) (tops p)
  beyond_b zero after =
      by_order (tops p) (enlarged p.bottom u.b)
      (λ l. absurd (not_inside_both zero after l))
      (λ e. absurd (apart.b_inside (whole_inside u.b e)))
      (λ l. l)

  beyond_ends : place_turn u p ≡ pos 0 → Before (tops p) (enlarged p.bottom u.a) ⊎ Before (enlarged p.bottom u.b) (tops p)
  beyond_ends zero =
      by_order (tops p) (enlarged p.bottom u.a)
      (λ l. inl l)
      (λ e. absurd (apart.a_inside (whole_inside u.a e)))
      (λ l. inr (beyond_b zero l))

  pub off_others : IsOff u p
  off_others = by_sign (place_turn u p) (λ l. inl l) (λ e. inr (inr (e, beyond_ends e))) (λ l. inr (inl l))

-- ---- means of the two ends

mean_line : (ax ay bx by : ℤ) (m n : ℕ) → (bx -ℤ ax) *ℤ ((ay *ℤ pos m +ℤ by *ℤ pos n) -ℤ ay *ℤ pos (m + n)) -ℤ (by -ℤ ay) *ℤ ((ax *ℤ pos m +ℤ bx *ℤ pos n) -ℤ ax *ℤ pos (m + n)) ≡ pos 0
mean_line ax ay bx by m n = rw (as_D ax, as_D ay, as_D bx, as_D by) (simp diffs (D-eq _ _ _ _ (omega arith)))

from_first : (a b : ℤ) (m n : ℕ) → (a *ℤ pos m +ℤ b *ℤ pos n) -ℤ a *ℤ pos (m + n) ≡ (b -ℤ a) *ℤ pos n
from_first a b m n = rw (as_D a, as_D b) (simp diffs (D-eq _ _ _ _ (omega arith)))

to_second : (a b : ℤ) (m n : ℕ) → b *ℤ pos (m + n) -ℤ (a *ℤ pos m +ℤ b *ℤ pos n) ≡ (b -ℤ a) *ℤ pos m
to_second a b m n = rw (as_D a, as_D b) (simp diffs (D-eq _ _ _ _ (omega arith)))

mean_after : (a b : ℤ) (m n : ℕ) → 0 < n → a <ℤ b → (a *ℤ pos (m + n)) <ℤ (a *ℤ pos m +ℤ b *ℤ pos n)
mean_after a b m n h l = from_difference-pos _ _ (subst (λ (z : ℤ). pos 0 <ℤ z) (sym (from_first a b m n)) (mul-pos (b -ℤ a) (pos n) (difference-pos a b l) (pos_some n h)))

mean_before : (a b : ℤ) (m n : ℕ) → 0 < m → a <ℤ b → (a *ℤ pos m +ℤ b *ℤ pos n) <ℤ (b *ℤ pos (m + n))
mean_before a b m n h l = from_difference-pos _ _ (subst (λ (z : ℤ). pos 0 <ℤ z) (sym (to_second a b m n)) (mul-pos (b -ℤ a) (pos m) (difference-pos a b l) (pos_some m h)))

mean_same : (a b : ℤ) (m n : ℕ) → a ≡ b → a *ℤ pos (m + n) ≡ a *ℤ pos m +ℤ b *ℤ pos n
mean_same a b m n e = subst (λ (z : ℤ). a *ℤ pos (m + n) ≡ a *ℤ pos m +ℤ z *ℤ pos n) e (alone a m n)
  where
    alone : (a : ℤ) (m n : ℕ) → a *ℤ pos (m + n) ≡ a *ℤ pos m +ℤ a *ℤ pos n
    alone a m n = rw (as_D a) (simp diffs (D-eq _ _ _ _ (omega arith)))

-- the mean of the ends of s, with the weights m of a and n of b
abbrev pub mean_of : Pair → ℕ → ℕ → RationalPoint
mean_of s m n = record { x = s.a.x *ℤ pos m +ℤ s.b.x *ℤ pos n; y = s.a.y *ℤ pos m +ℤ s.b.y *ℤ pos n; bottom = m + n }

pub mean_inside : (s : Pair) (m n : ℕ) → Before s.a s.b → 0 < m → 0 < n → IsInside s (mean_of s m n)
mean_inside s m n (inl l) hm hn = record {
  on_line = mean_line s.a.x s.a.y s.b.x s.b.y m n;
  after_a = inl (mean_after s.a.x s.b.x m n hn l);
  before_b = inl (mean_before s.a.x s.b.x m n hm l);
}
mean_inside s m n (inr (e, l)) hm hn = record {
  on_line = mean_line s.a.x s.a.y s.b.x s.b.y m n;
  after_a = inr (mean_same s.a.x s.b.x m n e, mean_after s.a.y s.b.y m n hn l);
  before_b = inr (sym (mean_same s.a.x s.b.x m n e) ∙ ap (λ (z : ℤ). z *ℤ pos (m + n)) e, mean_before s.a.y s.b.y m n hm l);
}

-- ---- where two segments cross

-- two means with the same numbers are one place
IsInside-of : (t : Pair) (p q : RationalPoint) → p.x ≡ q.x → p.y ≡ q.y → p.bottom ≡ q.bottom → IsInside t q → IsInside t p
IsInside-of t p q e f g i = subst (λ (r : RationalPoint). IsInside t r) (sym (same_place p q e f g)) i
  where
    same_place : (p q : RationalPoint) → p.x ≡ q.x → p.y ≡ q.y → p.bottom ≡ q.bottom → p ≡ q
    same_place p q e f g = λ i. record { x = e i; y = f i; bottom = g i }

crossing_x : (a b p q : Point) → (a.x *ℤ turn p q b -ℤ b.x *ℤ turn p q a) ≡ (q.x *ℤ turn a b p -ℤ p.x *ℤ turn a b q)
unfolding turn
crossing_x a b p q = rw (as_D a.x, as_D a.y, as_D b.x, as_D b.y, as_D p.x, as_D p.y, as_D q.x, as_D q.y) (simp diffs (D-eq _ _ _ _ (omega arith)))

crossing_y : (a b p q : Point) → (a.y *ℤ turn p q b -ℤ b.y *ℤ turn p q a) ≡ (q.y *ℤ turn a b p -ℤ p.y *ℤ turn a b q)
unfolding turn
crossing_y a b p q = rw (as_D a.x, as_D a.y, as_D b.x, as_D b.y, as_D p.x, as_D p.y, as_D q.x, as_D q.y) (simp diffs (D-eq _ _ _ _ (omega arith)))

crossing_bottom : (a b p q : Point) → (turn p q b -ℤ turn p q a) ≡ (turn a b p -ℤ turn a b q)
unfolding turn
crossing_bottom a b p q = rw (as_D a.x, as_D a.y, as_D b.x, as_D b.y, as_D p.x, as_D p.y, as_D q.x, as_D q.y) (simp diffs (D-eq _ _ _ _ (omega arith)))

size_some : (z : ℤ) → (pos 0 <ℤ z) ⊎ (z <ℤ pos 0) → 0 < unsigned_abs z
size_some (pos k) (inl h) = omega (arith, ints, h)
size_some (pos k) (inr h) = omega (arith, ints, h)
size_some (negsuc k) (inl h) = omega (arith, ints, h)
size_some (negsuc k) (inr h) = omega (arith, ints, h)

size_up : (z : ℤ) → pos 0 <ℤ z → pos (unsigned_abs z) ≡ z
size_up (pos k) h = refl
size_up (negsuc k) h = absurd (omega (arith, ints, h))

size_down : (z : ℤ) → z <ℤ pos 0 → pos (unsigned_abs z) ≡ neg_ℤ z
size_down (pos k) h = absurd (omega (arith, ints, h))
size_down (negsuc k) h = omega (arith, ints)

-- with signs: the weights of a and b in one of the two ways of crossing
up_mean : (a b p q f g h k : ℤ) (m n m' n' : ℕ) → pos m ≡ k → pos n ≡ neg_ℤ h → pos m' ≡ neg_ℤ g → pos n' ≡ f → a *ℤ k -ℤ b *ℤ h ≡ q *ℤ f -ℤ p *ℤ g → a *ℤ pos m +ℤ b *ℤ pos n ≡ p *ℤ pos m' +ℤ q *ℤ pos n'
up_mean a b p q f g h k m n m' n' em en em' en' e = rw (em, en, em', en') (plain a b p q f g h k e)
  where
    turned : (u v w : ℤ) → u +ℤ v *ℤ neg_ℤ w ≡ u -ℤ v *ℤ w
    turned u v w = rw (as_D u, as_D v, as_D w) (simp diffs (D-eq _ _ _ _ (omega arith)))

    turned_back : (u v w : ℤ) → u *ℤ neg_ℤ v +ℤ w ≡ w -ℤ u *ℤ v
    turned_back u v w = rw (as_D u, as_D v, as_D w) (simp diffs (D-eq _ _ _ _ (omega arith)))

    plain : (a b p q f g h k : ℤ) → a *ℤ k -ℤ b *ℤ h ≡ q *ℤ f -ℤ p *ℤ g → a *ℤ k +ℤ b *ℤ neg_ℤ h ≡ p *ℤ neg_ℤ g +ℤ q *ℤ f
    plain a b p q f g h k e = turned (a *ℤ k) b h ∙ e ∙ sym (turned_back p g (q *ℤ f))

down_mean : (a b p q f g h k : ℤ) (m n m' n' : ℕ) → pos m ≡ neg_ℤ k → pos n ≡ h → pos m' ≡ g → pos n' ≡ neg_ℤ f → a *ℤ k -ℤ b *ℤ h ≡ q *ℤ f -ℤ p *ℤ g → a *ℤ pos m +ℤ b *ℤ pos n ≡ p *ℤ pos m' +ℤ q *ℤ pos n'
down_mean a b p q f g h k m n m' n' em en em' en' e = rw (em, en, em', en') (plain a b p q f g h k e)
  where
    back : (u v w : ℤ) → u *ℤ neg_ℤ v +ℤ w ≡ neg_ℤ (u *ℤ v -ℤ w)
    back u v w = rw (as_D u, as_D v, as_D w) (simp diffs (D-eq _ _ _ _ (omega arith)))

    ahead : (u v w : ℤ) → u +ℤ v *ℤ neg_ℤ w ≡ neg_ℤ (v *ℤ w -ℤ u)
    ahead u v w = rw (as_D u, as_D v, as_D w) (simp diffs (D-eq _ _ _ _ (omega arith)))

    plain : (a b p q f g h k : ℤ) → a *ℤ k -ℤ b *ℤ h ≡ q *ℤ f -ℤ p *ℤ g → a *ℤ neg_ℤ k +ℤ b *ℤ h ≡ p *ℤ g +ℤ q *ℤ neg_ℤ f
    plain a b p q f g h k e = back a k (b *ℤ h) ∙ ap neg_ℤ e ∙ sym (ahead (p *ℤ g) q f)

up_bottom : (f g h k : ℤ) (m n m' n' : ℕ) → pos m ≡ k → pos n ≡ neg_ℤ h → pos m' ≡ neg_ℤ g → pos n' ≡ f → k -ℤ h ≡ f -ℤ g → m + n ≡ m' + n'
up_bottom f g h k m n m' n' em en em' en' e = omega (arith, ints, em, en, em', en', e)

down_bottom : (f g h k : ℤ) (m n m' n' : ℕ) → pos m ≡ neg_ℤ k → pos n ≡ h → pos m' ≡ g → pos n' ≡ neg_ℤ f → k -ℤ h ≡ f -ℤ g → m + n ≡ m' + n'
down_bottom f g h k m n m' n' em en em' en' e = omega (arith, ints, em, en, em', en', e)

-- a place strictly inside two that cross
pub record IsInsideBoth (s t : Pair) : Type 0 where
  pub place : RationalPoint
  pub some : 0 < place.bottom
  pub first : IsInside s place
  pub second : IsInside t place

module _ (s t : Pair) (os : Before s.a s.b) (ot : Before t.a t.b) where
  abbrev f : ℤ
  f = turn s.a s.b t.a

  abbrev g : ℤ
  g = turn s.a s.b t.b

  abbrev h : ℤ
  h = turn t.a t.b s.a

  abbrev k : ℤ
  k = turn t.a t.b s.b

  pub either : (z w : ℤ) → Opposite z w → ((pos 0 <ℤ z) ⊎ (z <ℤ pos 0)) × ((pos 0 <ℤ w) ⊎ (w <ℤ pos 0))
  either z w (inl o) = (inr o.0, inl o.1)
  either z w (inr o) = (inl o.0, inr o.1)

  some_sum : (m n : ℕ) → 0 < m → 0 < (m + n)
  some_sum m n l = omega arith

  made : Opposite f g → Opposite h k → (unsigned_abs k + unsigned_abs h ≡ unsigned_abs g + unsigned_abs f)
      → s.a.x *ℤ pos (unsigned_abs k) +ℤ s.b.x *ℤ pos (unsigned_abs h) ≡ t.a.x *ℤ pos (unsigned_abs g) +ℤ t.b.x *ℤ pos (unsigned_abs f)
      → s.a.y *ℤ pos (unsigned_abs k) +ℤ s.b.y *ℤ pos (unsigned_abs h) ≡ t.a.y *ℤ pos (unsigned_abs g) +ℤ t.b.y *ℤ pos (unsigned_abs f)
      → IsInsideBoth s t
  made fg hk eb ex ey =
      let first = either f g fg in
      let second = either h k hk in
      record {
        place = mean_of s (unsigned_abs k) (unsigned_abs h);
        some = some_sum (unsigned_abs k) (unsigned_abs h) (size_some k second.1);
        first = mean_inside s (unsigned_abs k) (unsigned_abs h) os (size_some k second.1) (size_some h second.0);
        second = IsInside-of t (mean_of s (unsigned_abs k) (unsigned_abs h)) (mean_of t (unsigned_abs g) (unsigned_abs f)) ex ey eb
            (mean_inside t (unsigned_abs g) (unsigned_abs f) ot (size_some g first.1) (size_some f first.0));
      }

  -- the two turns from t say which two of the four are above 0
  up_way : h <ℤ pos 0 → pos 0 <ℤ k → Opposite f g → IsInsideBoth s t
  up_way down up (inl o) = absurd (plain f g h k (crossing_bottom s.a s.b t.a t.b) down up o.0 o.1)
    where
      plain : (f g h k : ℤ) → k -ℤ h ≡ f -ℤ g → h <ℤ pos 0 → pos 0 <ℤ k → f <ℤ pos 0 → pos 0 <ℤ g → ⊥
      plain f g h k e l1 l2 l3 l4 = omega (arith, ints, e, l1, l2, l3, l4)
  up_way down up (inr o) =
      made (inr o) (inl (down, up))
      (up_bottom f g h k _ _ _ _ (size_up k up) (size_down h down) (size_down g o.1) (size_up f o.0) (crossing_bottom s.a s.b t.a t.b))
      (up_mean s.a.x s.b.x t.a.x t.b.x f g h k _ _ _ _ (size_up k up) (size_down h down) (size_down g o.1) (size_up f o.0) (crossing_x s.a s.b t.a t.b))
      (up_mean s.a.y s.b.y t.a.y t.b.y f g h k _ _ _ _ (size_up k up) (size_down h down) (size_down g o.1) (size_up f o.0) (crossing_y s.a s.b t.a t.b))

  down_way : pos 0 <ℤ h → k <ℤ pos 0 → Opposite f g → IsInsideBoth s t
  down_way up down (inr o) = absurd (plain f g h k (crossing_bottom s.a s.b t.a t.b) up down o.0 o.1)
    where
      plain : (f g h k : ℤ) → k -ℤ h ≡ f -ℤ g → pos 0 <ℤ h → k <ℤ pos 0 → pos 0 <ℤ f → g <ℤ pos 0 → ⊥
      plain f g h k e l1 l2 l3 l4 = omega (arith, ints, e, l1, l2, l3, l4)
  down_way up down (inl o) =
      made (inl o) (inr (up, down))
      (down_bottom f g h k _ _ _ _ (size_down k down) (size_up h up) (size_up g o.1) (size_down f o.0) (crossing_bottom s.a s.b t.a t.b))
      (down_mean s.a.x s.b.x t.a.x t.b.x f g h k _ _ _ _ (size_down k down) (size_up h up) (size_up g o.1) (size_down f o.0) (crossing_x s.a s.b t.a t.b))
      (down_mean s.a.y s.b.y t.a.y t.b.y f g h k _ _ _ _ (size_down k down) (size_up h up) (size_up g o.1) (size_down f o.0) (crossing_y s.a s.b t.a t.b))

  pub inside_both : IsTrue (do_cross s t) → IsInsideBoth s t
  inside_both c = let parts = do_cross_parts s t c in elim parts.1 [ inl o ↦ up_way o.0 o.1 parts.0 | inr o ↦ down_way o.0 o.1 parts.0 ]
