-- Points at which a way goes straight on: what they are like, and that leaving them out changes no winding.
use Rattle.std.proofs.Common.{◌≡◌, refl, sym, ap, ap₂, subst, ◌∙◌, ◌⊎◌, inl, inr, Bool, true, false, not, cond, ◌&&◌, ◌||◌, arith}
use Rattle.std.specs.Prelude.{ℤ, pos, negsuc, ◌+ℤ◌, ◌-ℤ◌, ◌*ℤ◌, neg_ℤ, ◌≤ℤ◌, ◌<ℤ◌, int_le, int_lt}
use Rattle.std.proofs.lemmas.Int.{ints}
use Rattle.std.proofs.lemmas.Bool.{and_parts, and_from, or_cases, or_left, or_right}
use Rattle.overlay_geometry.specs.Points.{Point, Pair, point_lt, turn}
use Rattle.overlay_geometry.proofs.laws.geometry.Points.{Before, before, from_before, from_not_same, Before-trans, Before-irreflexive, Before-x, turn_swaps_last, turn_swaps_outer, turn_rotates, turn_same_last, collinear_apart}
use Rattle.overlay_geometry.proofs.laws.geometry.Polynomials.{as_D, diffs, D-eq, mul-pos, cancel-pos}
use Rattle.overlay_geometry.proofs.laws.integers.Products.{neg_zero, scaled_le, times_nothing}
use Rattle.overlay_geometry.proofs.laws.integers.Tests.{lt-test, lt-tested, eq-test, eq-tested}
use Rattle.overlay_geometry.specs.Below.{width}
use Rattle.overlay_base.specs.Places.{RationalPoint, lies_below, height_at}
use Rattle.overlay_base.specs.Rays.{place_turn}
use Rattle.overlay_base.proofs.laws.rays.Rays.{turn_is_height, lt-difference}
use Rattle.overlay_contours.specs.Contours.{is_edge, step_winding}
use Rattle.overlay_contours.specs.Corners.{is_straight}
use Rattle.overlay_contours.proofs.laws.Windings.{not_below}

abbrev pub pair_of_points : Point → Point → Pair
pair_of_points p q = record { a = p; b = q }

-- ---- the three points

-- the two ways in which a point lies between two others
abbrev Between : Point → Point → Point → Type 0
Between p q r = (Before p q × Before q r) ⊎ (Before r q × Before q p)

record Straight (p q r : Point) : Type 0 where
  pub on_line : turn p q r ≡ pos 0
  pub between : Between p q r

parts : (p q r : Point) → is_straight p q r ≡ true → Straight p q r
parts p q r h =
    let both = and_parts _ _ h in
    record { on_line = eq-tested _ _ both.0; between = by (or_cases (point_lt p q && point_lt q r) _ both.1) }
  where
    by : ((point_lt p q && point_lt q r) ≡ true) ⊎ ((point_lt r q && point_lt q p) ≡ true) → Between p q r
    by (inl k) = let l = and_parts _ _ k in inl (before p q l.0, before q r l.1)
    by (inr k) = let l = and_parts _ _ k in inr (before r q l.0, before q p l.1)

from_parts : (p q r : Point) → Straight p q r → is_straight p q r ≡ true
from_parts p q r s = and_from _ _ (eq-test _ _ s.on_line) (by s.between)
  where
    by : Between p q r → ((point_lt p q && point_lt q r) || (point_lt r q && point_lt q p)) ≡ true
    by (inl k) = or_left _ _ (and_from _ _ (from_before p q k.0) (from_before q r k.1))
    by (inr k) = or_right _ _ (and_from _ _ (from_before r q k.0) (from_before q p k.1))

same_tests : (b c : Bool) → (b ≡ true → c ≡ true) → (c ≡ true → b ≡ true) → b ≡ c
same_tests true c f g = sym (f refl)
same_tests false true f g = g refl
same_tests false false f g = refl

mirrored : (p q r : Point) → Straight p q r → Straight r q p
mirrored p q r s = record { on_line = neg_zero _ _ (turn_swaps_outer r q p) s.on_line; between = by s.between }
  where
    by : Between p q r → Between r q p
    by (inl k) = inr k
    by (inr k) = inl k

-- back from the other end it goes straight on there too
mirror : (p q r : Point) → is_straight p q r ≡ is_straight r q p
mirror p q r = same_tests _ _ (λ h. from_parts r q p (mirrored p q r (parts p q r h))) (λ h. from_parts p q r (mirrored r q p (parts r q p h)))

-- where it does, the outer points differ, and each from the middle one
apart_outer : (p q r : Point) → Straight p q r → p ≡ r → ⊥
apart_outer p q r s e = by s.between
  where
    by : Between p q r → ⊥
    by (inl k) = Before-irreflexive p (Before-trans p q p k.0 (subst (λ (x : Point). Before q x) (sym e) k.1))
    by (inr k) = Before-irreflexive r (Before-trans r q r k.0 (subst (λ (x : Point). Before q x) e k.1))

apart_last : (p q r : Point) → Straight p q r → q ≡ r → ⊥
apart_last p q r s e = by s.between
  where
    by : Between p q r → ⊥
    by (inl k) = Before-irreflexive r (subst (λ (x : Point). Before x r) e k.1)
    by (inr k) = Before-irreflexive r (subst (λ (x : Point). Before r x) e k.0)

pub straight_is_edge : (p q r : Point) → is_straight p q r ≡ true → is_edge (pair_of_points p r) ≡ true
straight_is_edge p q r h = ap not (from_not_same p r (apart_outer p q r (parts p q r h)))

-- ---- arriving over a straight point

over_first : (c q x y : Point) → Straight c q x → Straight c x y → Straight q x y
over_first c q x y s t = record {
  on_line = collinear_apart c x q x y (apart_outer c q x s) (neg_zero _ _ (turn_swaps_last c x q) s.on_line) (turn_same_last c x) t.on_line;
  between = by s.between t.between;
}
  where
    by : Between c q x → Between c x y → Between q x y
    by (inl k) (inl l) = inl (k.1, l.1)
    by (inl k) (inr l) = absurd (Before-irreflexive c (Before-trans c x c (Before-trans c q x k.0 k.1) l.1))
    by (inr k) (inl l) = absurd (Before-irreflexive c (Before-trans c x c l.0 (Before-trans x q c k.0 k.1)))
    by (inr k) (inr l) = inr (l.0, k.0)

from_first : (c q x y : Point) → Straight c q x → Straight q x y → Straight c x y
from_first c q x y s t = record {
  on_line = collinear_apart q x c x y (apart_last c q x s) (sym (turn_rotates c q x) ∙ s.on_line) (turn_same_last q x) t.on_line;
  between = by s.between t.between;
}
  where
    by : Between c q x → Between q x y → Between c x y
    by (inl k) (inl l) = inl (Before-trans c q x k.0 k.1, l.1)
    by (inl k) (inr l) = absurd (Before-irreflexive q (Before-trans q x q k.1 l.1))
    by (inr k) (inl l) = absurd (Before-irreflexive q (Before-trans q x q l.0 k.0))
    by (inr k) (inr l) = inr (l.0, Before-trans x q c k.0 k.1)

-- a way from c over q, straight on to x, goes on from there as from q
pub arrives_alike : (c q x : Point) → is_straight c q x ≡ true → (y : Point) → is_straight c x y ≡ is_straight q x y
arrives_alike c q x h y =
    let s = parts c q x h in
    same_tests _ _ (λ k. from_parts q x y (over_first c q x y s (parts c x y k))) (λ k. from_parts c x y (from_first c q x y s (parts q x y k)))

-- and it leaves c as to q
pub departs_alike : (c q x : Point) → is_straight c q x ≡ true → (p : Point) → is_straight p c q ≡ is_straight p c x
departs_alike c q x h p = mirror p c q ∙ sym (arrives_alike x q c (sym (mirror c q x) ∙ h) p) ∙ mirror x c p

-- ---- the order along a way that goes straight on

pub goes_up : (p q r : Point) → is_straight p q r ≡ true → Before p q → Before q r
goes_up p q r h o = by (parts p q r h).between
  where
    by : Between p q r → Before q r
    by (inl k) = k.1
    by (inr k) = absurd (Before-irreflexive p (Before-trans p q p o k.1))

pub goes_down : (p q r : Point) → is_straight p q r ≡ true → Before q p → Before r q
goes_down p q r h o = by (parts p q r h).between
  where
    by : Between p q r → Before r q
    by (inl k) = absurd (Before-irreflexive p (Before-trans p q p k.0 o))
    by (inr k) = k.0

pub goes_either : (P : Type 0) (p q r : Point) → is_straight p q r ≡ true → (Before p q → P) → (Before q p → P) → P
goes_either P p q r h f g = by (parts p q r h).between
  where
    by : Between p q r → P
    by (inl k) = f k.0
    by (inr k) = g k.1

-- ---- windings

-- of three columns in order, and of what lies below in each
columns : (a b d : Bool) (low_ab low_bd low_ad : Bool) (v : ℤ) → (d ≡ true → b ≡ true) → (b ≡ true → a ≡ true) → (a ≡ true → b ≡ false → low_ab ≡ low_ad) → (b ≡ true → d ≡ false → low_bd ≡ low_ad) →
    cond ((a && not b) && low_ab) v (pos 0) +ℤ cond ((b && not d) && low_bd) v (pos 0) ≡ cond ((a && not d) && low_ad) v (pos 0)
columns a true true x y z v f g h k = let e = g refl in rw e refl
columns a false true x y z v f g h k = let no = f refl in absurd (cc)
columns a true false x y z v f g h k = let e = g refl in let l = k refl refl in rw (e, l) (by (cond z v (pos 0)))
  where
    by : (u : ℤ) → pos 0 +ℤ u ≡ u
    by u = omega (arith, ints)
columns false false false x y z v f g h k = refl
columns true false false x y z v f g h k = let l = h refl refl in rw l (by (cond z v (pos 0)))
  where
    by : (u : ℤ) → u +ℤ pos 0 ≡ u
    by u = omega (arith, ints)

same_sign : (m n u v : ℤ) → pos 0 <ℤ m → pos 0 <ℤ n → m *ℤ u ≡ n *ℤ v → int_lt (pos 0) u ≡ int_lt (pos 0) v
same_sign m n u v hm hn e = same_tests _ _
    (λ k. lt-test _ _ (cancel-pos n v hn (subst (λ (z : ℤ). pos 0 <ℤ z) e (mul-pos m u hm (lt-tested _ _ k)))))
    (λ k. lt-test _ _ (cancel-pos m u hm (subst (λ (z : ℤ). pos 0 <ℤ z) (sym e) (mul-pos n v hn (lt-tested _ _ k)))))

nothing_more : (u v m z : ℤ) → u ≡ v +ℤ m *ℤ z → z ≡ pos 0 → u ≡ v
nothing_more u v m z h k = let t = times_nothing m z k in omega (arith, ints, h, t)

module _ (w : RationalPoint) where
  abbrev from_left : Point → Bool
  from_left p = int_le (p.x *ℤ pos w.bottom) w.x

  below_is : (s : Pair) → lies_below s w ≡ ((from_left s.a && not (from_left s.b)) && int_lt (pos 0) (place_turn s w))
  below_is s = ap₂ (λ (b l : Bool). (from_left s.a && b) && l) (lt-not_le w.x (s.b.x *ℤ pos w.bottom)) (lt-difference (height_at s w) (w.y *ℤ width s) (place_turn s w) (turn_is_height s w))
    where
      lt-not_le : (a b : ℤ) → int_lt a b ≡ not (int_le b a)
      lt-not_le a b = grind (arith, ints)

  later_column : (p q : Point) → p.x ≤ℤ q.x → from_left q ≡ true → from_left p ≡ true
  later_column p q h k = plain (p.x *ℤ pos w.bottom) (q.x *ℤ pos w.bottom) w.x (scaled_le p.x q.x w.bottom h) k
    where
      plain : (a b x : ℤ) → a ≤ℤ b → int_le b x ≡ true → int_le a x ≡ true
      plain a b x h k = grind (arith, ints)

  -- where one is left of the place and the other is not, the first is left of the other
  left_of : (p q : Point) → p.x ≤ℤ q.x → from_left p ≡ true → from_left q ≡ false → p.x <ℤ q.x
  left_of p q h k l = strict p.x q.x h (λ e. let no : from_left q ≡ true = subst (λ (x : ℤ). int_le (x *ℤ pos w.bottom) w.x ≡ true) e k in cc)
    where
      strict : (a b : ℤ) → a ≤ℤ b → (a ≡ b → ⊥) → a <ℤ b
      strict a b h n = omega (arith, ints, h, n)

  scaled_first : (a b d : Point) → turn a b d ≡ pos 0 → (d.x -ℤ a.x) *ℤ place_turn (pair_of_points a b) w ≡ (b.x -ℤ a.x) *ℤ place_turn (pair_of_points a d) w
  unfolding turn
  scaled_first a b d e = nothing_more _ _ (w.x -ℤ a.x *ℤ pos w.bottom) _ (identity (b.x -ℤ a.x) (b.y -ℤ a.y) (d.x -ℤ a.x) (d.y -ℤ a.y) (w.x -ℤ a.x *ℤ pos w.bottom) (w.y -ℤ a.y *ℤ pos w.bottom)) e
    where
      identity : (u v m n q r : ℤ) → m *ℤ (u *ℤ r -ℤ v *ℤ q) ≡ u *ℤ (m *ℤ r -ℤ n *ℤ q) +ℤ q *ℤ (u *ℤ n -ℤ v *ℤ m)
      identity u v m n q r = rw (as_D u, as_D v, as_D m, as_D n, as_D q, as_D r) (simp diffs (D-eq _ _ _ _ (omega arith)))

  -- the turn as seen from the other end
  from_end : (a d : Point) → place_turn (pair_of_points a d) w ≡ (d.x -ℤ a.x) *ℤ (w.y -ℤ d.y *ℤ pos w.bottom) -ℤ (d.y -ℤ a.y) *ℤ (w.x -ℤ d.x *ℤ pos w.bottom)
  from_end a d = plain a.x a.y d.x d.y w.x w.y (pos w.bottom)
    where
      plain : (ax ay dx dy x y n : ℤ) → (dx -ℤ ax) *ℤ (y -ℤ ay *ℤ n) -ℤ (dy -ℤ ay) *ℤ (x -ℤ ax *ℤ n) ≡ (dx -ℤ ax) *ℤ (y -ℤ dy *ℤ n) -ℤ (dy -ℤ ay) *ℤ (x -ℤ dx *ℤ n)
      plain ax ay dx dy x y n = rw (as_D ax, as_D ay, as_D dx, as_D dy, as_D x, as_D y, as_D n) (simp diffs (D-eq _ _ _ _ (omega arith)))

  scaled_second : (a b d : Point) → turn a b d ≡ pos 0 → (d.x -ℤ a.x) *ℤ place_turn (pair_of_points b d) w ≡ (d.x -ℤ b.x) *ℤ place_turn (pair_of_points a d) w
  unfolding turn
  scaled_second a b d e =
      ap (λ (z : ℤ). (d.x -ℤ a.x) *ℤ z) (from_end b d)
      ∙ nothing_more _ _ (neg_ℤ (w.x -ℤ d.x *ℤ pos w.bottom)) _ (identity (d.x -ℤ b.x) (d.y -ℤ b.y) (d.x -ℤ a.x) (d.y -ℤ a.y) (w.x -ℤ d.x *ℤ pos w.bottom) (w.y -ℤ d.y *ℤ pos w.bottom))
      (ap₂ (λ (u v : ℤ). u *ℤ (d.y -ℤ a.y) -ℤ v *ℤ (d.x -ℤ a.x)) (less d.x a.x b.x) (less d.y a.y b.y) ∙ e)
      ∙ ap (λ (z : ℤ). (d.x -ℤ b.x) *ℤ z) (sym (from_end a d))
    where
      less : (d a b : ℤ) → (d -ℤ a) -ℤ (d -ℤ b) ≡ b -ℤ a
      less d a b = omega (arith, ints)

      identity : (s t m n q r : ℤ) → m *ℤ (s *ℤ r -ℤ t *ℤ q) ≡ s *ℤ (m *ℤ r -ℤ n *ℤ q) +ℤ neg_ℤ q *ℤ ((m -ℤ s) *ℤ n -ℤ (n -ℤ t) *ℤ m)
      identity s t m n q r = rw (as_D s, as_D t, as_D m, as_D n, as_D q, as_D r) (simp diffs (D-eq _ _ _ _ (omega arith)))

  -- a pair with a point inside counts as its two parts
  joined_up : (a b d : Point) (v : ℤ) → turn a b d ≡ pos 0 → Before a b → Before b d →
      cond (lies_below (pair_of_points a b) w) v (pos 0) +ℤ cond (lies_below (pair_of_points b d) w) v (pos 0) ≡ cond (lies_below (pair_of_points a d) w) v (pos 0)
  joined_up a b d v e ab bd =
      let xab = Before-x a b ab in
      let xbd = Before-x b d bd in
      rw (below_is (pair_of_points a b), below_is (pair_of_points b d), below_is (pair_of_points a d))
      (columns (from_left a) (from_left b) (from_left d) _ _ _ v (later_column b d xbd) (later_column a b xab)
      (λ h k. let less = left_of a b xab h k in same_sign (d.x -ℤ a.x) (b.x -ℤ a.x) _ _ (omega (arith, ints, less, xbd)) (omega (arith, ints, less)) (scaled_first a b d e))
      (λ h k. let less = left_of b d xbd h k in same_sign (d.x -ℤ a.x) (d.x -ℤ b.x) _ _ (omega (arith, ints, less, xab)) (omega (arith, ints, less)) (scaled_second a b d e)))

  up_winds : (p q : Point) → Before p q → step_winding w (pair_of_points p q) ≡ cond (lies_below (pair_of_points p q) w) (pos 1) (pos 0)
  up_winds p q o = rw (not_below (pair_of_points q p) w (Before-x p q o)) refl

  down_winds : (p q : Point) → Before q p → step_winding w (pair_of_points p q) ≡ cond (lies_below (pair_of_points q p) w) (negsuc 0) (pos 0)
  down_winds p q o = rw (not_below (pair_of_points p q) w (Before-x q p o)) refl

  -- leaving out a point at which a way goes straight on changes no winding
  pub joined : (p q r : Point) → is_straight p q r ≡ true → step_winding w (pair_of_points p q) +ℤ step_winding w (pair_of_points q r) ≡ step_winding w (pair_of_points p r)
  joined p q r h = let s = parts p q r h in by s.on_line s.between
    where
      by : turn p q r ≡ pos 0 → Between p q r → step_winding w (pair_of_points p q) +ℤ step_winding w (pair_of_points q r) ≡ step_winding w (pair_of_points p r)
      by e (inl k) = ap₂ ◌+ℤ◌ (up_winds p q k.0) (up_winds q r k.1) ∙ joined_up p q r (pos 1) e k.0 k.1 ∙ sym (up_winds p r (Before-trans p q r k.0 k.1))
      by e (inr k) =
          ap₂ ◌+ℤ◌ (down_winds p q k.1) (down_winds q r k.0)
          ∙ swap (cond (lies_below (pair_of_points q p) w) (negsuc 0) (pos 0)) (cond (lies_below (pair_of_points r q) w) (negsuc 0) (pos 0))
          ∙ joined_up r q p (negsuc 0) (neg_zero _ _ (turn_swaps_outer r q p) e) k.0 k.1
          ∙ sym (down_winds p r (Before-trans r q p k.0 k.1))
        where
          swap : (u v : ℤ) → u +ℤ v ≡ v +ℤ u
          swap u v = omega (arith, ints)
