-- Where two pairs cross: a part of the first that has no point of a list inside and crosses the second, if the second's line meets none of them.
use Rattle.std.proofs.Common.{◌≡◌, ◌⊎◌, ⊎_elim, inl, inr, refl, subst, arith, IsTrue, IsFalse, List, [], ◌∷◌}
use Rattle.std.specs.Prelude.{ℤ, pos, ◌+ℤ◌, ◌*ℤ◌, ◌<ℤ◌}
use Rattle.std.proofs.lemmas.Int.{ints}
use Rattle.std.proofs.lemmas.Bool.{cases_Bool, both_ways, false_from_ne_true}
use Rattle.overlay_geometry.specs.Points.{Point, Pair, turn, is_strictly_inside}
use Rattle.overlay_geometry.specs.Meeting.{do_cross}
use Rattle.overlay_geometry.proofs.laws.geometry.Polynomials.{mul-pos, mul-neg, cancel-pos, cancel-neg}
use Rattle.overlay_geometry.proofs.laws.geometry.Points.{turn_rotates, turn_same_last, turn_same_outer, Before, UpTo-same, UpTo-Before, UpTo-trans, Before-UpTo-trans, UpTo-Before-trans, Before-irreflexive, weights, inside_order, inside_from_order}
use Rattle.overlay_geometry.proofs.laws.lists.Lists.{Has}
use Rattle.overlay_geometry.proofs.laws.integers.Tests.{by_sign}
use Rattle.overlay_base.proofs.laws.geometry.Apart.{Opposite, do_cross_parts, do_cross_from}
use Rattle.overlay_cuts.proofs.laws.planar.Meetings.{IsPart, IsPart-line}

-- ---- signs

-- the signs below and above 0 of f are those of z
Follows : ℤ → ℤ → Type 0
Follows f z = (f <ℤ pos 0 → z <ℤ pos 0) × (pos 0 <ℤ f → pos 0 <ℤ z)

scaled_follows : (k m n f g z : ℤ) → pos 0 <ℤ k → pos 0 <ℤ m → k *ℤ z ≡ m *ℤ f +ℤ n *ℤ g → g ≡ pos 0 → Follows f z
unfolding Follows
scaled_follows k m n f g z hk hm e hg =
    let i : k *ℤ z ≡ m *ℤ f = (let j = rw hg at e in omega (arith, ints)) in (
      λ (below : f <ℤ pos 0). cancel-neg k z hk (let a = mul-neg m f hm below in omega (arith, ints)),
      λ (above : pos 0 <ℤ f). cancel-pos k z hk (let a = mul-pos m f hm above in omega (arith, ints)),
    )

Opposite-follows : (f g i j : ℤ) → Follows f i → Follows g j → Opposite f g → Opposite i j
unfolding Follows
Opposite-follows f g i j h k (inl o) = inl (h.0 o.0, k.1 o.1)
Opposite-follows f g i j h k (inr o) = inr (h.1 o.0, k.0 o.1)

-- ---- the two parts of a pair before and after a point inside it

module _ (e : Pair) (p : Point) (o : Before e.a e.b) (inside : IsTrue (is_strictly_inside e p)) where
  front : Pair
  front = record { a = e.a; b = p }

  back : Pair
  back = record { a = p; b = e.b }

  order : (turn e.a e.b p ≡ pos 0) × Before e.a p × Before p e.b
  order = inside_order e p o inside

  front_is_part : IsPart front e
  unfolding front
  front_is_part = record { whole = o; ordered = order.1; a_on_line = turn_same_outer e.a e.b; b_on_line = order.0; from_a = UpTo-same e.a; up_to_b = UpTo-Before p e.b order.2 }

  back_is_part : IsPart back e
  unfolding back
  back_is_part = record { whole = o; ordered = order.2; a_on_line = order.0; b_on_line = turn_same_last e.a e.b; from_a = UpTo-Before e.a p order.1; up_to_b = UpTo-same e.b }

  -- a turn from the part is one from the pair, up to a factor
  front_follows : (x : Point) → Follows (turn e.a e.b x) (turn e.a p x)
  front_follows x =
      let w = weights e.a e.b p o order.0 in
      rw (turn_rotates e.a p x, turn_rotates p x e.a, turn_rotates e.a e.b x, turn_rotates e.b x e.a)
      (scaled_follows (w.of_a +ℤ w.of_b) w.of_b w.of_a (turn x e.a e.b) (turn x e.a e.a) (turn x e.a p) w.total (w.after_a order.1) (let m = w.mean x e.a in omega (arith, ints)) (turn_same_last x e.a))

  back_follows : (x : Point) → Follows (turn e.a e.b x) (turn p e.b x)
  back_follows x =
      let w = weights e.a e.b p o order.0 in
      rw (turn_rotates p e.b x, turn_rotates e.a e.b x)
      (scaled_follows (w.of_a +ℤ w.of_b) w.of_a w.of_b (turn e.b x e.a) (turn e.b x e.b) (turn e.b x p) w.total (w.before_b order.2) (w.mean e.b x) (turn_same_outer e.b x))

  front_crosses : (u : Pair) → IsTrue (do_cross e u) → Opposite (turn u.a u.b e.a) (turn u.a u.b p) → IsTrue (do_cross front u)
  unfolding front
  front_crosses u c apart = do_cross_from front u (Opposite-follows _ _ _ _ (front_follows u.a) (front_follows u.b) (do_cross_parts e u c).0) apart

  back_crosses : (u : Pair) → IsTrue (do_cross e u) → Opposite (turn u.a u.b p) (turn u.a u.b e.b) → IsTrue (do_cross back u)
  unfolding back
  back_crosses u c apart = do_cross_from back u (Opposite-follows _ _ _ _ (back_follows u.a) (back_follows u.b) (do_cross_parts e u c).0) apart

-- ---- a part of a part

pub part_of_part : (p q s : Pair) → IsPart p q → IsPart q s → IsPart p s
part_of_part p q s h k = record {
  whole = k.whole;
  ordered = h.ordered;
  a_on_line = IsPart-line q s p.a k h.a_on_line;
  b_on_line = IsPart-line q s p.b k h.b_on_line;
  from_a = UpTo-trans s.a q.a p.a k.from_a h.from_a;
  up_to_b = UpTo-trans p.b q.b s.b h.up_to_b k.up_to_b;
}

pub part_of_itself : (s : Pair) → Before s.a s.b → IsPart s s
part_of_itself s o = record { whole = o; ordered = o; a_on_line = turn_same_outer s.a s.b; b_on_line = turn_same_last s.a s.b; from_a = UpTo-same s.a; up_to_b = UpTo-same s.b }

inside_part : (p q : Pair) (x : Point) → IsPart p q → IsTrue (is_strictly_inside p x) → IsTrue (is_strictly_inside q x)
inside_part p q x h k =
    let i = inside_order p x h.ordered k in
    inside_from_order q x h.whole (IsPart-line p q x h i.0) (UpTo-Before-trans q.a p.a x h.from_a i.1) (Before-UpTo-trans x p.b q.b i.2 h.up_to_b)

-- ---- narrowing

-- a part of s that crosses u and has none of the points inside
pub record Narrowed (s u : Pair) (points : List Point) : Type 0 where
  pub e : Pair
  pub part : IsPart e s
  pub crosses : IsTrue (do_cross e u)
  pub clear : (p : Point) → Has points p → IsFalse (is_strictly_inside e p)

-- a point inside s on the line of u
pub record MeetsLine (s u : Pair) (points : List Point) : Type 0 where
  pub p : Point
  pub has : Has points p
  pub inside : IsTrue (is_strictly_inside s p)
  pub on_line : turn u.a u.b p ≡ pos 0

module _ (s u : Pair) where
  more : (p : Point) (points : List Point) (n : Narrowed s u points) (e : Pair) → IsPart e n.e → IsTrue (do_cross e u) → IsFalse (is_strictly_inside e p) → Narrowed s u (p ∷ points)
  more p points n e part crosses free = record {
    e = e;
    part = part_of_part e n.e s part n.part;
    crosses = crosses;
    clear = λ x i. by x i;
  }
    where
      by : (x : Point) → Has (p ∷ points) x → IsFalse (is_strictly_inside e x)
      by x (inl same) = subst (λ z. IsFalse (is_strictly_inside e z)) same free
      by x (inr i) = ⊎_elim (λ yes. absurd (both (n.clear x i) (inside_part e n.e x part yes))) (λ no_. no_) (cases_Bool (is_strictly_inside e x))
        where
          both : IsFalse (is_strictly_inside n.e x) → IsTrue (is_strictly_inside n.e x) → ⊥
          both f t = both_ways (is_strictly_inside n.e x) f t

  not_inside_front : (e : Pair) (p : Point) → Before e.a p → IsFalse (is_strictly_inside (record { a = e.a; b = p }) p)
  not_inside_front e p o = false_from_ne_true _ (λ t. Before-irreflexive p (inside_order (record { a = e.a; b = p }) p o t).2)

  not_inside_back : (e : Pair) (p : Point) → Before p e.b → IsFalse (is_strictly_inside (record { a = p; b = e.b }) p)
  not_inside_back e p o = false_from_ne_true _ (λ t. Before-irreflexive p (inside_order (record { a = p; b = e.b }) p o t).1)

  -- by the side of u on which p lies
  cut_there : (p : Point) (points : List Point) (n : Narrowed s u points) → IsTrue (is_strictly_inside n.e p) → MeetsLine s u (p ∷ points) ⊎ Narrowed s u (p ∷ points)
  unfolding front back
  cut_there p points n inside = by (do_cross_parts n.e u n.crosses).1
    where
      o : Before n.e.a n.e.b
      o = n.part.ordered

      first : Opposite (turn u.a u.b n.e.a) (turn u.a u.b p) → Narrowed s u (p ∷ points)
      first apart = more p points n (front n.e p o inside) (front_is_part n.e p o inside) (front_crosses n.e p o inside u n.crosses apart) (not_inside_front n.e p (order n.e p o inside).1)

      second : Opposite (turn u.a u.b p) (turn u.a u.b n.e.b) → Narrowed s u (p ∷ points)
      second apart = more p points n (back n.e p o inside) (back_is_part n.e p o inside) (back_crosses n.e p o inside u n.crosses apart) (not_inside_back n.e p (order n.e p o inside).2)

      on : turn u.a u.b p ≡ pos 0 → MeetsLine s u (p ∷ points)
      on zero = record { p = p; has = inl refl; inside = inside_part n.e s p n.part inside; on_line = zero }

      by : Opposite (turn u.a u.b n.e.a) (turn u.a u.b n.e.b) → MeetsLine s u (p ∷ points) ⊎ Narrowed s u (p ∷ points)
      by (inl sides) = by_sign (turn u.a u.b p) (λ below. inr (second (inl (below, sides.1)))) (λ zero. inl (on zero)) (λ above. inr (first (inl (sides.0, above))))
      by (inr sides) = by_sign (turn u.a u.b p) (λ below. inr (first (inr (sides.0, below)))) (λ zero. inl (on zero)) (λ above. inr (second (inr (above, sides.1))))

  pub narrow : (points : List Point) → Before s.a s.b → IsTrue (do_cross s u) → MeetsLine s u points ⊎ Narrowed s u points
  narrow [] o c = inr (record { e = s; part = part_of_itself s o; crosses = c; clear = λ p i. absurd i })
  narrow (p ∷ points) o c = ⊎_elim (λ m. inl (later m)) next (narrow points o c)
    where
      later : MeetsLine s u points → MeetsLine s u (p ∷ points)
      later m = record { p = m.p; has = inr m.has; inside = m.inside; on_line = m.on_line }

      next : Narrowed s u points → MeetsLine s u (p ∷ points) ⊎ Narrowed s u (p ∷ points)
      next n = ⊎_elim (λ inside. cut_there p points n inside) (λ free. inr (more p points n n.e (part_of_itself n.e n.part.ordered) n.crosses free)) (cases_Bool (is_strictly_inside n.e p))
