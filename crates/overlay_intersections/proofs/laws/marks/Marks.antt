-- Marks: none is an end of the pair that it marks; those of settling are rounded points of it.
use Rattle.std.proofs.Common.{◌≡◌, inl, inr, refl, sym, ap, subst, ◌∙◌, arith, ℕ, ◌<◌, List, [], ◌∷◌, true, false}
use Rattle.std.specs.Prelude.{ℤ, pos, negsuc, ◌+ℤ◌, ◌-ℤ◌, ◌*ℤ◌, ◌≤ℤ◌, ◌<ℤ◌, unsigned_abs, IsTrue, IsFalse, not, filter, int_le}
use Rattle.std.proofs.lemmas.Int.{ints, clamps}
use Rattle.std.proofs.lemmas.Bool.{and_parts, or_left, or_right, cond_both, not-true}
use Rattle.std.specs.Int.{int_min, int_max}
use Rattle.std.specs.List.{AllByRecursion}
use Rattle.overlay_geometry.specs.Points.{Point, Pair, turn, point_eq, pair_lt, point_cmp, is_end, is_in_box, is_between, is_ordered, is_strictly_inside, lies_on}
use Rattle.overlay_geometry.specs.Meeting.{do_cross}
use Rattle.overlay_base.specs.Segments.{WholeSegment, pairs}
use Rattle.overlay_intersections.specs.Crossing.{placed_by, settling_point}
use Rattle.overlay_intersections.specs.Marks.{Placing, settling, crossing_mark, ordered_mark, marks_by}
use Rattle.overlay_intersections.specs.PassMarks.{marks_on}
use Rattle.overlay_geometry.proofs.laws.geometry.Polynomials.{as_D, diffs, D-eq}
use Rattle.overlay_geometry.proofs.laws.geometry.Points.{lies_on_parts, point_eq_same, Before, before}
use Rattle.overlay_geometry.proofs.laws.lists.Keys.{AllByRecursion-distinct_in_order}
use Rattle.overlay_geometry.proofs.laws.lists.Lists.{AllByRecursion-from_Has, AllByRecursion-filter, AllByRecursion-flat_map}
use Rattle.overlay_intersections.proofs.laws.crossings.Rounding.{IsRoundedUp, IsRoundedUp-whole, nearest_upward-is}
use Rattle.overlay_intersections.proofs.laws.crossings.Crossings.{IsPart, IsPart-share, do_cross-swap, share, scale, scale-swap, exact_x, exact_y, offset_x-is, offset_y-is}
use Rattle.overlay_geometry.proofs.laws.integers.Tests.{le-tested}

-- ---- the marks that one pair puts on another

pub marks_at_crossing : (placing : Placing) (s t : Pair) → IsTrue (do_cross s t) → marks_by placing s t ≡ filter (λ p. not (is_end s p)) (ordered_mark placing s t ∷ [])
unfolding marks_by
marks_at_crossing placing s t c = rw c

pub marks_at_ends : (placing : Placing) (s t : Pair) → IsFalse (do_cross s t) → marks_by placing s t ≡ filter (λ p. is_strictly_inside s p) (t.a ∷ t.b ∷ [])
unfolding marks_by
marks_at_ends placing s t c = rw c

-- ---- no mark is an end

abbrev pub Differ : Point → Point → Type 0
Differ p q = p ≡ q → ⊥

abbrev pub IsFree : Pair → Point → Type 0
IsFree s m = Differ m s.a × Differ m s.b

IsFree-from_test : (s : Pair) (m : Point) → is_end s m ≡ false → IsFree s m
IsFree-from_test s m h = (
  λ e. let k : point_eq m s.a ≡ true = subst (λ (z : Point). point_eq m z ≡ true) e (point_eq_same m) in let l = or_left (point_eq m s.a) (point_eq m s.b) k in cc,
  λ e. let k : point_eq m s.b ≡ true = subst (λ (z : Point). point_eq m z ≡ true) e (point_eq_same m) in let l = or_right (point_eq m s.a) (point_eq m s.b) k in cc,
)

pub IsFree-marks_by : (placing : Placing) (s t : Pair) → AllByRecursion (IsFree s) (marks_by placing s t)
unfolding marks_by is_strictly_inside
IsFree-marks_by placing s t =
    cond_both (do_cross s t) _ _ (AllByRecursion (IsFree s))
    (λ e. AllByRecursion-filter (λ p. not (is_end s p)) (IsFree s) (ordered_mark placing s t ∷ []) (λ k. IsFree-from_test s _ (not-true _ k), tt))
    (λ e. AllByRecursion-filter (λ p. is_strictly_inside s p) (IsFree s) (t.a ∷ t.b ∷ []) (inside t.a, (inside t.b, tt)))
  where
    inside : (p : Point) → is_strictly_inside s p ≡ true → IsFree s p
    inside p k = IsFree-from_test s p (not-true _ ((and_parts (lies_on s p) (not (is_end s p)) k).1))

pub IsFree-marks_on : (placing : Placing) (segments : List WholeSegment) (s : Pair) → AllByRecursion (IsFree s) (marks_on placing segments s)
unfolding marks_on
IsFree-marks_on placing segments s = AllByRecursion-distinct_in_order point_cmp (IsFree s) _ (AllByRecursion-flat_map (λ t. marks_by placing s t) (IsFree s) (pairs segments) (AllByRecursion-from_Has (λ t. AllByRecursion (IsFree s) (marks_by placing s t)) (pairs segments) (λ t _. IsFree-marks_by placing s t)))

-- ---- rounded points of a pair

-- p is the point part / whole of the way along s, each coordinate the floor of it and one half
pub record IsRoundedPoint (s : Pair) (p : Point) : Type 0 where
  pub part : ℤ
  pub whole : ℕ
  pub is_part : IsPart part whole
  pub at_x : IsRoundedUp (s.a.x *ℤ pos whole +ℤ (s.b.x -ℤ s.a.x) *ℤ part) whole p.x
  pub at_y : IsRoundedUp (s.a.y *ℤ pos whole +ℤ (s.b.y -ℤ s.a.y) *ℤ part) whole p.y

moved_up : (z t : ℤ) (b : ℕ) (r : ℤ) → IsRoundedUp t b r → IsRoundedUp (z *ℤ pos b +ℤ t) b (z +ℤ r)
moved_up z t b r is = record { low = low_moved z t (pos b) r is.low; high = high_moved z t (pos b) r is.high }
  where
    low_moved : (z t b r : ℤ) → (pos 2 *ℤ (b *ℤ r)) ≤ℤ (pos 2 *ℤ t +ℤ b) → (pos 2 *ℤ (b *ℤ (z +ℤ r))) ≤ℤ (pos 2 *ℤ (z *ℤ b +ℤ t) +ℤ b)
    low_moved z t b r h = let e : b *ℤ (z +ℤ r) ≡ z *ℤ b +ℤ b *ℤ r = rw (as_D z, as_D b, as_D r) (simp diffs (D-eq _ _ _ _ (omega arith))) in rw e (omega (arith, ints))

    high_moved : (z t b r : ℤ) → (pos 2 *ℤ t) <ℤ (pos 2 *ℤ (b *ℤ r) +ℤ b) → (pos 2 *ℤ (z *ℤ b +ℤ t)) <ℤ (pos 2 *ℤ (b *ℤ (z +ℤ r)) +ℤ b)
    high_moved z t b r h = let e : b *ℤ (z +ℤ r) ≡ z *ℤ b +ℤ b *ℤ r = rw (as_D z, as_D b, as_D r) (simp diffs (D-eq _ _ _ _ (omega arith))) in rw e (omega (arith, ints))

pub settled_x : (s t : Pair) → IsTrue (do_cross s t) → IsRoundedUp (s.a.x *ℤ pos (scale s t) +ℤ (s.b.x -ℤ s.a.x) *ℤ share s t) (scale s t) (settling_point s t).x
unfolding settling_point placed_by
settled_x s t h = rw (offset_x-is s t) (moved_up s.a.x _ (scale s t) _ (nearest_upward-is ((s.b.x -ℤ s.a.x) *ℤ share s t) (scale s t) (IsPart-share s t h).some))

pub settled_y : (s t : Pair) → IsTrue (do_cross s t) → IsRoundedUp (s.a.y *ℤ pos (scale s t) +ℤ (s.b.y -ℤ s.a.y) *ℤ share s t) (scale s t) (settling_point s t).y
unfolding settling_point placed_by
settled_y s t h = rw (offset_y-is s t) (moved_up s.a.y _ (scale s t) _ (nearest_upward-is ((s.b.y -ℤ s.a.y) *ℤ share s t) (scale s t) (IsPart-share s t h).some))

pub settled_on_target : (s t : Pair) → IsTrue (do_cross s t) → IsRoundedPoint s (settling_point s t)
settled_on_target s t h = record { part = share s t; whole = scale s t; is_part = IsPart-share s t h; at_x = settled_x s t h; at_y = settled_y s t h }

pub settled_on_other : (s t : Pair) → IsTrue (do_cross s t) → IsRoundedPoint t (settling_point s t)
settled_on_other s t h = record {
  part = share t s;
  whole = scale s t;
  is_part = subst (λ (w : ℕ). IsPart (share t s) w) (scale-swap s t) (IsPart-share t s (do_cross-swap s t h));
  at_x = subst (λ (z : ℤ). IsRoundedUp z (scale s t) (settling_point s t).x) (exact_x s t) (settled_x s t h);
  at_y = subst (λ (z : ℤ). IsRoundedUp z (scale s t) (settling_point s t).y) (exact_y s t) (settled_y s t h);
}

-- a whole point of a pair
whole_x : (a d p : ℤ) (w : ℕ) → pos w ≡ d → a *ℤ pos w +ℤ d *ℤ (p -ℤ a) ≡ p *ℤ pos w
whole_x a d p w e = rw e (rw (as_D a, as_D d, as_D p) (simp diffs (D-eq _ _ _ _ (omega arith))))

whole_y_plain : (a e d p x : ℤ) → d *ℤ (p -ℤ a) -ℤ e *ℤ x ≡ pos 0 → a *ℤ d +ℤ e *ℤ x ≡ p *ℤ d
whole_y_plain a e d p x g =
    let h : d *ℤ (p -ℤ a) ≡ p *ℤ d -ℤ a *ℤ d = rw (as_D a, as_D d, as_D p) (simp diffs (D-eq _ _ _ _ (omega arith))) in
    let k : (p *ℤ d -ℤ a *ℤ d) -ℤ e *ℤ x ≡ pos 0 = ap (λ (z : ℤ). z -ℤ e *ℤ x) (sym h) ∙ g in
    omega (arith, ints, k)

whole_y : (a e d p x : ℤ) (w : ℕ) → pos w ≡ d → d *ℤ (p -ℤ a) -ℤ e *ℤ x ≡ pos 0 → a *ℤ pos w +ℤ e *ℤ x ≡ p *ℤ pos w
whole_y a e d p x w f g = rw f (whole_y_plain a e d p x g)

whole_there : (a b p n : ℤ) (w : ℕ) → a ≡ b → p ≡ a → a *ℤ pos w +ℤ (b -ℤ a) *ℤ n ≡ p *ℤ pos w
whole_there a b p n w e f = rw (← e, f) (plain a n (pos w))
  where
    plain : (a n w : ℤ) → a *ℤ w +ℤ (a -ℤ a) *ℤ n ≡ a *ℤ w
    plain a n w = rw (as_D a, as_D n, as_D w) (simp diffs (D-eq _ _ _ _ (omega arith)))

abs_of : (d : ℤ) → pos 0 <ℤ d → pos (unsigned_abs d) ≡ d
abs_of (pos n) h = refl
abs_of (negsuc n) h = absurd (omega (arith, ints))

pub rounded_at : (t z : ℤ) (w : ℕ) → 0 < w → t ≡ z *ℤ pos w → IsRoundedUp t w z
rounded_at t z w p e = subst (λ (u : ℤ). IsRoundedUp u w z) (sym e) (IsRoundedUp-whole z w p)

within : (a b p : ℤ) → IsTrue (is_between a b p) → a ≤ℤ b → (a ≤ℤ p) × (p ≤ℤ b)
within a b p h k =
    let i = and_parts (int_le (int_min a b) p) (int_le p (int_max a b)) h in
    let l : int_min a b ≤ℤ p = le-tested (int_min a b) p i.0 in
    let m : p ≤ℤ int_max a b = le-tested p (int_max a b) i.1 in
    (omega (arith, ints, clamps, l), omega (arith, ints, clamps, m))

within_any : (a b p : ℤ) → IsTrue (is_between a b p) → a ≡ b → p ≡ a
within_any a b p h k = let w = within a b p h (omega (arith, ints)) in omega (arith, ints)

lies_between : (s : Pair) (p : Point) → IsTrue (lies_on s p) → (turn s.a s.b p ≡ pos 0) × IsTrue (is_between s.a.x s.b.x p.x) × IsTrue (is_between s.a.y s.b.y p.y)
unfolding is_in_box
lies_between s p h =
    let i = lies_on_parts s p h in
    let j = and_parts (is_between s.a.x s.b.x p.x) (is_between s.a.y s.b.y p.y) i.1 in
    (i.0, j.0, j.1)

-- p is the point part / whole of the way along s
pub record IsPointAlong (s : Pair) (p : Point) : Type 0 where
  pub part : ℤ
  pub whole : ℕ
  pub is_part : IsPart part whole
  pub at_x : s.a.x *ℤ pos whole +ℤ (s.b.x -ℤ s.a.x) *ℤ part ≡ p.x *ℤ pos whole
  pub at_y : s.a.y *ℤ pos whole +ℤ (s.b.y -ℤ s.a.y) *ℤ part ≡ p.y *ℤ pos whole

on_pair : (s : Pair) (p : Point) → Before s.a s.b → turn s.a s.b p ≡ pos 0 → IsTrue (is_between s.a.x s.b.x p.x) → IsTrue (is_between s.a.y s.b.y p.y) → IsPointAlong s p
unfolding turn
on_pair s p (inl less) e hx hy =
    let d = s.b.x -ℤ s.a.x in
    let w = unsigned_abs d in
    let f : pos w ≡ d = abs_of d (omega (arith, ints)) in
    let i = within s.a.x s.b.x p.x hx (omega (arith, ints)) in
    let some : 0 < w = omega (arith, ints, f) in
    record {
      part = p.x -ℤ s.a.x;
      whole = w;
      is_part = record { some = some; low = omega (arith, ints, i.0); high = rw f (omega (arith, ints, i.1)) };
      at_x = whole_x s.a.x d p.x w f;
      at_y = whole_y s.a.y (s.b.y -ℤ s.a.y) d p.y (p.x -ℤ s.a.x) w f e;
    }
on_pair s p (inr same) e hx hy =
    let d = s.b.y -ℤ s.a.y in
    let w = unsigned_abs d in
    let f : pos w ≡ d = abs_of d (omega (arith, ints, same.1)) in
    let i = within s.a.y s.b.y p.y hy (omega (arith, ints, same.1)) in
    let some : 0 < w = omega (arith, ints, f, same.1) in
    record {
      part = p.y -ℤ s.a.y;
      whole = w;
      is_part = record { some = some; low = omega (arith, ints, i.0); high = rw f (omega (arith, ints, i.1)) };
      at_x = whole_there s.a.x s.b.x p.x (p.y -ℤ s.a.y) w same.0 (within_any s.a.x s.b.x p.x hx same.0);
      at_y = whole_x s.a.y d p.y w f;
    }

pub lies_along : (s : Pair) (p : Point) → IsTrue (is_ordered s) → IsTrue (lies_on s p) → IsPointAlong s p
lies_along s p o h = let i = lies_between s p h in on_pair s p (before s.a s.b o) i.0 i.1 i.2

pub rounded_on_pair : (s : Pair) (p : Point) → IsTrue (is_ordered s) → IsTrue (lies_on s p) → IsRoundedPoint s p
rounded_on_pair s p o h =
    let i = lies_along s p o h in
    record { part = i.part; whole = i.whole; is_part = i.is_part; at_x = rounded_at _ p.x i.whole i.is_part.some i.at_x; at_y = rounded_at _ p.y i.whole i.is_part.some i.at_y }

-- the ends themselves
unfoldable pub rounded_start : (s : Pair) → IsRoundedPoint s s.a
rounded_start s = record {
  part = pos 0;
  whole = 1;
  is_part = record { some = omega arith; low = omega (arith, ints); high = omega (arith, ints) };
  at_x = rounded_at _ s.a.x 1 (omega arith) (omega (arith, ints));
  at_y = rounded_at _ s.a.y 1 (omega arith) (omega (arith, ints));
}

unfoldable pub rounded_end : (s : Pair) → IsRoundedPoint s s.b
rounded_end s = record {
  part = pos 1;
  whole = 1;
  is_part = record { some = omega arith; low = omega (arith, ints); high = omega (arith, ints) };
  at_x = rounded_at _ s.b.x 1 (omega arith) (omega (arith, ints));
  at_y = rounded_at _ s.b.y 1 (omega arith) (omega (arith, ints));
}

-- the marks of settling are rounded points of the pair
rounded_ordered_mark : (s t : Pair) → IsTrue (do_cross s t) → IsRoundedPoint s (ordered_mark settling s t)
unfolding ordered_mark crossing_mark
rounded_ordered_mark s t h =
    cond_both (pair_lt s t) (settling_point s t) (settling_point t s) (IsRoundedPoint s) (λ e. settled_on_target s t h) (λ e. settled_on_other t s (do_cross-swap s t h))

pub rounded-marks_by : (s t : Pair) → IsTrue (is_ordered s) → AllByRecursion (IsRoundedPoint s) (marks_by settling s t)
unfolding marks_by is_strictly_inside
rounded-marks_by s t o =
    cond_both (do_cross s t) _ _ (AllByRecursion (IsRoundedPoint s))
    (λ e. AllByRecursion-filter (λ p. not (is_end s p)) (IsRoundedPoint s) (ordered_mark settling s t ∷ []) (λ k. rounded_ordered_mark s t e, tt))
    (λ e. AllByRecursion-filter (λ p. is_strictly_inside s p) (IsRoundedPoint s) (t.a ∷ t.b ∷ []) (inside t.a, (inside t.b, tt)))
  where
    inside : (p : Point) → is_strictly_inside s p ≡ true → IsRoundedPoint s p
    inside p k = rounded_on_pair s p o ((and_parts (lies_on s p) (not (is_end s p)) k).0)

pub rounded-marks_on : (segments : List WholeSegment) (s : Pair) → IsTrue (is_ordered s) → AllByRecursion (IsRoundedPoint s) (marks_on settling segments s)
unfolding marks_on
rounded-marks_on segments s o = AllByRecursion-distinct_in_order point_cmp (IsRoundedPoint s) _ (AllByRecursion-flat_map (λ t. marks_by settling s t) (IsRoundedPoint s) (pairs segments) (AllByRecursion-from_Has (λ t. AllByRecursion (IsRoundedPoint s) (marks_by settling s t)) (pairs segments) (λ t _. rounded-marks_by s t o)))
