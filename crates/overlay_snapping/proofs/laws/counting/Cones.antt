-- Vectors that point forward, as those from a point to a later one: their order by turns, and segments that cross beyond a point.
use Rattle.std.proofs.Common.{◌≡◌, refl, sym, subst, arith, ◌⊎◌, ⊎_elim, inl, inr, IsTrue}
use Rattle.std.specs.Prelude.{ℤ, pos, ◌+ℤ◌, ◌-ℤ◌, ◌*ℤ◌, neg_ℤ, ◌≤ℤ◌, ◌<ℤ◌}
use Rattle.std.proofs.lemmas.Int.{ints, by_lt_z}
use Rattle.overlay_geometry.specs.Points.{Point, Pair, step, cross_product, turn}
use Rattle.overlay_geometry.specs.Meeting.{do_cross}
use Rattle.overlay_geometry.proofs.laws.geometry.Points.{Before, UpTo, by_UpTo, turn_same_last, turn_same_outer}
use Rattle.overlay_geometry.proofs.laws.geometry.Polynomials.{as_D, diffs, D-eq, mul-pos, mul-nonneg, cancel-pos}
use Rattle.overlay_geometry.proofs.laws.integers.Products.{times_nothing}
use Rattle.overlay_base.proofs.laws.geometry.Apart.{do_cross_from}

-- ---- vectors

abbrev pub IsForward : Point → Type 0
IsForward v = (pos 0 <ℤ v.x) ⊎ ((v.x ≡ pos 0) × (pos 0 <ℤ v.y))

pub forward : (p q : Point) → Before p q → IsForward (step p q)
forward p q (inl h) = inl (omega (arith, ints, h))
forward p q (inr (e, h)) = inr (omega (arith, ints, e), omega (arith, ints, h))

x_nonneg : (v : Point) → IsForward v → pos 0 ≤ℤ v.x
x_nonneg v (inl h) = omega (arith, ints, h)
x_nonneg v (inr (e, h)) = omega (arith, ints, e)

three : (u v w : Point) → v.x *ℤ cross_product u w ≡ w.x *ℤ cross_product u v +ℤ u.x *ℤ cross_product v w
three u v w = rw (as_D u.x, as_D u.y, as_D v.x, as_D v.y, as_D w.x, as_D w.y) (simp diffs (D-eq _ _ _ _ (omega arith)))

-- the turn to a vector that is upright
to_upright : (u w : Point) → w.x ≡ pos 0 → cross_product u w ≡ u.x *ℤ w.y
to_upright u w e = plain (u.x *ℤ w.y) (u.y *ℤ w.x) (times_nothing u.y w.x e)
  where
    plain : (m n : ℤ) → n ≡ pos 0 → m -ℤ n ≡ m
    plain m n e = omega (arith, ints, e)

turned : (u v : Point) → cross_product u v ≡ neg_ℤ (cross_product v u)
turned u v = rw (as_D u.x, as_D u.y, as_D v.x, as_D v.y) (simp diffs (D-eq _ _ _ _ (omega arith)))

positive_plus : (u v : ℤ) → pos 0 <ℤ u → pos 0 ≤ℤ v → pos 0 <ℤ (u +ℤ v)
positive_plus u v h k = omega (arith, ints, h, k)

-- what turns left of what turns left
pub left_of : (u v w : Point) → IsForward u → IsForward v → IsForward w → pos 0 <ℤ cross_product u v → pos 0 ≤ℤ cross_product v w → pos 0 <ℤ cross_product u w
left_of u v w fu (inl vx) (inl wx) h k = cancel-pos v.x (cross_product u w) vx (subst (λ z. pos 0 <ℤ z) (sym (three u v w)) (positive_plus _ _ (mul-pos w.x _ wx h) (mul-nonneg u.x _ (x_nonneg u fu) k)))
left_of u v w (inl ux) (inl vx) (inr (e, wy)) h k = subst (λ z. pos 0 <ℤ z) (sym (to_upright u w e)) (mul-pos u.x w.y ux wy)
left_of u v w (inr (d, uy)) (inl vx) (inr (e, wy)) h k = absurd (backward (v.x *ℤ u.y) (cross_product u v) (mul-pos v.x u.y vx uy) (turned u v) (to_upright v u d) h)
  where
    backward : (m z : ℤ) → pos 0 <ℤ m → z ≡ neg_ℤ (cross_product v u) → cross_product v u ≡ m → pos 0 <ℤ z → ⊥
    backward m z p e f h = plain m z (cross_product v u) p e f h
      where
        plain : (m z y : ℤ) → pos 0 <ℤ m → z ≡ neg_ℤ y → y ≡ m → pos 0 <ℤ z → ⊥
        plain m z y p e f h = omega (arith, ints, p, e, f, h)
left_of u v w fu (inr (d, vy)) fw h k = upright fu fw
  where
    -- v is upright: so u points right, and w is upright too
    upright : IsForward u → IsForward w → pos 0 <ℤ cross_product u w
    upright (inr (c, uy)) fw = absurd (plain (cross_product u v) (u.x *ℤ v.y) (to_upright u v d) (nothing u.x v.y c) h)
      where
        nothing : (x y : ℤ) → x ≡ pos 0 → x *ℤ y ≡ pos 0
        nothing x y c = rw (c, as_D y) (simp diffs (D-eq _ _ _ _ (omega arith)))

        plain : (z m : ℤ) → z ≡ m → m ≡ pos 0 → pos 0 <ℤ z → ⊥
        plain z m e f h = omega (arith, ints, e, f, h)
    upright (inl ux) (inr (e, wy)) = subst (λ z. pos 0 <ℤ z) (sym (to_upright u w e)) (mul-pos u.x w.y ux wy)
    upright (inl ux) (inl wx) = absurd (plain (cross_product v w) (cross_product w v) (w.x *ℤ v.y) (turned v w) (to_upright w v d) (mul-pos w.x v.y wx vy) k)
      where
        plain : (z y m : ℤ) → z ≡ neg_ℤ y → y ≡ m → pos 0 <ℤ m → pos 0 ≤ℤ z → ⊥
        plain z y m e f p k = omega (arith, ints, e, f, p, k)

from_turned : (y z : ℤ) → y ≡ neg_ℤ z → (pos 0 <ℤ y → ⊥) → pos 0 ≤ℤ z
from_turned y z e n = by_lt_z z (pos 0) (λ (l : z <ℤ pos 0). absurd (n (omega (arith, ints, e, l)))) (λ (l : pos 0 ≤ℤ z). l)

pub left_of_or_on : (u v w : Point) → IsForward u → IsForward v → IsForward w → pos 0 ≤ℤ cross_product u v → pos 0 ≤ℤ cross_product v w → pos 0 ≤ℤ cross_product u w
left_of_or_on u v w fu fv fw h k =
    from_turned (cross_product w u) (cross_product u w) (turned w u)
    (λ p. plain (cross_product w v) (cross_product v w) (turned w v) (left_of w u v fw fu fv p h) k)
  where
    plain : (y z : ℤ) → y ≡ neg_ℤ z → pos 0 <ℤ y → pos 0 ≤ℤ z → ⊥
    plain y z e p k = omega (arith, ints, e, p, k)

pub on_or_left_of : (u v w : Point) → IsForward u → IsForward v → IsForward w → pos 0 ≤ℤ cross_product u v → pos 0 <ℤ cross_product v w → pos 0 <ℤ cross_product u w
on_or_left_of u v w fu fv fw h k =
    by_lt_z (pos 0) (cross_product u w) (λ (l : pos 0 <ℤ cross_product u w). l)
    (λ (l : cross_product u w ≤ℤ pos 0). absurd (plain (cross_product v u) (cross_product u v) (turned v u) (left_of v w u fv fw fu k (plain_back (cross_product w u) (cross_product u w) (turned w u) l)) h))
  where
    plain : (y z : ℤ) → y ≡ neg_ℤ z → pos 0 <ℤ y → pos 0 ≤ℤ z → ⊥
    plain y z e p k = omega (arith, ints, e, p, k)

    plain_back : (y z : ℤ) → y ≡ neg_ℤ z → z ≤ℤ pos 0 → pos 0 ≤ℤ y
    plain_back y z e l = omega (arith, ints, e, l)

-- ---- segments

-- turns around a point, by vectors
pub turn_by_steps : (p q r : Point) → turn p q r ≡ cross_product (step p q) (step p r)
unfolding turn
turn_by_steps p q r = refl

-- a turn, by a point on the way
turn_by_way : (p q m r : Point) → turn p q r ≡ turn p q m +ℤ cross_product (step p q) (step m r)
unfolding turn
turn_by_way p q m r = rw (as_D p.x, as_D p.y, as_D q.x, as_D q.y, as_D m.x, as_D m.y, as_D r.x, as_D r.y) (simp diffs (D-eq _ _ _ _ (omega arith)))

-- the same where the last point comes before the one on the way
turn_by_way_back : (p q m r : Point) → turn p q r ≡ turn p q m +ℤ cross_product (step r m) (step p q)
unfolding turn
turn_by_way_back p q m r = rw (as_D p.x, as_D p.y, as_D q.x, as_D q.y, as_D m.x, as_D m.y, as_D r.x, as_D r.y) (simp diffs (D-eq _ _ _ _ (omega arith)))

-- t begins strictly below s, and q lies at or above s and at or below t, strictly above or below one of them, no farther than both: then they cross
pub cross_from_below : (s t : Pair) (q : Point) → Before s.a s.b → Before t.a t.b → Before s.a t.a → Before t.a q → UpTo q s.b → UpTo q t.b →
    turn s.a s.b t.a <ℤ pos 0 → pos 0 ≤ℤ turn s.a s.b q → turn t.a t.b q ≤ℤ pos 0 → (pos 0 <ℤ turn s.a s.b q) ⊎ (turn t.a t.b q <ℤ pos 0) → IsTrue (do_cross s t)
cross_from_below s t q os ot st tq q_s q_t below on_s on_t strict =
    do_cross_from s t (inl (below, over)) (inr (start, last))
  where
    u : Point
    u = step s.a s.b

    z : Point
    z = step t.a t.b

    r : Point
    r = step t.a q

    fu : IsForward u
    fu = forward s.a s.b os

    fz : IsForward z
    fz = forward t.a t.b ot

    fr : IsForward r
    fr = forward t.a q tq

    -- the way from the start of t to q turns left of s, and t turns left of that way
    first : pos 0 <ℤ cross_product u r
    first = plain (turn s.a s.b q) (turn s.a s.b t.a) (cross_product u r) (turn_by_way s.a s.b t.a q) below on_s
      where
        plain : (x y w : ℤ) → x ≡ y +ℤ w → y <ℤ pos 0 → pos 0 ≤ℤ x → pos 0 <ℤ w
        plain x y w e h k = omega (arith, ints, e, h, k)

    second : pos 0 ≤ℤ cross_product r z
    second = plain (cross_product r z) (cross_product z r) (turn t.a t.b q) (turned r z) (turn_by_steps t.a t.b q) on_t
      where
        plain : (x y w : ℤ) → x ≡ neg_ℤ y → w ≡ y → w ≤ℤ pos 0 → pos 0 ≤ℤ x
        plain x y w e f h = omega (arith, ints, e, f, h)

    left : pos 0 <ℤ cross_product u z
    left = left_of u r z fu fr fz first second

    over : pos 0 <ℤ turn s.a s.b t.b
    over = by_UpTo q t.b q_t farther same
      where
        farther : Before q t.b → pos 0 <ℤ turn s.a s.b t.b
        farther h =
            let m = step q t.b in
            let rest : pos 0 ≤ℤ cross_product z m = plain (turn t.a t.b t.b) (turn t.a t.b q) (cross_product z m) (turn_by_way t.a t.b q t.b) (turn_same_last t.a t.b) on_t in
            plus (turn s.a s.b t.b) (turn s.a s.b q) (cross_product u m) (turn_by_way s.a s.b q t.b) on_s (left_of u z m fu fz (forward q t.b h) left rest)
          where
            plain : (x y w : ℤ) → x ≡ y +ℤ w → x ≡ pos 0 → y ≤ℤ pos 0 → pos 0 ≤ℤ w
            plain x y w e f h = omega (arith, ints, e, f, h)

            plus : (x y w : ℤ) → x ≡ y +ℤ w → pos 0 ≤ℤ y → pos 0 <ℤ w → pos 0 <ℤ x
            plus x y w e f h = omega (arith, ints, e, f, h)

        same : q ≡ t.b → pos 0 <ℤ turn s.a s.b t.b
        same e = subst (λ p. pos 0 <ℤ turn s.a s.b p) e (⊎_elim (λ h. h) (λ h. absurd (plain (turn t.a t.b q) h (subst (λ p. turn t.a t.b p ≡ pos 0) (sym e) (turn_same_last t.a t.b)))) strict)
          where
            plain : (x : ℤ) → x <ℤ pos 0 → x ≡ pos 0 → ⊥
            plain x h e = omega (arith, ints, h, e)

    start : pos 0 <ℤ turn t.a t.b s.a
    start =
        let k = step s.a t.a in
        let right : pos 0 <ℤ cross_product k u = plain (cross_product k u) (cross_product u k) (turn s.a s.b t.a) (turned k u) (turn_by_steps s.a s.b t.a) below in
        plus (turn t.a t.b s.a) (turn t.a t.b t.a) (cross_product k z) (turn_by_way_back t.a t.b t.a s.a) (turn_same_outer t.a t.b) (left_of k u z (forward s.a t.a st) fu fz right (weak (cross_product u z) left))
      where
        plain : (x y w : ℤ) → x ≡ neg_ℤ y → w ≡ y → w <ℤ pos 0 → pos 0 <ℤ x
        plain x y w e f h = omega (arith, ints, e, f, h)

        plus : (x y w : ℤ) → x ≡ y +ℤ w → y ≡ pos 0 → pos 0 <ℤ w → pos 0 <ℤ x
        plus x y w e f h = omega (arith, ints, e, f, h)

        weak : (x : ℤ) → pos 0 <ℤ x → pos 0 ≤ℤ x
        weak x h = omega (arith, ints, h)

    last : turn t.a t.b s.b <ℤ pos 0
    last = by_UpTo q s.b q_s farther same
      where
        farther : Before q s.b → turn t.a t.b s.b <ℤ pos 0
        farther h =
            let n = step q s.b in
            let rest : pos 0 ≤ℤ cross_product n u = plain (turn s.a s.b s.b) (turn s.a s.b q) (cross_product u n) (cross_product n u) (turn_by_way s.a s.b q s.b) (turn_same_last s.a s.b) (turned n u) on_s in
            plus (turn t.a t.b s.b) (turn t.a t.b q) (cross_product z n) (cross_product n z) (turn_by_way t.a t.b q s.b) (turned n z) on_t (on_or_left_of n u z (forward q s.b h) fu fz rest left)
          where
            plain : (x y w m : ℤ) → x ≡ y +ℤ w → x ≡ pos 0 → m ≡ neg_ℤ w → pos 0 ≤ℤ y → pos 0 ≤ℤ m
            plain x y w m e f g h = omega (arith, ints, e, f, g, h)

            plus : (x y w m : ℤ) → x ≡ y +ℤ w → m ≡ neg_ℤ w → y ≤ℤ pos 0 → pos 0 <ℤ m → x <ℤ pos 0
            plus x y w m e f g h = omega (arith, ints, e, f, g, h)

        same : q ≡ s.b → turn t.a t.b s.b <ℤ pos 0
        same e = subst (λ p. turn t.a t.b p <ℤ pos 0) e (⊎_elim (λ h. absurd (plain (turn s.a s.b q) h (subst (λ p. turn s.a s.b p ≡ pos 0) (sym e) (turn_same_last s.a s.b)))) (λ h. h) strict)
          where
            plain : (x : ℤ) → pos 0 <ℤ x → x ≡ pos 0 → ⊥
            plain x h e = omega (arith, ints, h, e)

-- t begins strictly above s, and q lies at or below s and at or above t, strictly above or below one of them, no farther than both: then they cross
pub cross_from_above : (s t : Pair) (q : Point) → Before s.a s.b → Before t.a t.b → Before s.a t.a → Before t.a q → UpTo q s.b → UpTo q t.b →
    pos 0 <ℤ turn s.a s.b t.a → turn s.a s.b q ≤ℤ pos 0 → pos 0 ≤ℤ turn t.a t.b q → (turn s.a s.b q <ℤ pos 0) ⊎ (pos 0 <ℤ turn t.a t.b q) → IsTrue (do_cross s t)
cross_from_above s t q os ot st tq q_s q_t above on_s on_t strict =
    do_cross_from s t (inr (above, over)) (inl (start, last))
  where
    u : Point
    u = step s.a s.b

    z : Point
    z = step t.a t.b

    r : Point
    r = step t.a q

    fu : IsForward u
    fu = forward s.a s.b os

    fz : IsForward z
    fz = forward t.a t.b ot

    fr : IsForward r
    fr = forward t.a q tq

    -- the way from the start of t to q turns right of s, and t turns right of that way
    first : pos 0 <ℤ cross_product r u
    first = plain (turn s.a s.b q) (turn s.a s.b t.a) (cross_product u r) (cross_product r u) (turn_by_way s.a s.b t.a q) (turned r u) above on_s
      where
        plain : (x y w m : ℤ) → x ≡ y +ℤ w → m ≡ neg_ℤ w → pos 0 <ℤ y → x ≤ℤ pos 0 → pos 0 <ℤ m
        plain x y w m e f h k = omega (arith, ints, e, f, h, k)

    second : pos 0 ≤ℤ cross_product z r
    second = subst (λ x. pos 0 ≤ℤ x) (turn_by_steps t.a t.b q) on_t

    right : pos 0 <ℤ cross_product z u
    right = on_or_left_of z r u fz fr fu second first

    over : turn s.a s.b t.b <ℤ pos 0
    over = by_UpTo q t.b q_t farther same
      where
        farther : Before q t.b → turn s.a s.b t.b <ℤ pos 0
        farther h =
            let m = step q t.b in
            let rest : pos 0 ≤ℤ cross_product m z = plain (turn t.a t.b t.b) (turn t.a t.b q) (cross_product z m) (cross_product m z) (turn_by_way t.a t.b q t.b) (turn_same_last t.a t.b) (turned m z) on_t in
            plus (turn s.a s.b t.b) (turn s.a s.b q) (cross_product u m) (cross_product m u) (turn_by_way s.a s.b q t.b) (turned m u) on_s (on_or_left_of m z u (forward q t.b h) fz fu rest right)
          where
            plain : (x y w m : ℤ) → x ≡ y +ℤ w → x ≡ pos 0 → m ≡ neg_ℤ w → pos 0 ≤ℤ y → pos 0 ≤ℤ m
            plain x y w m e f g h = omega (arith, ints, e, f, g, h)

            plus : (x y w m : ℤ) → x ≡ y +ℤ w → m ≡ neg_ℤ w → y ≤ℤ pos 0 → pos 0 <ℤ m → x <ℤ pos 0
            plus x y w m e f g h = omega (arith, ints, e, f, g, h)

        same : q ≡ t.b → turn s.a s.b t.b <ℤ pos 0
        same e = subst (λ p. turn s.a s.b p <ℤ pos 0) e (⊎_elim (λ h. h) (λ h. absurd (plain (turn t.a t.b q) h (subst (λ p. turn t.a t.b p ≡ pos 0) (sym e) (turn_same_last t.a t.b)))) strict)
          where
            plain : (x : ℤ) → pos 0 <ℤ x → x ≡ pos 0 → ⊥
            plain x h e = omega (arith, ints, h, e)

    start : turn t.a t.b s.a <ℤ pos 0
    start =
        let k = step s.a t.a in
        let left : pos 0 <ℤ cross_product u k = subst (λ x. pos 0 <ℤ x) (turn_by_steps s.a s.b t.a) above in
        plus (turn t.a t.b s.a) (turn t.a t.b t.a) (cross_product k z) (cross_product z k) (turn_by_way_back t.a t.b t.a s.a) (turned k z) (turn_same_outer t.a t.b) (left_of z u k fz fu (forward s.a t.a st) right (weak (cross_product u k) left))
      where
        plus : (x y w m : ℤ) → x ≡ y +ℤ w → w ≡ neg_ℤ m → y ≡ pos 0 → pos 0 <ℤ m → x <ℤ pos 0
        plus x y w m e f g h = omega (arith, ints, e, f, g, h)

        weak : (x : ℤ) → pos 0 <ℤ x → pos 0 ≤ℤ x
        weak x h = omega (arith, ints, h)

    last : pos 0 <ℤ turn t.a t.b s.b
    last = by_UpTo q s.b q_s farther same
      where
        farther : Before q s.b → pos 0 <ℤ turn t.a t.b s.b
        farther h =
            let n = step q s.b in
            let rest : pos 0 ≤ℤ cross_product u n = plain (turn s.a s.b s.b) (turn s.a s.b q) (cross_product u n) (turn_by_way s.a s.b q s.b) (turn_same_last s.a s.b) on_s in
            plus (turn t.a t.b s.b) (turn t.a t.b q) (cross_product z n) (turn_by_way t.a t.b q s.b) on_t (left_of z u n fz fu (forward q s.b h) right rest)
          where
            plain : (x y w : ℤ) → x ≡ y +ℤ w → x ≡ pos 0 → y ≤ℤ pos 0 → pos 0 ≤ℤ w
            plain x y w e f h = omega (arith, ints, e, f, h)

            plus : (x y w : ℤ) → x ≡ y +ℤ w → pos 0 ≤ℤ y → pos 0 <ℤ w → pos 0 <ℤ x
            plus x y w e f h = omega (arith, ints, e, f, h)

        same : q ≡ s.b → pos 0 <ℤ turn t.a t.b s.b
        same e = subst (λ p. pos 0 <ℤ turn t.a t.b p) e (⊎_elim (λ h. absurd (plain (turn s.a s.b q) h (subst (λ p. turn s.a s.b p ≡ pos 0) (sym e) (turn_same_last s.a s.b)))) (λ h. h) strict)
          where
            plain : (x : ℤ) → x <ℤ pos 0 → x ≡ pos 0 → ⊥
            plain x h e = omega (arith, ints, h, e)
