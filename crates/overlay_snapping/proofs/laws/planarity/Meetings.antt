-- Two segments with parts that cross: the segments cross, and between the ends of the parts.
use Rattle.std.proofs.Common.{◌≡◌, ◌∙◌, refl, sym, ap, subst, arith, inl, inr, ℕ, ◌<◌, ◌≤◌, suc, zero}
use Rattle.std.specs.Prelude.{ℤ, pos, negsuc, ◌+ℤ◌, ◌-ℤ◌, ◌*ℤ◌, ◌≤ℤ◌, ◌<ℤ◌, neg_ℤ, unsigned_abs}
use Rattle.std.specs.Int.{int_signum}
use Rattle.std.proofs.lemmas.Int.{ints, by_lt_z}
use Rattle.overlay_geometry.specs.Points.{Pair, turn}
use Rattle.overlay_geometry.proofs.laws.geometry.Polynomials.{as_D, diffs, D-eq, mul-nonneg, mul-nonpos, mul-le_left, cancel-pos, cancel-neg}
use Rattle.overlay_geometry.proofs.laws.geometry.Points.{turn_rotates}
use Rattle.overlay_base.proofs.laws.geometry.Apart.{Opposite}
use Rattle.overlay_intersections.specs.Crossing.{crossing_n, crossing_d}
use Rattle.overlay_intersections.proofs.laws.crossings.Crossings.{share, scale}
use Rattle.overlay_snapping.proofs.laws.planarity.Stops.{along_by}

-- ---- turns of parts

step_along : (a d m r k : ℤ) → (a *ℤ m +ℤ d *ℤ k) -ℤ (a *ℤ m +ℤ d *ℤ r) ≡ d *ℤ (k -ℤ r)
step_along a d m r k = rw (as_D a, as_D d, as_D m, as_D r, as_D k) (simp diffs (D-eq _ _ _ _ (omega arith)))

way_between : (a b d u m n r : ℤ) → (b *ℤ m +ℤ u *ℤ n) -ℤ (a *ℤ m +ℤ d *ℤ r) ≡ m *ℤ (b -ℤ a) +ℤ (n *ℤ u -ℤ r *ℤ d)
way_between a b d u m n r = rw (as_D a, as_D b, as_D d, as_D u, as_D m, as_D n, as_D r) (simp diffs (D-eq _ _ _ _ (omega arith)))

out : (p q x y z : ℤ) → (p *ℤ z) *ℤ y -ℤ (q *ℤ z) *ℤ x ≡ z *ℤ (p *ℤ y -ℤ q *ℤ x)
out p q x y z = rw (as_D p, as_D q, as_D x, as_D y, as_D z) (simp diffs (D-eq _ _ _ _ (omega arith)))

by_parts : (p q u v f g m n r : ℤ) → p *ℤ (m *ℤ g +ℤ (n *ℤ v -ℤ r *ℤ q)) -ℤ q *ℤ (m *ℤ f +ℤ (n *ℤ u -ℤ r *ℤ p)) ≡ m *ℤ (p *ℤ g -ℤ q *ℤ f) +ℤ n *ℤ (p *ℤ v -ℤ q *ℤ u)
by_parts p q u v f g m n r = rw (as_D p, as_D q, as_D u, as_D v, as_D f, as_D g, as_D m, as_D n, as_D r) (simp diffs (D-eq _ _ _ _ (omega arith)))

-- the mean of the turns of the two ends of s
abbrev mean : ℕ → Pair → Pair → ℕ → ℤ
mean m s t n = (pos m -ℤ pos n) *ℤ turn t.a t.b s.a +ℤ pos n *ℤ turn t.a t.b s.b

ends_of_turn : (s t : Pair) → (t.b.x -ℤ t.a.x) *ℤ (s.b.y -ℤ s.a.y) -ℤ (t.b.y -ℤ t.a.y) *ℤ (s.b.x -ℤ s.a.x) ≡ turn t.a t.b s.b -ℤ turn t.a t.b s.a
unfolding turn
ends_of_turn s t = rw (as_D s.a.x, as_D s.a.y, as_D s.b.x, as_D s.b.y, as_D t.a.x, as_D t.a.y, as_D t.b.x, as_D t.b.y) (simp diffs (D-eq _ _ _ _ (omega arith)))

turn_of_parts : (m : ℕ) (s t : Pair) (n r k : ℕ) → turn (along_by m t r) (along_by m t k) (along_by m s n) ≡ (pos k -ℤ pos r) *ℤ mean m s t n
unfolding turn
turn_of_parts m s t n r k =
    let p = t.b.x -ℤ t.a.x in
    let q = t.b.y -ℤ t.a.y in
    rw (step_along t.a.x p (pos m) (pos r) (pos k), step_along t.a.y q (pos m) (pos r) (pos k), way_between t.a.x s.a.x p (s.b.x -ℤ s.a.x) (pos m) (pos n) (pos r), way_between t.a.y s.a.y q (s.b.y -ℤ s.a.y) (pos m) (pos n) (pos r))
    (out p q _ _ (pos k -ℤ pos r) ∙ ap (λ (z : ℤ). (pos k -ℤ pos r) *ℤ z) (by_parts p q (s.b.x -ℤ s.a.x) (s.b.y -ℤ s.a.y) (s.a.x -ℤ t.a.x) (s.a.y -ℤ t.a.y) (pos m) (pos n) (pos r)
    ∙ ap (λ (z : ℤ). pos m *ℤ turn t.a t.b s.a +ℤ pos n *ℤ z) (ends_of_turn s t) ∙ shared (pos m) (pos n) (turn t.a t.b s.a) (turn t.a t.b s.b)))
  where
    shared : (m n a b : ℤ) → m *ℤ a +ℤ n *ℤ (b -ℤ a) ≡ (m -ℤ n) *ℤ a +ℤ n *ℤ b
    shared m n a b = rw (as_D m, as_D n, as_D a, as_D b) (simp diffs (D-eq _ _ _ _ (omega arith)))

-- ---- signs

opposite_parts : (z f g : ℤ) → pos 0 <ℤ z → Opposite (z *ℤ f) (z *ℤ g) → Opposite f g
opposite_parts z f g up (inl (h, l)) = inl (cancel-neg z f up h, cancel-pos z g up l)
opposite_parts z f g up (inr (h, l)) = inr (cancel-pos z f up h, cancel-neg z g up l)

-- what a mean below 0 and then above 0 says of the ends
rises_from : (m n n' : ℕ) (a b : ℤ) → n < n' → n' ≤ m → ((pos m -ℤ pos n) *ℤ a +ℤ pos n *ℤ b) <ℤ pos 0 → pos 0 <ℤ ((pos m -ℤ pos n') *ℤ a +ℤ pos n' *ℤ b) → (a <ℤ pos 0) × (pos 0 <ℤ b)
rises_from m n n' a b less most low high = (first, last)
  where
    last : pos 0 <ℤ b
    last = by_lt_z (pos 0) b (λ h. h) (λ (b_down : b ≤ℤ pos 0). absurd (by_lt_z (pos 0) a
        (λ (a_up : pos 0 <ℤ a).
        -- then the mean falls
        let p = mul-le_left (pos n' -ℤ pos n) b a (omega (arith, ints, less)) (omega (arith, ints, a_up, b_down)) in
        let e = moved (pos m) (pos n) (pos n') a b in
        omega (arith, ints, p, e, low, high))
        (λ (a_down : a ≤ℤ pos 0).
        let p = mul-nonpos (pos m -ℤ pos n') a (omega (arith, ints, most)) a_down in
        let q = mul-nonpos (pos n') b (omega (arith, ints)) b_down in
        omega (arith, ints, p, q, high))))
      where
        moved : (m n n' a b : ℤ) → ((m -ℤ n') *ℤ a +ℤ n' *ℤ b) -ℤ ((m -ℤ n) *ℤ a +ℤ n *ℤ b) ≡ (n' -ℤ n) *ℤ b -ℤ (n' -ℤ n) *ℤ a
        moved m n n' a b = rw (as_D m, as_D n, as_D n', as_D a, as_D b) (simp diffs (D-eq _ _ _ _ (omega arith)))

    first : a <ℤ pos 0
    first = by_lt_z a (pos 0) (λ h. h) (λ (a_up : pos 0 ≤ℤ a). absurd (
        let p = mul-nonneg (pos m -ℤ pos n) a (omega (arith, ints, less, most)) a_up in
        let q = mul-nonneg (pos n) b (omega (arith, ints)) (let l = last in omega (arith, ints, l)) in
        omega (arith, ints, p, q, low)))

falls_from : (m n n' : ℕ) (a b : ℤ) → n < n' → n' ≤ m → pos 0 <ℤ ((pos m -ℤ pos n) *ℤ a +ℤ pos n *ℤ b) → ((pos m -ℤ pos n') *ℤ a +ℤ pos n' *ℤ b) <ℤ pos 0 → (pos 0 <ℤ a) × (b <ℤ pos 0)
falls_from m n n' a b less most high low =
    let r = rises_from m n n' (neg_ℤ a) (neg_ℤ b) less most (down _ _ (turned (pos m -ℤ pos n) (pos n) a b) high) (up _ _ (turned (pos m -ℤ pos n') (pos n') a b) low) in
    (omega (arith, ints, r.0), omega (arith, ints, r.1))
  where
    turned : (f g a b : ℤ) → f *ℤ neg_ℤ a +ℤ g *ℤ neg_ℤ b ≡ neg_ℤ (f *ℤ a +ℤ g *ℤ b)
    turned f g a b = rw (as_D f, as_D g, as_D a, as_D b) (simp diffs (D-eq _ _ _ _ (omega arith)))

    down : (x y : ℤ) → x ≡ neg_ℤ y → pos 0 <ℤ y → x <ℤ pos 0
    down x y e h = omega (arith, ints, e, h)

    up : (x y : ℤ) → x ≡ neg_ℤ y → y <ℤ pos 0 → pos 0 <ℤ x
    up x y e h = omega (arith, ints, e, h)

-- ---- where the crossing is along s

-- the crossing lies between two parts of s
pub record IsBetween (m : ℕ) (s t : Pair) (n n' : ℕ) : Type 0 where
  pub past_first : (pos n *ℤ pos (scale s t)) ≤ℤ (share s t *ℤ pos m)
  pub before_last : (share s t *ℤ pos m) ≤ℤ (pos n' *ℤ pos (scale s t))

crossing_d-is : (s t : Pair) → crossing_d s t ≡ turn t.a t.b s.a -ℤ turn t.a t.b s.b
unfolding turn
crossing_d-is s t = rw (as_D s.a.x, as_D s.a.y, as_D s.b.x, as_D s.b.y, as_D t.a.x, as_D t.a.y, as_D t.b.x, as_D t.b.y) (simp diffs (D-eq _ _ _ _ (omega arith)))

signum_up : (d n : ℤ) → pos 0 <ℤ d → int_signum d *ℤ n ≡ n
signum_up (pos zero) n h = absurd (omega (arith, ints, h))
signum_up (pos (suc d)) n h = let e : int_signum (pos (suc d)) ≡ pos 1 = ap pos (omega arith) in subst (λ (g : ℤ). g *ℤ n ≡ n) (sym e) (omega (arith, ints))
signum_up (negsuc d) n h = absurd (omega (arith, ints, h))

signum_down : (d n : ℤ) → d <ℤ pos 0 → int_signum d *ℤ n ≡ neg_ℤ n
signum_down (pos d) n h = absurd (omega (arith, ints, h))
signum_down (negsuc d) n h = omega (arith, ints)

abs_up : (d : ℤ) → pos 0 <ℤ d → pos (unsigned_abs d) ≡ d
abs_up d h = omega (arith, ints, h)

abs_down : (d : ℤ) → d <ℤ pos 0 → pos (unsigned_abs d) ≡ neg_ℤ d
abs_down d h = omega (arith, ints, h)

le_same : (u v u' v' : ℤ) → u ≡ u' → v ≡ v' → u' ≤ℤ v' → u ≤ℤ v
le_same u v u' v' e f h = omega (arith, ints, e, f, h)

between_falling : (m : ℕ) (s t : Pair) (n n' : ℕ) (a b : ℤ) → a ≡ turn t.a t.b s.a → b ≡ turn t.a t.b s.b → pos 0 <ℤ a → b <ℤ pos 0 →
    pos 0 <ℤ ((pos m -ℤ pos n) *ℤ a +ℤ pos n *ℤ b) → ((pos m -ℤ pos n') *ℤ a +ℤ pos n' *ℤ b) <ℤ pos 0 → IsBetween m s t n n'
unfolding share scale
between_falling m s t n n' a b is_a is_b a_up b_down high low =
    let d : crossing_d s t ≡ a -ℤ b = crossing_d-is s t ∙ sym (λ i. is_a i -ℤ is_b i) in
    let up : pos 0 <ℤ (a -ℤ b) = omega (arith, ints, a_up, b_down) in
    let top : int_signum (crossing_d s t) *ℤ crossing_n s t ≡ a = ap (λ (z : ℤ). int_signum z *ℤ crossing_n s t) d ∙ signum_up (a -ℤ b) (crossing_n s t) up ∙ turn_rotates s.a t.a t.b ∙ sym is_a in
    let bottom : pos (unsigned_abs (crossing_d s t)) ≡ a -ℤ b = ap (λ (z : ℤ). pos (unsigned_abs z)) d ∙ abs_up (a -ℤ b) up in
    record {
      past_first = le_same _ _ _ _ (ap (λ (z : ℤ). pos n *ℤ z) bottom) (ap (λ (z : ℤ). z *ℤ pos m) top) (past (pos m) (pos n) a b high);
      before_last = le_same _ _ _ _ (ap (λ (z : ℤ). z *ℤ pos m) top) (ap (λ (z : ℤ). pos n' *ℤ z) bottom) (before (pos m) (pos n') a b low);
    }
  where
    shared : (m n a b : ℤ) → (m -ℤ n) *ℤ a +ℤ n *ℤ b ≡ a *ℤ m -ℤ n *ℤ (a -ℤ b)
    shared m n a b = rw (as_D m, as_D n, as_D a, as_D b) (simp diffs (D-eq _ _ _ _ (omega arith)))

    past : (m n a b : ℤ) → pos 0 <ℤ ((m -ℤ n) *ℤ a +ℤ n *ℤ b) → (n *ℤ (a -ℤ b)) ≤ℤ (a *ℤ m)
    past m n a b h = plain _ _ _ (shared m n a b) h
      where
        plain : (x y z : ℤ) → x ≡ y -ℤ z → pos 0 <ℤ x → z ≤ℤ y
        plain x y z e h = omega (arith, ints, e, h)

    before : (m n a b : ℤ) → ((m -ℤ n) *ℤ a +ℤ n *ℤ b) <ℤ pos 0 → (a *ℤ m) ≤ℤ (n *ℤ (a -ℤ b))
    before m n a b h = plain _ _ _ (shared m n a b) h
      where
        plain : (x y z : ℤ) → x ≡ y -ℤ z → x <ℤ pos 0 → y ≤ℤ z
        plain x y z e h = omega (arith, ints, e, h)

between_rising : (m : ℕ) (s t : Pair) (n n' : ℕ) (a b : ℤ) → a ≡ turn t.a t.b s.a → b ≡ turn t.a t.b s.b → a <ℤ pos 0 → pos 0 <ℤ b →
    ((pos m -ℤ pos n) *ℤ a +ℤ pos n *ℤ b) <ℤ pos 0 → pos 0 <ℤ ((pos m -ℤ pos n') *ℤ a +ℤ pos n' *ℤ b) → IsBetween m s t n n'
unfolding share scale
between_rising m s t n n' a b is_a is_b a_down b_up low high =
    let d : crossing_d s t ≡ a -ℤ b = crossing_d-is s t ∙ sym (λ i. is_a i -ℤ is_b i) in
    let down : (a -ℤ b) <ℤ pos 0 = omega (arith, ints, a_down, b_up) in
    let top : int_signum (crossing_d s t) *ℤ crossing_n s t ≡ neg_ℤ a = ap (λ (z : ℤ). int_signum z *ℤ crossing_n s t) d ∙ signum_down (a -ℤ b) (crossing_n s t) down ∙ ap neg_ℤ (turn_rotates s.a t.a t.b ∙ sym is_a) in
    let bottom : pos (unsigned_abs (crossing_d s t)) ≡ neg_ℤ (a -ℤ b) = ap (λ (z : ℤ). pos (unsigned_abs z)) d ∙ abs_down (a -ℤ b) down in
    record {
      past_first = le_same _ _ _ _ (ap (λ (z : ℤ). pos n *ℤ z) bottom) (ap (λ (z : ℤ). z *ℤ pos m) top) (past (pos m) (pos n) a b low);
      before_last = le_same _ _ _ _ (ap (λ (z : ℤ). z *ℤ pos m) top) (ap (λ (z : ℤ). pos n' *ℤ z) bottom) (before (pos m) (pos n') a b high);
    }
  where
    shared : (m n a b : ℤ) → (m -ℤ n) *ℤ a +ℤ n *ℤ b ≡ n *ℤ neg_ℤ (a -ℤ b) -ℤ neg_ℤ a *ℤ m
    shared m n a b = rw (as_D m, as_D n, as_D a, as_D b) (simp diffs (D-eq _ _ _ _ (omega arith)))

    past : (m n a b : ℤ) → ((m -ℤ n) *ℤ a +ℤ n *ℤ b) <ℤ pos 0 → (n *ℤ neg_ℤ (a -ℤ b)) ≤ℤ (neg_ℤ a *ℤ m)
    past m n a b h = plain _ _ _ (shared m n a b) h
      where
        plain : (x y z : ℤ) → x ≡ y -ℤ z → x <ℤ pos 0 → y ≤ℤ z
        plain x y z e h = omega (arith, ints, e, h)

    before : (m n a b : ℤ) → pos 0 <ℤ ((m -ℤ n) *ℤ a +ℤ n *ℤ b) → (neg_ℤ a *ℤ m) ≤ℤ (n *ℤ neg_ℤ (a -ℤ b))
    before m n a b h = plain _ _ _ (shared m n a b) h
      where
        plain : (x y z : ℤ) → x ≡ y -ℤ z → pos 0 <ℤ x → z ≤ℤ y
        plain x y z e h = omega (arith, ints, e, h)

-- what a part of s on the two sides of a part of t says
pub record IsParted (m : ℕ) (s t : Pair) (n n' : ℕ) : Type 0 where
  pub ends : Opposite (turn t.a t.b s.a) (turn t.a t.b s.b)
  pub between : IsBetween m s t n n'

pub parted : (m : ℕ) (s t : Pair) (n n' r r' : ℕ) → n < n' → n' ≤ m → r < r' → Opposite (turn (along_by m t r) (along_by m t r') (along_by m s n)) (turn (along_by m t r) (along_by m t r') (along_by m s n')) → IsParted m s t n n'
parted m s t n n' r r' less most later h = by (opposite_parts (pos r' -ℤ pos r) (mean m s t n) (mean m s t n') (omega (arith, ints, later)) (rw (turn_of_parts m s t n r r', turn_of_parts m s t n' r r') at h))
  where
    by : Opposite (mean m s t n) (mean m s t n') → IsParted m s t n n'
    by (inl (low, high)) =
        let k = rises_from m n n' (turn t.a t.b s.a) (turn t.a t.b s.b) less most low high in
        record { ends = inl k; between = between_rising m s t n n' (turn t.a t.b s.a) (turn t.a t.b s.b) refl refl k.0 k.1 low high }
    by (inr (high, low)) =
        let k = falls_from m n n' (turn t.a t.b s.a) (turn t.a t.b s.b) less most high low in
        record { ends = inr k; between = between_falling m s t n n' (turn t.a t.b s.a) (turn t.a t.b s.b) refl refl k.0 k.1 high low }
