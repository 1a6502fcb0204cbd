-- The ends of two segments move along straight lines, each beyond the other segment in one direction at the beginning and at the end: if
-- the segments cross at the end, they cross at the beginning. The ends move one after another in many short steps.
use Rattle.std.proofs.Common.{◌≡◌, ◌∙◌, sym, refl, subst, arith, inl, inr, ℕ, zero, suc, ◌+◌, Bool, true, false, if◌then◌else◌}
use Rattle.std.specs.Prelude.{ℤ, pos, ◌+ℤ◌, ◌-ℤ◌, ◌*ℤ◌, ◌≤ℤ◌, ◌<ℤ◌, neg_ℤ, unsigned_abs}
use Rattle.std.proofs.lemmas.Int.{ints}
use Rattle.overlay_geometry.specs.Points.{Point, turn}
use Rattle.overlay_geometry.proofs.laws.geometry.Polynomials.{as_D, diffs, D-eq, mul-pos, mul-neg, mul-le_left, cancel-pos, cancel-neg}
use Rattle.overlay_geometry.proofs.laws.integers.Products.{zero_times}
use Rattle.overlay_base.proofs.laws.geometry.Apart.{Opposite}
use Rattle.overlay_snapping.proofs.laws.planarity.Steps.{lead, AreBeyond, Cross, step_first, step_second, step_third, step_fourth}

-- ---- points on the way

-- m of p and n of p1, so that m + n times the point on the way from p to p1
abbrev way : ℕ → ℕ → Point → Point → Point
way m n p p1 = record { x = pos m *ℤ p.x +ℤ pos n *ℤ p1.x; y = pos m *ℤ p.y +ℤ pos n *ℤ p1.y }

-- at one of two times that follow one another
abbrev at : ℕ → ℕ → Bool → Point → Point → Point
at m n late p p1 = if late then way m (suc n) p p1 else way (suc m) n p p1

-- ---- leads on the way

lead_same : (m n : ℕ) (d p p1 q q1 : Point) → lead d (way m n p p1) (way m n q q1) ≡ pos m *ℤ lead d p q +ℤ pos n *ℤ lead d p1 q1
lead_same m n d p p1 q q1 = plain (pos m) (pos n) d.x d.y p.x p.y p1.x p1.y q.x q.y q1.x q1.y
  where
    one : (m n d p p1 q q1 : ℤ) → d *ℤ ((m *ℤ p +ℤ n *ℤ p1) -ℤ (m *ℤ q +ℤ n *ℤ q1)) ≡ m *ℤ (d *ℤ (p -ℤ q)) +ℤ n *ℤ (d *ℤ (p1 -ℤ q1))
    one m n d p p1 q q1 = rw (as_D m, as_D n, as_D d, as_D p, as_D p1, as_D q, as_D q1) (simp diffs (D-eq _ _ _ _ (omega arith)))

    join : (m n u v u1 v1 : ℤ) → (m *ℤ u +ℤ n *ℤ u1) +ℤ (m *ℤ v +ℤ n *ℤ v1) ≡ m *ℤ (u +ℤ v) +ℤ n *ℤ (u1 +ℤ v1)
    join m n u v u1 v1 = rw (as_D m, as_D n, as_D u, as_D v, as_D u1, as_D v1) (simp diffs (D-eq _ _ _ _ (omega arith)))

    plain : (m n dx dy px py p1x p1y qx qy q1x q1y : ℤ) →
        dx *ℤ ((m *ℤ px +ℤ n *ℤ p1x) -ℤ (m *ℤ qx +ℤ n *ℤ q1x)) +ℤ dy *ℤ ((m *ℤ py +ℤ n *ℤ p1y) -ℤ (m *ℤ qy +ℤ n *ℤ q1y))
        ≡ m *ℤ (dx *ℤ (px -ℤ qx) +ℤ dy *ℤ (py -ℤ qy)) +ℤ n *ℤ (dx *ℤ (p1x -ℤ q1x) +ℤ dy *ℤ (p1y -ℤ q1y))
    plain m n dx dy px py p1x p1y qx qy q1x q1y = rw (one m n dx px p1x qx q1x, one m n dy py p1y qy q1y) (join m n (dx *ℤ (px -ℤ qx)) (dy *ℤ (py -ℤ qy)) (dx *ℤ (p1x -ℤ q1x)) (dy *ℤ (p1y -ℤ q1y)))

-- a point that is one time ahead of the other, or behind
lead_step : (m n : ℕ) (d p p1 q : Point) → lead d (way m (suc n) p p1) q ≡ lead d (way (suc m) n p p1) q +ℤ lead d p1 p
lead_step m n d p p1 q = plain d.x d.y (pos m *ℤ p.x) (pos m *ℤ p.y) (pos n *ℤ p1.x) (pos n *ℤ p1.y) p.x p.y p1.x p1.y q.x q.y (pos (suc n) *ℤ p1.x) (pos (suc n) *ℤ p1.y) (pos (suc m) *ℤ p.x) (pos (suc m) *ℤ p.y) (more n p1.x) (more n p1.y) (more m p.x) (more m p.y)
  where
    more : (n : ℕ) (z : ℤ) → pos (suc n) *ℤ z ≡ pos n *ℤ z +ℤ z
    more n z = rw (as_D z) (simp diffs (D-eq _ _ _ _ (omega arith)))

    one : (d mp np p p1 q : ℤ) → d *ℤ ((mp +ℤ (np +ℤ p1)) -ℤ q) ≡ d *ℤ (((mp +ℤ p) +ℤ np) -ℤ q) +ℤ d *ℤ (p1 -ℤ p)
    one d mp np p p1 q = rw (as_D d, as_D mp, as_D np, as_D p, as_D p1, as_D q) (simp diffs (D-eq _ _ _ _ (omega arith)))

    shuffle : (a b c e : ℤ) → (a +ℤ b) +ℤ (c +ℤ e) ≡ (a +ℤ c) +ℤ (b +ℤ e)
    shuffle a b c e = omega (arith, ints)

    plain : (dx dy mpx mpy npx npy px py p1x p1y qx qy nx ny mx my : ℤ) → nx ≡ npx +ℤ p1x → ny ≡ npy +ℤ p1y → mx ≡ mpx +ℤ px → my ≡ mpy +ℤ py →
        dx *ℤ ((mpx +ℤ nx) -ℤ qx) +ℤ dy *ℤ ((mpy +ℤ ny) -ℤ qy) ≡ (dx *ℤ ((mx +ℤ npx) -ℤ qx) +ℤ dy *ℤ ((my +ℤ npy) -ℤ qy)) +ℤ (dx *ℤ (p1x -ℤ px) +ℤ dy *ℤ (p1y -ℤ py))
    plain dx dy mpx mpy npx npy px py p1x p1y qx qy nx ny mx my e f g h =
        rw (e, f, g, h, one dx mpx npx px p1x qx, one dy mpy npy py p1y qy)
        (shuffle (dx *ℤ (((mpx +ℤ px) +ℤ npx) -ℤ qx)) (dx *ℤ (p1x -ℤ px)) (dy *ℤ (((mpy +ℤ py) +ℤ npy) -ℤ qy)) (dy *ℤ (p1y -ℤ py)))

-- the leads at both times are at least one for each part of the way
at_least : (m n : ℕ) (l l1 : ℤ) → pos 0 <ℤ l → pos 0 <ℤ l1 → pos (m + n) ≤ℤ (pos m *ℤ l +ℤ pos n *ℤ l1)
at_least m n l l1 h h1 = let p = mul-le_left (pos m) (pos 1) l (omega (arith, ints)) (omega (arith, ints, h)) in let q = mul-le_left (pos n) (pos 1) l1 (omega (arith, ints)) (omega (arith, ints, h1)) in omega (arith, ints, p, q, one (pos m), one (pos n))
  where
    one : (z : ℤ) → z *ℤ pos 1 ≡ z
    one z = omega (arith, ints)

-- a direction in which a point moves by less than the number of steps
pub record IsSlow (steps : ℕ) (d p p1 : Point) : Type 0 where
  pub not_ahead : lead d p1 p <ℤ pos steps
  pub not_behind : neg_ℤ (lead d p1 p) <ℤ pos steps

stays_ahead : (m n : ℕ) (d p p1 q q1 : Point) → IsSlow (suc (m + n)) d p p1 → pos 0 <ℤ lead d p q → pos 0 <ℤ lead d p1 q1 → (b c : Bool) → pos 0 <ℤ lead d (at m n b p p1) (at m n c q q1)
stays_ahead m n d p p1 q q1 slow h h1 true true = rw (lead_same m (suc n) d p p1 q q1) (let l = at_least m (suc n) (lead d p q) (lead d p1 q1) h h1 in omega (arith, ints, l))
stays_ahead m n d p p1 q q1 slow h h1 false false = rw (lead_same (suc m) n d p p1 q q1) (let l = at_least (suc m) n (lead d p q) (lead d p1 q1) h h1 in omega (arith, ints, l))
stays_ahead m n d p p1 q q1 slow h h1 true false =
    rw (lead_step m n d p p1 (way (suc m) n q q1), lead_same (suc m) n d p p1 q q1)
    (let l = at_least (suc m) n (lead d p q) (lead d p1 q1) h h1 in let k = slow.not_behind in plain (pos (suc m) *ℤ lead d p q +ℤ pos n *ℤ lead d p1 q1) (lead d p1 p) (suc m + n) (suc (m + n)) (omega arith) l k)
  where
    plain : (f g : ℤ) (j k : ℕ) → j ≡ k → pos j ≤ℤ f → neg_ℤ g <ℤ pos k → pos 0 <ℤ (f +ℤ g)
    plain f g j k e h l = omega (arith, ints, e, h, l)
stays_ahead m n d p p1 q q1 slow h h1 false true =
    let same = lead_same m (suc n) d p p1 q q1 in
    let step = lead_step m n d p p1 (way m (suc n) q q1) in
    let l = at_least m (suc n) (lead d p q) (lead d p1 q1) h h1 in
    plain _ _ _ (lead d p1 p) (m + suc n) (suc (m + n)) (omega arith) same step l slow.not_ahead
  where
    plain : (f u z g : ℤ) (j k : ℕ) → j ≡ k → u ≡ f → u ≡ z +ℤ g → pos j ≤ℤ f → g <ℤ pos k → pos 0 <ℤ z
    plain f u z g j k same e step h l = omega (arith, ints, same, e, step, h, l)

-- ---- steps

module _ (d d' e e' p p' q q' p1 p1' q1 q1' : Point) (before : AreBeyond d d' e e' p p' q q') (after : AreBeyond d d' e e' p1 p1' q1 q1') where
  -- every end at one of two times
  beyond_at : (m n : ℕ) → IsSlow (suc (m + n)) d p p1 → IsSlow (suc (m + n)) d' p' p1' → IsSlow (suc (m + n)) e q q1 → IsSlow (suc (m + n)) e' q' q1' →
      (f f' g g' : Bool) → AreBeyond d d' e e' (at m n f p p1) (at m n f' p' p1') (at m n g q q1) (at m n g' q' q1')
  beyond_at m n s s' t t' f f' g g' = record {
    first_a = record { first = stays_ahead m n d p p1 q q1 s before.first_a.first after.first_a.first f g; second = stays_ahead m n d p p1 q' q1' s before.first_a.second after.first_a.second f g' };
    first_b = record { first = stays_ahead m n d' p' p1' q q1 s' before.first_b.first after.first_b.first f' g; second = stays_ahead m n d' p' p1' q' q1' s' before.first_b.second after.first_b.second f' g' };
    second_a = record { first = stays_ahead m n e q q1 p p1 t before.second_a.first after.second_a.first g f; second = stays_ahead m n e q q1 p' p1' t before.second_a.second after.second_a.second g f' };
    second_b = record { first = stays_ahead m n e' q' q1' p p1 t' before.second_b.first after.second_b.first g' f; second = stays_ahead m n e' q' q1' p' p1' t' before.second_b.second after.second_b.second g' f' };
  }

  step_back : (m n : ℕ) → IsSlow (suc (m + n)) d p p1 → IsSlow (suc (m + n)) d' p' p1' → IsSlow (suc (m + n)) e q q1 → IsSlow (suc (m + n)) e' q' q1' →
      Cross (way m (suc n) p p1) (way m (suc n) p' p1') (way m (suc n) q q1) (way m (suc n) q' q1') → Cross (way (suc m) n p p1) (way (suc m) n p' p1') (way (suc m) n q q1) (way (suc m) n q' q1')
  step_back m n s s' t t' cross =
      let by = beyond_at m n s s' t t' in
      let one = step_first d d' e e' (at m n false p p1) (at m n true p p1) (at m n true p' p1') (at m n true q q1) (at m n true q' q1') (by false true true true) (by true true true true) cross in
      let two = step_second d d' e e' (at m n false p p1) (at m n false p' p1') (at m n true p' p1') (at m n true q q1) (at m n true q' q1') (by false false true true) (by false true true true) one in
      let three = step_third d d' e e' (at m n false p p1) (at m n false p' p1') (at m n false q q1) (at m n true q q1) (at m n true q' q1') (by false false false true) (by false false true true) two in
      step_fourth d d' e e' (at m n false p p1) (at m n false p' p1') (at m n false q q1) (at m n false q' q1') (at m n true q' q1') (by false false false false) (by false false false true) three

  all_back : (n m steps : ℕ) → m + n ≡ steps → IsSlow steps d p p1 → IsSlow steps d' p' p1' → IsSlow steps e q q1 → IsSlow steps e' q' q1' →
      Cross (way m n p p1) (way m n p' p1') (way m n q q1) (way m n q' q1') → Cross (way steps 0 p p1) (way steps 0 p' p1') (way steps 0 q q1) (way steps 0 q' q1')
  all_back zero m steps h s s' t t' cross = subst (λ k. Cross (way k 0 p p1) (way k 0 p' p1') (way k 0 q q1) (way k 0 q' q1')) (the_same m steps h) cross
    where
      the_same : (m steps : ℕ) → m + 0 ≡ steps → m ≡ steps
      the_same m steps h = omega (arith, h)
  all_back (suc n) m steps h s s' t t' cross =
      let e : steps ≡ suc (m + n) = next m n steps h in
      all_back n (suc m) steps (shifted m n ∙ sym e) s s' t t' (step_back m n (rw e at s) (rw e at s') (rw e at t) (rw e at t') cross)
    where
      next : (m n steps : ℕ) → m + suc n ≡ steps → steps ≡ suc (m + n)
      next m n steps h = omega (arith, h)

      shifted : (m n : ℕ) → suc m + n ≡ suc (m + n)
      shifted m n = omega arith

-- ---- beginning and end

scaled_opposite : (k : ℕ) (f g f' g' : ℤ) → f' ≡ pos (suc k) *ℤ (pos (suc k) *ℤ f) → g' ≡ pos (suc k) *ℤ (pos (suc k) *ℤ g) → Opposite f g → Opposite f' g'
scaled_opposite k f g f' g' e h (inl (l, m)) =
    let c = pos (suc k) in
    let up : pos 0 <ℤ pos (suc k) = omega (arith, ints) in
    inl (rw e (mul-neg c (c *ℤ f) up (mul-neg c f up l)), rw h (mul-pos c (c *ℤ g) up (mul-pos c g up m)))
scaled_opposite k f g f' g' e h (inr (l, m)) =
    let c = pos (suc k) in
    let up : pos 0 <ℤ pos (suc k) = omega (arith, ints) in
    inr (rw e (mul-pos c (c *ℤ f) up (mul-pos c f up l)), rw h (mul-neg c (c *ℤ g) up (mul-neg c g up m)))

unscaled_opposite : (k : ℕ) (f g f' g' : ℤ) → f' ≡ pos (suc k) *ℤ (pos (suc k) *ℤ f) → g' ≡ pos (suc k) *ℤ (pos (suc k) *ℤ g) → Opposite f' g' → Opposite f g
unscaled_opposite k f g f' g' e h (inl (l, m)) =
    let c = pos (suc k) in
    let up : pos 0 <ℤ pos (suc k) = omega (arith, ints) in
    inl (cancel-neg c f up (cancel-neg c (c *ℤ f) up (rw e at l)), cancel-pos c g up (cancel-pos c (c *ℤ g) up (rw h at m)))
unscaled_opposite k f g f' g' e h (inr (l, m)) =
    let c = pos (suc k) in
    let up : pos 0 <ℤ pos (suc k) = omega (arith, ints) in
    inr (cancel-pos c f up (cancel-pos c (c *ℤ f) up (rw e at l)), cancel-neg c g up (cancel-neg c (c *ℤ g) up (rw h at m)))

scaled_turn : (n px py qx qy rx ry : ℤ) → (n *ℤ qx -ℤ n *ℤ px) *ℤ (n *ℤ ry -ℤ n *ℤ py) -ℤ (n *ℤ qy -ℤ n *ℤ py) *ℤ (n *ℤ rx -ℤ n *ℤ px) ≡ n *ℤ (n *ℤ ((qx -ℤ px) *ℤ (ry -ℤ py) -ℤ (qy -ℤ py) *ℤ (rx -ℤ px)))
scaled_turn n px py qx qy rx ry = rw (as_D n, as_D px, as_D py, as_D qx, as_D qy, as_D rx, as_D ry) (simp diffs (D-eq _ _ _ _ (omega arith)))

-- the times 0 and 1 are multiples of the points
abbrev pub multiple : ℕ → Point → Point
multiple n p = record { x = pos n *ℤ p.x; y = pos n *ℤ p.y }

turn_multiple : (n : ℕ) (p q r : Point) → turn (multiple n p) (multiple n q) (multiple n r) ≡ pos n *ℤ (pos n *ℤ turn p q r)
unfolding turn
turn_multiple n p q r = scaled_turn (pos n) p.x p.y q.x q.y r.x r.y

at_begin : (n : ℕ) (p p1 : Point) → way n 0 p p1 ≡ multiple n p
at_begin n p p1 = λ i. record { x = none (pos n *ℤ p.x) p1.x i; y = none (pos n *ℤ p.y) p1.y i }
  where
    none : (u v : ℤ) → u +ℤ pos 0 *ℤ v ≡ u
    none u v = rw (zero_times v) (omega (arith, ints))

at_end : (n : ℕ) (p p1 : Point) → way 0 n p p1 ≡ multiple n p1
at_end n p p1 = λ i. record { x = none p.x (pos n *ℤ p1.x) i; y = none p.y (pos n *ℤ p1.y) i }
  where
    none : (u v : ℤ) → pos 0 *ℤ u +ℤ v ≡ v
    none u v = rw (zero_times u) (omega (arith, ints))

pub cross_multiple : (k : ℕ) (p p' q q' : Point) → Cross p p' q q' → Cross (multiple (suc k) p) (multiple (suc k) p') (multiple (suc k) q) (multiple (suc k) q')
cross_multiple k p p' q q' h = record {
  of_first = scaled_opposite k (turn q q' p) (turn q q' p') _ _ (turn_multiple (suc k) q q' p) (turn_multiple (suc k) q q' p') h.of_first;
  of_second = scaled_opposite k (turn p p' q) (turn p p' q') _ _ (turn_multiple (suc k) p p' q) (turn_multiple (suc k) p p' q') h.of_second;
}

cross_part : (k : ℕ) (p p' q q' : Point) → Cross (multiple (suc k) p) (multiple (suc k) p') (multiple (suc k) q) (multiple (suc k) q') → Cross p p' q q'
cross_part k p p' q q' h = record {
  of_first = unscaled_opposite k (turn q q' p) (turn q q' p') _ _ (turn_multiple (suc k) q q' p) (turn_multiple (suc k) q q' p') h.of_first;
  of_second = unscaled_opposite k (turn p p' q) (turn p p' q') _ _ (turn_multiple (suc k) p p' q) (turn_multiple (suc k) p p' q') h.of_second;
}

is_slow : (a b c f : ℤ) (steps : ℕ) → steps ≡ suc (unsigned_abs a + unsigned_abs b + unsigned_abs c + unsigned_abs f) →
    ((a <ℤ pos steps) × (neg_ℤ a <ℤ pos steps)) × ((b <ℤ pos steps) × (neg_ℤ b <ℤ pos steps)) × ((c <ℤ pos steps) × (neg_ℤ c <ℤ pos steps)) × ((f <ℤ pos steps) × (neg_ℤ f <ℤ pos steps))
is_slow a b c f steps e = ((omega (arith, ints, e), omega (arith, ints, e)), (omega (arith, ints, e), omega (arith, ints, e)), (omega (arith, ints, e), omega (arith, ints, e)), (omega (arith, ints, e), omega (arith, ints, e)))

-- ---- the whole way

pub cross_is_kept : (d d' e e' p p' q q' p1 p1' q1 q1' : Point) → AreBeyond d d' e e' p p' q q' → AreBeyond d d' e e' p1 p1' q1 q1' → Cross p1 p1' q1 q1' → Cross p p' q q'
cross_is_kept d d' e e' p p' q q' p1 p1' q1 q1' before after cross =
    let k = unsigned_abs (lead d p1 p) + unsigned_abs (lead d' p1' p') + unsigned_abs (lead e q1 q) + unsigned_abs (lead e' q1' q') in
    let slow = is_slow (lead d p1 p) (lead d' p1' p') (lead e q1 q) (lead e' q1' q') (suc k) refl in
    let last : Cross (way 0 (suc k) p p1) (way 0 (suc k) p' p1') (way 0 (suc k) q q1) (way 0 (suc k) q' q1') = rw (at_end (suc k) p p1, at_end (suc k) p' p1', at_end (suc k) q q1, at_end (suc k) q' q1') (cross_multiple k p1 p1' q1 q1' cross) in
    let first = all_back d d' e e' p p' q q' p1 p1' q1 q1' before after (suc k) 0 (suc k) (none (suc k))
    (record { not_ahead = slow.0.0; not_behind = slow.0.1 }) (record { not_ahead = slow.1.0; not_behind = slow.1.1 })
    (record { not_ahead = slow.2.0; not_behind = slow.2.1 }) (record { not_ahead = slow.3.0; not_behind = slow.3.1 }) last in
    cross_part k p p' q q' (rw (at_begin (suc k) p p1, at_begin (suc k) p' p1', at_begin (suc k) q q1, at_begin (suc k) q' q1') at first)
  where
    none : (n : ℕ) → 0 + n ≡ n
    none n = omega arith
