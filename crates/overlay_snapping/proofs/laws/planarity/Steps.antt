-- One end of a segment moves, and no end of the two segments comes upon the other segment on the way: if they cross after, they cross before.
use Rattle.std.proofs.Common.{◌≡◌, ◌∙◌, sym, ap, arith, inl, inr}
use Rattle.std.specs.Prelude.{ℤ, pos, ◌+ℤ◌, ◌-ℤ◌, ◌*ℤ◌, ◌≤ℤ◌, ◌<ℤ◌, neg_ℤ}
use Rattle.std.proofs.lemmas.Int.{ints, by_lt_z}
use Rattle.overlay_geometry.specs.Points.{Point, turn}
use Rattle.overlay_geometry.proofs.laws.geometry.Polynomials.{as_D, diffs, D-eq, mul-pos, mul-neg, mul-neg_left, mul-neg_right, mul-nonneg, mul-nonpos, cancel-pos, cancel-neg}
use Rattle.overlay_geometry.proofs.laws.geometry.Points.{mean_x, mean_y, turn_same_outer, turn_rotates, turn_swaps_last}
use Rattle.overlay_geometry.proofs.laws.integers.Products.{times_comm}
use Rattle.overlay_geometry.proofs.laws.integers.Tests.{by_sign}
use Rattle.overlay_base.proofs.laws.geometry.Apart.{Opposite}

-- ---- directions

-- how far p leads before q in a direction
abbrev pub lead : Point → Point → Point → ℤ
lead n p q = n.x *ℤ (p.x -ℤ q.x) +ℤ n.y *ℤ (p.y -ℤ q.y)

-- a line across the direction has p on one side and both ends of a segment on the other
pub record IsBeyond (n p q r : Point) : Type 0 where
  pub first : pos 0 <ℤ lead n p q
  pub second : pos 0 <ℤ lead n p r

-- one coordinate: p in terms of a triangle q, s, r
by_coordinate : (t_qrp t_qrs t_qsp d w z zero pw : ℤ) → zero ≡ pos 0 → w *ℤ t_qrp ≡ pw *ℤ zero +ℤ d *ℤ t_qrs +ℤ z *ℤ t_qsp → neg_ℤ t_qrs *ℤ d ≡ neg_ℤ t_qrp *ℤ w +ℤ t_qsp *ℤ z
by_coordinate t_qrp t_qrs t_qsp d w z zero pw e h = let i = rw e at h in omega (arith, ints, i, mul-neg_left t_qrs d, mul-neg_left t_qrp w, times_comm t_qrs d, times_comm t_qrp w)

spread : (c m n d e : ℤ) → c *ℤ (m *ℤ d +ℤ n *ℤ e) ≡ m *ℤ (c *ℤ d) +ℤ n *ℤ (c *ℤ e)
spread c m n d e = rw (as_D c, as_D m, as_D n, as_D d, as_D e) (simp diffs (D-eq _ _ _ _ (omega arith)))

gather : (m n b a wx wy zx zy : ℤ) → m *ℤ (b *ℤ wx +ℤ a *ℤ zx) +ℤ n *ℤ (b *ℤ wy +ℤ a *ℤ zy) ≡ b *ℤ (m *ℤ wx +ℤ n *ℤ wy) +ℤ a *ℤ (m *ℤ zx +ℤ n *ℤ zy)
gather m n b a wx wy zx zy = rw (as_D m, as_D n, as_D b, as_D a, as_D wx, as_D wy, as_D zx, as_D zy) (simp diffs (D-eq _ _ _ _ (omega arith)))

-- how far p leads before q, by how far the two other points of a triangle do
pub leads_by_turns : (n p r q s : Point) → turn q s r *ℤ lead n p q ≡ turn p r q *ℤ lead n s q +ℤ turn q s p *ℤ lead n r q
leads_by_turns n p r q s =
    let by_x = by_coordinate (turn q r p) (turn q r s) (turn q s p) (p.x -ℤ q.x) (s.x -ℤ q.x) (r.x -ℤ q.x) (turn q r q) (s.x -ℤ p.x) (turn_same_outer q r) (mean_x q r q s p) in
    let by_y = by_coordinate (turn q r p) (turn q r s) (turn q s p) (p.y -ℤ q.y) (s.y -ℤ q.y) (r.y -ℤ q.y) (turn q r q) (s.y -ℤ p.y) (turn_same_outer q r) (mean_y q r q s p) in
    let same_b : neg_ℤ (turn q r p) ≡ turn p r q = sym (turn_rotates p r q ∙ turn_swaps_last r q p ∙ ap neg_ℤ (turn_rotates r p q ∙ turn_rotates p q r)) in
    rw (turn_swaps_last q s r, ← same_b)
    (spread (neg_ℤ (turn q r s)) n.x n.y (p.x -ℤ q.x) (p.y -ℤ q.y) ∙ rw (by_x, by_y) (gather n.x n.y (neg_ℤ (turn q r p)) (turn q s p) (s.x -ℤ q.x) (s.y -ℤ q.y) (r.x -ℤ q.x) (r.y -ℤ q.y)))

-- ---- the step, by numbers

-- one identity at the mean of two times
mean_told : (m n r a a1 b b1 w z u u1 : ℤ) → r *ℤ u ≡ b *ℤ w +ℤ a *ℤ z → r *ℤ u1 ≡ b1 *ℤ w +ℤ a1 *ℤ z → r *ℤ (m *ℤ u +ℤ n *ℤ u1) ≡ (m *ℤ b +ℤ n *ℤ b1) *ℤ w +ℤ (m *ℤ a +ℤ n *ℤ a1) *ℤ z
mean_told m n r a a1 b b1 w z u u1 e e1 = spread_mean m n r u u1 ∙ rw (e, e1) (gather_mean m n a a1 b b1 w z)
  where
    spread_mean : (m n r u u1 : ℤ) → r *ℤ (m *ℤ u +ℤ n *ℤ u1) ≡ m *ℤ (r *ℤ u) +ℤ n *ℤ (r *ℤ u1)
    spread_mean m n r u u1 = rw (as_D m, as_D n, as_D r, as_D u, as_D u1) (simp diffs (D-eq _ _ _ _ (omega arith)))

    gather_mean : (m n a a1 b b1 w z : ℤ) → m *ℤ (b *ℤ w +ℤ a *ℤ z) +ℤ n *ℤ (b1 *ℤ w +ℤ a1 *ℤ z) ≡ (m *ℤ b +ℤ n *ℤ b1) *ℤ w +ℤ (m *ℤ a +ℤ n *ℤ a1) *ℤ z
    gather_mean m n a a1 b b1 w z = rw (as_D m, as_D n, as_D a, as_D a1, as_D b, as_D b1, as_D w, as_D z) (simp diffs (D-eq _ _ _ _ (omega arith)))

mean_pos : (m n u u1 : ℤ) → pos 0 <ℤ m → pos 0 ≤ℤ n → pos 0 <ℤ u → pos 0 <ℤ u1 → pos 0 <ℤ (m *ℤ u +ℤ n *ℤ u1)
mean_pos m n u u1 hm hn hu hu1 = let p = mul-pos m u hm hu in let q = mul-nonneg n u1 hn (omega (arith, ints, hu1)) in omega (arith, ints, p, q)

mean_neg : (m n u u1 : ℤ) → pos 0 <ℤ m → pos 0 ≤ℤ n → u <ℤ pos 0 → u1 <ℤ pos 0 → (m *ℤ u +ℤ n *ℤ u1) <ℤ pos 0
mean_neg m n u u1 hm hn hu hu1 = let p = mul-neg m u hm hu in let q = mul-nonpos n u1 hn (omega (arith, ints, hu1)) in omega (arith, ints, p, q)

neg_times_pos : (r u : ℤ) → r <ℤ pos 0 → pos 0 <ℤ u → (r *ℤ u) <ℤ pos 0
neg_times_pos r u hr hu = let p = mul-neg u r hu hr in rw (times_comm r u) p

neg_times_neg : (r u : ℤ) → r <ℤ pos 0 → u <ℤ pos 0 → pos 0 <ℤ (r *ℤ u)
neg_times_neg r u hr hu =
    let p = mul-pos (neg_ℤ r) (neg_ℤ u) (omega (arith, ints, hr)) (omega (arith, ints, hu)) in
    rw (both_neg r u) p
  where
    both_neg : (r u : ℤ) → r *ℤ u ≡ neg_ℤ r *ℤ neg_ℤ u
    both_neg r u = rw (as_D r, as_D u) (simp diffs (D-eq _ _ _ _ (omega arith)))

-- a number is below 0 where its product with one below 0 is above 0
below_from : (a x : ℤ) → x <ℤ pos 0 → pos 0 <ℤ (a *ℤ x) → a <ℤ pos 0
below_from a x hx h =
    by_sign a (λ k. k)
    (λ (k : a ≡ pos 0). absurd (let i = rw k at h in omega (arith, ints, i)))
    (λ (k : pos 0 <ℤ a). absurd (let i = mul-neg a x k hx in omega (arith, ints, i, h)))

-- Where one of b is 0 between the times, the leads of its end say that a is below 0 there.
crossed_below : (m n r a a1 b b1 w x u u1 : ℤ) → r <ℤ pos 0 → x <ℤ pos 0 → pos 0 <ℤ m → pos 0 ≤ℤ n → u <ℤ pos 0 → u1 <ℤ pos 0 → m *ℤ b +ℤ n *ℤ b1 ≡ pos 0 →
    r *ℤ u ≡ b *ℤ w +ℤ a *ℤ x → r *ℤ u1 ≡ b1 *ℤ w +ℤ a1 *ℤ x → (m *ℤ a +ℤ n *ℤ a1) <ℤ pos 0
crossed_below m n r a a1 b b1 w x u u1 hr hx hm hn hu hu1 zero e e1 =
    below_from (m *ℤ a +ℤ n *ℤ a1) x hx
    (let up = neg_times_neg r (m *ℤ u +ℤ n *ℤ u1) hr (mean_neg m n u u1 hm hn hu hu1) in
    let told = mean_told m n r a a1 b b1 w x u u1 e e1 in
    let none = rw zero at told in
    plain (r *ℤ (m *ℤ u +ℤ n *ℤ u1)) ((m *ℤ a +ℤ n *ℤ a1) *ℤ x) w up none)
  where
    plain : (p q w : ℤ) → pos 0 <ℤ p → p ≡ pos 0 *ℤ w +ℤ q → pos 0 <ℤ q
    plain p q w h e = omega (arith, ints, h, e)

-- What is said of two times: r is the turn of the end that stays, a and a1 are those of the end that moves, b and b1 of one end of
-- the other segment, c and c1 of the other. Each other number is a lead.
pub record Told (r a a1 b b1 c c1 : ℤ) : Type 0 where
  pub w : ℤ
  pub z : ℤ
  pub y : ℤ
  pub u : ℤ
  pub u1 : ℤ
  pub h : ℤ
  pub h1 : ℤ
  pub v : ℤ
  pub x : ℤ
  pub s : ℤ
  pub s1 : ℤ
  pub k : ℤ
  pub l : ℤ
  pub t : ℤ
  pub t1 : ℤ
  pub mover_b : r *ℤ u ≡ b *ℤ w +ℤ a *ℤ z
  pub mover_b1 : r *ℤ u1 ≡ b1 *ℤ w +ℤ a1 *ℤ z
  pub mover_c : r *ℤ h ≡ c *ℤ w +ℤ a *ℤ y
  pub mover_c1 : r *ℤ h1 ≡ c1 *ℤ w +ℤ a1 *ℤ y
  pub end_b : r *ℤ s ≡ b *ℤ v +ℤ a *ℤ x
  pub end_b1 : r *ℤ s1 ≡ b1 *ℤ v +ℤ a1 *ℤ x
  pub end_c : r *ℤ t ≡ c *ℤ k +ℤ a *ℤ l
  pub end_c1 : r *ℤ t1 ≡ c1 *ℤ k +ℤ a1 *ℤ l
  pub u_up : pos 0 <ℤ u
  pub u1_up : pos 0 <ℤ u1
  pub h_up : pos 0 <ℤ h
  pub h1_up : pos 0 <ℤ h1
  pub s_down : s <ℤ pos 0
  pub s1_down : s1 <ℤ pos 0
  pub x_down : x <ℤ pos 0
  pub t_down : t <ℤ pos 0
  pub t1_down : t1 <ℤ pos 0
  pub l_down : l <ℤ pos 0

module _ (r a a1 b b1 c c1 : ℤ) (told : Told r a a1 b b1 c c1) (r_down : r <ℤ pos 0) (a1_up : pos 0 <ℤ a1) (b1_down : b1 <ℤ pos 0) (c1_up : pos 0 <ℤ c1) where
  -- where b is 0 between the times, a is below 0
  at_b : pos 0 ≤ℤ b → (neg_ℤ b1 *ℤ a +ℤ b *ℤ a1) <ℤ pos 0
  at_b up =
      crossed_below (neg_ℤ b1) b r a a1 b b1 told.v told.x told.s told.s1 r_down told.x_down (omega (arith, ints, b1_down)) up told.s_down told.s1_down (none b b1) told.end_b told.end_b1
    where
      none : (b b1 : ℤ) → neg_ℤ b1 *ℤ b +ℤ b *ℤ b1 ≡ pos 0
      none b b1 = rw (as_D b, as_D b1) (simp diffs (D-eq _ _ _ _ (omega arith)))

  at_c : c ≤ℤ pos 0 → (c1 *ℤ a +ℤ neg_ℤ c *ℤ a1) <ℤ pos 0
  at_c down =
      crossed_below c1 (neg_ℤ c) r a a1 c c1 told.k told.l told.t told.t1 r_down told.l_down c1_up (omega (arith, ints, down)) told.t_down told.t1_down (none c c1) told.end_c told.end_c1
    where
      none : (c c1 : ℤ) → c1 *ℤ c +ℤ neg_ℤ c *ℤ c1 ≡ pos 0
      none c c1 = rw (as_D c, as_D c1) (simp diffs (D-eq _ _ _ _ (omega arith)))

  -- where a is 0 between the times, both products are below 0
  at_a_b : a ≤ℤ pos 0 → ((a1 *ℤ b +ℤ neg_ℤ a *ℤ b1) *ℤ told.w) <ℤ pos 0
  at_a_b down =
      let below = neg_times_pos r (a1 *ℤ told.u +ℤ neg_ℤ a *ℤ told.u1) r_down (mean_pos a1 (neg_ℤ a) told.u told.u1 a1_up (omega (arith, ints, down)) told.u_up told.u1_up) in
      plain _ _ told.z _ (none a a1) below (mean_told a1 (neg_ℤ a) r a a1 b b1 told.w told.z told.u told.u1 told.mover_b told.mover_b1)
    where
      none : (a a1 : ℤ) → a1 *ℤ a +ℤ neg_ℤ a *ℤ a1 ≡ pos 0
      none a a1 = rw (as_D a, as_D a1) (simp diffs (D-eq _ _ _ _ (omega arith)))

      plain : (p q z n : ℤ) → n ≡ pos 0 → p <ℤ pos 0 → p ≡ q +ℤ n *ℤ z → q <ℤ pos 0
      plain p q z n zero h e = let i = rw zero at e in omega (arith, ints, h, i)

  at_a_c : a ≤ℤ pos 0 → ((a1 *ℤ c +ℤ neg_ℤ a *ℤ c1) *ℤ told.w) <ℤ pos 0
  at_a_c down =
      let below = neg_times_pos r (a1 *ℤ told.h +ℤ neg_ℤ a *ℤ told.h1) r_down (mean_pos a1 (neg_ℤ a) told.h told.h1 a1_up (omega (arith, ints, down)) told.h_up told.h1_up) in
      plain _ _ told.y _ (none a a1) below (mean_told a1 (neg_ℤ a) r a a1 c c1 told.w told.y told.h told.h1 told.mover_c told.mover_c1)
    where
      none : (a a1 : ℤ) → a1 *ℤ a +ℤ neg_ℤ a *ℤ a1 ≡ pos 0
      none a a1 = rw (as_D a, as_D a1) (simp diffs (D-eq _ _ _ _ (omega arith)))

      plain : (p q z n : ℤ) → n ≡ pos 0 → p <ℤ pos 0 → p ≡ q +ℤ n *ℤ z → q <ℤ pos 0
      plain p q z n zero h e = let i = rw zero at e in omega (arith, ints, h, i)

  a_up : pos 0 <ℤ a
  a_up = by_lt_z (pos 0) a (λ h. h) (λ (down : a ≤ℤ pos 0). absurd (by_sign told.w
      (λ (w_down : told.w <ℤ pos 0). left_of down w_down)
      (λ (w_none : told.w ≡ pos 0). let p = at_a_b down in none_below (a1 *ℤ b +ℤ neg_ℤ a *ℤ b1) told.w w_none p)
      (λ (w_up : pos 0 <ℤ told.w). right_of down w_up)))
    where
      none_below : (f w : ℤ) → w ≡ pos 0 → (f *ℤ w) <ℤ pos 0 → ⊥
      none_below f w e h = let i = rw e at h in omega (arith, ints, i)

      up_from : (f w : ℤ) → w <ℤ pos 0 → (f *ℤ w) <ℤ pos 0 → pos 0 <ℤ f
      up_from f w hw h =
          by_sign f (λ (k : f <ℤ pos 0). absurd (let p = neg_times_neg f w k hw in omega (arith, ints, p, h)))
          (λ (k : f ≡ pos 0). absurd (let i = rw k at h in omega (arith, ints, i)))
          (λ k. k)

      down_from : (f w : ℤ) → pos 0 <ℤ w → (f *ℤ w) <ℤ pos 0 → f <ℤ pos 0
      down_from f w hw h =
          by_sign f (λ k. k)
          (λ (k : f ≡ pos 0). absurd (let i = rw k at h in omega (arith, ints, i)))
          (λ (k : pos 0 <ℤ f). absurd (let p = mul-pos f w k hw in omega (arith, ints, p, h)))

      -- b was above 0 when a was 0, and so is 0 later, when a is above 0
      left_of : a ≤ℤ pos 0 → told.w <ℤ pos 0 → ⊥
      left_of down w_down =
          let later = up_from (a1 *ℤ b +ℤ neg_ℤ a *ℤ b1) told.w w_down (at_a_b down) in
          let some = mul-nonpos (neg_ℤ a) b1 (omega (arith, ints, down)) (omega (arith, ints, b1_down)) in
          let product : pos 0 <ℤ (a1 *ℤ b) = omega (arith, ints, later, some) in
          let b_up = cancel-pos a1 b a1_up product in
          let below = at_b (omega (arith, ints, b_up)) in
          omega (arith, ints, later, below, mul-neg_left b1 a, mul-neg_left a b1, times_comm b a1, times_comm b1 a)

      right_of : a ≤ℤ pos 0 → pos 0 <ℤ told.w → ⊥
      right_of down w_up =
          let later = down_from (a1 *ℤ c +ℤ neg_ℤ a *ℤ c1) told.w w_up (at_a_c down) in
          let some = mul-nonneg (neg_ℤ a) c1 (omega (arith, ints, down)) (omega (arith, ints, c1_up)) in
          let product : (a1 *ℤ c) <ℤ pos 0 = omega (arith, ints, later, some) in
          let c_down = cancel-neg a1 c a1_up product in
          let below = at_c (omega (arith, ints, c_down)) in
          omega (arith, ints, later, below, mul-neg_left c a1, mul-neg_left a c1, times_comm c a1, times_comm c1 a)

  b_down : b <ℤ pos 0
  b_down = by_lt_z b (pos 0) (λ h. h) (λ (up : pos 0 ≤ℤ b). absurd (
      let below = at_b up in
      let above = mul-pos (neg_ℤ b1) a (omega (arith, ints, b1_down)) a_up in
      let more = mul-nonneg b a1 up (omega (arith, ints, a1_up)) in
      omega (arith, ints, below, above, more)))

  c_up : pos 0 <ℤ c
  c_up = by_lt_z (pos 0) c (λ h. h) (λ (down : c ≤ℤ pos 0). absurd (
      let below = at_c down in
      let above = mul-pos c1 a c1_up a_up in
      let more = mul-nonneg (neg_ℤ c) a1 (omega (arith, ints, down)) (omega (arith, ints, a1_up)) in
      omega (arith, ints, below, above, more)))

  pub signs_before : (pos 0 <ℤ a) × (b <ℤ pos 0) × (pos 0 <ℤ c)
  signs_before = (a_up, b_down, c_up)

-- ---- the step, by points

-- the segments from p to p' and from q to q' cross
pub record Cross (p p' q q' : Point) : Type 0 where
  pub of_first : Opposite (turn q q' p) (turn q q' p')
  pub of_second : Opposite (turn p p' q) (turn p p' q')

-- each end is beyond the other segment in a direction of its own
pub record AreBeyond (d d' e e' p p' q q' : Point) : Type 0 where
  pub first_a : IsBeyond d p q q'
  pub first_b : IsBeyond d' p' q q'
  pub second_a : IsBeyond e q p p'
  pub second_b : IsBeyond e' q' p p'

lead_back : (n p q : Point) → lead n p q ≡ neg_ℤ (lead n q p)
lead_back n p q = rw (as_D n.x, as_D n.y, as_D p.x, as_D p.y, as_D q.x, as_D q.y) (simp diffs (D-eq _ _ _ _ (omega arith)))

back_down : (n p q : Point) → pos 0 <ℤ lead n q p → lead n p q <ℤ pos 0
back_down n p q h = rw (lead_back n p q) (plain (lead n q p) h)
  where
    plain : (z : ℤ) → pos 0 <ℤ z → neg_ℤ z <ℤ pos 0
    plain z h = omega (arith, ints, h)

-- the same for the other end of the second segment
leads_by_turns_other : (n p r q s : Point) → turn q s r *ℤ lead n p s ≡ turn p r s *ℤ lead n s q +ℤ turn q s p *ℤ lead n r s
leads_by_turns_other n p r q s =
    plain (turn q s r) (lead n p s) (turn p r s) (lead n s q) (turn q s p) (lead n r s)
    (rw (swapped r, swapped p, lead_back n q s) at (leads_by_turns n p r s q))
  where
    swapped : (z : Point) → turn s q z ≡ neg_ℤ (turn q s z)
    swapped z = rw (turn_rotates s q z) (turn_swaps_last q z s)

    plain : (r l c w a y : ℤ) → neg_ℤ r *ℤ l ≡ c *ℤ neg_ℤ w +ℤ neg_ℤ a *ℤ y → r *ℤ l ≡ c *ℤ w +ℤ a *ℤ y
    plain r l c w a y h = omega (arith, ints, h, mul-neg_left r l, mul-neg_right c w, mul-neg_left a y)

-- the two turns of one segment differ by as much as those of the other
turns_differ : (p p' q q' : Point) → turn q q' p -ℤ turn q q' p' ≡ turn p p' q' -ℤ turn p p' q
unfolding turn
turns_differ p p' q q' = rw (as_D p.x, as_D p.y, as_D p'.x, as_D p'.y, as_D q.x, as_D q.y, as_D q'.x, as_D q'.y) (simp diffs (D-eq _ _ _ _ (omega arith)))

told_of : (d d' e e' p p1 p' q q' : Point) → AreBeyond d d' e e' p p' q q' → AreBeyond d d' e e' p1 p' q q' →
    Told (turn q q' p') (turn q q' p) (turn q q' p1) (turn p p' q) (turn p1 p' q) (turn p p' q') (turn p1 p' q')
told_of d d' e e' p p1 p' q q' before after = record {
  w = lead d q' q;
  z = lead d p' q;
  y = lead d p' q';
  u = lead d p q;
  u1 = lead d p1 q;
  h = lead d p q';
  h1 = lead d p1 q';
  v = lead e q' q;
  x = lead e p' q;
  s = lead e p q;
  s1 = lead e p1 q;
  k = lead e' q' q;
  l = lead e' p' q';
  t = lead e' p q';
  t1 = lead e' p1 q';
  mover_b = leads_by_turns d p p' q q';
  mover_b1 = leads_by_turns d p1 p' q q';
  mover_c = leads_by_turns_other d p p' q q';
  mover_c1 = leads_by_turns_other d p1 p' q q';
  end_b = leads_by_turns e p p' q q';
  end_b1 = leads_by_turns e p1 p' q q';
  end_c = leads_by_turns_other e' p p' q q';
  end_c1 = leads_by_turns_other e' p1 p' q q';
  u_up = before.first_a.first;
  u1_up = after.first_a.first;
  h_up = before.first_a.second;
  h1_up = after.first_a.second;
  s_down = back_down e p q before.second_a.first;
  s1_down = back_down e p1 q after.second_a.first;
  x_down = back_down e p' q before.second_a.second;
  t_down = back_down e' p q' before.second_b.first;
  t1_down = back_down e' p1 q' after.second_b.first;
  l_down = back_down e' p' q' before.second_b.second;
}

-- where the end that stays is to the right of the other segment
step_down : (d d' e e' p p1 p' q q' : Point) → AreBeyond d d' e e' p p' q q' → AreBeyond d d' e e' p1 p' q q' → turn q q' p' <ℤ pos 0 → Cross p1 p' q q' → Cross p p' q q'
step_down d d' e e' p p1 p' q q' before after down cross =
    let a1_up = other_up (turn q q' p1) (turn q q' p') cross.of_first down in
    let b1_down = first_down (turn p1 p' q) (turn p1 p' q') (turn q q' p1) (turn q q' p') cross.of_second a1_up down (turns_differ p1 p' q q') in
    let signs = signs_before (turn q q' p') (turn q q' p) (turn q q' p1) (turn p p' q) (turn p1 p' q) (turn p p' q') (turn p1 p' q') (told_of d d' e e' p p1 p' q q' before after) down a1_up b1_down.0 b1_down.1 in
    record { of_first = inr (signs.0, down); of_second = inl (signs.1, signs.2) }
  where
    other_up : (f g : ℤ) → Opposite f g → g <ℤ pos 0 → pos 0 <ℤ f
    other_up f g (inl h) down = absurd (let k = h.1 in omega (arith, ints, k, down))
    other_up f g (inr h) down = h.0

    first_down : (b c a r : ℤ) → Opposite b c → pos 0 <ℤ a → r <ℤ pos 0 → a -ℤ r ≡ c -ℤ b → (b <ℤ pos 0) × (pos 0 <ℤ c)
    first_down b c a r (inl h) up down e = h
    first_down b c a r (inr (k, l)) up down e = absurd (omega (arith, ints, k, l, up, down, e))

-- the ends of the second segment exchanged
beyond_swapped : (d d' e e' p p' q q' : Point) → AreBeyond d d' e e' p p' q q' → AreBeyond d d' e' e p p' q' q
beyond_swapped d d' e e' p p' q q' h = record {
  first_a = record { first = h.first_a.second; second = h.first_a.first };
  first_b = record { first = h.first_b.second; second = h.first_b.first };
  second_a = h.second_b;
  second_b = h.second_a;
}

turned_opposite : (f g f' g' : ℤ) → f' ≡ neg_ℤ f → g' ≡ neg_ℤ g → Opposite f g → Opposite f' g'
turned_opposite f g f' g' e k (inl (h, l)) = inr (omega (arith, ints, e, h), omega (arith, ints, k, l))
turned_opposite f g f' g' e k (inr (h, l)) = inl (omega (arith, ints, e, h), omega (arith, ints, k, l))

swapped_opposite : (f g : ℤ) → Opposite f g → Opposite g f
swapped_opposite f g (inl (h, l)) = inr (l, h)
swapped_opposite f g (inr (h, l)) = inl (l, h)

turned_line : (q q' p : Point) → turn q' q p ≡ neg_ℤ (turn q q' p)
turned_line q q' p = rw (turn_rotates q' q p) (turn_swaps_last q p q')

pub cross_swapped : (p p' q q' : Point) → Cross p p' q q' → Cross p p' q' q
cross_swapped p p' q q' h = record {
  of_first = turned_opposite (turn q q' p) (turn q q' p') (turn q' q p) (turn q' q p') (turned_line q q' p) (turned_line q q' p') h.of_first;
  of_second = swapped_opposite (turn p p' q) (turn p p' q') h.of_second;
}

-- the two segments exchanged
pub cross_exchanged : (p p' q q' : Point) → Cross p p' q q' → Cross q q' p p'
cross_exchanged p p' q q' h = record { of_first = h.of_second; of_second = h.of_first }

beyond_exchanged : (d d' e e' p p' q q' : Point) → AreBeyond d d' e e' p p' q q' → AreBeyond e e' d d' q q' p p'
beyond_exchanged d d' e e' p p' q q' h = record { first_a = h.second_a; first_b = h.second_b; second_a = h.first_a; second_b = h.first_b }

-- the first end of the first segment moves
pub step_first : (d d' e e' p p1 p' q q' : Point) → AreBeyond d d' e e' p p' q q' → AreBeyond d d' e e' p1 p' q q' → Cross p1 p' q q' → Cross p p' q q'
step_first d d' e e' p p1 p' q q' before after cross =
    by_sign (turn q q' p')
    (λ (down : turn q q' p' <ℤ pos 0). step_down d d' e e' p p1 p' q q' before after down cross)
    (λ (none : turn q q' p' ≡ pos 0). absurd (not_none (turn q q' p1) (turn q q' p') none cross.of_first))
    (λ (up : pos 0 <ℤ turn q q' p').
    cross_swapped p p' q' q
    (step_down d d' e' e p p1 p' q' q (beyond_swapped d d' e e' p p' q q' before) (beyond_swapped d d' e e' p1 p' q q' after)
    (below (turn q' q p') (turn q q' p') (turned_line q q' p') up) (cross_swapped p1 p' q q' cross)))
  where
    not_none : (f g : ℤ) → g ≡ pos 0 → Opposite f g → ⊥
    not_none f g e (inl (h, l)) = omega (arith, ints, e, l)
    not_none f g e (inr (h, l)) = omega (arith, ints, e, l)

    below : (f g : ℤ) → f ≡ neg_ℤ g → pos 0 <ℤ g → f <ℤ pos 0
    below f g e h = omega (arith, ints, e, h)

-- its second end
pub step_second : (d d' e e' p p' p1 q q' : Point) → AreBeyond d d' e e' p p' q q' → AreBeyond d d' e e' p p1 q q' → Cross p p1 q q' → Cross p p' q q'
step_second d d' e e' p p' p1 q q' before after cross =
    cross_exchanged q q' p p' (cross_swapped q q' p' p (cross_exchanged p' p q q'
    (step_first d' d e e' p' p1 p q q' (turned p' before) (turned p1 after) (cross_exchanged q q' p1 p (cross_swapped q q' p p1 (cross_exchanged p p1 q q' cross))))))
  where
    turned : (r : Point) → AreBeyond d d' e e' p r q q' → AreBeyond d' d e e' r p q q'
    turned r h = beyond_exchanged e e' d' d q q' r p (beyond_swapped e e' d d' q q' p r (beyond_exchanged d d' e e' p r q q' h))

-- the ends of the second segment
pub step_third : (d d' e e' p p' q q1 q' : Point) → AreBeyond d d' e e' p p' q q' → AreBeyond d d' e e' p p' q1 q' → Cross p p' q1 q' → Cross p p' q q'
step_third d d' e e' p p' q q1 q' before after cross =
    cross_exchanged q q' p p' (step_first e e' d d' q q1 q' p p' (beyond_exchanged d d' e e' p p' q q' before) (beyond_exchanged d d' e e' p p' q1 q' after) (cross_exchanged p p' q1 q' cross))

pub step_fourth : (d d' e e' p p' q q' q1 : Point) → AreBeyond d d' e e' p p' q q' → AreBeyond d d' e e' p p' q q1 → Cross p p' q q1 → Cross p p' q q'
step_fourth d d' e e' p p' q q' q1 before after cross =
    cross_exchanged q q' p p' (step_second e e' d d' q q' q1 p p' (beyond_exchanged d d' e e' p p' q q' before) (beyond_exchanged d d' e e' p p' q q1 after) (cross_exchanged p p' q q1 cross))
