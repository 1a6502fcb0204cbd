-- Points on lines: which of them lie on one line, and when one lies strictly inside a segment.
use Rattle.std.proofs.Common.{◌≡◌, refl, sym, ◌∙◌, ◌⊎◌, ◌≢◌, inl, inr, arith, true, false, not, IsTrue, zero, suc}
use Rattle.std.specs.Prelude.{ℤ, pos, negsuc, ◌+ℤ◌, ◌-ℤ◌, ◌*ℤ◌, ◌<ℤ◌, neg_ℤ}
use Rattle.std.specs.Ordering.{int_eq}
use Rattle.std.proofs.lemmas.Int.{ints}
use Rattle.std.proofs.lemmas.Bool.{and_parts, false_from_ne_true, not-true}
use Rattle.std.proofs.lemmas.Bool.Decides.{Decides-int_eq}
use Rattle.overlay_geometry.specs.Points.{Point, Pair, point_eq, turn, is_between, is_in_box, is_end, lies_on, is_strictly_inside}
use Rattle.overlay_geometry.specs.Meeting.{have_opposite_signs}
use Rattle.overlay_geometry.proofs.laws.geometry.Polynomials.{as_D, diffs, D-eq, mul-neg_left}
use Rattle.overlay_geometry.proofs.laws.geometry.Points.{same_point, same_by_eq, mean_x, mean_y, not_end}
use Rattle.overlay_geometry.proofs.laws.integers.Tests.{by_sign}

-- ---- factors that are not 0

pub by_zero : {P : Type 0} (z : ℤ) → (z ≡ pos 0 → P) → (z ≢ pos 0 → P) → P
by_zero (pos zero) f g = f refl
by_zero (pos (suc n)) f g = g (λ e. omega (arith, ints))
by_zero (negsuc n) f g = g (λ e. omega (arith, ints))

pub cancel_factor : (c a : ℤ) → c ≢ pos 0 → c *ℤ a ≡ pos 0 → a ≡ pos 0
cancel_factor (pos zero) a n e = absurd (n refl)
cancel_factor (pos (suc c)) (pos zero) n e = refl
cancel_factor (pos (suc c)) (pos (suc a)) n e = absurd (omega (arith, ints))
cancel_factor (pos (suc c)) (negsuc a) n e = absurd (omega (arith, ints))
cancel_factor (negsuc c) (pos zero) n e = refl
cancel_factor (negsuc c) (pos (suc a)) n e = absurd (omega (arith, ints))
cancel_factor (negsuc c) (negsuc a) n e = absurd (omega (arith, ints))

zero_mean : (k t l m n o1 o2 o3 : ℤ) → k *ℤ t ≡ l *ℤ o1 +ℤ m *ℤ o2 +ℤ n *ℤ o3 → o1 ≡ pos 0 → o2 ≡ pos 0 → o3 ≡ pos 0 → k *ℤ t ≡ pos 0
zero_mean k t l m n o1 o2 o3 e e1 e2 e3 = e ∙ rw (e1, e2, e3) (omega (arith, ints))

-- ---- lines

-- with no step between them two points are one
pub same_by_steps : (p q : Point) → q.x -ℤ p.x ≡ pos 0 → q.y -ℤ p.y ≡ pos 0 → p ≡ q
same_by_steps p q h k = same_point p q (omega (arith, ints)) (omega (arith, ints))

-- the line through two different points of a line is that line
pub on_line : (u v a b p : Point) → a ≢ b → turn u v a ≡ pos 0 → turn u v b ≡ pos 0 → turn a b p ≡ pos 0 → turn u v p ≡ pos 0
on_line u v a b p apart ha hb hp =
    by_zero (b.x -ℤ a.x)
    (λ same_x.
    by_zero (b.y -ℤ a.y)
    (λ same_y. absurd (apart (same_by_steps a b same_x same_y)))
    (λ n. cancel_factor (b.y -ℤ a.y) (turn u v p) n (zero_mean (b.y -ℤ a.y) (turn u v p) _ _ _ _ _ _ (mean_y u v a b p) ha hb hp)))
    (λ n. cancel_factor (b.x -ℤ a.x) (turn u v p) n (zero_mean (b.x -ℤ a.x) (turn u v p) _ _ _ _ _ _ (mean_x u v a b p) ha hb hp))

-- ---- strictly inside

-- two numbers of one sign, or both 0
abbrev pub Alike : ℤ → ℤ → Type 0
Alike u w = ((u ≡ pos 0) × (w ≡ pos 0)) ⊎ (((pos 0 <ℤ u) × (pos 0 <ℤ w)) ⊎ ((u <ℤ pos 0) × (w <ℤ pos 0)))

alike : (u w m n : ℤ) → pos 0 <ℤ m → pos 0 <ℤ n → m *ℤ u ≡ n *ℤ w → Alike u w
alike u w (pos zero) n p q e = absurd (omega (arith, ints))
alike u w (negsuc m) n p q e = absurd (omega (arith, ints))
alike u w (pos (suc m)) (pos zero) p q e = absurd (omega (arith, ints))
alike u w (pos (suc m)) (negsuc n) p q e = absurd (omega (arith, ints))
alike (pos zero) (pos zero) (pos (suc m)) (pos (suc n)) p q e = inl (refl, refl)
alike (pos zero) (pos (suc w)) (pos (suc m)) (pos (suc n)) p q e = absurd (omega (arith, ints))
alike (pos zero) (negsuc w) (pos (suc m)) (pos (suc n)) p q e = absurd (omega (arith, ints))
alike (pos (suc u)) (pos zero) (pos (suc m)) (pos (suc n)) p q e = absurd (omega (arith, ints))
alike (pos (suc u)) (pos (suc w)) (pos (suc m)) (pos (suc n)) p q e = inr (inl (omega (arith, ints), omega (arith, ints)))
alike (pos (suc u)) (negsuc w) (pos (suc m)) (pos (suc n)) p q e = absurd (omega (arith, ints))
alike (negsuc u) (pos zero) (pos (suc m)) (pos (suc n)) p q e = absurd (omega (arith, ints))
alike (negsuc u) (pos (suc w)) (pos (suc m)) (pos (suc n)) p q e = absurd (omega (arith, ints))
alike (negsuc u) (negsuc w) (pos (suc m)) (pos (suc n)) p q e = inr (inr (omega (arith, ints), omega (arith, ints)))

neg_times_neg : (m u : ℤ) → neg_ℤ m *ℤ neg_ℤ u ≡ m *ℤ u
neg_times_neg m u = rw (as_D m, as_D u) (simp diffs (D-eq _ _ _ _ (omega arith)))

between_of_alike : (a b c : ℤ) → Alike (neg_ℤ (b -ℤ c)) (a -ℤ c) → IsTrue (is_between a b c)
between_of_alike a b c h = grind (arith, ints)

same_of_alike : (a b c : ℤ) → Alike (b -ℤ c) (a -ℤ c) → IsTrue (is_between a b c) → (c ≡ a) × (c ≡ b)
same_of_alike a b c h k = grind (arith, ints)

-- what it is to lie strictly inside
pub inside_from : (s : Pair) (c : Point) → turn s.a s.b c ≡ pos 0 → IsTrue (is_between s.a.x s.b.x c.x) → IsTrue (is_between s.a.y s.b.y c.y) → c ≢ s.a → c ≢ s.b → IsTrue (is_strictly_inside s c)
unfolding is_strictly_inside lies_on is_in_box
inside_from s c t hx hy na nb =
    let fa : point_eq c s.a ≡ false = false_from_ne_true _ (λ e. na (same_by_eq c s.a e)) in
    let fb : point_eq c s.b ≡ false = false_from_ne_true _ (λ e. nb (same_by_eq c s.b e)) in
    rw (t, hx, hy, fa, fb) refl

pub inside_parts : (s : Pair) (c : Point) → IsTrue (is_strictly_inside s c) → (turn s.a s.b c ≡ pos 0) × IsTrue (is_between s.a.x s.b.x c.x) × IsTrue (is_between s.a.y s.b.y c.y) × (c ≢ s.a) × (c ≢ s.b)
unfolding is_strictly_inside lies_on is_in_box
inside_parts s c h =
    let outer = and_parts (lies_on s c) (not (is_end s c)) h in
    let on = and_parts (int_eq (turn s.a s.b c) (pos 0)) (is_in_box s c) outer.0 in
    let box = and_parts (is_between s.a.x s.b.x c.x) (is_between s.a.y s.b.y c.y) on.1 in
    let ends = not_end s c (not-true (is_end s c) outer.1) in
    ((Decides-int_eq (turn s.a s.b c) (pos 0)).0 on.0, box.0, box.1, ends.0, ends.1)

different_from_a : (s : Pair) (c : Point) (m n : ℤ) → m ≢ pos 0 → m *ℤ (s.b.x -ℤ c.x) ≡ n *ℤ (s.a.x -ℤ c.x) → m *ℤ (s.b.y -ℤ c.y) ≡ n *ℤ (s.a.y -ℤ c.y) → s.a ≢ s.b → c ≢ s.a
different_from_a s c m n nz hx hy apart same =
    let x : s.a.x -ℤ c.x ≡ pos 0 = rw same (omega (arith, ints)) in
    let y : s.a.y -ℤ c.y ≡ pos 0 = rw same (omega (arith, ints)) in
    let zx : m *ℤ (s.b.x -ℤ c.x) ≡ pos 0 = hx ∙ rw x (omega (arith, ints)) in
    let zy : m *ℤ (s.b.y -ℤ c.y) ≡ pos 0 = hy ∙ rw y (omega (arith, ints)) in
    apart (sym same ∙ same_by_steps c s.b (cancel_factor m _ nz zx) (cancel_factor m _ nz zy))

-- c lies on the line of s, and its distances from the two ends are as m and n: it lies strictly between where m and n have opposite signs
pub inside_of_opposite : (s : Pair) (c : Point) (m n : ℤ) → s.a ≢ s.b → turn s.a s.b c ≡ pos 0 → m <ℤ pos 0 → pos 0 <ℤ n → m *ℤ (s.b.x -ℤ c.x) ≡ n *ℤ (s.a.x -ℤ c.x) → m *ℤ (s.b.y -ℤ c.y) ≡ n *ℤ (s.a.y -ℤ c.y) → IsTrue (is_strictly_inside s c)
inside_of_opposite s c m n apart t hm hn hx hy =
    inside_from s c t
    (between_of_alike s.a.x s.b.x c.x (alike _ _ (neg_ℤ m) n (omega (arith, ints)) hn (neg_times_neg m (s.b.x -ℤ c.x) ∙ hx)))
    (between_of_alike s.a.y s.b.y c.y (alike _ _ (neg_ℤ m) n (omega (arith, ints)) hn (neg_times_neg m (s.b.y -ℤ c.y) ∙ hy)))
    (different_from_a s c m n (λ e. omega (arith, ints)) hx hy apart)
    (different_from_a (record { a = s.b; b = s.a }) c n m (λ e. omega (arith, ints)) (sym hx) (sym hy) (λ e. apart (sym e)))

pub outside_of_alike : (s : Pair) (c : Point) (m n : ℤ) → s.a ≢ s.b → pos 0 <ℤ m → pos 0 <ℤ n → m *ℤ (s.b.x -ℤ c.x) ≡ n *ℤ (s.a.x -ℤ c.x) → m *ℤ (s.b.y -ℤ c.y) ≡ n *ℤ (s.a.y -ℤ c.y) → IsTrue (is_strictly_inside s c) → ⊥
outside_of_alike s c m n apart hm hn hx hy inside =
    let parts = inside_parts s c inside in
    let x = same_of_alike s.a.x s.b.x c.x (alike (s.b.x -ℤ c.x) (s.a.x -ℤ c.x) m n hm hn hx) parts.1 in
    let y = same_of_alike s.a.y s.b.y c.y (alike (s.b.y -ℤ c.y) (s.a.y -ℤ c.y) m n hm hn hy) parts.2 in
    parts.3 (same_point c s.a x.0 y.0)

negated : (m n u w : ℤ) → m *ℤ u ≡ n *ℤ w → neg_ℤ m *ℤ u ≡ neg_ℤ n *ℤ w
negated m n u w e = rw (mul-neg_left m u, mul-neg_left n w, e) refl

opposite_down_up : (m n : ℤ) → m <ℤ pos 0 → pos 0 <ℤ n → have_opposite_signs m n ≡ true
opposite_down_up m n h k = grind (arith, ints)

opposite_up_down : (m n : ℤ) → pos 0 <ℤ m → n <ℤ pos 0 → have_opposite_signs m n ≡ true
opposite_up_down m n h k = grind (arith, ints)

alike_up : (m n : ℤ) → pos 0 <ℤ m → pos 0 <ℤ n → have_opposite_signs m n ≡ false
alike_up m n h k = grind (arith, ints)

alike_down : (m n : ℤ) → m <ℤ pos 0 → n <ℤ pos 0 → have_opposite_signs m n ≡ false
alike_down m n h k = grind (arith, ints)

pub inside_by_weights : (s : Pair) (c : Point) (m n : ℤ) → s.a ≢ s.b → turn s.a s.b c ≡ pos 0 → m ≢ pos 0 → n ≢ pos 0 → m *ℤ (s.b.x -ℤ c.x) ≡ n *ℤ (s.a.x -ℤ c.x) → m *ℤ (s.b.y -ℤ c.y) ≡ n *ℤ (s.a.y -ℤ c.y) → is_strictly_inside s c ≡ have_opposite_signs m n
inside_by_weights s c m n apart t nm nn hx hy =
    by_sign m
    (λ (m_down : m <ℤ pos 0).
    by_sign n
    (λ (n_down : n <ℤ pos 0).
    false_from_ne_true _ (outside_of_alike s c (neg_ℤ m) (neg_ℤ n) apart (omega (arith, ints)) (omega (arith, ints)) (negated m n _ _ hx) (negated m n _ _ hy)) ∙ sym (alike_down m n m_down n_down))
    (λ z. absurd (nn z))
    (λ (n_up : pos 0 <ℤ n). inside_of_opposite s c m n apart t m_down n_up hx hy ∙ sym (opposite_down_up m n m_down n_up)))
    (λ z. absurd (nm z))
    (λ (m_up : pos 0 <ℤ m).
    by_sign n
    (λ (n_down : n <ℤ pos 0). inside_of_opposite s c (neg_ℤ m) (neg_ℤ n) apart t (omega (arith, ints)) (omega (arith, ints)) (negated m n _ _ hx) (negated m n _ _ hy) ∙ sym (opposite_up_down m n m_up n_down))
    (λ z. absurd (nn z))
    (λ (n_up : pos 0 <ℤ n). false_from_ne_true _ (outside_of_alike s c m n apart m_up n_up hx hy) ∙ sym (alike_up m n m_up n_up)))
