-- Parts of two pairs: where parts cross, so do the pairs, and at a point inside the parts. Parts that no mark divides are apart.
use Rattle.std.proofs.Common.{◌≡◌, ◌∙◌, ◌⊎◌, ⊎_elim, inl, inr, arith, IsTrue, IsFalse}
use Rattle.std.specs.Prelude.{ℤ, pos, ◌+ℤ◌, ◌*ℤ◌, ◌≤ℤ◌, ◌<ℤ◌}
use Rattle.std.proofs.lemmas.Int.{ints, by_lt_z}
use Rattle.std.proofs.lemmas.Bool.{false_from_ne_true, cases_Bool}
use Rattle.overlay_geometry.specs.Points.{Point, Pair, turn, is_end, lies_on, is_strictly_inside}
use Rattle.overlay_geometry.specs.Meeting.{do_cross, are_collinear, has_end_inside, are_apart}
use Rattle.overlay_geometry.proofs.laws.geometry.Polynomials.{mul-pos, mul-nonneg, cancel-pos, mul-neg, mul-nonneg_both, mul-nonpos, cancel-neg}
use Rattle.overlay_geometry.proofs.laws.geometry.Points.{turn_rotates, turn_same_last, turn_same_outer, Before, by_order, UpTo-Before-trans, weights, collinear, inside_order, inside_from_order}
use Rattle.overlay_base.proofs.laws.geometry.Apart.{Opposite, do_cross_parts, do_cross_from, are_apart_from}
use Rattle.overlay_cuts.proofs.laws.planar.Meetings.{are_collinear_symmetric, no_end_inside_from, on_and_inside, MarksAt, MarksAt-end, MarksAt-cross, MarksAt-moves, IsPart, IsPart-line_back, IsPart-inside, IsPart-a_on, IsPart-b_on}
use Rattle.overlay_geometry.proofs.laws.integers.Products.{plus_comm, times_comm}

-- ---- signs of means

mean_below : (k m n f g z : ℤ) → pos 0 <ℤ k → pos 0 <ℤ m → pos 0 ≤ℤ n → k *ℤ z ≡ m *ℤ f +ℤ n *ℤ g → z <ℤ pos 0 → pos 0 ≤ℤ g → f <ℤ pos 0
mean_below k m n f g z hk hm hn e hz hg = cancel-neg m f hm (let a = mul-neg k z hk hz in let b = mul-nonneg n g hn hg in omega (arith, ints))

mean_above : (k m n f g z : ℤ) → pos 0 <ℤ k → pos 0 <ℤ m → pos 0 ≤ℤ n → k *ℤ z ≡ m *ℤ f +ℤ n *ℤ g → pos 0 <ℤ z → g ≤ℤ pos 0 → pos 0 <ℤ f
mean_above k m n f g z hk hm hn e hz hg = cancel-pos m f hm (let a = mul-pos k z hk hz in let b = mul-nonpos n g hn hg in omega (arith, ints))

-- the signs below and above 0 of the one are those of the other
abbrev pub Follows : ℤ → ℤ → Type 0
Follows f g = (f <ℤ pos 0 → g <ℤ pos 0) × (pos 0 <ℤ f → pos 0 <ℤ g)

mean_with_zero : (k m n f g z : ℤ) → pos 0 <ℤ k → pos 0 <ℤ m → k *ℤ z ≡ m *ℤ f +ℤ n *ℤ g → g ≡ pos 0 → Follows z f
mean_with_zero k m n f g z hk hm e hg =
    let i : k *ℤ z ≡ m *ℤ f = (let j = rw hg at e in omega (arith, ints)) in (
      λ (below : z <ℤ pos 0). cancel-neg m f hm (let a = mul-neg k z hk below in omega (arith, ints)),
      λ (above : pos 0 <ℤ z). cancel-pos m f hm (let a = mul-pos k z hk above in omega (arith, ints)),
    )

Opposite-follows : (f g i j : ℤ) → Follows f i → Follows g j → Opposite f g → Opposite i j
Opposite-follows f g i j h k (inl o) = inl (h.0 o.0, k.1 o.1)
Opposite-follows f g i j h k (inr o) = inr (h.1 o.0, k.0 o.1)

Follows-trans : (f g h : ℤ) → Follows f g → Follows g h → Follows f h
Follows-trans f g h p q = (λ b. q.0 (p.0 b), λ b. q.1 (p.1 b))

-- ---- a part's line has the pair's turns, up to a factor

part_starts : (p s : Pair) → IsPart p s → Before s.a p.b
part_starts p s h = UpTo-Before-trans s.a p.a p.b h.from_a h.ordered

part_follows : (p s : Pair) (x : Point) → IsPart p s → Follows (turn p.a p.b x) (turn s.a s.b x)
part_follows p s x h =
    let first = weights s.a p.b p.a (part_starts p s h) (collinear s.a s.b s.a p.b p.a h.whole (turn_same_outer s.a s.b) h.b_on_line h.a_on_line) in
    let second = weights s.a s.b p.b h.whole h.b_on_line in
    let one = mean_with_zero (first.of_a +ℤ first.of_b) first.of_a first.of_b (turn p.b x s.a) (turn p.b x p.b) (turn p.b x p.a) first.total (first.before_b h.ordered) (first.mean p.b x) (turn_same_outer p.b x) in
    let two = mean_with_zero (second.of_a +ℤ second.of_b) second.of_b second.of_a (turn x s.a s.b) (turn x s.a s.a) (turn x s.a p.b) second.total (second.after_a (part_starts p s h)) (second.mean x s.a ∙ plus_comm (second.of_a *ℤ turn x s.a s.a) (second.of_b *ℤ turn x s.a s.b)) (turn_same_last x s.a) in
    rw (turn_rotates p.a p.b x, turn_rotates s.a s.b x, turn_rotates s.b x s.a) (Follows-trans _ _ _ one (rw (turn_rotates p.b x s.a) two))

-- ---- a line that separates a part's ends separates the pair's

widen_first : (k m n f g z : ℤ) → pos 0 <ℤ k → pos 0 <ℤ m → pos 0 ≤ℤ n → k *ℤ z ≡ m *ℤ f +ℤ n *ℤ g → Opposite z g → Opposite f g
widen_first k m n f g z hk hm hn e (inl o) = inl (mean_below k m n f g z hk hm hn e o.0 (omega (arith, ints)), o.1)
widen_first k m n f g z hk hm hn e (inr o) = inr (mean_above k m n f g z hk hm hn e o.0 (omega (arith, ints)), o.1)

widen_second : (k m n f g z : ℤ) → pos 0 <ℤ k → pos 0 ≤ℤ m → pos 0 <ℤ n → k *ℤ z ≡ m *ℤ f +ℤ n *ℤ g → Opposite f z → Opposite f g
widen_second k m n f g z hk hm hn e (inl o) = inl (o.0, mean_above k n m g f z hk hn hm (e ∙ plus_comm (m *ℤ f) (n *ℤ g)) o.1 (omega (arith, ints)))
widen_second k m n f g z hk hm hn e (inr o) = inr (o.0, mean_below k n m g f z hk hn hm (e ∙ plus_comm (m *ℤ f) (n *ℤ g)) o.1 (omega (arith, ints)))

Opposite-widens : (q t : Pair) (u v : Point) → IsPart q t → Opposite (turn u v q.a) (turn u v q.b) → Opposite (turn u v t.a) (turn u v t.b)
Opposite-widens q t u v h o =
    let first = weights t.a q.b q.a (part_starts q t h) (collinear t.a t.b t.a q.b q.a h.whole (turn_same_outer t.a t.b) h.b_on_line h.a_on_line) in
    let second = weights t.a t.b q.b h.whole h.b_on_line in
    widen_second (second.of_a +ℤ second.of_b) second.of_a second.of_b (turn u v t.a) (turn u v t.b) (turn u v q.b) second.total (second.up_to_b h.up_to_b) (second.after_a (part_starts q t h)) (second.mean u v)
    (widen_first (first.of_a +ℤ first.of_b) first.of_a first.of_b (turn u v t.a) (turn u v q.b) (turn u v q.a) first.total (first.before_b h.ordered) (first.from_a h.from_a) (first.mean u v) o)

-- where parts cross, so do the pairs
pub IsPart-cross : (p s q t : Pair) → IsPart p s → IsPart q t → IsTrue (do_cross p q) → IsTrue (do_cross s t)
IsPart-cross p s q t h k c =
    let parts = do_cross_parts p q c in
    do_cross_from s t
    (Opposite-widens q t s.a s.b k (Opposite-follows _ _ _ _ (part_follows p s q.a h) (part_follows p s q.b h) parts.0))
    (Opposite-widens p s t.a t.b h (Opposite-follows _ _ _ _ (part_follows q t p.a k) (part_follows q t p.b k) parts.1))

-- ---- the point at which parts cross

positive_weights : (m n f g k z : ℤ) → pos 0 <ℤ (m +ℤ n) → k *ℤ z ≡ m *ℤ f +ℤ n *ℤ g → z ≡ pos 0 → f <ℤ pos 0 → pos 0 <ℤ g → (pos 0 <ℤ m) × (pos 0 <ℤ n)
positive_weights m n f g k z hs e hz hf hg =
    let sum : m *ℤ f +ℤ n *ℤ g ≡ pos 0 = (let i = rw hz at e in omega (arith, ints)) in
    let m_above : pos 0 <ℤ m = by_lt_z (pos 0) m (λ less. less) (λ (low : m ≤ℤ pos 0).
    let a = mul-nonneg_both m f low (omega (arith, ints)) in
    let b = mul-pos n g (omega (arith, ints)) hg in
    absurd (omega (arith, ints))) in
    let a = mul-neg m f m_above hf in
    (m_above, cancel-pos g n hg (rw (times_comm g n) (omega (arith, ints))))

opposite_weights : (m n f g k z : ℤ) → pos 0 <ℤ (m +ℤ n) → k *ℤ z ≡ m *ℤ f +ℤ n *ℤ g → z ≡ pos 0 → Opposite f g → (pos 0 <ℤ m) × (pos 0 <ℤ n)
opposite_weights m n f g k z hs e hz (inl o) = positive_weights m n f g k z hs e hz o.0 o.1
opposite_weights m n f g k z hs e hz (inr o) =
    let r = positive_weights n m g f k z (rw (plus_comm n m) hs) (e ∙ plus_comm (m *ℤ f) (n *ℤ g)) hz o.1 o.0 in
    (r.1, r.0)

not_both : (z : ℤ) → pos 0 <ℤ z → z <ℤ pos 0 → ⊥
not_both z h k = omega (arith, ints)

Opposite-first_nonzero : (f g : ℤ) → Opposite f g → f ≡ pos 0 → ⊥
Opposite-first_nonzero f g o e = omega (arith, ints)

Opposite-second_nonzero : (f g : ℤ) → Opposite f g → g ≡ pos 0 → ⊥
Opposite-second_nonzero f g o e = omega (arith, ints)

-- a point of p's line on a line that separates p's ends lies strictly inside p
pub separated_inside : (p : Pair) (u v e : Point) → Before p.a p.b → turn p.a p.b e ≡ pos 0 → turn u v e ≡ pos 0 → Opposite (turn u v p.a) (turn u v p.b) → IsTrue (is_strictly_inside p e)
separated_inside p u v e o line zero opp =
    let w = weights p.a p.b e o line in
    let r = opposite_weights w.of_a w.of_b (turn u v p.a) (turn u v p.b) (w.of_a +ℤ w.of_b) (turn u v e) w.total (w.mean u v) zero opp in
    inside_from_order p e o line
    (by_order p.a e (λ h. h) (λ same. absurd (Opposite-first_nonzero (turn u v p.a) (turn u v p.b) opp (rw same zero))) (λ back. absurd (not_both w.of_b r.1 (w.before_a back))))
    (by_order e p.b (λ h. h) (λ same. absurd (Opposite-second_nonzero (turn u v p.a) (turn u v p.b) opp (rw (← same) zero))) (λ back. absurd (not_both w.of_a r.0 (w.after_b back))))

-- where parts p of s and q of t cross, a point on the lines of s and t lies strictly inside p
pub IsPart-cross_point : (p s q t : Pair) (e : Point) → IsPart p s → IsPart q t → IsTrue (do_cross p q) → turn s.a s.b e ≡ pos 0 → turn t.a t.b e ≡ pos 0 → IsTrue (is_strictly_inside p e)
IsPart-cross_point p s q t e h k c on_s on_t =
    separated_inside p q.a q.b e h.ordered (IsPart-line_back p s e h on_s) (IsPart-line_back q t e k on_t) (do_cross_parts p q c).1

-- ---- parts that no mark divides, of the pairs of an arrangement in which all crossings are at whole points

-- e is a mark on s by one of the pairs
abbrev pub IsMarked : (Pair → Type 0) → Pair → Point → Type 0
IsMarked In s e = (u : Pair) × In u × MarksAt s u e

-- p is a part of s from an end or mark to the next one
pub record IsUndivided (In : Pair → Type 0) (s p : Pair) : Type 0 where
  pub part : IsPart p s
  pub at_a : IsTrue (is_end s p.a) ⊎ IsMarked In s p.a
  pub at_b : IsTrue (is_end s p.b) ⊎ IsMarked In s p.b
  pub clear : (e : Point) → IsMarked In s e → IsTrue (is_strictly_inside p e) → ⊥

-- the pairs are ordered, and where two cross, a whole point lies strictly inside both
pub record HasWholeCrossings (In : Pair → Type 0) : Type 0 where
  pub ordered : (s : Pair) → In s → Before s.a s.b
  pub whole : (s t : Pair) → In s → In t → IsTrue (do_cross s t) → (e : Point) × IsTrue (is_strictly_inside s e) × IsTrue (is_strictly_inside t e)

undivided_uncrossed : (In : Pair → Type 0) (s t p q : Pair) → HasWholeCrossings In → In s → In t → IsUndivided In s p → IsUndivided In t q → IsTrue (do_cross p q) → ⊥
undivided_uncrossed In s t p q w is it h k c =
    let crossed = IsPart-cross p s q t h.part k.part c in
    let x = w.whole s t is it crossed in
    let on_s = inside_order s x.0 (w.ordered s is) x.1 in
    let on_t = inside_order t x.0 (w.ordered t it) x.2 in
    h.clear x.0 (t, it, inl (x.1, crossed, x.2)) (IsPart-cross_point p s q t x.0 h.part k.part c on_s.0 on_t.0)

undivided_untouched : (In : Pair → Type 0) (s t q : Pair) (e : Point) → HasWholeCrossings In → In s → In t → IsUndivided In t q →
    IsTrue (lies_on s e) → IsTrue (is_end s e) ⊎ IsMarked In s e → IsTrue (is_strictly_inside q e) → ⊥
undivided_untouched In s t q e w is it k on end i =
    let o = w.ordered s is in
    let o' = w.ordered t it in
    let inside = IsPart-inside q t e k.part i in
    let ended = λ (at_end : IsTrue (is_end s e)). k.clear e (s, is, MarksAt-end t s e o' inside at_end) i in
    ⊎_elim
    (λ one_line. ⊎_elim ended (λ mark. k.clear e (mark.0, mark.1, MarksAt-moves s t mark.0 e o o' (w.ordered mark.0 mark.1) one_line inside mark.2) i) end)
    (λ two_lines. ⊎_elim ended (λ cross. k.clear e (s, is, MarksAt-cross t s e o' o inside cross.0 (rw (are_collinear_symmetric t s o' o) two_lines)) i) (on_and_inside s t e o o' on inside two_lines))
    (cases_Bool (are_collinear s t))

undivided_no_end : (In : Pair → Type 0) (s t p q : Pair) → HasWholeCrossings In → In s → In t → IsUndivided In s p → IsUndivided In t q → IsFalse (has_end_inside q p)
undivided_no_end In s t p q w is it h k =
    no_end_inside_from q p
    (false_from_ne_true (is_strictly_inside q p.a) (undivided_untouched In s t q p.a w is it k (IsPart-a_on p s h.part) h.at_a))
    (false_from_ne_true (is_strictly_inside q p.b) (undivided_untouched In s t q p.b w is it k (IsPart-b_on p s h.part) h.at_b))

-- any two such parts are apart
pub undivided_apart : (In : Pair → Type 0) (s t p q : Pair) → HasWholeCrossings In → In s → In t → IsUndivided In s p → IsUndivided In t q → IsTrue (are_apart p q)
undivided_apart In s t p q w is it h k =
    are_apart_from p q (false_from_ne_true (do_cross p q) (undivided_uncrossed In s t p q w is it h k)) (undivided_no_end In t s q p w it is k h) (undivided_no_end In s t p q w is it h k)
