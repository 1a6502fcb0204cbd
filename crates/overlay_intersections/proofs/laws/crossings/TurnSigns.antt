-- The result as the signs of four turns decide it: those of the other's ends from the target, and those of the target's ends from the
-- other.
use Rattle.std.proofs.Common.{◌≡◌, refl, sym, ap, ◌≤◌, ◌∙◌, ◌⊎◌, ◌≢◌, inl, inr, arith, Bool, true, false, not, ◌&&◌, ◌||◌}
use Rattle.std.specs.Prelude.{ℤ, pos, ◌-ℤ◌, ◌*ℤ◌, ◌+ℤ◌, neg_ℤ, nat_eq, nat_lt, if◌then◌else◌, Option, None}
use Rattle.std.specs.Int.{int_signum, from_bool}
use Rattle.std.specs.Bool.{Decides}
use Rattle.std.specs.Ordering.{int_eq}
use Rattle.std.proofs.lemmas.Int.{ints}
use Rattle.std.proofs.lemmas.Bool.{false_from_ne_true, both_ways, false≢true}
use Rattle.std.proofs.lemmas.Bool.Decides.{Decides-int_eq}
use Rattle.std.proofs.Math.IntN.{*ℤ_comm}
use Rattle.overlay_geometry.specs.Points.{Point, Pair, turn, is_strictly_inside}
use Rattle.overlay_geometry.specs.Turns.{clock_direction}
use Rattle.overlay_geometry.specs.Meeting.{are_collinear, have_opposite_signs, separates, do_cross}
use Rattle.overlay_intersections.specs.Marks.{Placing}
use Rattle.overlay_intersections.specs.Counts.{count_true}
use Rattle.overlay_intersections.specs.CrossAnswer.{CrossAnswer, target_end, other_end, overlay, answer_at, cross_answer, crossing_answer, touch_answer}
use Rattle.overlay_geometry.proofs.laws.geometry.Polynomials.{mul-neg_right}
use Rattle.overlay_geometry.proofs.laws.geometry.Points.{mean_x, mean_y, turn_same_outer, turn_same_last}
use Rattle.overlay_intersections.proofs.laws.crossings.Lines.{inside_parts, inside_by_weights}
use Rattle.overlay_intersections.proofs.laws.crossings.AnswerMarks.{crossing_is_clear, collinear_parts, collinear_from, line_back, on_line_by_end, zero_swapped}
use Rattle.overlay_geometry.proofs.laws.integers.Products.{times_zero}

-- ---- signs

abbrev pub have_same_sign : ℤ → ℤ → Bool
have_same_sign u v = int_eq (int_signum u) (int_signum v)

pub opposite_is_not_same : (u v : ℤ) → u ≢ pos 0 → v ≢ pos 0 → have_opposite_signs u v ≡ not (have_same_sign u v)
opposite_is_not_same u v h k = grind (arith, ints)

pub not_same_zero_left : (u v : ℤ) → u ≡ pos 0 → v ≢ pos 0 → have_same_sign u v ≡ false
not_same_zero_left u v h k = grind (arith, ints)

pub not_same_zero_right : (u v : ℤ) → u ≢ pos 0 → v ≡ pos 0 → have_same_sign u v ≡ false
not_same_zero_right u v h k = grind (arith, ints)

-- what has only the direction of a turn tests the turn itself
direction_is_zero : (z : ℤ) → int_eq (neg_ℤ (int_signum z)) (pos 0) ≡ int_eq z (pos 0)
direction_is_zero z = grind (arith, ints)

same_direction : (u v : ℤ) → int_eq (neg_ℤ (int_signum u)) (neg_ℤ (int_signum v)) ≡ have_same_sign u v
same_direction u v = grind (arith, ints)

-- ---- an end of t on the line of s, with the other segment's ends off the line of t: it lies strictly inside s where these ends are on two sides of t

weights_plain : (k t l o1 m o2 n o3 r : ℤ) → k *ℤ t ≡ l *ℤ o1 +ℤ m *ℤ o2 +ℤ n *ℤ o3 → t ≡ pos 0 → o3 ≡ pos 0 → r ≡ neg_ℤ m → o1 *ℤ l ≡ o2 *ℤ r
weights_plain k t l o1 m o2 n o3 r e ht h3 hr =
    let f = rw (ht, h3) at e in
    rw (hr, mul-neg_right o2 m, *ℤ_comm o1 l, *ℤ_comm o2 m) (omega (arith, ints, f, times_zero k, times_zero n))

pub inside_by_turns : (s t : Pair) (c : Point) → s.a ≢ s.b → turn s.a s.b c ≡ pos 0 → turn t.a t.b c ≡ pos 0 → turn t.a t.b s.a ≢ pos 0 → turn t.a t.b s.b ≢ pos 0 → is_strictly_inside s c ≡ have_opposite_signs (turn t.a t.b s.a) (turn t.a t.b s.b)
inside_by_turns s t c apart hs ht na nb =
    inside_by_weights s c (turn t.a t.b s.a) (turn t.a t.b s.b) apart hs na nb
    (weights_plain _ _ (s.b.x -ℤ c.x) (turn t.a t.b s.a) (c.x -ℤ s.a.x) (turn t.a t.b s.b) (t.b.x -ℤ t.a.x) (turn s.a s.b c) (s.a.x -ℤ c.x) (mean_x t.a t.b s.a s.b c) ht hs (omega (arith, ints)))
    (weights_plain _ _ (s.b.y -ℤ c.y) (turn t.a t.b s.a) (c.y -ℤ s.a.y) (turn t.a t.b s.b) (t.b.y -ℤ t.a.y) (turn s.a s.b c) (s.a.y -ℤ c.y) (mean_y t.a t.b s.a s.b c) ht hs (omega (arith, ints)))

pub outside_off : (s : Pair) (c : Point) → turn s.a s.b c ≢ pos 0 → is_strictly_inside s c ≡ false
outside_off s c h = false_from_ne_true _ (λ k. h (inside_parts s c k).0)

-- two lines that are not one share at most one point
pub one_point : (s t : Pair) (e f : Point) → are_collinear s t ≡ false → (f ≡ t.a) ⊎ (f ≡ t.b) → turn s.a s.b e ≡ pos 0 → turn t.a t.b e ≡ pos 0 → turn s.a s.b f ≡ pos 0 → e ≢ f → ⊥
one_point s t e f off (inl at_a) hs ht hf apart =
    let za : turn s.a s.b t.a ≡ pos 0 = ap (turn s.a s.b) (sym at_a) ∙ hf in
    both_ways _ off (collinear_from s t za (on_line_by_end s e t.a t.b (λ i. apart (i ∙ sym at_a)) hs za ht))
one_point s t e f off (inr at_b) hs ht hf apart =
    let zb : turn s.a s.b t.b ≡ pos 0 = ap (turn s.a s.b) (sym at_b) ∙ hf in
    both_ways _ off (collinear_from s t (on_line_by_end s e t.b t.a (λ i. apart (i ∙ sym at_b)) hs zb (zero_swapped t.a t.b e ht)) zb)

-- ---- the result

-- four tests, whether the turns are 0: of the other's a and b from the target, and of the target's a and b from the other; and whether the first two have one sign, and the last two
pub record Tests (target other : Pair) (other_a other_b target_a target_b others targets : Bool) : Type 0 where
  pub zero_other_a : Decides other_a (turn target.a target.b other.a ≡ pos 0)
  pub zero_other_b : Decides other_b (turn target.a target.b other.b ≡ pos 0)
  pub zero_target_a : Decides target_a (turn other.a other.b target.a ≡ pos 0)
  pub zero_target_b : Decides target_b (turn other.a other.b target.b ≡ pos 0)
  pub same_others : others ≡ have_same_sign (turn target.a target.b other.a) (turn target.a target.b other.b)
  pub same_targets : targets ≡ have_same_sign (turn other.a other.b target.a) (turn other.a other.b target.b)

unfoldable pub answer_by_tests : Placing → Pair → Pair → Bool → Bool → Bool → Bool → Bool → Bool → Option CrossAnswer
answer_by_tests placing target other other_a other_b target_a target_b others targets =
    let zeros = count_true other_a other_b target_a target_b in
    if nat_eq zeros 4 then answer_at overlay (record { x = pos 0; y = pos 0 }) false
    else if nat_lt 1 zeros || (others || targets) then None
    else if nat_eq zeros 0 then crossing_answer placing target other
    else if other_a then answer_at other_end other.a false
    else if other_b then answer_at other_end other.b false
    else if target_a then answer_at target_end target.a false
    else answer_at target_end target.b false

-- the result where no crossing is, and how the four tests decide it
off_by_a : (s t : Pair) → turn s.a s.b t.a ≢ pos 0 → are_collinear s t ≡ false
off_by_a s t h = false_from_ne_true _ (λ e. h (collinear_parts s t e).0)

off_by_b : (s t : Pair) → turn s.a s.b t.b ≢ pos 0 → are_collinear s t ≡ false
off_by_b s t h = false_from_ne_true _ (λ e. h (collinear_parts s t e).1)

pub end_on : (s : Pair) (e : Point) → (e ≡ s.a) ⊎ (e ≡ s.b) → turn s.a s.b e ≡ pos 0
end_on s e (inl i) = rw i (turn_same_outer s.a s.b)
end_on s e (inr i) = rw i (turn_same_last s.a s.b)

end_apart : (s : Pair) (e f : Point) → (e ≡ s.a) ⊎ (e ≡ s.b) → f ≢ s.a → f ≢ s.b → e ≢ f
end_apart s e f (inl i) na nb j = na (sym j ∙ i)
end_apart s e f (inr i) na nb j = nb (sym j ∙ i)

-- an end of each on the line of the other: the two are one point
shared_end : (s t : Pair) (e f : Point) → are_collinear s t ≡ false → (e ≡ s.a) ⊎ (e ≡ s.b) → (f ≡ t.a) ⊎ (f ≡ t.b) → turn s.a s.b f ≡ pos 0 → turn t.a t.b e ≡ pos 0 → (is_strictly_inside s f ≡ false) × (is_strictly_inside t e ≡ false)
shared_end s t e f off he hf zf ze =
    let meet = one_point s t e f off hf (end_on s e he) ze zf in (
      false_from_ne_true _ (λ k. let p = inside_parts s f k in meet (end_apart s e f he p.3 p.4)),
      false_from_ne_true _ (λ k. let p = inside_parts t e k in meet (λ i. end_apart t f e hf p.3 p.4 (sym i))),
    )

none_answer : (placing : Placing) (s t : Pair) → are_collinear s t ≡ false → do_cross s t ≡ false → is_strictly_inside s t.a ≡ false → is_strictly_inside s t.b ≡ false → is_strictly_inside t s.a ≡ false → is_strictly_inside t s.b ≡ false → cross_answer placing s t ≡ None
unfolding cross_answer touch_answer
none_answer placing s t off n e1 e2 e3 e4 = rw (off, n, e1, e2, e3, e4) refl

one_other_a : (placing : Placing) (s t : Pair) (c d : Bool) → are_collinear s t ≡ false → do_cross s t ≡ false → c ≡ false → is_strictly_inside s t.a ≡ not d → is_strictly_inside s t.b ≡ false → is_strictly_inside t s.a ≡ false → is_strictly_inside t s.b ≡ false → cross_answer placing s t ≡ (if c || d then None else answer_at other_end t.a false)
unfolding cross_answer touch_answer
one_other_a placing s t true d off n e e1 e2 e3 e4 = absurd (false≢true (sym e))
one_other_a placing s t false true off n e e1 e2 e3 e4 = rw (off, n, e1, e2, e3, e4) refl
one_other_a placing s t false false off n e e1 e2 e3 e4 = rw (off, n, e1) refl

one_other_b : (placing : Placing) (s t : Pair) (c d : Bool) → are_collinear s t ≡ false → do_cross s t ≡ false → c ≡ false → is_strictly_inside s t.a ≡ false → is_strictly_inside s t.b ≡ not d → is_strictly_inside t s.a ≡ false → is_strictly_inside t s.b ≡ false → cross_answer placing s t ≡ (if c || d then None else answer_at other_end t.b false)
unfolding cross_answer touch_answer
one_other_b placing s t true d off n e e1 e2 e3 e4 = absurd (false≢true (sym e))
one_other_b placing s t false true off n e e1 e2 e3 e4 = rw (off, n, e1, e2, e3, e4) refl
one_other_b placing s t false false off n e e1 e2 e3 e4 = rw (off, n, e1, e2) refl

one_target_a : (placing : Placing) (s t : Pair) (c d : Bool) → are_collinear s t ≡ false → do_cross s t ≡ false → d ≡ false → is_strictly_inside s t.a ≡ false → is_strictly_inside s t.b ≡ false → is_strictly_inside t s.a ≡ not c → is_strictly_inside t s.b ≡ false → cross_answer placing s t ≡ (if c || d then None else answer_at target_end s.a false)
unfolding cross_answer touch_answer
one_target_a placing s t c true off n e e1 e2 e3 e4 = absurd (false≢true (sym e))
one_target_a placing s t true false off n e e1 e2 e3 e4 = rw (off, n, e1, e2, e3, e4) refl
one_target_a placing s t false false off n e e1 e2 e3 e4 = rw (off, n, e1, e2, e3) refl

one_target_b : (placing : Placing) (s t : Pair) (c d : Bool) → are_collinear s t ≡ false → do_cross s t ≡ false → d ≡ false → is_strictly_inside s t.a ≡ false → is_strictly_inside s t.b ≡ false → is_strictly_inside t s.a ≡ false → is_strictly_inside t s.b ≡ not c → cross_answer placing s t ≡ (if c || d then None else answer_at target_end s.b false)
unfolding cross_answer touch_answer
one_target_b placing s t c true off n e e1 e2 e3 e4 = absurd (false≢true (sym e))
one_target_b placing s t true false off n e e1 e2 e3 e4 = rw (off, n, e1, e2, e3, e4) refl
one_target_b placing s t false false off n e e1 e2 e3 e4 = rw (off, n, e1, e2, e3, e4) refl

no_zero : (placing : Placing) (s t : Pair) (c d : Bool) → are_collinear s t ≡ false → separates s t ≡ not c → separates t s ≡ not d → is_strictly_inside s t.a ≡ false → is_strictly_inside s t.b ≡ false → is_strictly_inside t s.a ≡ false → is_strictly_inside t s.b ≡ false → cross_answer placing s t ≡ (if c || d then None else crossing_answer placing s t)
unfolding cross_answer touch_answer do_cross
no_zero placing s t true d off h k e1 e2 e3 e4 = rw (off, h, e1, e2, e3, e4) refl
no_zero placing s t false true off h k e1 e2 e3 e4 = rw (off, h, k, e1, e2, e3, e4) refl
no_zero placing s t false false off h k e1 e2 e3 e4 = rw (off, h, k) refl

separates_by_tests : (s t : Pair) (c : Bool) → turn s.a s.b t.a ≢ pos 0 → turn s.a s.b t.b ≢ pos 0 → c ≡ have_same_sign (turn s.a s.b t.a) (turn s.a s.b t.b) → separates s t ≡ not c
unfolding separates
separates_by_tests s t c na nb e = opposite_is_not_same (turn s.a s.b t.a) (turn s.a s.b t.b) na nb ∙ ap not (sym e)

-- where no turn is 0 they cross where the signs differ both ways
pub do_cross_by_tests : (s t : Pair) (c d : Bool) → Tests s t false false false false c d → do_cross s t ≡ (not c && not d)
unfolding do_cross
do_cross_by_tests s t c d k =
    rw (
      separates_by_tests s t c (λ z. false≢true (k.zero_other_a.1 z)) (λ z. false≢true (k.zero_other_b.1 z)) k.same_others,
      separates_by_tests t s d (λ z. false≢true (k.zero_target_a.1 z)) (λ z. false≢true (k.zero_target_b.1 z)) k.same_targets,
    ) refl

-- where one turn is 0, that end lies strictly inside where the two others have different signs
pub inside_by_tests : (s t : Pair) (c : Point) (d : Bool) → s.a ≢ s.b → turn s.a s.b c ≡ pos 0 → (c ≡ t.a) ⊎ (c ≡ t.b) → turn t.a t.b s.a ≢ pos 0 → turn t.a t.b s.b ≢ pos 0 → d ≡ have_same_sign (turn t.a t.b s.a) (turn t.a t.b s.b) → is_strictly_inside s c ≡ not d
inside_by_tests s t c d apart h e na nb same =
    inside_by_turns s t c apart h (end_on t c e) na nb ∙ opposite_is_not_same (turn t.a t.b s.a) (turn t.a t.b s.b) na nb ∙ ap not (sym same)

all_zero : (placing : Placing) (s t : Pair) → are_collinear s t ≡ true → cross_answer placing s t ≡ answer_at overlay (record { x = pos 0; y = pos 0 }) false
unfolding cross_answer
all_zero placing s t h = rw h refl

no_cross_by_other_a : (s t : Pair) → turn s.a s.b t.a ≡ pos 0 → do_cross s t ≡ false
no_cross_by_other_a s t z = false_from_ne_true _ (λ e. (crossing_is_clear s t e).ta z)

no_cross_by_other_b : (s t : Pair) → turn s.a s.b t.b ≡ pos 0 → do_cross s t ≡ false
no_cross_by_other_b s t z = false_from_ne_true _ (λ e. (crossing_is_clear s t e).tb z)

no_cross_by_target_a : (s t : Pair) → turn t.a t.b s.a ≡ pos 0 → do_cross s t ≡ false
no_cross_by_target_a s t z = false_from_ne_true _ (λ e. (crossing_is_clear s t e).sa z)

no_cross_by_target_b : (s t : Pair) → turn t.a t.b s.b ≡ pos 0 → do_cross s t ≡ false
no_cross_by_target_b s t z = false_from_ne_true _ (λ e. (crossing_is_clear s t e).sb z)

-- the result is what the tests decide
pub by_tests : (placing : Placing) (s t : Pair) (b1 b2 b3 b4 c d : Bool) → s.a ≢ s.b → t.a ≢ t.b → Tests s t b1 b2 b3 b4 c d → cross_answer placing s t ≡ answer_by_tests placing s t b1 b2 b3 b4 c d
unfolding answer_by_tests
by_tests placing s t true true true true c d hs ht k =
    all_zero placing s t (collinear_from s t (k.zero_other_a.0 refl) (k.zero_other_b.0 refl))
by_tests placing s t true true false b4 c d hs ht k =
    absurd (false≢true (k.zero_target_a.1 (line_back t.a t.b s.a s.b hs (k.zero_other_a.0 refl) (k.zero_other_b.0 refl)).0))
by_tests placing s t true true true false c d hs ht k =
    absurd (false≢true (k.zero_target_b.1 (line_back t.a t.b s.a s.b hs (k.zero_other_a.0 refl) (k.zero_other_b.0 refl)).1))
by_tests placing s t false b2 true true c d hs ht k =
    absurd (false≢true (k.zero_other_a.1 (line_back s.a s.b t.a t.b ht (k.zero_target_a.0 refl) (k.zero_target_b.0 refl)).0))
by_tests placing s t true false true true c d hs ht k =
    absurd (false≢true (k.zero_other_b.1 (line_back s.a s.b t.a t.b ht (k.zero_target_a.0 refl) (k.zero_target_b.0 refl)).1))
by_tests placing s t true false true false c d hs ht k =
    let off = off_by_b s t (λ z. false≢true (k.zero_other_b.1 z)) in
    let n = no_cross_by_other_a s t (k.zero_other_a.0 refl) in
    let shared = shared_end s t s.a t.a off (inl refl) (inl refl) (k.zero_other_a.0 refl) (k.zero_target_a.0 refl) in
    none_answer placing s t off n shared.0 (outside_off s t.b (λ z. false≢true (k.zero_other_b.1 z))) shared.1 (outside_off t s.b (λ z. false≢true (k.zero_target_b.1 z)))
by_tests placing s t true false false true c d hs ht k =
    let off = off_by_b s t (λ z. false≢true (k.zero_other_b.1 z)) in
    let n = no_cross_by_other_a s t (k.zero_other_a.0 refl) in
    let shared = shared_end s t s.b t.a off (inr refl) (inl refl) (k.zero_other_a.0 refl) (k.zero_target_b.0 refl) in
    none_answer placing s t off n shared.0 (outside_off s t.b (λ z. false≢true (k.zero_other_b.1 z))) (outside_off t s.a (λ z. false≢true (k.zero_target_a.1 z))) shared.1
by_tests placing s t false true true false c d hs ht k =
    let off = off_by_a s t (λ z. false≢true (k.zero_other_a.1 z)) in
    let n = no_cross_by_other_b s t (k.zero_other_b.0 refl) in
    let shared = shared_end s t s.a t.b off (inl refl) (inr refl) (k.zero_other_b.0 refl) (k.zero_target_a.0 refl) in
    none_answer placing s t off n (outside_off s t.a (λ z. false≢true (k.zero_other_a.1 z))) shared.0 shared.1 (outside_off t s.b (λ z. false≢true (k.zero_target_b.1 z)))
by_tests placing s t false true false true c d hs ht k =
    let off = off_by_a s t (λ z. false≢true (k.zero_other_a.1 z)) in
    let n = no_cross_by_other_b s t (k.zero_other_b.0 refl) in
    let shared = shared_end s t s.b t.b off (inr refl) (inr refl) (k.zero_other_b.0 refl) (k.zero_target_b.0 refl) in
    none_answer placing s t off n (outside_off s t.a (λ z. false≢true (k.zero_other_a.1 z))) shared.0 (outside_off t s.a (λ z. false≢true (k.zero_target_a.1 z))) shared.1
by_tests placing s t true false false false c d hs ht k =
    let n2 : turn s.a s.b t.b ≢ pos 0 = λ z. false≢true (k.zero_other_b.1 z) in
    let n3 : turn t.a t.b s.a ≢ pos 0 = λ z. false≢true (k.zero_target_a.1 z) in
    let n4 : turn t.a t.b s.b ≢ pos 0 = λ z. false≢true (k.zero_target_b.1 z) in
    let z1 : turn s.a s.b t.a ≡ pos 0 = k.zero_other_a.0 refl in
    one_other_a placing s t c d (off_by_b s t n2) (no_cross_by_other_a s t z1)
    (k.same_others ∙ not_same_zero_left (turn s.a s.b t.a) (turn s.a s.b t.b) z1 n2)
    (inside_by_tests s t t.a d hs z1 (inl refl) n3 n4 k.same_targets)
    (outside_off s t.b n2) (outside_off t s.a n3) (outside_off t s.b n4)
by_tests placing s t false true false false c d hs ht k =
    let n1 : turn s.a s.b t.a ≢ pos 0 = λ z. false≢true (k.zero_other_a.1 z) in
    let n3 : turn t.a t.b s.a ≢ pos 0 = λ z. false≢true (k.zero_target_a.1 z) in
    let n4 : turn t.a t.b s.b ≢ pos 0 = λ z. false≢true (k.zero_target_b.1 z) in
    let z2 : turn s.a s.b t.b ≡ pos 0 = k.zero_other_b.0 refl in
    one_other_b placing s t c d (off_by_a s t n1) (no_cross_by_other_b s t z2)
    (k.same_others ∙ not_same_zero_right (turn s.a s.b t.a) (turn s.a s.b t.b) n1 z2)
    (outside_off s t.a n1)
    (inside_by_tests s t t.b d hs z2 (inr refl) n3 n4 k.same_targets)
    (outside_off t s.a n3) (outside_off t s.b n4)
by_tests placing s t false false true false c d hs ht k =
    let n1 : turn s.a s.b t.a ≢ pos 0 = λ z. false≢true (k.zero_other_a.1 z) in
    let n2 : turn s.a s.b t.b ≢ pos 0 = λ z. false≢true (k.zero_other_b.1 z) in
    let n4 : turn t.a t.b s.b ≢ pos 0 = λ z. false≢true (k.zero_target_b.1 z) in
    let z3 : turn t.a t.b s.a ≡ pos 0 = k.zero_target_a.0 refl in
    one_target_a placing s t c d (off_by_a s t n1) (no_cross_by_target_a s t z3)
    (k.same_targets ∙ not_same_zero_left (turn t.a t.b s.a) (turn t.a t.b s.b) z3 n4)
    (outside_off s t.a n1) (outside_off s t.b n2)
    (inside_by_tests t s s.a c ht z3 (inl refl) n1 n2 k.same_others)
    (outside_off t s.b n4)
by_tests placing s t false false false true c d hs ht k =
    let n1 : turn s.a s.b t.a ≢ pos 0 = λ z. false≢true (k.zero_other_a.1 z) in
    let n2 : turn s.a s.b t.b ≢ pos 0 = λ z. false≢true (k.zero_other_b.1 z) in
    let n3 : turn t.a t.b s.a ≢ pos 0 = λ z. false≢true (k.zero_target_a.1 z) in
    let z4 : turn t.a t.b s.b ≡ pos 0 = k.zero_target_b.0 refl in
    one_target_b placing s t c d (off_by_a s t n1) (no_cross_by_target_b s t z4)
    (k.same_targets ∙ not_same_zero_right (turn t.a t.b s.a) (turn t.a t.b s.b) n3 z4)
    (outside_off s t.a n1) (outside_off s t.b n2) (outside_off t s.a n3)
    (inside_by_tests t s s.b c ht z4 (inr refl) n1 n2 k.same_others)
by_tests placing s t false false false false c d hs ht k =
    let n1 : turn s.a s.b t.a ≢ pos 0 = λ z. false≢true (k.zero_other_a.1 z) in
    let n2 : turn s.a s.b t.b ≢ pos 0 = λ z. false≢true (k.zero_other_b.1 z) in
    let n3 : turn t.a t.b s.a ≢ pos 0 = λ z. false≢true (k.zero_target_a.1 z) in
    let n4 : turn t.a t.b s.b ≢ pos 0 = λ z. false≢true (k.zero_target_b.1 z) in
    no_zero placing s t c d (off_by_a s t n1) (separates_by_tests s t c n1 n2 k.same_others) (separates_by_tests t s d n3 n4 k.same_targets)
    (outside_off s t.a n1) (outside_off s t.b n2) (outside_off t s.a n3) (outside_off t s.b n4)

-- ---- the tests on the directions of the turns

pub tests_of_directions : (s t : Pair) (o1 o2 o3 o4 : ℤ)
    → o1 ≡ clock_direction s.a s.b t.a → o2 ≡ clock_direction s.a s.b t.b → o3 ≡ clock_direction t.a t.b s.a → o4 ≡ clock_direction t.a t.b s.b
    → Tests s t (int_eq o1 (pos 0)) (int_eq o2 (pos 0)) (int_eq o3 (pos 0)) (int_eq o4 (pos 0)) (int_eq o1 o2) (int_eq o3 o4)
tests_of_directions s t o1 o2 o3 o4 e1 e2 e3 e4 = record {
  zero_other_a = rw (e1, direction_is_zero (turn s.a s.b t.a)) (Decides-int_eq (turn s.a s.b t.a) (pos 0));
  zero_other_b = rw (e2, direction_is_zero (turn s.a s.b t.b)) (Decides-int_eq (turn s.a s.b t.b) (pos 0));
  zero_target_a = rw (e3, direction_is_zero (turn t.a t.b s.a)) (Decides-int_eq (turn t.a t.b s.a) (pos 0));
  zero_target_b = rw (e4, direction_is_zero (turn t.a t.b s.b)) (Decides-int_eq (turn t.a t.b s.b) (pos 0));
  same_others = rw (e1, e2) (same_direction (turn s.a s.b t.a) (turn s.a s.b t.b));
  same_targets = rw (e3, e4) (same_direction (turn t.a t.b s.a) (turn t.a t.b s.b));
}

-- ---- how many of the four turns are 0

at_most_one : (b : Bool) → from_bool b ≤ 1
at_most_one true = omega arith
at_most_one false = omega arith

-- never three
pub never_three : (s t : Pair) (b1 b2 b3 b4 c d : Bool) → s.a ≢ s.b → t.a ≢ t.b → Tests s t b1 b2 b3 b4 c d → count_true b1 b2 b3 b4 ≢ 3
never_three s t true true true true c d hs ht k e = omega arith
never_three s t true true false b4 c d hs ht k e =
    false≢true (k.zero_target_a.1 (line_back t.a t.b s.a s.b hs (k.zero_other_a.0 refl) (k.zero_other_b.0 refl)).0)
never_three s t true true true false c d hs ht k e =
    false≢true (k.zero_target_b.1 (line_back t.a t.b s.a s.b hs (k.zero_other_a.0 refl) (k.zero_other_b.0 refl)).1)
never_three s t false b2 true true c d hs ht k e =
    false≢true (k.zero_other_a.1 (line_back s.a s.b t.a t.b ht (k.zero_target_a.0 refl) (k.zero_target_b.0 refl)).0)
never_three s t true false true true c d hs ht k e =
    false≢true (k.zero_other_b.1 (line_back s.a s.b t.a t.b ht (k.zero_target_a.0 refl) (k.zero_target_b.0 refl)).1)
never_three s t b1 b2 b3 b4 c d hs ht k e = omega (arith, at_most_one b1, at_most_one b2, at_most_one b3, at_most_one b4)
