-- The result in each branch of code that knows on which sides of one another the ends lie.
use Rattle.std.proofs.Common.{◌≡◌, refl, sym, ap, ◌∙◌, ◌≢◌, ◌<◌, ◌⊎◌, inl, inr, arith, Bool, true, false, not, ◌&&◌, ◌||◌, IsTrue}
use Rattle.std.specs.Prelude.{pos, nat_lt, None}
use Rattle.std.specs.Bool.{Decides}
use Rattle.std.specs.Ordering.{int_eq}
use Rattle.std.proofs.lemmas.Bool.{ne_eqb, false≢true, false_from_ne_true, and_parts, or_left, or_right}
use Rattle.overlay_geometry.proofs.laws.integers.Tests.{nat_lt-test}
use Rattle.overlay_geometry.specs.Points.{Point, Pair, point_eq, turn}
use Rattle.overlay_geometry.specs.Turns.{clock_direction}
use Rattle.overlay_geometry.specs.Meeting.{do_cross}
use Rattle.overlay_geometry.proofs.laws.geometry.Points.{same_by_eq}
use Rattle.overlay_intersections.specs.Marks.{Placing}
use Rattle.overlay_intersections.specs.Counts.{count_true}
use Rattle.overlay_intersections.specs.CrossAnswer.{target_end, other_end, overlay, answer_at, cross_answer}
use Rattle.overlay_intersections.specs.steps.ContactOf.{AreEndSides, zeros_of, leave_no_contact, are_beside}
use Rattle.overlay_intersections.specs.declared.split.cross.contact.EndSides.{EndSides}
use Rattle.overlay_intersections.proofs.laws.crossings.TurnSigns.{Tests, end_on, tests_of_directions, by_tests, do_cross_by_tests, answer_by_tests}

-- two pairs, the ends of each apart, and the sides of their ends
pub record Sided (s t : Pair) (sides : EndSides) : Type 0 where
  pub s_apart : s.a ≢ s.b
  pub t_apart : t.a ≢ t.b
  pub are_sides : AreEndSides s t sides

tests_of : (s t : Pair) (sides : EndSides) → Sided s t sides → Tests s t (int_eq sides.other_a (pos 0)) (int_eq sides.other_b (pos 0)) (int_eq sides.target_a (pos 0)) (int_eq sides.target_b (pos 0)) (int_eq sides.other_a sides.other_b) (int_eq sides.target_a sides.target_b)
tests_of s t sides k = tests_of_directions s t sides.other_a sides.other_b sides.target_a sides.target_b k.are_sides.other_a_is k.are_sides.other_b_is k.are_sides.target_a_is k.are_sides.target_b_is

decided : (placing : Placing) (s t : Pair) (sides : EndSides) → Sided s t sides → cross_answer placing s t ≡ answer_by_tests placing s t (int_eq sides.other_a (pos 0)) (int_eq sides.other_b (pos 0)) (int_eq sides.target_a (pos 0)) (int_eq sides.target_b (pos 0)) (int_eq sides.other_a sides.other_b) (int_eq sides.target_a sides.target_b)
decided placing s t sides k = by_tests placing s t _ _ _ _ _ _ k.s_apart k.t_apart (tests_of s t sides k)

pub when_overlay : (placing : Placing) (s t : Pair) (sides : EndSides) → Sided s t sides → zeros_of sides ≡ 4 → cross_answer placing s t ≡ answer_at overlay (record { x = pos 0; y = pos 0 }) false
unfolding answer_by_tests
when_overlay placing s t sides k h = decided placing s t sides k ∙ rw h refl

pub when_apart : (placing : Placing) (s t : Pair) (sides : EndSides) → Sided s t sides → zeros_of sides ≢ 4 → leave_no_contact sides ≡ true → cross_answer placing s t ≡ None
unfolding answer_by_tests
when_apart placing s t sides k h m = decided placing s t sides k ∙ rw (ne_eqb (zeros_of sides) 4 h, m) refl

three_at_most : (b c d : Bool) → count_true false b c d ≢ 4
three_at_most true true true e = absurd (omega arith)
three_at_most true true false e = absurd (omega arith)
three_at_most true false true e = absurd (omega arith)
three_at_most true false false e = absurd (omega arith)
three_at_most false true true e = absurd (omega arith)
three_at_most false true false e = absurd (omega arith)
three_at_most false false true e = absurd (omega arith)
three_at_most false false false e = absurd (omega arith)

three_but_third : (b1 b2 b4 : Bool) → count_true b1 b2 false b4 ≢ 4
three_but_third true true true e = absurd (omega arith)
three_but_third true true false e = absurd (omega arith)
three_but_third true false true e = absurd (omega arith)
three_but_third true false false e = absurd (omega arith)
three_but_third false true true e = absurd (omega arith)
three_but_third false true false e = absurd (omega arith)
three_but_third false false true e = absurd (omega arith)
three_but_third false false false e = absurd (omega arith)

beside_by_tests : (b1 b2 b3 b4 c d : Bool) → (not b1 && c) ≡ true → (count_true b1 b2 b3 b4 ≢ 4) × ((nat_lt 1 (count_true b1 b2 b3 b4) || (c || d)) ≡ true)
beside_by_tests true b2 b3 b4 c d h = absurd (false≢true h)
beside_by_tests false b2 b3 b4 false d h = absurd (false≢true h)
beside_by_tests false b2 b3 b4 true d h = (three_at_most b2 b3 b4, or_right (nat_lt 1 (count_true false b2 b3 b4)) (true || d) refl)

-- both ends of the other lie strictly on one side of the target's line
pub when_beside : (placing : Placing) (s t : Pair) → s.a ≢ s.b → t.a ≢ t.b → are_beside s t ≡ true → cross_answer placing s t ≡ None
when_beside placing s t h k m =
    let sides : EndSides = record { other_a = clock_direction s.a s.b t.a; other_b = clock_direction s.a s.b t.b; target_a = clock_direction t.a t.b s.a; target_b = clock_direction t.a t.b s.b } in
    let tests = beside_by_tests (int_eq sides.other_a (pos 0)) (int_eq sides.other_b (pos 0)) (int_eq sides.target_a (pos 0)) (int_eq sides.target_b (pos 0)) (int_eq sides.other_a sides.other_b) (int_eq sides.target_a sides.target_b) m in
    when_apart placing s t sides (record { s_apart = h; t_apart = k; are_sides = record { other_a_is = refl; other_b_is = refl; target_a_is = refl; target_b_is = refl } }) tests.0 tests.1

crossing_by_tests : (s t : Pair) (b1 b2 b3 b4 c d : Bool) → Tests s t b1 b2 b3 b4 c d → count_true b1 b2 b3 b4 ≡ 0 → (nat_lt 1 (count_true b1 b2 b3 b4) || (c || d)) ≡ false → IsTrue (do_cross s t)
crossing_by_tests s t true b2 b3 b4 c d k h m = absurd (omega arith)
crossing_by_tests s t false true b3 b4 c d k h m = absurd (omega arith)
crossing_by_tests s t false false true b4 c d k h m = absurd (omega arith)
crossing_by_tests s t false false false true c d k h m = absurd (omega arith)
crossing_by_tests s t false false false false true d k h m = absurd (cc)
crossing_by_tests s t false false false false false true k h m = absurd (cc)
crossing_by_tests s t false false false false false false k h m = do_cross_by_tests s t false false k

pub when_crossing : (s t : Pair) (sides : EndSides) → Sided s t sides → leave_no_contact sides ≡ false → zeros_of sides ≡ 0 → IsTrue (do_cross s t)
when_crossing s t sides k m h = crossing_by_tests s t _ _ _ _ _ _ (tests_of s t sides k) h m

-- one end lies on the line of the other segment
pub record Touching (s t : Pair) (sides : EndSides) : Type 0 where
  pub sided : Sided s t sides
  pub not_four : zeros_of sides ≢ 4
  pub not_apart : leave_no_contact sides ≡ false
  pub not_none : zeros_of sides ≢ 0

pub when_other_a : (placing : Placing) (s t : Pair) (sides : EndSides) → Touching s t sides → int_eq sides.other_a (pos 0) ≡ true → cross_answer placing s t ≡ answer_at other_end t.a false
unfolding answer_by_tests
when_other_a placing s t sides k e1 = decided placing s t sides k.sided ∙ rw (ne_eqb (zeros_of sides) 4 k.not_four, k.not_apart, ne_eqb (zeros_of sides) 0 k.not_none, e1) refl

pub when_other_b : (placing : Placing) (s t : Pair) (sides : EndSides) → Touching s t sides → int_eq sides.other_a (pos 0) ≡ false → int_eq sides.other_b (pos 0) ≡ true → cross_answer placing s t ≡ answer_at other_end t.b false
unfolding answer_by_tests
when_other_b placing s t sides k e1 e2 = decided placing s t sides k.sided ∙ rw (ne_eqb (zeros_of sides) 4 k.not_four, k.not_apart, ne_eqb (zeros_of sides) 0 k.not_none, e1, e2) refl

pub when_target_a : (placing : Placing) (s t : Pair) (sides : EndSides) → Touching s t sides → int_eq sides.other_a (pos 0) ≡ false → int_eq sides.other_b (pos 0) ≡ false → int_eq sides.target_a (pos 0) ≡ true → cross_answer placing s t ≡ answer_at target_end s.a false
unfolding answer_by_tests
when_target_a placing s t sides k e1 e2 e3 = decided placing s t sides k.sided ∙ rw (ne_eqb (zeros_of sides) 4 k.not_four, k.not_apart, ne_eqb (zeros_of sides) 0 k.not_none, e1, e2, e3) refl

pub when_target_b : (placing : Placing) (s t : Pair) (sides : EndSides) → Touching s t sides → int_eq sides.other_a (pos 0) ≡ false → int_eq sides.other_b (pos 0) ≡ false → int_eq sides.target_a (pos 0) ≡ false → cross_answer placing s t ≡ answer_at target_end s.b false
unfolding answer_by_tests
when_target_b placing s t sides k e1 e2 e3 = decided placing s t sides k.sided ∙ rw (ne_eqb (zeros_of sides) 4 k.not_four, k.not_apart, ne_eqb (zeros_of sides) 0 k.not_none, e1, e2, e3) refl

beside_back_by_tests : (b1 b2 b3 b4 c d : Bool) → (not b3 && d) ≡ true → (count_true b1 b2 b3 b4 ≢ 4) × ((nat_lt 1 (count_true b1 b2 b3 b4) || (c || d)) ≡ true)
beside_back_by_tests b1 b2 true b4 c d h = absurd (false≢true h)
beside_back_by_tests b1 b2 false b4 c false h = absurd (false≢true h)
beside_back_by_tests b1 b2 false b4 c true h = (three_but_third b1 b2 b4, or_right (nat_lt 1 (count_true b1 b2 false b4)) (c || true) (or_right c true refl))

-- both ends of the target lie strictly on one side of the other's line
pub when_beside_back : (placing : Placing) (s t : Pair) → s.a ≢ s.b → t.a ≢ t.b → are_beside t s ≡ true → cross_answer placing s t ≡ None
when_beside_back placing s t h k m =
    let sides : EndSides = record { other_a = clock_direction s.a s.b t.a; other_b = clock_direction s.a s.b t.b; target_a = clock_direction t.a t.b s.a; target_b = clock_direction t.a t.b s.b } in
    let tests = beside_back_by_tests (int_eq sides.other_a (pos 0)) (int_eq sides.other_b (pos 0)) (int_eq sides.target_a (pos 0)) (int_eq sides.target_b (pos 0)) (int_eq sides.other_a sides.other_b) (int_eq sides.target_a sides.target_b) m in
    when_apart placing s t sides (record { s_apart = h; t_apart = k; are_sides = record { other_a_is = refl; other_b_is = refl; target_a_is = refl; target_b_is = refl } }) tests.0 tests.1

-- an end is shared, and the four ends are not on one line
when_shared : (placing : Placing) (s t : Pair) (sides : EndSides) → Sided s t sides → 1 < zeros_of sides → zeros_of sides < 4 → cross_answer placing s t ≡ None
when_shared placing s t sides k h m = when_apart placing s t sides k (λ e. absurd (omega arith)) (or_left (nat_lt 1 (zeros_of sides)) (int_eq sides.other_a sides.other_b || int_eq sides.target_a sides.target_b) (nat_lt-test 1 (zeros_of sides) h))

-- of the other's two ends one lies on the target's line, and an end of the target on the other's
two_or_three : (b1 b2 b3 b4 : Bool) → (b1 || b2) ≡ true → (b1 && b2) ≡ false → (b3 || b4) ≡ true → (1 < count_true b1 b2 b3 b4) × (count_true b1 b2 b3 b4 < 4)
two_or_three true true b3 b4 h k m = absurd (false≢true (sym k))
two_or_three false false b3 b4 h k m = absurd (false≢true h)
two_or_three b1 b2 false false h k m = absurd (false≢true m)
two_or_three true false true true h k m = (omega arith, omega arith)
two_or_three true false true false h k m = (omega arith, omega arith)
two_or_three true false false true h k m = (omega arith, omega arith)
two_or_three false true true true h k m = (omega arith, omega arith)
two_or_three false true true false h k m = (omega arith, omega arith)
two_or_three false true false true h k m = (omega arith, omega arith)

-- tests of whether e and f lie on the line of s: one that does makes one of them hold, and one that does not keeps both from holding
one_lies_on : (s : Pair) (p e f : Point) (b c : Bool) → Decides b (turn s.a s.b e ≡ pos 0) → Decides c (turn s.a s.b f ≡ pos 0) → (p ≡ e) ⊎ (p ≡ f) → turn s.a s.b p ≡ pos 0 → (b || c) ≡ true
one_lies_on s p e f b c k m (inl i) z = or_left b c (k.1 (ap (turn s.a s.b) (sym i) ∙ z))
one_lies_on s p e f b c k m (inr i) z = or_right b c (m.1 (ap (turn s.a s.b) (sym i) ∙ z))

one_lies_off : (s : Pair) (q e f : Point) (b c : Bool) → Decides b (turn s.a s.b e ≡ pos 0) → Decides c (turn s.a s.b f ≡ pos 0) → (q ≡ e) ⊎ (q ≡ f) → turn s.a s.b q ≢ pos 0 → (b && c) ≡ false
one_lies_off s q e f b c k m (inl i) n = false_from_ne_true _ (λ h. n (ap (turn s.a s.b) i ∙ k.0 (and_parts b c h).0))
one_lies_off s q e f b c k m (inr i) n = false_from_ne_true _ (λ h. n (ap (turn s.a s.b) i ∙ m.0 (and_parts b c h).1))

-- p is an end of both, and an end q of t does not lie on the line of s
share_end : (placing : Placing) (s t : Pair) (p q : Point) → s.a ≢ s.b → t.a ≢ t.b → (p ≡ s.a) ⊎ (p ≡ s.b) → (p ≡ t.a) ⊎ (p ≡ t.b) → (q ≡ t.a) ⊎ (q ≡ t.b) → not (int_eq (turn s.a s.b q) (pos 0)) ≡ true → cross_answer placing s t ≡ None
share_end placing s t p q hs ht ps pt qt n =
    let sides : EndSides = record { other_a = clock_direction s.a s.b t.a; other_b = clock_direction s.a s.b t.b; target_a = clock_direction t.a t.b s.a; target_b = clock_direction t.a t.b s.b } in
    let sided : Sided s t sides = record { s_apart = hs; t_apart = ht; are_sides = record { other_a_is = refl; other_b_is = refl; target_a_is = refl; target_b_is = refl } } in
    let tests = tests_of s t sides sided in
    let zeros = two_or_three _ _ _ _
    (one_lies_on s p t.a t.b _ _ tests.zero_other_a tests.zero_other_b pt (end_on s p ps))
    (one_lies_off s q t.a t.b _ _ tests.zero_other_a tests.zero_other_b qt (λ z. false≢true (rw z at n)))
    (one_lies_on t p s.a s.b _ _ tests.zero_target_a tests.zero_target_b ps (end_on t p pt)) in
    when_shared placing s t sides sided zeros.0 zeros.1

-- three tests whether two ends are one point, and q, the end of t that is not shared, does not lie on the line of s
pub when_parted : (placing : Placing) (s t : Pair) (q : Point) (b c d : Bool) → s.a ≢ s.b → t.a ≢ t.b → b ≡ point_eq s.b t.b → c ≡ point_eq s.b t.a → d ≡ point_eq s.a t.a →
    ((b || c) || d) ≡ true → ((b ≡ true) × (q ≡ t.a)) ⊎ ((b ≡ false) × (q ≡ t.b)) → not (int_eq (turn s.a s.b q) (pos 0)) ≡ true → cross_answer placing s t ≡ None
when_parted placing s t q true c d hs ht eb ec ed h (inl k) n = share_end placing s t s.b q hs ht (inr refl) (inr (same_by_eq s.b t.b (sym eb))) (inl k.1) n
when_parted placing s t q true c d hs ht eb ec ed h (inr k) n = absurd (false≢true (sym k.0))
when_parted placing s t q false c d hs ht eb ec ed h (inl k) n = absurd (false≢true k.0)
when_parted placing s t q false true d hs ht eb ec ed h (inr k) n = share_end placing s t s.b q hs ht (inr refl) (inl (same_by_eq s.b t.a (sym ec))) (inr k.1) n
when_parted placing s t q false false true hs ht eb ec ed h (inr k) n = share_end placing s t s.a q hs ht (inl refl) (inl (same_by_eq s.a t.a (sym ed))) (inr k.1) n
when_parted placing s t q false false false hs ht eb ec ed h (inr k) n = absurd (false≢true h)
