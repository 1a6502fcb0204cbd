-- The result for two that cross. In a snapping pass: on both lines, at the nearest end, or at the snapping point. In a
-- settling pass: at the settling point.
use Rattle.std.proofs.Common.{◌≡◌, refl, sym, ap, ℕ, ◌<◌, ◌≤◌, ◌∙◌, ◌≢◌, inl, inr, arith, Bool, true, false, not}
use Rattle.std.specs.Int.{int_min}
use Rattle.std.specs.Prelude.{ℤ, ◌≤ℤ◌, unsigned_abs, int_lt, int_le, pos, neg_ℤ, nat_lt, nat_le}
use Rattle.std.proofs.lemmas.Int.{ints}
use Rattle.std.proofs.lemmas.Bool.{false_from_ne_true, cond_both, or_left, or_right, ltb-true, ltb-false, leb-true, leb-false, le-leb, lt-leb}
use Rattle.overlay_geometry.specs.Points.{Point, Pair, turn, point_eq, is_end, sqr_distance}
use Rattle.overlay_geometry.specs.Meeting.{do_cross}
use Rattle.overlay_base.proofs.laws.geometry.Apart.{do_cross_back}
use Rattle.overlay_intersections.specs.Crossing.{is_exact, is_on_lines, snapping_point, settling_point}
use Rattle.overlay_intersections.specs.Marks.{snapping, settling, nearer_end, nearest_end, snapped_to, crossing_mark}
use Rattle.overlay_intersections.specs.CrossAnswer.{CrossKind, pure, target_end, other_end, answer_at, crossing_answer, kind_of_point}
use Rattle.overlay_geometry.proofs.laws.geometry.Points.{point_eq_same, turn_swaps_last}
use Rattle.overlay_intersections.proofs.laws.crossings.AnswerMarks.{by_bool, crossing_is_clear, crossing_ends_differ, end_cases}
use Rattle.overlay_intersections.proofs.laws.crossings.ExactCrossings.{exact_snapping_point, exact_is_on_lines, exact_is_on_lines_settling, on_both_lines}

-- ---- ends

end_a : (s : Pair) → is_end s s.a ≡ true
end_a s = or_left (point_eq s.a s.a) (point_eq s.a s.b) (point_eq_same s.a)

end_b : (s : Pair) → is_end s s.b ≡ true
end_b s = or_right (point_eq s.b s.a) (point_eq s.b s.b) (point_eq_same s.b)

pub nearer_end_is_end : (p : Point) (s : Pair) → is_end s (nearer_end p s) ≡ true
unfolding nearer_end
nearer_end_is_end p s = cond_both (nat_lt (sqr_distance s.a p) (sqr_distance s.b p)) s.a s.b (λ (q : Point). is_end s q ≡ true) (λ e. end_a s) (λ e. end_b s)

end_turn : (s t : Pair) (e : Point) → do_cross s t ≡ true → is_end s e ≡ true → turn t.a t.b e ≢ pos 0
end_turn s t e h k z =
    let clear = crossing_is_clear s t h in
    elim (end_cases s e k) [ inl i ↦ clear.sa (ap (turn t.a t.b) (sym i) ∙ z) | inr i ↦ clear.sb (ap (turn t.a t.b) (sym i) ∙ z) ]

-- an end does not lie on the other's line; so a snapped result takes no such end
pub end_off_line : (s t : Pair) (e : Point) → do_cross s t ≡ true → is_end s e ≡ true → turn t.a e t.b ≢ pos 0
end_off_line s t e h k z = end_turn s t e h k (turn_swaps_last t.a t.b e ∙ ap neg_ℤ z)

pub snapped_target_end_off : (target other : Pair) (p : Point) → do_cross target other ≡ true → turn other.a (nearer_end p target) other.b ≢ pos 0
snapped_target_end_off s t p h = end_off_line s t (nearer_end p s) h (nearer_end_is_end p s)

pub snapped_other_end_off : (target other : Pair) (p : Point) → do_cross target other ≡ true → turn target.a (nearer_end p other) target.b ≢ pos 0
snapped_other_end_off s t p h = end_off_line t s (nearer_end p t) (do_cross_back t s ∙ h) (nearer_end_is_end p t)

-- ---- distances

no_distance : (p : Point) → sqr_distance p p ≡ 0
unfolding sqr_distance
no_distance p = grind (arith, ints)

-- the nearer end is no farther than either end
nearer_distance : (p : Point) (s : Pair) → (sqr_distance (nearer_end p s) p ≤ sqr_distance s.a p) × (sqr_distance (nearer_end p s) p ≤ sqr_distance s.b p)
unfolding nearer_end
nearer_distance p s =
    by_bool (nat_lt (sqr_distance s.a p) (sqr_distance s.b p))
    (λ less. rw less (omega arith, omega (arith, ltb-true (sqr_distance s.a p) (sqr_distance s.b p) less)))
    (λ more. rw more (omega (arith, ltb-false (sqr_distance s.a p) (sqr_distance s.b p) more), omega arith))

-- a point that is an end has that end at no distance
far_is_no_end : (r2 : ℕ) (s : Pair) (p : Point) → r2 < sqr_distance (nearer_end p s) p → is_end s p ≡ false
far_is_no_end r2 s p far =
    let near = nearer_distance p s in
    false_from_ne_true _ (λ k. elim (end_cases s p k) [
      | inl i ↦ let z = ap (λ (q : Point). sqr_distance q p) (sym i) ∙ no_distance p in omega (arith, near.0)
      | inr i ↦ let z = ap (λ (q : Point). sqr_distance q p) (sym i) ∙ no_distance p in omega (arith, near.1)
    ])

-- ---- the result

answer_with : (r2 : ℕ) (s t : Pair) (m : Point) (exact : Bool) (kind : CrossKind) → crossing_mark (snapping r2) s t ≡ m → is_exact s t ≡ exact → kind_of_point s t m ≡ kind → crossing_answer (snapping r2) s t ≡ answer_at kind m (not exact)
unfolding crossing_answer
answer_with r2 s t m exact kind e f g = rw (e, f, g) refl

kind_of_target_end : (s t : Pair) (m : Point) → is_end s m ≡ true → kind_of_point s t m ≡ target_end
unfolding kind_of_point
kind_of_target_end s t m h = rw h refl

kind_of_other_end : (s t : Pair) (m : Point) → is_end s m ≡ false → is_end t m ≡ true → kind_of_point s t m ≡ other_end
unfolding kind_of_point
kind_of_other_end s t m h k = rw (h, k) refl

kind_of_no_end : (s t : Pair) (m : Point) → is_end s m ≡ false → is_end t m ≡ false → kind_of_point s t m ≡ pure
unfolding kind_of_point
kind_of_no_end s t m h k = rw (h, k) refl

exact_answer : (r2 : ℕ) (s t : Pair) → do_cross s t ≡ true → is_exact s t ≡ true → crossing_answer (snapping r2) s t ≡ answer_at pure (snapping_point s t) false
unfolding crossing_mark
exact_answer r2 s t h k =
    let p = snapping_point s t in
    let l = on_both_lines s t p h (exact_snapping_point s t h k) in
    answer_with r2 s t p true pure (rw k refl) k
    (kind_of_no_end s t p
    (false_from_ne_true _ (λ e. end_turn s t p h e l.1))
    (false_from_ne_true _ (λ e. end_turn t s p (do_cross_back t s ∙ h) e l.0)))

mark_when_inexact : (r2 : ℕ) (s t : Pair) → is_exact s t ≡ false → crossing_mark (snapping r2) s t ≡ snapped_to (nearest_end (snapping_point s t) s t) r2 (snapping_point s t)
unfolding crossing_mark
mark_when_inexact r2 s t n = rw n refl

nearest_is_target : (s t : Pair) (p : Point) → sqr_distance (nearer_end p s) p ≤ sqr_distance (nearer_end p t) p → nearest_end p s t ≡ nearer_end p s
unfolding nearest_end
nearest_is_target s t p h = rw (le-leb _ _ h) refl

nearest_is_other : (s t : Pair) (p : Point) → sqr_distance (nearer_end p t) p < sqr_distance (nearer_end p s) p → nearest_end p s t ≡ nearer_end p t
unfolding nearest_end
nearest_is_other s t p h = rw (lt-leb _ _ h) refl

snapped_near : (e : Point) (r2 : ℕ) (p : Point) → nat_le (sqr_distance e p) r2 ≡ true → snapped_to e r2 p ≡ e
unfolding snapped_to
snapped_near e r2 p h = rw h refl

snapped_far : (e : Point) (r2 : ℕ) (p : Point) → nat_le (sqr_distance e p) r2 ≡ false → snapped_to e r2 p ≡ p
unfolding snapped_to
snapped_far e r2 p h = rw h refl

-- the result in each branch of code that has the snapping point p and tests whether it lies on both lines, and how far the nearer ends are
pub answer_when_on_lines : (r2 : ℕ) (s t : Pair) (p : Point) → do_cross s t ≡ true → p ≡ snapping_point s t → is_on_lines s t p ≡ true → crossing_answer (snapping r2) s t ≡ answer_at pure p false
answer_when_on_lines r2 s t p h e on =
    exact_answer r2 s t h (exact_is_on_lines s t h ∙ ap (is_on_lines s t) (sym e) ∙ on) ∙ ap (λ (q : Point). answer_at pure q false) (sym e)

off_lines_is_inexact : (s t : Pair) (p : Point) → do_cross s t ≡ true → p ≡ snapping_point s t → is_on_lines s t p ≡ false → is_exact s t ≡ false
off_lines_is_inexact s t p h e off = exact_is_on_lines s t h ∙ ap (is_on_lines s t) (sym e) ∙ off

mark_of : (r2 : ℕ) (s t : Pair) (p : Point) → p ≡ snapping_point s t → is_exact s t ≡ false → crossing_mark (snapping r2) s t ≡ snapped_to (nearest_end p s t) r2 p
mark_of r2 s t p e n = mark_when_inexact r2 s t n ∙ ap (λ (q : Point). snapped_to (nearest_end q s t) r2 q) (sym e)

pub answer_at_target : (r2 : ℕ) (s t : Pair) (p : Point) → do_cross s t ≡ true → p ≡ snapping_point s t → is_on_lines s t p ≡ false → sqr_distance (nearer_end p s) p ≤ sqr_distance (nearer_end p t) p → sqr_distance (nearer_end p s) p ≤ r2 → crossing_answer (snapping r2) s t ≡ answer_at target_end (nearer_end p s) true
answer_at_target r2 s t p h e off first near =
    let n = off_lines_is_inexact s t p h e off in
    let mark = mark_of r2 s t p e n ∙ ap (λ (q : Point). snapped_to q r2 p) (nearest_is_target s t p first) ∙ snapped_near (nearer_end p s) r2 p (le-leb _ _ near) in
    answer_with r2 s t (nearer_end p s) false target_end mark n (kind_of_target_end s t (nearer_end p s) (nearer_end_is_end p s))

pub answer_at_other : (r2 : ℕ) (s t : Pair) (p : Point) → do_cross s t ≡ true → p ≡ snapping_point s t → is_on_lines s t p ≡ false → sqr_distance (nearer_end p t) p < sqr_distance (nearer_end p s) p → sqr_distance (nearer_end p t) p ≤ r2 → crossing_answer (snapping r2) s t ≡ answer_at other_end (nearer_end p t) true
answer_at_other r2 s t p h e off second near =
    let n = off_lines_is_inexact s t p h e off in
    let mark = mark_of r2 s t p e n ∙ ap (λ (q : Point). snapped_to q r2 p) (nearest_is_other s t p second) ∙ snapped_near (nearer_end p t) r2 p (le-leb _ _ near) in
    let back = do_cross_back t s ∙ h in
    answer_with r2 s t (nearer_end p t) false other_end mark n (kind_of_other_end s t (nearer_end p t) (crossing_ends_differ t s (nearer_end p t) back (nearer_end_is_end p t)) (nearer_end_is_end p t))

pub answer_when_far : (r2 : ℕ) (s t : Pair) (p : Point) → do_cross s t ≡ true → p ≡ snapping_point s t → is_on_lines s t p ≡ false → r2 < sqr_distance (nearer_end p s) p → r2 < sqr_distance (nearer_end p t) p → crossing_answer (snapping r2) s t ≡ answer_at pure p true
answer_when_far r2 s t p h e off own across =
    let n = off_lines_is_inexact s t p h e off in
    let mark : crossing_mark (snapping r2) s t ≡ p = mark_of r2 s t p e n ∙ by_bool (nat_le (sqr_distance (nearer_end p s) p) (sqr_distance (nearer_end p t) p))
    (λ first. ap (λ (q : Point). snapped_to q r2 p) (nearest_is_target s t p (leb-true _ _ first)) ∙ snapped_far (nearer_end p s) r2 p (lt-leb _ _ own))
    (λ second. ap (λ (q : Point). snapped_to q r2 p) (nearest_is_other s t p (leb-false _ _ second)) ∙ snapped_far (nearer_end p t) r2 p (lt-leb _ _ across)) in
    answer_with r2 s t p false pure mark n (kind_of_no_end s t p (far_is_no_end r2 s p own) (far_is_no_end r2 t p across))

-- ---- the tests on distances, as code makes them

pub both_far : (r c d : ℤ) (m n : ℕ) → pos 0 ≤ℤ r → c ≡ pos m → d ≡ pos n → int_lt r (int_min c d) ≡ true → (unsigned_abs r < m) × (unsigned_abs r < n)
both_far r c d m n z e f h = (grind (arith, ints), grind (arith, ints))

pub first_near : (r c d : ℤ) (m n : ℕ) → pos 0 ≤ℤ r → c ≡ pos m → d ≡ pos n → int_lt r (int_min c d) ≡ false → int_le c d ≡ true → (m ≤ n) × (m ≤ unsigned_abs r)
first_near r c d m n z e f h k = (grind (arith, ints), grind (arith, ints))

pub second_near : (r c d : ℤ) (m n : ℕ) → pos 0 ≤ℤ r → c ≡ pos m → d ≡ pos n → int_lt r (int_min c d) ≡ false → int_le c d ≡ false → (n < m) × (n ≤ unsigned_abs r)
second_near r c d m n z e f h k = (grind (arith, ints), grind (arith, ints))

-- the result of code that has the settling point p, what p is an end of, and whether it lies on both lines
pub answer_when_settled : (s t : Pair) (p : Point) (kind : CrossKind) (on : Bool) → do_cross s t ≡ true → p ≡ settling_point s t → kind ≡ kind_of_point s t p → on ≡ is_on_lines s t p → crossing_answer settling s t ≡ answer_at kind p (not on)
unfolding crossing_answer crossing_mark
answer_when_settled s t p kind on h e k o =
    let exact : is_exact s t ≡ on = exact_is_on_lines_settling s t h ∙ ap (is_on_lines s t) (sym e) ∙ sym o in
    rw (k, e, exact) refl
