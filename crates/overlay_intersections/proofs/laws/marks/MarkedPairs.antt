-- The marks that two segments put on one another, from the result for the first as target.
use Rattle.std.proofs.Common.{◌≡◌, refl, sym, ap, ap₂, subst, ◌∙◌, append_assoc, if◌then◌else◌, ◌⊎◌, inl, inr, ℕ, Bool, true, false, List, [], ◌∷◌, ◌++◌, Ordering, Less, Equal, Greater, is_lt}
use Rattle.std.specs.Prelude.{filter, Option, Some, None}
use Rattle.std.specs.Ordering.{ordering_reverse}
use Rattle.std.proofs.lemmas.Bool.{both_ways}
use Rattle.overlay_geometry.specs.Points.{Point, Pair, pair_cmp, pair_lt, is_end, is_strictly_inside}
use Rattle.overlay_geometry.specs.Meeting.{are_collinear, do_cross}
use Rattle.overlay_geometry.proofs.laws.geometry.Points.{turn_same_outer, turn_same_last, pair_cmp_total, pair_same}
use Rattle.overlay_intersections.specs.Marks.{Placing, crossing_mark, marks_by, cross_inexactly}
use Rattle.overlay_intersections.specs.CrossAnswer.{CrossAnswer, pure, target_end, other_end, overlay, answer_at, cross_answer, crossing_answer, touch_answer, kind_of_point, target_marks, other_marks}
use Rattle.overlay_intersections.specs.MarkOf.{Mark}
use Rattle.overlay_intersections.specs.MarksBetween.{marks_at, marks_of_overlap, marks_between}
use Rattle.overlay_intersections.specs.steps.AddedMarks.{marks_of_answer}
use Rattle.overlay_intersections.proofs.laws.crossings.AnswerMarks.{by_bool, answers_are_marks, overlay_marks, collinear_from, collinear_do_not_cross}

-- ---- whether the result is rounded

abbrev pub answer_is_rounded : Option CrossAnswer → Bool
answer_is_rounded None = false
answer_is_rounded (Some answer) = answer.is_rounded

touch_is_exact : (s t : Pair) → answer_is_rounded (touch_answer s t) ≡ false
unfolding touch_answer
touch_is_exact s t =
    by_bool (is_strictly_inside s t.a) (λ e. rw e refl) (λ n1.
    by_bool (is_strictly_inside s t.b) (λ e. rw (n1, e) refl) (λ n2.
    by_bool (is_strictly_inside t s.a) (λ e. rw (n1, n2, e) refl) (λ n3.
    by_bool (is_strictly_inside t s.b) (λ e. rw (n1, n2, n3, e) refl) (λ n4. rw (n1, n2, n3, n4) refl))))

pub answer_is_rounded-is : (placing : Placing) (s t : Pair) → answer_is_rounded (cross_answer placing s t) ≡ cross_inexactly s t
unfolding cross_answer crossing_answer cross_inexactly
answer_is_rounded-is placing s t =
    by_bool (are_collinear s t)
    (λ h. let n = collinear_do_not_cross s t h in rw (h, n) refl)
    (λ off. by_bool (do_cross s t) (λ h. rw (off, h) refl) (λ n. rw (off, n) (touch_is_exact s t)))

-- ---- the marks

pub collinear_itself : (s : Pair) → are_collinear s s ≡ true
collinear_itself s = collinear_from s s (turn_same_outer s.a s.b) (turn_same_last s.a s.b)

same_or_less : (s t : Pair) → pair_lt t s ≡ false → (s ≡ t) ⊎ (pair_lt s t ≡ true)
same_or_less s t h = by (pair_cmp s t) refl
  where
    by : (r : Ordering) → pair_cmp s t ≡ r → (s ≡ t) ⊎ (pair_lt s t ≡ true)
    by Less e = inr (ap is_lt e)
    by Equal e = inl (pair_same s t e)
    by Greater e = absurd (both_ways (pair_lt t s) h (ap is_lt (pair_cmp_total.antisymm t s ∙ ap ordering_reverse e)))

abbrev AreAnswered : Placing → Pair → Pair → Type 0
AreAnswered placing s t = (target_marks s t (cross_answer placing s t) ≡ marks_by placing s t) × (other_marks s t (cross_answer placing s t) ≡ marks_by placing t s)

answered : (placing : Placing) (s t : Pair) → pair_lt t s ≡ false → AreAnswered placing s t
answered placing s t h = elim (same_or_less s t h) [
  | inl e ↦ overlay_marks placing s t (subst (λ (u : Pair). are_collinear s u ≡ true) e (collinear_itself s))
  | inr less ↦ answers_are_marks placing s t less
]

pub between_answer : (placing : Placing) (i : ℕ) (s : Pair) (j : ℕ) (t : Pair) (answer : Option CrossAnswer) → pair_lt t s ≡ false → answer ≡ cross_answer placing s t →
    marks_between placing i s j t ≡ marks_of_answer i s j t answer
unfolding marks_between
between_answer placing i s j t answer h e =
    let a = answered placing s t h in
    ap₂ (λ (ps qs : List Point). marks_at i ps ++ marks_at j qs) (sym a.0 ∙ ap (target_marks s t) (sym e)) (sym a.1 ∙ ap (other_marks s t) (sym e))

pub between_none : (placing : Placing) (i : ℕ) (s : Pair) (j : ℕ) (t : Pair) → pair_lt t s ≡ false → None ≡ cross_answer placing s t → marks_between placing i s j t ≡ []
unfolding target_marks other_marks
between_none placing i s j t h e = between_answer placing i s j t None h e

-- what each kind of result stands for
pub marks_of_pure : (i : ℕ) (s : Pair) (j : ℕ) (t : Pair) (p : Point) (b : Bool) → marks_of_answer i s j t (answer_at pure p b) ≡ marks_at i (p ∷ []) ++ marks_at j (p ∷ [])
unfolding target_marks other_marks
marks_of_pure i s j t p b = refl

pub marks_of_target_end : (i : ℕ) (s : Pair) (j : ℕ) (t : Pair) (p : Point) (b : Bool) → marks_of_answer i s j t (answer_at target_end p b) ≡ marks_at j (p ∷ [])
unfolding target_marks other_marks
marks_of_target_end i s j t p b = refl

pub marks_of_other_end : (i : ℕ) (s : Pair) (j : ℕ) (t : Pair) (p : Point) (b : Bool) → marks_of_answer i s j t (answer_at other_end p b) ≡ marks_at i (p ∷ [])
unfolding target_marks other_marks
marks_of_other_end i s j t p b = refl

pub marks_of_overlay : (i : ℕ) (s : Pair) (j : ℕ) (t : Pair) (p : Point) (b : Bool) → marks_of_answer i s j t (answer_at overlay p b) ≡ marks_of_overlap i s j t
unfolding target_marks other_marks marks_of_overlap
marks_of_overlay i s j t p b = refl

-- only two on one line overlap
abbrev overlaps : Option CrossAnswer → Bool
overlaps None = false
overlaps (Some answer) = elim answer.kind [ pure ↦ false | target_end ↦ false | other_end ↦ false | overlay ↦ true ]

touch_is_no_overlap : (s t : Pair) → overlaps (touch_answer s t) ≡ false
unfolding touch_answer
touch_is_no_overlap s t =
    by_bool (is_strictly_inside s t.a) (λ e. rw e refl) (λ n1.
    by_bool (is_strictly_inside s t.b) (λ e. rw (n1, e) refl) (λ n2.
    by_bool (is_strictly_inside t s.a) (λ e. rw (n1, n2, e) refl) (λ n3.
    by_bool (is_strictly_inside t s.b) (λ e. rw (n1, n2, n3, e) refl) (λ n4. rw (n1, n2, n3, n4) refl))))

crossing_is_no_overlap : (placing : Placing) (s t : Pair) → overlaps (crossing_answer placing s t) ≡ false
unfolding crossing_answer kind_of_point
crossing_is_no_overlap placing s t =
    let p = crossing_mark placing s t in
    by_bool (is_end s p) (λ e. rw e refl) (λ n. by_bool (is_end t p) (λ e. rw (n, e) refl) (λ m. rw (n, m) refl))

no_overlap : (placing : Placing) (s t : Pair) → are_collinear s t ≡ false → overlaps (cross_answer placing s t) ≡ false
unfolding cross_answer
no_overlap placing s t off = by_bool (do_cross s t) (λ h. rw (off, h) (crossing_is_no_overlap placing s t)) (λ n. rw (off, n) (touch_is_no_overlap s t))

pub overlay_is_collinear : (placing : Placing) (s t : Pair) (p : Point) (b : Bool) → Some (record { kind = overlay; point = p; is_rounded = b }) ≡ cross_answer placing s t → are_collinear s t ≡ true
overlay_is_collinear placing s t p b e = by_bool (are_collinear s t) (λ h. h) (λ off. absurd (both_ways (overlaps (cross_answer placing s t)) (no_overlap placing s t off) (sym (ap overlaps e))))

-- ---- the marks of an overlap, one by one

abbrev pub mark_if : Bool → ℕ → Point → List Mark
mark_if b i p = if b then marks_at i (p ∷ []) else []

two_kept : (f : Point → Bool) (i : ℕ) (p q : Point) → marks_at i (filter f (p ∷ q ∷ [])) ≡ mark_if (f p) i p ++ mark_if (f q) i q
two_kept f i p q =
    by_bool (f p)
    (λ e. by_bool (f q) (λ k. rw (e, k) refl) (λ k. rw (e, k) refl))
    (λ e. by_bool (f q) (λ k. rw (e, k) refl) (λ k. rw (e, k) refl))

pub two_appended : (old first second a b : List Mark) → first ≡ old ++ a → second ≡ first ++ b → second ≡ old ++ (a ++ b)
two_appended old first second a b e k = k ∙ ap (λ (ms : List Mark). ms ++ b) e ∙ append_assoc old a b

-- of two on one line, the ends that lie strictly inside the other
pub record AreInside (s t : Pair) (b1 b2 b3 b4 : Bool) : Type 0 where
  pub other_a : b1 ≡ is_strictly_inside s t.a
  pub other_b : b2 ≡ is_strictly_inside s t.b
  pub target_a : b3 ≡ is_strictly_inside t s.a
  pub target_b : b4 ≡ is_strictly_inside t s.b

pub overlap_appended : (i : ℕ) (s : Pair) (j : ℕ) (t : Pair) (b1 b2 b3 b4 : Bool) (old m1 m2 m3 m4 : List Mark) → AreInside s t b1 b2 b3 b4 →
    m1 ≡ old ++ mark_if b1 i t.a → m2 ≡ m1 ++ mark_if b2 i t.b → m3 ≡ m2 ++ mark_if b3 j s.a → m4 ≡ m3 ++ mark_if b4 j s.b → m4 ≡ old ++ marks_of_overlap i s j t
unfolding marks_of_overlap
overlap_appended i s j t b1 b2 b3 b4 old m1 m2 m3 m4 are e1 e2 e3 e4 =
    let on_first = two_appended old m1 m2 (mark_if b1 i t.a) (mark_if b2 i t.b) e1 e2 in
    let on_second = two_appended m2 m3 m4 (mark_if b3 j s.a) (mark_if b4 j s.b) e3 e4 in
    let first : mark_if b1 i t.a ++ mark_if b2 i t.b ≡ marks_at i (filter (λ p. is_strictly_inside s p) (t.a ∷ t.b ∷ [])) =
    ap₂ (λ (b c : Bool). mark_if b i t.a ++ mark_if c i t.b) are.other_a are.other_b ∙ sym (two_kept (λ p. is_strictly_inside s p) i t.a t.b) in
    let second : mark_if b3 j s.a ++ mark_if b4 j s.b ≡ marks_at j (filter (λ p. is_strictly_inside t p) (s.a ∷ s.b ∷ [])) =
    ap₂ (λ (b c : Bool). mark_if b j s.a ++ mark_if c j s.b) are.target_a are.target_b ∙ sym (two_kept (λ p. is_strictly_inside t p) j s.a s.b) in
    two_appended old m2 m4 _ _ (on_first ∙ ap (λ (ms : List Mark). old ++ ms) first) (on_second ∙ ap (λ (ms : List Mark). m2 ++ ms) second)
