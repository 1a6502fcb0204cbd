-- The result for two pairs, the smaller as target, stands for the marks that the two put on one another.
use Rattle.std.proofs.Common.{◌≡◌, refl, sym, ap, ◌∙◌, ◌⊎◌, ◌≢◌, inl, inr, arith, Bool, true, false, IsTrue, [], ◌∷◌}
use Rattle.std.specs.Prelude.{ℤ, pos, neg_ℤ, filter}
use Rattle.std.specs.Ordering.{int_eq, is_lt, ordering_reverse}
use Rattle.std.specs.declared.cmp.Ordering.{Ordering}
use Rattle.std.specs.declared.cmp.Ordering.TheVariants.{Less, Equal, Greater}
use Rattle.std.proofs.lemmas.Int.{ints}
use Rattle.std.proofs.lemmas.Bool.{and_parts, or_cases, and_from, false_from_ne_true, both_ways}
use Rattle.std.proofs.lemmas.Bool.Decides.{Decides-int_eq}
use Rattle.overlay_geometry.specs.Points.{Point, Pair, pair_lt, pair_cmp, point_eq, turn, is_between, is_end, is_strictly_inside}
use Rattle.overlay_geometry.specs.Meeting.{are_collinear, have_opposite_signs, separates, do_cross}
use Rattle.overlay_base.proofs.laws.geometry.Apart.{do_cross_back}
use Rattle.overlay_intersections.specs.Marks.{Placing, crossing_mark, ordered_mark, marks_by}
use Rattle.overlay_intersections.specs.CrossAnswer.{cross_answer, crossing_answer, touch_answer, kind_of_point, target_marks, other_marks}
use Rattle.overlay_intersections.specs.Laws.{AnswersAreMarks}
use Rattle.overlay_geometry.proofs.laws.geometry.Points.{pair_cmp_total, same_point, same_by_eq, turn_rotates, turn_swaps_first, turn_same_outer, turn_same_last}
use Rattle.overlay_intersections.proofs.laws.crossings.Lines.{on_line, inside_parts}

pub by_bool : {P : Type 0} (b : Bool) → (b ≡ true → P) → (b ≡ false → P) → P
by_bool true f g = f refl
by_bool false f g = g refl

-- ---- turns that are 0

pub zero_rotated : (p q r : Point) → turn p q r ≡ pos 0 → turn q r p ≡ pos 0
zero_rotated p q r h = sym (turn_rotates p q r) ∙ h

pub zero_swapped : (p q r : Point) → turn p q r ≡ pos 0 → turn q p r ≡ pos 0
zero_swapped p q r h = turn_swaps_first q p r ∙ ap neg_ℤ h

-- two points on the line of two that differ have these two on their line
pub line_back : (a b c d : Point) → c ≢ d → turn c d a ≡ pos 0 → turn c d b ≡ pos 0 → (turn a b c ≡ pos 0) × (turn a b d ≡ pos 0)
line_back a b c d apart ha hb = (
  zero_rotated _ _ _ (on_line c a c d b apart (turn_same_outer c a) (zero_swapped _ _ _ (zero_rotated _ _ _ (zero_rotated _ _ _ ha))) hb),
  zero_rotated _ _ _ (on_line d a c d b apart (zero_rotated _ _ _ ha) (turn_same_outer d a) hb),
)

pub collinear_parts : (s t : Pair) → are_collinear s t ≡ true → (turn s.a s.b t.a ≡ pos 0) × (turn s.a s.b t.b ≡ pos 0)
unfolding are_collinear
collinear_parts s t h =
    let parts = and_parts (int_eq (turn s.a s.b t.a) (pos 0)) (int_eq (turn s.a s.b t.b) (pos 0)) h in
    ((Decides-int_eq (turn s.a s.b t.a) (pos 0)).0 parts.0, (Decides-int_eq (turn s.a s.b t.b) (pos 0)).0 parts.1)

pub collinear_from : (s t : Pair) → turn s.a s.b t.a ≡ pos 0 → turn s.a s.b t.b ≡ pos 0 → are_collinear s t ≡ true
unfolding are_collinear
collinear_from s t h k = and_from _ _ ((Decides-int_eq (turn s.a s.b t.a) (pos 0)).1 h) ((Decides-int_eq (turn s.a s.b t.b) (pos 0)).1 k)

-- ---- crossings

opposite_parts : (u v : ℤ) → have_opposite_signs u v ≡ true → (u ≢ pos 0) × (v ≢ pos 0)
opposite_parts u v h = grind (arith, ints)

-- of two that cross no end lies on the other's line
pub record Clear (s t : Pair) : Type 0 where
  pub ta : turn s.a s.b t.a ≢ pos 0
  pub tb : turn s.a s.b t.b ≢ pos 0
  pub sa : turn t.a t.b s.a ≢ pos 0
  pub sb : turn t.a t.b s.b ≢ pos 0

pub crossing_is_clear : (s t : Pair) → do_cross s t ≡ true → Clear s t
unfolding do_cross separates
crossing_is_clear s t h =
    let parts = and_parts (separates s t) (separates t s) h in
    let p = opposite_parts (turn s.a s.b t.a) (turn s.a s.b t.b) parts.0 in
    let q = opposite_parts (turn t.a t.b s.a) (turn t.a t.b s.b) parts.1 in
    record { ta = p.0; tb = p.1; sa = q.0; sb = q.1 }

pub collinear_do_not_cross : (s t : Pair) → are_collinear s t ≡ true → do_cross s t ≡ false
collinear_do_not_cross s t h = false_from_ne_true _ (λ e. (crossing_is_clear s t e).ta (collinear_parts s t h).0)

pub end_cases : (s : Pair) (p : Point) → is_end s p ≡ true → (p ≡ s.a) ⊎ (p ≡ s.b)
end_cases s p h = elim (or_cases (point_eq p s.a) (point_eq p s.b) h) [ inl e ↦ inl (same_by_eq p s.a e) | inr e ↦ inr (same_by_eq p s.b e) ]

pub end_on_line : (s : Pair) (p : Point) → is_end s p ≡ true → turn s.a s.b p ≡ pos 0
end_on_line s p h = elim (end_cases s p h) [ inl e ↦ rw e (turn_same_outer s.a s.b) | inr e ↦ rw e (turn_same_last s.a s.b) ]

-- no point is an end of both
pub crossing_ends_differ : (s t : Pair) (p : Point) → do_cross s t ≡ true → is_end s p ≡ true → is_end t p ≡ false
crossing_ends_differ s t p h e =
    let clear = crossing_is_clear s t h in
    let z : turn s.a s.b p ≡ pos 0 = end_on_line s p e in
    false_from_ne_true _ (λ k. elim (end_cases t p k) [ inl i ↦ clear.ta (ap (turn s.a s.b) (sym i) ∙ z) | inr i ↦ clear.tb (ap (turn s.a s.b) (sym i) ∙ z) ])

is_lt_back : (o r : Ordering) → o ≡ ordering_reverse r → is_lt o ≡ true → is_lt r ≡ false
is_lt_back o Less e h = absurd (both_ways (is_lt o) (ap is_lt e) h)
is_lt_back o Equal e h = refl
is_lt_back o Greater e h = refl

pub pair_lt_back : (s t : Pair) → pair_lt s t ≡ true → pair_lt t s ≡ false
pair_lt_back s t h = is_lt_back (pair_cmp s t) (pair_cmp t s) (pair_cmp_total.antisymm s t) h

crossing_target : (placing : Placing) (s t : Pair) → do_cross s t ≡ true → pair_lt s t ≡ true → target_marks s t (crossing_answer placing s t) ≡ marks_by placing s t
unfolding target_marks crossing_answer kind_of_point marks_by ordered_mark
crossing_target placing s t h less =
    let p = crossing_mark placing s t in
    by_bool (is_end s p)
    (λ e. rw (h, less, e) refl)
    (λ e. by_bool (is_end t p) (λ k. rw (h, less, e, k) refl) (λ k. rw (h, less, e, k) refl))

crossing_other : (placing : Placing) (s t : Pair) → do_cross s t ≡ true → pair_lt s t ≡ true → other_marks s t (crossing_answer placing s t) ≡ marks_by placing t s
unfolding other_marks crossing_answer kind_of_point marks_by ordered_mark
crossing_other placing s t h less =
    let p = crossing_mark placing s t in
    let back : do_cross t s ≡ true = do_cross_back t s ∙ h in
    let more : pair_lt t s ≡ false = pair_lt_back s t less in
    by_bool (is_end s p)
    (λ e. let k : is_end t p ≡ false = crossing_ends_differ s t p h e in rw (back, more, e, k) refl)
    (λ e. by_bool (is_end t p) (λ k. rw (back, more, e, k) refl) (λ k. rw (back, more, e, k) refl))

-- ---- touches: of two that are not on one line at most one end lies strictly inside the other

between_same : (u v z : ℤ) → u ≡ v → IsTrue (is_between u v z) → z ≡ u
between_same u v z e h = grind (arith, ints)

pub ends_apart : (s : Pair) (p : Point) → is_strictly_inside s p ≡ true → s.a ≢ s.b
ends_apart s p h e =
    let parts = inside_parts s p h in
    parts.3 (same_point p s.a (between_same s.a.x s.b.x p.x (ap (λ (q : Point). q.x) e) parts.1) (between_same s.a.y s.b.y p.y (ap (λ (q : Point). q.y) e) parts.2))

-- a point on s, not an end of it, and a point on t, an end of s: the rest of t lies on the line of s
pub on_line_by_end : (s : Pair) (e f g : Point) → e ≢ f → turn s.a s.b e ≡ pos 0 → turn s.a s.b f ≡ pos 0 → turn f g e ≡ pos 0 → turn s.a s.b g ≡ pos 0
on_line_by_end s e f g apart he hf h = on_line s.a s.b e f g apart he hf (zero_rotated _ _ _ (zero_rotated _ _ _ h))

-- of the four tests no two hold
record OneInside (s t : Pair) : Type 0 where
  a_b : is_strictly_inside s t.a ≡ true → is_strictly_inside s t.b ≡ false
  a_sa : is_strictly_inside s t.a ≡ true → is_strictly_inside t s.a ≡ false
  a_sb : is_strictly_inside s t.a ≡ true → is_strictly_inside t s.b ≡ false
  b_sa : is_strictly_inside s t.b ≡ true → is_strictly_inside t s.a ≡ false
  b_sb : is_strictly_inside s t.b ≡ true → is_strictly_inside t s.b ≡ false
  sa_sb : is_strictly_inside t s.a ≡ true → is_strictly_inside t s.b ≡ false

one_inside : (s t : Pair) → are_collinear s t ≡ false → OneInside s t
one_inside s t off =
    let deny : turn s.a s.b t.a ≡ pos 0 → turn s.a s.b t.b ≡ pos 0 → ⊥ = λ h k. both_ways _ off (collinear_from s t h k) in
    record {
      a_b = λ h. false_from_ne_true _ (λ k. deny (inside_parts s t.a h).0 (inside_parts s t.b k).0);
      a_sa = λ h. false_from_ne_true _ (λ k. let p = inside_parts s t.a h in deny p.0 (on_line_by_end s s.a t.a t.b (λ e. p.3 (sym e)) (turn_same_outer s.a s.b) p.0 (inside_parts t s.a k).0));
      a_sb = λ h. false_from_ne_true _ (λ k. let p = inside_parts s t.a h in deny p.0 (on_line_by_end s s.b t.a t.b (λ e. p.4 (sym e)) (turn_same_last s.a s.b) p.0 (inside_parts t s.b k).0));
      b_sa = λ h. false_from_ne_true _ (λ k. let p = inside_parts s t.b h in deny (on_line_by_end s s.a t.b t.a (λ e. p.3 (sym e)) (turn_same_outer s.a s.b) p.0 (zero_swapped _ _ _ (inside_parts t s.a k).0)) p.0);
      b_sb = λ h. false_from_ne_true _ (λ k. let p = inside_parts s t.b h in deny (on_line_by_end s s.b t.b t.a (λ e. p.4 (sym e)) (turn_same_last s.a s.b) p.0 (zero_swapped _ _ _ (inside_parts t s.b k).0)) p.0);
      sa_sb = λ h. false_from_ne_true _ (λ k. let l = line_back s.a s.b t.a t.b (ends_apart t s.a h) (inside_parts t s.a h).0 (inside_parts t s.b k).0 in deny l.0 l.1);
    }

touch_marks : (s t : Pair) → are_collinear s t ≡ false → (target_marks s t (touch_answer s t) ≡ filter (λ p. is_strictly_inside s p) (t.a ∷ t.b ∷ [])) × (other_marks s t (touch_answer s t) ≡ filter (λ p. is_strictly_inside t p) (s.a ∷ s.b ∷ []))
unfolding target_marks other_marks touch_answer
touch_marks s t off =
    let one = one_inside s t off in
    by_bool (is_strictly_inside s t.a)
    (λ e1. (rw (e1, one.a_b e1) refl, rw (e1, one.a_sa e1, one.a_sb e1) refl))
    (λ n1. by_bool (is_strictly_inside s t.b)
    (λ e2. (rw (n1, e2) refl, rw (n1, e2, one.b_sa e2, one.b_sb e2) refl))
    (λ n2. by_bool (is_strictly_inside t s.a)
    (λ e3. (rw (n1, n2, e3) refl, rw (n1, n2, e3, one.sa_sb e3) refl))
    (λ n3. by_bool (is_strictly_inside t s.b)
    (λ e4. (rw (n1, n2, n3, e4) refl, rw (n1, n2, n3, e4) refl))
    (λ n4. (rw (n1, n2, n3, n4) refl, rw (n1, n2, n3, n4) refl)))))

-- ---- the law

pub overlay_marks : (placing : Placing) (s t : Pair) → are_collinear s t ≡ true → (target_marks s t (cross_answer placing s t) ≡ marks_by placing s t) × (other_marks s t (cross_answer placing s t) ≡ marks_by placing t s)
unfolding target_marks other_marks cross_answer marks_by
overlay_marks placing s t h =
    let n : do_cross s t ≡ false = collinear_do_not_cross s t h in
    let m : do_cross t s ≡ false = do_cross_back t s ∙ n in
    (rw (h, n) refl, rw (h, m) refl)

apart_marks : (placing : Placing) (s t : Pair) → are_collinear s t ≡ false → do_cross s t ≡ false → (target_marks s t (cross_answer placing s t) ≡ marks_by placing s t) × (other_marks s t (cross_answer placing s t) ≡ marks_by placing t s)
unfolding cross_answer marks_by
apart_marks placing s t off n =
    let m : do_cross t s ≡ false = do_cross_back t s ∙ n in
    let touch = touch_marks s t off in
    (rw (off, n) touch.0, rw (off, n, m) touch.1)

pub answer_of_crossing : (placing : Placing) (s t : Pair) → IsTrue (do_cross s t) → cross_answer placing s t ≡ crossing_answer placing s t
unfolding cross_answer
answer_of_crossing placing s t h =
    let off : are_collinear s t ≡ false = false_from_ne_true _ (λ e. both_ways _ (collinear_do_not_cross s t e) h) in
    rw (off, h) refl

crossing_marks : (placing : Placing) (s t : Pair) → are_collinear s t ≡ false → do_cross s t ≡ true → pair_lt s t ≡ true → (target_marks s t (cross_answer placing s t) ≡ marks_by placing s t) × (other_marks s t (cross_answer placing s t) ≡ marks_by placing t s)
unfolding cross_answer
crossing_marks placing s t off h less = (rw (off, h) (crossing_target placing s t h less), rw (off, h) (crossing_other placing s t h less))

-- neither the radius nor the order of the ends matters
pub answers_are_marks : AnswersAreMarks
answers_are_marks placing s t less =
    by_bool (are_collinear s t)
    (overlay_marks placing s t)
    (λ off. by_bool (do_cross s t) (λ h. crossing_marks placing s t off h less) (apart_marks placing s t off))
