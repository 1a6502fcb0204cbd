-- Two segments on two lines that share a whole point: it is the mark of each that it lies strictly inside. So of a horizontal and a
-- vertical one, whose point takes its two coordinates from them.
use Rattle.std.proofs.Common.{◌≡◌, ◌≢◌, refl, sym, ap, ◌∙◌, inl, inr, arith, Bool, true, false, ℕ, ◌&&◌, ◌||◌, IsTrue, IsFalse, List, [], ◌∷◌, ◌++◌, if◌then◌else◌}
use Rattle.std.specs.Prelude.{ℤ, pos, ◌-ℤ◌, ◌*ℤ◌, filter, not}
use Rattle.std.specs.Ordering.{int_eq}
use Rattle.std.proofs.lemmas.Int.{ints}
use Rattle.std.proofs.lemmas.Bool.{and_parts, and_from, false_from_ne_true, both_ways}
use Rattle.std.proofs.Math.Bool.{and-true}
use Rattle.overlay_geometry.specs.Points.{Point, Pair, pair_lt, point_eq, turn, is_end, is_between, is_in_box, is_horizontal, is_vertical, lies_on, is_strictly_inside}
use Rattle.overlay_geometry.specs.Meeting.{are_collinear, separates, do_cross}
use Rattle.overlay_geometry.proofs.laws.geometry.Points.{same_point, same_by_eq, not_same, turn_same_outer, turn_same_last}
use Rattle.overlay_geometry.proofs.laws.geometry.Points.{inside_parts as inside_halves, inside_from_parts}
use Rattle.overlay_geometry.proofs.laws.integers.Products.{times_zero, zero_times}
use Rattle.overlay_geometry.proofs.laws.integers.Tests.{eq-tested}
use Rattle.overlay_intersections.specs.Crossing.{snapping_point, settling_point}
use Rattle.overlay_intersections.specs.Marks.{Placing, snapping, settling, crossing_mark, ordered_mark, marks_by, cross_inexactly}
use Rattle.overlay_intersections.specs.MarkOf.{Mark}
use Rattle.overlay_intersections.specs.MarksBetween.{marks_at, marks_between}
use Rattle.overlay_intersections.specs.steps.CornerOf.{is_strictly_between, corner, splits}
use Rattle.overlay_intersections.proofs.laws.crossings.Lines.{by_zero, cancel_factor, inside_parts}
use Rattle.overlay_intersections.proofs.laws.crossings.AnswerMarks.{by_bool, collinear_parts, collinear_from, line_back, end_cases}
use Rattle.overlay_intersections.proofs.laws.crossings.TurnSigns.{inside_by_turns, outside_off, one_point}
use Rattle.overlay_intersections.proofs.laws.crossings.CollinearEnds.{opposite_zero_left, opposite_zero_right}
use Rattle.overlay_intersections.proofs.laws.crossings.Crossings.{do_cross-swap}
use Rattle.overlay_intersections.proofs.laws.crossings.ExactCrossings.{IsCrossingPoint-unique, from_both_lines, exact_by_lines, exact_snapping_point, exact_settling_point}
use Rattle.overlay_intersections.proofs.laws.marks.Marks.{marks_at_crossing, marks_at_ends}
use Rattle.overlay_intersections.proofs.laws.marks.MarkedPairs.{mark_if, two_appended}

-- ---- two lines that share a point

-- the segments lie on two lines, which share p
pub record ShareOnly (s t : Pair) (p : Point) : Type 0 where
  pub s_apart : s.a ≢ s.b
  pub t_apart : t.a ≢ t.b
  pub off : are_collinear s t ≡ false
  pub on_s : turn s.a s.b p ≡ pos 0
  pub on_t : turn t.a t.b p ≡ pos 0

pub ShareOnly-swap : (s t : Pair) (p : Point) → ShareOnly s t p → ShareOnly t s p
ShareOnly-swap s t p h = record {
  s_apart = h.t_apart;
  t_apart = h.s_apart;
  off = false_from_ne_true _ (λ k.
      let on = collinear_parts t s k in
      let back = line_back s.a s.b t.a t.b h.t_apart on.0 on.1 in
      both_ways _ h.off (collinear_from s t back.0 back.1));
  on_s = h.on_t;
  on_t = h.on_s;
}

-- p is the end of t that lies on the line of s
is_end_a : (s t : Pair) (p : Point) → ShareOnly s t p → turn s.a s.b t.a ≡ pos 0 → p ≡ t.a
is_end_a s t p h z = by_bool (point_eq p t.a) (λ e. same_by_eq p t.a e) (λ n. absurd (one_point s t p t.a h.off (inl refl) h.on_s h.on_t z (not_same p t.a n)))

is_end_b : (s t : Pair) (p : Point) → ShareOnly s t p → turn s.a s.b t.b ≡ pos 0 → p ≡ t.b
is_end_b s t p h z = by_bool (point_eq p t.b) (λ e. same_by_eq p t.b e) (λ n. absurd (one_point s t p t.b h.off (inr refl) h.on_s h.on_t z (not_same p t.b n)))

-- p lies strictly inside s where t separates the ends of s
inside_is_separated : (s t : Pair) (p : Point) → ShareOnly s t p → is_strictly_inside s p ≡ separates t s
unfolding separates
inside_is_separated s t p h =
    let back = ShareOnly-swap s t p h in
    by_zero (turn t.a t.b s.a)
    (λ za. false_from_ne_true _ (λ k. (inside_parts s p k).3 (is_end_a t s p back za)) ∙ sym (opposite_zero_left (turn t.a t.b s.a) (turn t.a t.b s.b) za))
    (λ na. by_zero (turn t.a t.b s.b)
    (λ zb. false_from_ne_true _ (λ k. (inside_parts s p k).4 (is_end_b t s p back zb)) ∙ sym (opposite_zero_right (turn t.a t.b s.a) (turn t.a t.b s.b) zb))
    (λ nb. inside_by_turns s t p h.s_apart h.on_s h.on_t na nb))

do_cross_is_inside : (s t : Pair) (p : Point) → ShareOnly s t p → do_cross s t ≡ (is_strictly_inside t p && is_strictly_inside s p)
unfolding do_cross
do_cross_is_inside s t p h = rw (inside_is_separated s t p h, inside_is_separated t s p (ShareOnly-swap s t p h)) refl

-- ---- the marks

crossing_mark_is : (placing : Placing) (s t : Pair) (p : Point) → ShareOnly s t p → IsTrue (do_cross s t) → crossing_mark placing s t ≡ p
unfolding crossing_mark
crossing_mark_is (snapping radius) s t p h c =
    let exact = exact_by_lines s t p c h.on_s h.on_t in
    rw exact (IsCrossingPoint-unique s t (snapping_point s t) p c (exact_snapping_point s t c exact) (from_both_lines s t p h.on_s h.on_t))
crossing_mark_is settling s t p h c =
    let exact = exact_by_lines s t p c h.on_s h.on_t in
    IsCrossingPoint-unique s t (settling_point s t) p c (exact_settling_point s t c exact) (from_both_lines s t p h.on_s h.on_t)

ordered_mark_is : (placing : Placing) (s t : Pair) (p : Point) → ShareOnly s t p → IsTrue (do_cross s t) → ordered_mark placing s t ≡ p
unfolding ordered_mark
ordered_mark_is placing s t p h c =
    by_bool (pair_lt s t)
    (λ e. rw e (crossing_mark_is placing s t p h c))
    (λ e. rw e (crossing_mark_is placing t s p (ShareOnly-swap s t p h) (do_cross-swap s t c)))

abbrev point_if : Bool → Point → List Point
point_if b p = if b then p ∷ [] else []

end_lies_on_a : (t : Pair) → IsTrue (lies_on t t.a)
unfolding lies_on is_in_box
end_lies_on_a t = let z = turn_same_outer t.a t.b in grind (arith, ints)

end_lies_on_b : (t : Pair) → IsTrue (lies_on t t.b)
unfolding lies_on is_in_box
end_lies_on_b t = let z = turn_same_last t.a t.b in grind (arith, ints)

kept_at_crossing : (s : Pair) (m p : Point) → m ≡ p → IsTrue (is_strictly_inside s p) → filter (λ q. not (is_end s q)) (m ∷ []) ≡ p ∷ []
kept_at_crossing s m p e h = rw (e, (inside_halves s p h).1) refl

marks_where_crossing : (placing : Placing) (s t : Pair) (p : Point) → ShareOnly s t p → IsTrue (do_cross s t) → marks_by placing s t ≡ point_if (splits p s t) p
unfolding splits
marks_where_crossing placing s t p h c =
    let inside = and_parts (is_strictly_inside t p) (is_strictly_inside s p) (sym (do_cross_is_inside s t p h) ∙ c) in
    marks_at_crossing placing s t c ∙ kept_at_crossing s (ordered_mark placing s t) p (ordered_mark_is placing s t p h c) inside.1
    ∙ rw (inside.1, (inside_halves t p inside.0).0) refl

splits_at : (s t : Pair) (p e : Point) → p ≡ e → IsTrue (is_strictly_inside s e) → IsTrue (lies_on t e) → p ∷ [] ≡ point_if (splits p s t) p
unfolding splits
splits_at s t p e i h k = rw (i, h, k) refl

splits_not : (s t : Pair) (p : Point) → ShareOnly s t p → IsFalse (do_cross s t) → IsFalse (is_strictly_inside s t.a) → IsFalse (is_strictly_inside s t.b) → splits p s t ≡ false
unfolding splits
splits_not s t p h n na nb = false_from_ne_true _ (λ k.
    let parts = and_parts (is_strictly_inside s p) (lies_on t p) k in
    by_bool (is_end t p)
    (λ e. elim (end_cases t p e) [
      | inl i ↦ both_ways _ na (rw (← i) parts.0)
      | inr i ↦ both_ways _ nb (rw (← i) parts.0)
    ])
    (λ free. both_ways _ n (do_cross_is_inside s t p h ∙ and_from (is_strictly_inside t p) (is_strictly_inside s p) (inside_from_parts t p parts.1 free) parts.0)))

marks_where_none_cross : (placing : Placing) (s t : Pair) (p : Point) → ShareOnly s t p → IsFalse (do_cross s t) → marks_by placing s t ≡ point_if (splits p s t) p
marks_where_none_cross placing s t p h n =
    marks_at_ends placing s t n ∙
    by_bool (is_strictly_inside s t.a)
    (λ a.
    let z = (inside_parts s t.a a).0 in
    let b : is_strictly_inside s t.b ≡ false = outside_off s t.b (λ zb. both_ways _ h.off (collinear_from s t z zb)) in
    let i = is_end_a s t p h z in
    rw (a, b) (ap (λ (q : Point). q ∷ []) (sym i) ∙ splits_at s t p t.a i a (end_lies_on_a t)))
    (λ na. by_bool (is_strictly_inside s t.b)
    (λ b. let i = is_end_b s t p h (inside_parts s t.b b).0 in rw (na, b) (ap (λ (q : Point). q ∷ []) (sym i) ∙ splits_at s t p t.b i b (end_lies_on_b t)))
    (λ nb. rw (na, nb, splits_not s t p h n na nb) refl))

marks_by_point : (placing : Placing) (s t : Pair) (p : Point) → ShareOnly s t p → marks_by placing s t ≡ point_if (splits p s t) p
marks_by_point placing s t p h = by_bool (do_cross s t) (marks_where_crossing placing s t p h) (marks_where_none_cross placing s t p h)

pub crosses_exactly : (s t : Pair) (p : Point) → ShareOnly s t p → cross_inexactly s t ≡ false
unfolding cross_inexactly
crosses_exactly s t p h = by_bool (do_cross s t) (λ c. rw (c, exact_by_lines s t p c h.on_s h.on_t) refl) (λ n. rw n refl)

mark_if_is : (b : Bool) (i : ℕ) (p : Point) → mark_if b i p ≡ marks_at i (point_if b p)
mark_if_is true i p = refl
mark_if_is false i p = refl

-- a mark at q = p on each that p splits makes the marks of the two
pub point_appended : (placing : Placing) (i : ℕ) (s : Pair) (j : ℕ) (t : Pair) (p q : Point) (b c : Bool) (old first second : List Mark) → ShareOnly s t p → q ≡ p → b ≡ splits p s t → c ≡ splits p t s →
    first ≡ old ++ mark_if b i q → second ≡ first ++ mark_if c j q → second ≡ old ++ marks_between placing i s j t
unfolding marks_between
point_appended placing i s j t p q b c old first second h e eb ec one two =
    let on_s : mark_if b i q ≡ marks_at i (marks_by placing s t) = rw (e, eb) (mark_if_is (splits p s t) i p ∙ ap (marks_at i) (sym (marks_by_point placing s t p h))) in
    let on_t : mark_if c j q ≡ marks_at j (marks_by placing t s) = rw (e, ec) (mark_if_is (splits p t s) j p ∙ ap (marks_at j) (sym (marks_by_point placing t s p (ShareOnly-swap s t p h)))) in
    two_appended old first second _ _ (one ∙ ap (λ (ms : List Mark). old ++ ms) on_s) (two ∙ ap (λ (ms : List Mark). first ++ ms) on_t)

-- ---- a horizontal and a vertical segment

no_turn_along_x : (p q r : Point) → p.y ≡ q.y → r.y ≡ p.y → turn p q r ≡ pos 0
unfolding turn
no_turn_along_x p q r h k =
    let e : q.y -ℤ p.y ≡ pos 0 = omega (arith, ints) in
    let f : r.y -ℤ p.y ≡ pos 0 = omega (arith, ints) in
    rw (e, f) (omega (arith, ints, times_zero (q.x -ℤ p.x), zero_times (r.x -ℤ p.x)))

no_turn_along_y : (p q r : Point) → p.x ≡ q.x → r.x ≡ p.x → turn p q r ≡ pos 0
unfolding turn
no_turn_along_y p q r h k =
    let e : q.x -ℤ p.x ≡ pos 0 = omega (arith, ints) in
    let f : r.x -ℤ p.x ≡ pos 0 = omega (arith, ints) in
    rw (e, f) (omega (arith, ints, zero_times (r.y -ℤ p.y), times_zero (q.y -ℤ p.y)))

-- what lies on the line of a horizontal segment has its height
height_on_line : (s : Pair) (p : Point) → s.a.y ≡ s.b.y → s.a ≢ s.b → turn s.a s.b p ≡ pos 0 → p.y ≡ s.a.y
unfolding turn
height_on_line s p h apart z =
    let e : s.b.y -ℤ s.a.y ≡ pos 0 = omega (arith, ints) in
    let k : (s.b.x -ℤ s.a.x) *ℤ (p.y -ℤ s.a.y) -ℤ pos 0 *ℤ (p.x -ℤ s.a.x) ≡ pos 0 = rw e at z in
    let product : (s.b.x -ℤ s.a.x) *ℤ (p.y -ℤ s.a.y) ≡ pos 0 = omega (arith, ints, k, zero_times (p.x -ℤ s.a.x)) in
    let width : s.b.x -ℤ s.a.x ≢ pos 0 = λ w. apart (same_point s.a s.b (omega (arith, ints, w)) h) in
    let step : p.y -ℤ s.a.y ≡ pos 0 = cancel_factor (s.b.x -ℤ s.a.x) (p.y -ℤ s.a.y) width product in
    omega (arith, ints, step)

pub share_corner : (h v : Pair) → IsTrue (is_horizontal h) → IsTrue (is_vertical v) → h.a ≢ h.b → v.a ≢ v.b → ShareOnly h v (corner h v)
share_corner h v eh ev nh nv =
    let level = eq-tested h.a.y h.b.y eh in
    let upright = eq-tested v.a.x v.b.x ev in
    record {
      s_apart = nh;
      t_apart = nv;
      off = false_from_ne_true _ (λ k.
          let on = collinear_parts h v k in
          nv (same_point v.a v.b upright (height_on_line h v.a level nh on.0 ∙ sym (height_on_line h v.b level nh on.1))));
      on_s = no_turn_along_x h.a h.b (corner h v) level refl;
      on_t = no_turn_along_y v.a v.b (corner h v) upright refl;
    }

-- ---- where the point lies, by its coordinates

level_between : (u v z : ℤ) → u ≡ v → z ≡ u → is_between u v z ≡ true
level_between u v z h k = grind (arith, ints)

lies_on_horizontal : (s : Pair) (p : Point) → s.a.y ≡ s.b.y → p.y ≡ s.a.y → lies_on s p ≡ is_between s.a.x s.b.x p.x
unfolding lies_on is_in_box
lies_on_horizontal s p h k = rw (no_turn_along_x s.a s.b p h k, level_between s.a.y s.b.y p.y h k) (and-true _)

lies_on_vertical : (s : Pair) (p : Point) → s.a.x ≡ s.b.x → p.x ≡ s.a.x → lies_on s p ≡ is_between s.a.y s.b.y p.y
unfolding lies_on is_in_box
lies_on_vertical s p h k = rw (no_turn_along_y s.a s.b p h k, level_between s.a.x s.b.x p.x h k) refl

same_on_row : (p q : Point) → p.y ≡ q.y → point_eq p q ≡ int_eq p.x q.x
same_on_row p q h = grind (arith, ints)

same_on_column : (p q : Point) → p.x ≡ q.x → point_eq p q ≡ int_eq p.y q.y
same_on_column p q h = grind (arith, ints)

strictly_between : (u v z : ℤ) → (is_between u v z && not (int_eq z u || int_eq z v)) ≡ is_strictly_between u v z
strictly_between u v z = grind (arith, ints)

inside_horizontal : (s : Pair) (p : Point) → s.a.y ≡ s.b.y → p.y ≡ s.a.y → is_strictly_inside s p ≡ is_strictly_between s.a.x s.b.x p.x
unfolding is_strictly_inside
inside_horizontal s p h k = rw (lies_on_horizontal s p h k, same_on_row p s.a k, same_on_row p s.b (k ∙ h)) (strictly_between s.a.x s.b.x p.x)

inside_vertical : (s : Pair) (p : Point) → s.a.x ≡ s.b.x → p.x ≡ s.a.x → is_strictly_inside s p ≡ is_strictly_between s.a.y s.b.y p.y
unfolding is_strictly_inside
inside_vertical s p h k = rw (lies_on_vertical s p h k, same_on_column p s.a k, same_on_column p s.b (k ∙ h)) (strictly_between s.a.y s.b.y p.y)

-- what corner_of computes: the tests of a number that is the x of the point, and of one that is its y
pub splits_horizontal : (h v : Pair) (x y : ℤ) (b c : Bool) → IsTrue (is_horizontal h) → IsTrue (is_vertical v) → x ≡ v.a.x → y ≡ h.a.y →
    b ≡ is_strictly_between h.a.x h.b.x x → c ≡ is_between v.a.y v.b.y y → (b && c) ≡ splits (corner h v) h v
unfolding splits
splits_horizontal h v x y b c eh ev ex ey eb ec =
    let inside = inside_horizontal h (corner h v) (eq-tested h.a.y h.b.y eh) refl in
    let on = lies_on_vertical v (corner h v) (eq-tested v.a.x v.b.x ev) refl in
    rw (eb, ec, ex, ey, inside, on) refl

pub splits_vertical : (h v : Pair) (x y : ℤ) (b c : Bool) → IsTrue (is_horizontal h) → IsTrue (is_vertical v) → x ≡ v.a.x → y ≡ h.a.y →
    b ≡ is_strictly_between v.a.y v.b.y y → c ≡ is_between h.a.x h.b.x x → (b && c) ≡ splits (corner h v) v h
unfolding splits
splits_vertical h v x y b c eh ev ex ey eb ec =
    let inside = inside_vertical v (corner h v) (eq-tested v.a.x v.b.x ev) refl in
    let on = lies_on_horizontal h (corner h v) (eq-tested h.a.y h.b.y eh) refl in
    rw (eb, ec, ex, ey, inside, on) refl
