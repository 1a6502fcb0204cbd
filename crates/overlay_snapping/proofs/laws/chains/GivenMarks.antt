-- An end or a whole crossing strictly inside a segment marks it in a settling pass.
use Rattle.std.proofs.Common.{◌≡◌, sym, subst, ◌∙◌, ◌⊎◌, ⊎_elim, inl, inr, IsTrue, IsFalse, List, [], ◌∷◌, ◌&&◌}
use Rattle.std.specs.Prelude.{Contains}
use Rattle.std.proofs.lemmas.Bool.{and_parts, both_ways, cases_Bool, false_from_ne_true}
use Rattle.overlay_geometry.specs.Points.{Point, Pair, is_end, is_strictly_inside, lies_on}
use Rattle.overlay_geometry.specs.Meeting.{do_cross, are_collinear}
use Rattle.overlay_geometry.proofs.laws.geometry.Points.{inside_order, inside_parts}
use Rattle.overlay_geometry.proofs.laws.lists.Lists.{Has, AllByRecursion-at}
use Rattle.overlay_geometry.proofs.laws.lists.Elements.{Contains-from_Has, Has-from_Contains, Has-append_out, Has-flat_map_out}
use Rattle.overlay_base.specs.Segments.{WholeSegment, pairs, ends, are_ordered}
use Rattle.overlay_intersections.specs.Crossing.{is_exact, settling_point}
use Rattle.overlay_intersections.specs.Marks.{settling}
use Rattle.overlay_intersections.specs.PassMarks.{marks_on}
use Rattle.overlay_intersections.proofs.laws.crossings.AnswerMarks.{end_cases}
use Rattle.overlay_intersections.proofs.laws.crossings.ExactCrossings.{exact_settling_point, exact_by_lines}
use Rattle.overlay_intersections.proofs.laws.marks.Marks.{IsFree, IsFree-marks_on}
use Rattle.overlay_cuts.proofs.laws.planar.Meetings.{MarksAt, MarksAt-end, MarksAt-cross, crossing_not_collinear, are_collinear-trans, are_collinear_symmetric}
use Rattle.overlay_cuts.proofs.laws.planar.ExactMarks.{In, In-ordered, end_a, end_b, MarksAt-marks_by}
use Rattle.overlay_cuts.proofs.laws.planar.WholeCrossings.{IsCrossingPoint-inside, exact_ordered_mark}
use Rattle.overlay_snapping.specs.Chains.{given_points, whole_crossings}
use Rattle.overlay_snapping.proofs.laws.chains.MarkPoints.{Has-marks_on, Has-crossings_by_out}

-- no mark is an end
pub mark_is_no_end : (segments : List WholeSegment) (s : Pair) (c : Point) → Has (marks_on settling segments s) c → IsFalse (is_end s c)
mark_is_no_end segments s c i = false_from_ne_true (is_end s c) (λ e. by (AllByRecursion-at (IsFree s) (marks_on settling segments s) c (IsFree-marks_on settling segments s) i) (end_cases s c e))
  where
    by : IsFree s c → (c ≡ s.a) ⊎ (c ≡ s.b) → ⊥
    by f (inl e) = f.0 e
    by f (inr e) = f.1 e

module _ (segments : List WholeSegment) (o : IsTrue (are_ordered segments)) (s : Pair) (c : Point) (i : In segments s) (inside : IsTrue (is_strictly_inside s c)) where
  abbrev IsMark : Type 0
  IsMark = Has (marks_on settling segments s) c

  marked_at : (t : Pair) → In segments t → MarksAt s t c → IsMark
  marked_at t j (inl h) =
      let os = In-ordered segments o s i in
      let ot = In-ordered segments o t j in
      Has-marks_on segments s t c j
      (MarksAt-marks_by settling s t c os ot (λ x. exact_ordered_mark settling s t x (exact_by_lines s t c x (inside_order s c os inside).0 (inside_order t c ot h.2).0)) (inl h))
  marked_at t j (inr h) =
      Has-marks_on segments s t c j (MarksAt-marks_by settling s t c (In-ordered segments o s i) (In-ordered segments o t j) (λ x. absurd (both_ways (do_cross s t) h.1 x)) (inr h))

  -- an end of t
  end_marks : (t : Pair) → In segments t → IsTrue (is_end t c) → IsMark
  end_marks t j k = marked_at t j (MarksAt-end s t c (In-ordered segments o s i) inside k)

  -- a point strictly inside t, which does not lie on the line of s
  inside_marks : (t : Pair) → In segments t → IsTrue (is_strictly_inside t c) → IsFalse (are_collinear s t) → IsMark
  inside_marks t j on n = marked_at t j (MarksAt-cross s t c (In-ordered segments o s i) (In-ordered segments o t j) inside on n)

  -- s lies on the line of one of two that cross, at most
  crossing_of : (t u : Pair) → In segments t → In segments u → IsTrue (do_cross t u) → IsTrue (is_strictly_inside t c) → IsTrue (is_strictly_inside u c) → IsMark
  crossing_of t u j k x on_t on_u =
      let os = In-ordered segments o s i in
      let ot = In-ordered segments o t j in
      let ou = In-ordered segments o u k in
      ⊎_elim
      (λ along. inside_marks u k on_u (false_from_ne_true (are_collinear s u) (λ both.
      both_ways (are_collinear t u) (crossing_not_collinear t u x) (are_collinear-trans t s u ot os (sym (are_collinear_symmetric s t os ot) ∙ along) both))))
      (λ across. inside_marks t j on_t across)
      (cases_Bool (are_collinear s t))

  at_end : (t : Pair) → Has (t.a ∷ t.b ∷ []) c → IsTrue (is_end t c)
  at_end t (inl e) = subst (λ q. IsTrue (is_end t q)) e (end_a t)
  at_end t (inr (inl e)) = subst (λ q. IsTrue (is_end t q)) e (end_b t)
  at_end t (inr (inr n)) = absurd n

  pub given_inside_marks : Contains (given_points (pairs segments)) c → IsMark
  given_inside_marks h =
      ⊎_elim
      (λ e.
      let t = Has-flat_map_out (λ (u : Pair). u.a ∷ u.b ∷ []) (pairs segments) c e in
      end_marks t.0 t.1 (at_end t.0 t.2))
      (λ w.
      let by = Has-crossings_by_out (λ s t. do_cross s t && is_exact s t) (pairs segments) c w in
      let parts = and_parts (do_cross by.0 by.1) (is_exact by.0 by.1) by.4 in
      let both = IsCrossingPoint-inside by.0 by.1 (settling_point by.0 by.1) (In-ordered segments o by.0 by.2) (In-ordered segments o by.1 by.3) parts.0 (exact_settling_point by.0 by.1 parts.0 parts.1) in
      crossing_of by.0 by.1 by.2 by.3 parts.0 (subst (λ p. IsTrue (is_strictly_inside by.0 p)) by.5 both.0) (subst (λ p. IsTrue (is_strictly_inside by.1 p)) by.5 both.1))
      (Has-append_out (ends (pairs segments)) (whole_crossings (pairs segments)) c (Has-from_Contains (given_points (pairs segments)) c h))

-- each end or whole crossing is an end or a mark that lies on its segment
pub given_is_end_or_mark : (segments : List WholeSegment) → IsTrue (are_ordered segments) → (c : Point) → Contains (given_points (pairs segments)) c →
    Contains (ends (pairs segments)) c ⊎ ((s : Pair) × Contains (pairs segments) s × Contains (marks_on settling segments s) c × IsTrue (lies_on s c))
given_is_end_or_mark segments o c h =
    ⊎_elim
    (λ e. inl (Contains-from_Has (ends (pairs segments)) c e))
    (λ w.
    let by = Has-crossings_by_out (λ s t. do_cross s t && is_exact s t) (pairs segments) c w in
    let parts = and_parts (do_cross by.0 by.1) (is_exact by.0 by.1) by.4 in
    let both = IsCrossingPoint-inside by.0 by.1 (settling_point by.0 by.1) (In-ordered segments o by.0 by.2) (In-ordered segments o by.1 by.3) parts.0 (exact_settling_point by.0 by.1 parts.0 parts.1) in
    let inside = subst (λ p. IsTrue (is_strictly_inside by.0 p)) by.5 both.0 in
    inr (by.0, Contains-from_Has (pairs segments) by.0 by.2, Contains-from_Has (marks_on settling segments by.0) c (given_inside_marks segments o by.0 c by.2 inside h), (inside_parts by.0 c inside).0))
    (Has-append_out (ends (pairs segments)) (whole_crossings (pairs segments)) c (Has-from_Contains (given_points (pairs segments)) c h))
