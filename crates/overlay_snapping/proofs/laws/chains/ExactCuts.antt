-- Where every crossing is a whole point: nothing is hot and nothing moves, and the cuts of a segment are its marks of a settling pass.
use Rattle.std.proofs.Common.{◌≡◌, ◌⊎◌, ⊎_elim, inl, inr, subst, ℕ, IsTrue, IsFalse, List, [], ◌∷◌}
use Rattle.std.specs.Prelude.{Contains, flat_map}
use Rattle.std.proofs.lemmas.Bool.{both_ways, cases_Bool, cond-false}
use Rattle.overlay_geometry.specs.Points.{Point, Pair, point_cmp, is_end, is_strictly_inside}
use Rattle.overlay_geometry.specs.Sorting.{distinct_in_order, is_strictly_sorted}
use Rattle.overlay_geometry.proofs.laws.geometry.Points.{inside_parts, inside_from_parts, point_cmp_total}
use Rattle.overlay_geometry.proofs.laws.lists.Lists.{Has, AllByRecursion-at}
use Rattle.overlay_geometry.proofs.laws.lists.Elements.{Contains-from_Has, Has-from_Contains, Has-flat_map_out}
use Rattle.overlay_geometry.proofs.laws.lists.Keys.{IsStrictlySortedBy-distinct, is_strictly_sorted-from}
use Rattle.overlay_base.specs.Segments.{WholeSegment, pairs, ends, are_ordered}
use Rattle.overlay_intersections.specs.Crossing.{is_exact}
use Rattle.overlay_intersections.specs.Marks.{settling, marks_by, cross_inexactly}
use Rattle.overlay_intersections.specs.PassMarks.{marks_on, is_rounded}
use Rattle.overlay_intersections.proofs.laws.crossings.AnswerMarks.{end_cases}
use Rattle.overlay_cuts.specs.Nearness.{whole_point, IsNear, reach, reach_of_pass}
use Rattle.overlay_cuts.proofs.laws.nearness.Distances.{IsNear-start, IsNear-end}
use Rattle.overlay_cuts.proofs.laws.nearness.NearMarks.{marks_of_pass_are_near}
use Rattle.overlay_cuts.specs.ExactInput.{special_points}
use Rattle.overlay_cuts.proofs.laws.planar.ExactAnswers.{special_marks}
use Rattle.overlay_cuts.proofs.laws.planar.ExactInputs.{special_end, special_mark}
use Rattle.overlay_cuts.proofs.laws.planar.ExactMarks.{In, In-exact, end_a, end_b, marks_on-IsMarked, IsMarked-marks_on}
use Rattle.overlay_cuts.proofs.laws.planar.Meetings.{MarksAt-inside}
use Rattle.overlay_snapping.specs.Chains.{rounded_crossings, IsHot, rounded, passed, Moves, passes, IsChainPoint, IsCutAt, moving, staying, AreSnapCuts, AreDecided}
use Rattle.overlay_snapping.proofs.laws.chains.MarkPoints.{Has-crossings_by_out, inexact_parts, chain_points_are_ends_and_marks}

-- ---- a list in order

module _ (segments : List WholeSegment) (o : IsTrue (are_ordered segments)) (h : IsFalse (is_rounded segments)) where
  mutual
    none_hot : (c : Point) → IsHot (pairs segments) c → ⊥
    none_hot c (rounded i) =
        let by = Has-crossings_by_out cross_inexactly (pairs segments) c (Has-from_Contains (rounded_crossings (pairs segments)) c i) in
        let parts = inexact_parts by.0 by.1 by.4 in
        both_ways (is_exact by.0 by.1) parts.1 (In-exact segments h by.0 by.1 by.2 by.3 parts.0)
    none_hot c (passed i m p) = none_moves _ m

    none_moves : (s : Pair) → Moves (pairs segments) s → ⊥
    none_moves s (passes i k p) = none_hot _ k

  pub none_decided : AreDecided segments
  none_decided s i = inr (none_moves s)

  -- a chain point strictly inside a segment marks it
  mark_at_point : (s : Pair) (c : Point) → In segments s → IsChainPoint (pairs segments) c → IsTrue (is_strictly_inside s c) → Has (marks_on settling segments s) c
  mark_at_point s c i p inside = IsMarked-marks_on settling segments o h s i c (special_marks segments o h s c i inside (special ((chain_points_are_ends_and_marks segments o c).0 p)))
    where
      at_end : (t : Pair) → Has (t.a ∷ t.b ∷ []) c → IsTrue (is_end t c)
      at_end t (inl e) = subst (λ q. IsTrue (is_end t q)) e (end_a t)
      at_end t (inr (inl e)) = subst (λ q. IsTrue (is_end t q)) e (end_b t)
      at_end t (inr (inr n)) = absurd n

      special : Contains (ends (pairs segments)) c ⊎ ((t : Pair) × Contains (pairs segments) t × Contains (marks_on settling segments t) c) → Has (special_points (pairs segments)) c
      special (inl e) = let t = Has-flat_map_out (λ (u : Pair). u.a ∷ u.b ∷ []) (pairs segments) c (Has-from_Contains (ends (pairs segments)) c e) in special_end (pairs segments) t.0 c t.1 (at_end t.0 t.2)
      special (inr (t, j, m)) =
          let there = Has-from_Contains (pairs segments) t j in
          let marked = marks_on-IsMarked settling segments o h t there c (Has-from_Contains (marks_on settling segments t) c m) in
          special_mark segments o h t marked.0 c there marked.1 marked.2

  cut_is_mark : (s : Pair) (c : Point) → In segments s → IsCutAt (pairs segments) s c → IsFalse (is_end s c) → Has (marks_on settling segments s) c
  cut_is_mark s c i (moving m p k) free = absurd (none_moves s m)
  cut_is_mark s c i (staying n p on) free = mark_at_point s c i p (inside_from_parts s c on free)

  mark_is_cut : (s : Pair) (c : Point) → In segments s → Has (marks_on settling segments s) c → IsCutAt (pairs segments) s c × IsFalse (is_end s c)
  mark_is_cut s c i k =
      let marked = marks_on-IsMarked settling segments o h s i c k in
      let parts = inside_parts s c (MarksAt-inside s marked.0 c marked.2) in
      let point = (chain_points_are_ends_and_marks segments o c).1 (inr (s, Contains-from_Has (pairs segments) s i, Contains-from_Has (marks_on settling segments s) c k)) in
      (staying (none_moves s) point parts.0, parts.1)

  marks_in_order : (s : Pair) → IsTrue (is_strictly_sorted point_cmp (marks_on settling segments s))
  unfolding marks_on
  marks_in_order s =
      let points = flat_map (λ t. marks_by settling s t) (pairs segments) in
      is_strictly_sorted-from point_cmp_total (distinct_in_order point_cmp points) (IsStrictlySortedBy-distinct point_cmp_total points)

  reaches_nothing : reach_of_pass settling segments ≡ 0
  unfolding reach_of_pass
  reaches_nothing = cond-false (is_rounded segments) (reach settling) 0 h

  pub marks_are_cuts : AreSnapCuts segments (marks_on settling segments)
  marks_are_cuts s i =
      let there = Has-from_Contains (pairs segments) s i in
      record {
        in_order = marks_in_order s;
        complete = λ c. (λ k. mark_is_cut s c there (Has-from_Contains (marks_on settling segments s) c k), λ cut. Contains-from_Has (marks_on settling segments s) c (cut_is_mark s c there cut.0 cut.1));
      }

  -- a point at which a segment is cut lies on it
  pub exact_cut_near : (s : Pair) (c : Point) → In segments s → IsCutAt (pairs segments) s c → IsNear 0 (whole_point c) s
  exact_cut_near s c i cut = ⊎_elim (λ e. at_end (end_cases s c e)) (λ free. at_mark (cut_is_mark s c i cut free)) (cases_Bool (is_end s c))
    where
      at_end : (c ≡ s.a) ⊎ (c ≡ s.b) → IsNear 0 (whole_point c) s
      at_end (inl e) = rw e (IsNear-start 0 s)
      at_end (inr e) = rw e (IsNear-end 0 s)

      at_mark : Has (marks_on settling segments s) c → IsNear 0 (whole_point c) s
      at_mark m =
          subst (λ (n : ℕ). IsNear n (whole_point c) s) reaches_nothing
          (AllByRecursion-at (λ e. IsNear (reach_of_pass settling segments) (whole_point e) s) (marks_on settling segments s) c (marks_of_pass_are_near settling segments o s i) m)
