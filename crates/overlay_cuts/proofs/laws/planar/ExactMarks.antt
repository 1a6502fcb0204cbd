-- The marks of an arrangement in which all crossings are at whole points: what the lists of marks hold.
use Rattle.std.proofs.Common.{◌≡◌, sym, ap, ◌⊎◌, ⊎_elim, inl, inr, subst, not, IsTrue, IsFalse, List, [], ◌∷◌}
use Rattle.std.specs.Prelude.{flat_map}
use Rattle.std.specs.List.{list_any, AllByRecursion}
use Rattle.std.proofs.lemmas.Bool.{or_right, not-false, cases_Bool}
use Rattle.overlay_geometry.specs.Points.{Point, Pair, point_cmp, point_eq, is_ordered, is_end, is_strictly_inside}
use Rattle.overlay_geometry.specs.Sorting.{distinct_in_order}
use Rattle.overlay_base.specs.Segments.{WholeSegment, pairs, are_ordered}
use Rattle.overlay_geometry.specs.Meeting.{do_cross}
use Rattle.overlay_intersections.specs.Crossing.{is_exact, snapping_point}
use Rattle.overlay_intersections.specs.Marks.{Placing, ordered_mark, marks_by, cross_inexactly}
use Rattle.overlay_intersections.specs.PassMarks.{marks_on, is_rounded}
use Rattle.overlay_geometry.proofs.laws.lists.Lists.{AllByRecursion-from_Has, AllByRecursion-weaker, Has, AllByRecursion-at, AllByRecursion-flat_map, Has-flat_map, AllByRecursion-filter, Has-filter, list_any-at, list_all-at, Has-map_out}
use Rattle.overlay_geometry.proofs.laws.lists.Keys.{AllByRecursion-distinct_in_order, Has-distinct_in_order}
use Rattle.overlay_geometry.proofs.laws.geometry.Points.{point_cmp_total, point_same, Before, before, point_eq_same, inside_order, inside_parts}
use Rattle.overlay_intersections.proofs.laws.crossings.AnswerMarks.{end_cases}
use Rattle.overlay_intersections.proofs.laws.crossings.ExactCrossings.{IsCrossingPoint, IsCrossingPoint-unique, from_both_lines, exact_snapping_point}
use Rattle.overlay_intersections.proofs.laws.marks.Marks.{marks_at_crossing, marks_at_ends}
use Rattle.overlay_cuts.proofs.laws.planar.Meetings.{MarksAt}
use Rattle.overlay_cuts.proofs.laws.planar.Parts.{IsMarked, HasWholeCrossings}
use Rattle.overlay_cuts.proofs.laws.planar.WholeCrossings.{IsInsideBoth, IsCrossingPoint-inside, exact_ordered_mark}

-- ---- the marks that one pair puts on another

pub end_a : (t : Pair) → IsTrue (is_end t t.a)
end_a t = rw (point_eq_same t.a)

pub end_b : (t : Pair) → IsTrue (is_end t t.b)
end_b t = or_right (point_eq t.b t.a) (point_eq t.b t.b) (point_eq_same t.b)

end_Has : (t : Pair) (e : Point) → (e ≡ t.a) ⊎ (e ≡ t.b) → Has (t.a ∷ t.b ∷ []) e
end_Has t e (inl k) = inl (sym k)
end_Has t e (inr k) = inr (inl (sym k))

-- where crossings are at whole points, the marks by t are the points at which t marks s
pub marks_by-MarksAt : (placing : Placing) (s t : Pair) → (IsTrue (do_cross s t) → IsInsideBoth s t (ordered_mark placing s t)) → AllByRecursion (MarksAt s t) (marks_by placing s t)
marks_by-MarksAt placing s t whole =
    ⊎_elim
    (λ c. subst (AllByRecursion (MarksAt s t)) (sym (marks_at_crossing placing s t c)) (AllByRecursion-filter (λ p. not (is_end s p)) (MarksAt s t) (ordered_mark placing s t ∷ []) ((λ _. inl ((whole c).0, c, (whole c).1)), tt)))
    (λ c. subst (AllByRecursion (MarksAt s t)) (sym (marks_at_ends placing s t c)) (AllByRecursion-filter (λ p. is_strictly_inside s p) (MarksAt s t) (t.a ∷ t.b ∷ []) ((λ h. inr (h, c, end_a t)), ((λ h. inr (h, c, end_b t)), tt))))
    (cases_Bool (do_cross s t))

pub MarksAt-marks_by : (placing : Placing) (s t : Pair) (e : Point) → Before s.a s.b → Before t.a t.b → (IsTrue (do_cross s t) → IsCrossingPoint s t (ordered_mark placing s t)) → MarksAt s t e → Has (marks_by placing s t) e
MarksAt-marks_by placing s t e hs ht whole (inr h) =
    subst (λ l. Has l e) (sym (marks_at_ends placing s t h.1)) (Has-filter (λ p. is_strictly_inside s p) (t.a ∷ t.b ∷ []) e (end_Has t e (end_cases t e h.2)) h.0)
MarksAt-marks_by placing s t e hs ht whole (inl h) =
    let m = ordered_mark placing s t in
    let same : m ≡ e = IsCrossingPoint-unique s t m e h.1 (whole h.1) (from_both_lines s t e (inside_order s e hs h.0).0 (inside_order t e ht h.2).0) in
    subst (λ l. Has l e) (sym (marks_at_crossing placing s t h.1)) (Has-filter (λ p. not (is_end s p)) (m ∷ []) e (inl same) (ap not (inside_parts s e h.0).1))

-- ---- an arrangement with no inexact crossing

-- the pairs of the list
abbrev pub In : List WholeSegment → Pair → Type 0
In segments s = Has (pairs segments) s

pub In-ordered : (segments : List WholeSegment) → IsTrue (are_ordered segments) → (s : Pair) → In segments s → Before s.a s.b
In-ordered segments h s i =
    let r = Has-map_out (λ (u : WholeSegment). u.pair) segments s i in
    let o = before r.0.pair.a r.0.pair.b (list_all-at (λ (u : WholeSegment). is_ordered u.pair) segments r.0 h r.1) in
    subst (λ (p : Pair). Before p.a p.b) r.2 o

exact_of : (s t : Pair) → IsFalse (cross_inexactly s t) → IsTrue (do_cross s t) → IsTrue (is_exact s t)
unfolding cross_inexactly
exact_of s t h c = let i = rw c at h in not-false (is_exact s t) i

pub In-exact : (segments : List WholeSegment) → IsFalse (is_rounded segments) → (s t : Pair) → In segments s → In segments t → IsTrue (do_cross s t) → IsTrue (is_exact s t)
unfolding is_rounded
In-exact segments h s t i j c =
    exact_of s t (list_any-at (λ u. cross_inexactly s u) (pairs segments) t (list_any-at (λ v. list_any (λ u. cross_inexactly v u) (pairs segments)) (pairs segments) s h i) j) c

-- each crossing is marked where it is
pub In-mark : (placing : Placing) (segments : List WholeSegment) → IsFalse (is_rounded segments) → (s t : Pair) → In segments s → In segments t → IsTrue (do_cross s t) → IsCrossingPoint s t (ordered_mark placing s t)
In-mark placing segments h s t i j c = exact_ordered_mark placing s t c (In-exact segments h s t i j c)

In-mark_inside : (placing : Placing) (segments : List WholeSegment) → IsTrue (are_ordered segments) → IsFalse (is_rounded segments) → (s t : Pair) → In segments s → In segments t → IsTrue (do_cross s t) → IsInsideBoth s t (ordered_mark placing s t)
In-mark_inside placing segments o h s t i j c = IsCrossingPoint-inside s t (ordered_mark placing s t) (In-ordered segments o s i) (In-ordered segments o t j) c (In-mark placing segments h s t i j c)

pub has_whole_crossings : (segments : List WholeSegment) → IsTrue (are_ordered segments) → IsFalse (is_rounded segments) → HasWholeCrossings (In segments)
has_whole_crossings segments o h = record {
  ordered = In-ordered segments o;
  whole = λ s t i j c.
      let p = IsCrossingPoint-inside s t (snapping_point s t) (In-ordered segments o s i) (In-ordered segments o t j) c (exact_snapping_point s t c (In-exact segments h s t i j c)) in
      (snapping_point s t, p.0, p.1);
}

-- the marks on s are the points at which some pair marks s
pub marks_on-IsMarked : (placing : Placing) (segments : List WholeSegment) → IsTrue (are_ordered segments) → IsFalse (is_rounded segments) → (s : Pair) → In segments s → (e : Point) → Has (marks_on placing segments s) e → IsMarked (In segments) s e
unfolding marks_on
marks_on-IsMarked placing segments o h s i e k =
    let by = λ (t : Pair). marks_by placing s t in
    let each = AllByRecursion-flat_map by (IsMarked (In segments) s) (pairs segments) (AllByRecursion-from_Has (λ u. AllByRecursion (IsMarked (In segments) s) (by u)) (pairs segments)
    (λ u j. AllByRecursion-weaker (MarksAt s u) (IsMarked (In segments) s) (λ x m. (u, j, m)) (by u) (marks_by-MarksAt placing s u (In-mark_inside placing segments o h s u i j)))) in
    AllByRecursion-at (IsMarked (In segments) s) (distinct_in_order point_cmp (flat_map by (pairs segments))) e (AllByRecursion-distinct_in_order point_cmp (IsMarked (In segments) s) (flat_map by (pairs segments)) each) k

pub IsMarked-marks_on : (placing : Placing) (segments : List WholeSegment) → IsTrue (are_ordered segments) → IsFalse (is_rounded segments) → (s : Pair) → In segments s → (e : Point) → IsMarked (In segments) s e → Has (marks_on placing segments s) e
unfolding marks_on
IsMarked-marks_on placing segments o h s i e (u, j, m) =
    Has-distinct_in_order point_cmp_total point_same (flat_map (λ t. marks_by placing s t) (pairs segments)) e
    (Has-flat_map (λ t. marks_by placing s t) (pairs segments) u e j (MarksAt-marks_by placing s u e (In-ordered segments o s i) (In-ordered segments o u j) (In-mark placing segments h s u i j) m))
