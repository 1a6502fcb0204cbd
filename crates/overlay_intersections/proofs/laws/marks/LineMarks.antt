-- Marks as code sorts them and drops repeats.
use Rattle.std.proofs.Common.{◌≡◌, sym, ap₂, subst, ◌∙◌, ℕ, ◌==◌, Bool, true, ◌&&◌, List, [], map, Ordering}
use Rattle.std.specs.Prelude.{ℤ, IsPermutation, IsSorted}
use Rattle.std.specs.List.{dedup}
use Rattle.std.specs.List.Retain.{IsFiltered, DiffersFromLast}
use Rattle.std.specs.List.Sorted.{IsStrictlySortedBy}
use Rattle.std.specs.Ordering.{nat_cmp, int_cmp, eq_by_cmp}
use Rattle.std.proofs.lemmas.Cmp.{on_total}
use Rattle.std.specs.Cmp.{unsigned_ties}
use Rattle.std.proofs.lemmas.Bool.{and_parts, eqb-true}
use Rattle.std.proofs.lemmas.List.Filters.{dedup_is}
use Rattle.std.proofs.lemmas.List.Kept.{IsStrictlySortedBy-dedup}
use Rattle.std.proofs.lemmas.List.Sorted.{IsPermutation-sym}
use Rattle.overlay_geometry.specs.Points.{Point, point_cmp}
use Rattle.overlay_base.specs.Segments.{WholeSegment, pairs}
use Rattle.overlay_geometry.proofs.laws.lists.Lists.{Has}
use Rattle.overlay_geometry.proofs.laws.geometry.Points.{same_by_eq}
use Rattle.overlay_geometry.proofs.laws.lists.Elements.{IsStrictlySortedBy-map, Has-permutation, Has-dedup, Has-dedup_out}
use Rattle.overlay_intersections.specs.declared.split.line_mark.LineMark.{LineMark}
use Rattle.overlay_intersections.specs.Marks.{Placing}
use Rattle.overlay_intersections.specs.MarkOf.{Mark, mark_of, marks_of, AreMarks, mark_cmp}
use Rattle.overlay_intersections.specs.MarksBetween.{marks_of_each}
use Rattle.overlay_intersections.proofs.laws.marks.Comparisons.{same_points}
use Rattle.overlay_geometry.proofs.laws.geometry.Points.{is_eq-then}
use Rattle.overlay_intersections.proofs.laws.marks.MarkSets.{mark_cmp_total}
use Rattle.overlay_intersections.proofs.laws.marks.FoundEach.{AreMarks-from_found}

-- marks are equal by their indexes and coordinates
abbrev pub line_eq : {I : Type 0} → (I → I → Bool) → LineMark I → LineMark I → Bool
line_eq eq m n = m.index == n.index && (eq m.point.x n.point.x && eq m.point.y n.point.y)

module _ {I : Type 0} (eq : I → I → Bool) (cmp : I → I → Ordering) (whole : I → ℤ) (e : (a b : I) → eq a b ≡ eq_by_cmp cmp a b) (o : (a b : I) → cmp a b ≡ int_cmp (whole a) (whole b)) where
  abbrev by_mark : LineMark I → LineMark I → Ordering
  by_mark m n = mark_cmp (mark_of whole m) (mark_of whole n)

  line_eq-ties : (m n : LineMark I) → line_eq eq m n ≡ eq_by_cmp by_mark m n
  line_eq-ties m n =
      ap₂ (λ (a b : Bool). a && b) (unsigned_ties m.index n.index) (same_points eq cmp whole e o m.point n.point)
      ∙ sym (is_eq-then (nat_cmp m.index n.index) (point_cmp (mark_of whole m).point (mark_of whole n).point))

  line_eq-same : (m n : LineMark I) → line_eq eq m n ≡ true → mark_of whole m ≡ mark_of whole n
  line_eq-same m n h =
      let parts = and_parts (m.index == n.index) (eq m.point.x n.point.x && eq m.point.y n.point.y) h in
      let points = same_by_eq (mark_of whole m).point (mark_of whole n).point (sym (same_points eq cmp whole e o m.point n.point) ∙ parts.1) in
      ap₂ (λ (i : ℕ) (p : Point). let made : Mark = record { index = i; point = p } in made) (eqb-true m.index n.index parts.0) points

  -- what has the elements of what was found, sorted and without repeats, are the marks of the pass
  pub AreMarks-from_elements : (placing : Placing) (segments : List WholeSegment) (xs ys zs : List (LineMark I)) →
      ((m : Mark) → Has (marks_of whole xs) m → Has (marks_of_each placing 0 (pairs segments)) m) → ((m : Mark) → Has (marks_of_each placing 0 (pairs segments)) m → Has (marks_of whole xs) m) →
      IsPermutation xs ys → IsSorted by_mark ys → IsFiltered (DiffersFromLast (line_eq eq)) [] ys zs → AreMarks placing segments (marks_of whole zs)
  AreMarks-from_elements placing segments xs ys zs sound complete p s d =
      let is : zs ≡ dedup (line_eq eq) ys = dedup_is (line_eq eq) ys zs d in
      AreMarks-from_found placing segments (marks_of whole zs) (record {
        in_order = IsStrictlySortedBy-map (mark_of whole) mark_cmp zs (subst (λ (ls : List (LineMark I)). IsStrictlySortedBy by_mark ls) (sym is) (IsStrictlySortedBy-dedup (on_total (mark_of whole) mark_cmp_total) line_eq-ties ys s));
        sound = λ m h. sound m
            (Has-permutation (mark_of whole) ys xs (IsPermutation-sym xs ys p) m (Has-dedup_out (mark_of whole) (line_eq eq) ys m (subst (λ (ls : List (LineMark I)). Has (map (mark_of whole) ls) m) is h)));
        complete = λ m h. subst (λ (ls : List (LineMark I)). Has (map (mark_of whole) ls) m) (sym is)
            (Has-dedup (mark_of whole) (line_eq eq) line_eq-same ys m (Has-permutation (mark_of whole) xs ys p m (complete m h)));
      })

  -- so is what was found itself
  pub AreMarks-from_sorted : (placing : Placing) (segments : List WholeSegment) (xs ys zs : List (LineMark I)) → marks_of whole xs ≡ marks_of_each placing 0 (pairs segments) →
      IsPermutation xs ys → IsSorted by_mark ys → IsFiltered (DiffersFromLast (line_eq eq)) [] ys zs → AreMarks placing segments (marks_of whole zs)
  AreMarks-from_sorted placing segments xs ys zs found p s d =
      AreMarks-from_elements placing segments xs ys zs (λ m h. subst (λ (ms : List Mark). Has ms m) found h) (λ m h. subst (λ (ms : List Mark). Has ms m) (sym found) h) p s d
