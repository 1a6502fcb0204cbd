-- A pair of a pass is an old one that the pass does not mark, or it has an end at a mark.
use Rattle.std.proofs.Common.{◌≡◌, ap, refl, sym, subst, ◌∙◌, inl, inr, IsTrue, List, [], ◌∷◌, arith, length}
use Rattle.std.specs.Prelude.{◌⊎◌, reverse, Contains}
use Rattle.std.specs.List.{AllByRecursion}
use Rattle.std.proofs.lemmas.Bool.{cond_both}
use Rattle.std.proofs.lemmas.List.{length-reverse}
use Rattle.overlay_geometry.specs.Points.{Point, Pair, point_cmp, point_lt}
use Rattle.overlay_geometry.proofs.laws.lists.Lists.{Has, Has-map, Steps, AllByRecursion-weaker, AllByRecursion-at, AllByRecursion-map, AllByRecursion_left, AllByRecursion_right, AllByRecursion-reverse, AllByRecursion-from_Has}
use Rattle.overlay_geometry.proofs.laws.lists.Keys.{AllByRecursion-distinct_in_order}
use Rattle.overlay_geometry.proofs.laws.lists.Elements.{Contains-from_Has, Has-from_Contains}
use Rattle.overlay_base.specs.Windings.{Winding}
use Rattle.overlay_base.specs.Segments.{WholeSegment, pairs, is_map}
use Rattle.overlay_base.proofs.laws.joins.Maps.{are_ordered-map}
use Rattle.overlay_intersections.specs.Marks.{Placing}
use Rattle.overlay_intersections.specs.PassMarks.{marks_on}
use Rattle.overlay_cuts.specs.Path.{columns_of, next_point, last_point, column_path, path_from, path, piece, pieces_along, pieces}
use Rattle.overlay_cuts.specs.Pass.{pieces_of, cut, pass}
use Rattle.overlay_split.specs.Laws.{IsAtMark, PassHasOldOrMarked}
use Rattle.overlay_cuts.proofs.laws.paths.Paths.{all_of, AreColumns, AreColumns-columns_of, all_of-columns_of, Steps-append, last_point_has, column_path_has}
use Rattle.overlay_cuts.proofs.laws.paths.Cuts.{AllByRecursion-cut, AllByRecursion-join}
use Rattle.overlay_cuts.proofs.laws.planar.Unmarked.{pieces_unmarked}
use Rattle.overlay_cuts.proofs.laws.planar.ExactMarks.{In-ordered}
use Rattle.overlay_split.proofs.laws.passes.UnmarkedPairs.{none_distinct}

-- ---- each step of a path has an end at a mark, where there is one

not_empty_reversed : {X : Type 0} (x : X) (xs : List X) → reverse (x ∷ xs) ≡ [] → ⊥
not_empty_reversed x xs e = let size = length-reverse (x ∷ xs) in let none = ap (λ l. length l) e in absurd (omega (arith, size, none))

module _ (M : Point → Type 0) where
  abbrev AtMark : Point → Point → Type 0
  AtMark p q = M p ⊎ M q

  row_steps : (p : Point) (points : List Point) → AllByRecursion M points → Steps AtMark p points
  row_steps p [] h = tt
  row_steps p (q ∷ points) h = (inr h.0, row_steps q points h.1)

  last_of : (p : Point) (points : List Point) → (points ≡ [] → ⊥) → AllByRecursion M points → M (last_point p points)
  unfolding last_point
  last_of p [] some h = absurd (some refl)
  last_of p (q ∷ points) some h = last_point_has M q points h.0 h.1

  path_steps : (columns : List (List Point)) (p b : Point) → AreColumns columns → AllByRecursion M (all_of columns) → M p ⊎ (columns ≡ [] → ⊥) → Steps AtMark p (path_from p columns b)
  unfolding path_from
  path_steps [] p b are h (inl m) = (inl m, tt)
  path_steps [] p b are h (inr some) = absurd (some refl)
  path_steps ([] ∷ columns) p b are h start = absurd are
  path_steps ((q ∷ column) ∷ columns) p b are h start =
      let next = next_point columns b in
      let each = AllByRecursion_left M (q ∷ column) (all_of columns) h in
      let points = column_path p (q ∷ column) next in
      let all : AllByRecursion M points = column_path_has (AllByRecursion M) p (q ∷ column) next each (AllByRecursion-reverse M (q ∷ column) each) in
      let some : points ≡ [] → ⊥ = column_path_has (λ l. l ≡ [] → ⊥) p (q ∷ column) next (λ e. cc) (not_empty_reversed q column) in
      Steps-append AtMark p points (path_from (last_point p points) columns b) (row_steps p points all)
      (path_steps columns (last_point p points) b are.2 (AllByRecursion_right M (q ∷ column) (all_of columns) h) (inl (last_of p points some all)))

  abbrev EndsAtMark : Pair → Type 0
  EndsAtMark s = M s.a ⊎ M s.b

  piece_at : (count : Winding) (p q : Point) → AtMark p q → EndsAtMark (piece count p q).pair
  unfolding piece
  piece_at count p q h = cond_both (point_lt p q) _ _ (λ (s : WholeSegment). EndsAtMark s.pair) (λ e. h) (λ e. turned h)
    where
      turned : AtMark p q → M q ⊎ M p
      turned (inl m) = inr m
      turned (inr m) = inl m

  pieces_at : (count : Winding) (p : Point) (points : List Point) → Steps AtMark p points → AllByRecursion (λ s. EndsAtMark s.pair) (pieces_along count (p ∷ points))
  unfolding pieces_along
  pieces_at count p [] h = tt
  pieces_at count p (q ∷ points) h = (piece_at count p q h.0, pieces_at count q points h.1)

  pub pieces_end_at_marks : (s : WholeSegment) (marks : List Point) → (marks ≡ [] → ⊥) → AllByRecursion M marks → AllByRecursion (λ r. EndsAtMark r.pair) (pieces s marks)
  unfolding pieces path
  pieces_end_at_marks s marks some h =
      pieces_at s.count s.pair.a (path_from s.pair.a (columns_of marks) s.pair.b)
      (path_steps (columns_of marks) s.pair.a s.pair.b (AreColumns-columns_of marks)
      (subst (AllByRecursion M) (sym (all_of-columns_of marks)) (AllByRecursion-distinct_in_order point_cmp M marks h))
      (inr (λ e. some (no_marks e))))
    where
      no_marks : columns_of marks ≡ [] → marks ≡ []
      no_marks e = none_distinct marks (sym (all_of-columns_of marks) ∙ ap all_of e)

-- ---- the pairs of a pass

module _ (placing : Placing) (segments : List WholeSegment) (map : IsTrue (is_map segments)) where
  abbrev OldOrMarked : Pair → Type 0
  OldOrMarked p = (Contains (pairs segments) p × (marks_on placing segments p ≡ [])) ⊎ IsAtMark placing segments p

  of_segment : (s : WholeSegment) → Has segments s → AllByRecursion (λ r. OldOrMarked r.pair) (pieces_of placing segments s)
  of_segment s i = by_marks (marks_on placing segments s.pair) refl
    where
      within : Has (pairs segments) s.pair
      within = Has-map (λ (u : WholeSegment). u.pair) segments s i

      by_marks : (marks : List Point) → marks_on placing segments s.pair ≡ marks → AllByRecursion (λ r. OldOrMarked r.pair) (pieces s (marks_on placing segments s.pair))
      by_marks [] e =
          subst (AllByRecursion (λ r. OldOrMarked r.pair)) (sym (ap (pieces s) e ∙ pieces_unmarked s (In-ordered segments (are_ordered-map segments map) s.pair within)))
          (inl (Contains-from_Has (pairs segments) s.pair within, e), tt)
      by_marks (m ∷ marks) e =
          AllByRecursion-weaker (λ r. EndsAtMark (λ p. Contains (marks_on placing segments s.pair) p) r.pair) (λ r. OldOrMarked r.pair)
          (λ r h. inr (s.pair, Contains-from_Has (pairs segments) s.pair within, h)) (pieces s (marks_on placing segments s.pair))
          (pieces_end_at_marks (λ p. Contains (marks_on placing segments s.pair) p) s (marks_on placing segments s.pair) (λ none. absurd (let f : m ∷ marks ≡ [] = sym e ∙ none in cc))
          (AllByRecursion-from_Has (λ p. Contains (marks_on placing segments s.pair) p) (marks_on placing segments s.pair) (λ p j. Contains-from_Has (marks_on placing segments s.pair) p j)))

  all_old_or_marked : AllByRecursion (λ s. OldOrMarked s.pair) (pass placing segments)
  unfolding pass
  all_old_or_marked = AllByRecursion-join OldOrMarked (cut placing segments) (AllByRecursion-cut (λ r. OldOrMarked r.pair) (marks_on placing segments) segments (AllByRecursion-from_Has (λ s. AllByRecursion (λ r. OldOrMarked r.pair) (pieces_of placing segments s)) segments of_segment))

pub pass_has_old_or_marked : PassHasOldOrMarked
pass_has_old_or_marked placing segments map p i =
    AllByRecursion-at (OldOrMarked placing segments map) (pairs (pass placing segments)) p
    (AllByRecursion-map (OldOrMarked placing segments map) (λ (s : WholeSegment). s.pair) (pass placing segments) (all_old_or_marked placing segments map))
    (Has-from_Contains (pairs (pass placing segments)) p i)
