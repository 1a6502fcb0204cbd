-- What the marks of a settling pass give to a closure: those that lie off the segments that they mark are the points to which crossings are
-- rounded, and the others, with the ends, have all ends and whole crossings.
use Rattle.std.proofs.Common.{◌≡◌, sym, ap, ap₂, subst, ◌∙◌, ◌⊎◌, inl, inr, ⊎_elim, ◌↔◌, ℕ, ◌<◌, Bool, true, not, List, ◌++◌, Some, length, get_or, arith}
use Rattle.std.specs.Prelude.{ℤ, Contains, IsTrue, slice_get}
use Rattle.std.proofs.lemmas.Bool.{not-true}
use Rattle.std.proofs.lemmas.List.{length-map, get_or-map}
use Rattle.std.proofs.lemmas.List.Elements.{All-contains, Contains-append_cases, Contains-append_left, Contains-append_right}
use Rattle.std.proofs.lemmas.Option.{slice_get_cases, slice_get-get_or, slice_get_within, get_or_from_slice_get}
use Rattle.overlay_geometry.specs.Points.{Point, Pair, lies_on}
use Rattle.overlay_geometry.specs.PointOf.{point_of}
use Rattle.overlay_geometry.proofs.laws.lists.Lists.{Has, Has-map, Has-map_out}
use Rattle.overlay_geometry.proofs.laws.lists.Elements.{Contains-from_Has, Has-from_Contains}
use Rattle.overlay_base.specs.Segments.{WholeSegment, pairs, ends, are_ordered}
use Rattle.overlay_intersections.specs.Marks.{settling}
use Rattle.overlay_intersections.specs.MarkOf.{Mark, mark_of, marks_of, AreMarks, points_at}
use Rattle.overlay_intersections.specs.PassMarks.{marks_on}
use Rattle.overlay_intersections.specs.declared.split.line_mark.LineMark.{LineMark}
use Rattle.overlay_intersections.proofs.laws.marks.MarkSets.{Has-points_at, Has-points_at_out}
use Rattle.overlay_snapping.specs.Chains.{rounded_crossings, whole_crossings, given_points, rounded, passed, IsChainPoint}
use Rattle.overlay_snapping.specs.steps.Closing.{IsInput}
use Rattle.overlay_snapping.specs.steps.Cutting.{origin, lies_at, points_on, points_off}
use Rattle.overlay_snapping.proofs.laws.chains.MarkPoints.{rounded_are_marks_off, chain_points_are_ends_and_marks}
use Rattle.overlay_snapping.proofs.laws.chains.GivenMarks.{given_is_end_or_mark}
use Rattle.overlay_snapping.proofs.laws.closure.Elements.{found_at, contained, one_element}
use Rattle.overlay_snapping.proofs.laws.cuts.Collected.{collected, Contains-collected, collected-Contains}

abbrev mark_at : ℕ → Point → Mark
mark_at index c = record { index = index; point = c }

module _ (segments : List WholeSegment) (marks : List Mark) (given : AreMarks settling segments marks) where
  segment_there : (index : ℕ) → index < length segments → (w : WholeSegment) × (get_or segments index w ≡ w)
  segment_there index h = ⊎_elim (λ r. (r.0, r.3)) (λ r. let l = r.0 in absurd (omega (arith, h, l))) (slice_get_cases segments index).1

  pair_there : (index : ℕ) (w : WholeSegment) → index < length segments → get_or segments index w ≡ w → slice_get (pairs segments) index ≡ Some w.pair
  pair_there index w h e =
      let long = length-map segments (λ (s : WholeSegment). s.pair) in
      slice_get-get_or (pairs segments) index w.pair (omega (arith, h, long)) ∙ ap (λ (s : Pair). Some s) (get_or-map (λ (s : WholeSegment). s.pair) segments index w w.pair h ∙ ap (λ (s : WholeSegment). s.pair) e)

  pub mark_out : (m : Mark) → Contains marks m → (s : Pair) × (slice_get (pairs segments) m.index ≡ Some s) × Contains (marks_on settling segments s) m.point
  mark_out m i =
      let h : m.index < length segments = All-contains (λ (n : Mark). n.index < length segments) marks m given.within i in
      let w = segment_there m.index h in
      let here : Has (points_at m.index marks) m.point = Has-points_at m.index marks m.point (Has-from_Contains marks m i) in
      let same : points_at m.index marks ≡ marks_on settling segments w.0.pair = given.each m.index w.0 h ∙ ap (λ (s : WholeSegment). marks_on settling segments s.pair) w.1 in
      (w.0.pair, pair_there m.index w.0 h w.1, subst (λ (l : List Point). Contains l m.point) same (Contains-from_Has (points_at m.index marks) m.point here))

  mark_in : (s : Pair) (c : Point) → Contains (pairs segments) s → Contains (marks_on settling segments s) c → (index : ℕ) × (slice_get (pairs segments) index ≡ Some s) × Contains marks (mark_at index c)
  mark_in s c i h =
      let at = found_at (pairs segments) s i in
      let long = length-map segments (λ (t : WholeSegment). t.pair) in
      let inside : at.0 < length segments = let l = slice_get_within (pairs segments) at.0 s at.1 in omega (arith, l, long) in
      let w = segment_there at.0 inside in
      let one : w.0.pair ≡ s = one_element (pairs segments) at.0 w.0.pair s (pair_there at.0 w.0 inside w.1) at.1 in
      let same : points_at at.0 marks ≡ marks_on settling segments s = given.each at.0 w.0 inside ∙ ap (λ (t : WholeSegment). marks_on settling segments t.pair) w.1 ∙ ap (λ (t : Pair). marks_on settling segments t) one in
      let r = Has-points_at_out at.0 marks c (Has-from_Contains (points_at at.0 marks) c (subst (λ (l : List Point). Contains l c) (sym same) h)) in
      (at.0, at.1, subst (λ (m : Mark). Contains marks m) (ap₂ mark_at r.2 r.3) (Contains-from_Has marks r.0 r.1))

module _ {I : Type 0} (whole : I → ℤ) (segments : List WholeSegment) (marks : List (LineMark I)) (given : AreMarks settling segments (marks_of whole marks)) where
  abbrev ps : List Pair
  ps = pairs segments

  pub coded : (m : LineMark I) → Contains marks m → Contains (marks_of whole marks) (mark_of whole m)
  coded m i = Contains-from_Has (marks_of whole marks) (mark_of whole m) (Has-map (mark_of whole) marks m (Has-from_Contains marks m i))

  -- the points of the marks that pass a test on whether they lie on their segments
  module _ (test : Bool → Bool) where
    abbrev those : List Point
    those = collected (λ (m : LineMark I). test (lies_at ps (mark_of whole m))) (λ m. point_of whole m.point) marks

    those_out : (c : Point) → Contains those c → (s : Pair) × Contains ps s × Contains (marks_on settling segments s) c × (test (lies_on s c) ≡ true)
    those_out c h =
        let r = Contains-collected (λ (m : LineMark I). test (lies_at ps (mark_of whole m))) (λ m. point_of whole m.point) marks c h in
        let k = mark_out segments (marks_of whole marks) given (mark_of whole r.0) (coded r.0 r.1) in
        let same : get_or ps r.0.index (record { a = origin; b = origin }) ≡ k.0 = get_or_from_slice_get ps r.0.index k.0 (record { a = origin; b = origin }) k.1 in (
          k.0,
          contained ps r.0.index k.0 k.1,
          subst (λ (q : Point). Contains (marks_on settling segments k.0) q) r.3 k.2,
          sym (ap₂ (λ (s : Pair) (q : Point). test (lies_on s q)) same r.3) ∙ r.2,
        )

    those_in : (s : Pair) (c : Point) → Contains ps s → Contains (marks_on settling segments s) c → test (lies_on s c) ≡ true → Contains those c
    those_in s c i h e =
        let k = mark_in segments (marks_of whole marks) given s c i h in
        let r = Has-map_out (mark_of whole) marks (mark_at k.0 c) (Has-from_Contains (marks_of whole marks) (mark_at k.0 c) k.2) in
        let tested : test (lies_at ps (mark_of whole r.0)) ≡ true =
        ap (λ (m : Mark). test (lies_at ps m)) r.2 ∙ ap (λ (t : Pair). test (lies_on t c)) (get_or_from_slice_get ps k.0 s (record { a = origin; b = origin }) k.1) ∙ e in
        subst (λ (q : Point). Contains those q) (ap (λ (m : Mark). m.point) r.2)
        (collected-Contains (λ (m : LineMark I). test (lies_at ps (mark_of whole m))) (λ m. point_of whole m.point) marks r.0 (Contains-from_Has marks r.0 r.1) tested)

  module _ (o : IsTrue (are_ordered segments)) where
    rounded_is : (c : Point) → Contains (points_off whole ps marks) c ↔ Contains (rounded_crossings ps) c
    rounded_is c = (
      λ h. let r = those_out not c h in (rounded_are_marks_off segments o c).1 (r.0, r.1, r.2, not-true (lies_on r.0 c) r.3),
      λ h. let r = (rounded_are_marks_off segments o c).0 h in those_in not r.0 c r.1 r.2 (ap not r.3),
    )

    given_or_rounded : (c : Point) → IsChainPoint ps c → Contains (given_points ps) c ⊎ Contains (rounded_crossings ps) c
    given_or_rounded c (inl (rounded h)) = inr h
    given_or_rounded c (inl (passed h m p)) = inl h
    given_or_rounded c (inr h) = inl h

    given_out : (c : Point) → Contains (ends ps ++ points_on whole ps marks) c → Contains (given_points ps) c ⊎ Contains (rounded_crossings ps) c
    given_out c h =
        ⊎_elim
        (λ i. inl (Contains-append_left (ends ps) (whole_crossings ps) c i))
        (λ i. let r = those_out (λ b. b) c i in given_or_rounded c ((chain_points_are_ends_and_marks segments o c).1 (inr (r.0, r.1, r.2))))
        (Contains-append_cases (ends ps) (points_on whole ps marks) c h)

    given_in : (c : Point) → Contains (given_points ps) c → Contains (ends ps ++ points_on whole ps marks) c
    given_in c h =
        ⊎_elim
        (λ i. Contains-append_left (ends ps) (points_on whole ps marks) c i)
        (λ r. Contains-append_right (ends ps) (points_on whole ps marks) c (those_in (λ b. b) r.0 c r.1 r.2 r.3))
        (given_is_end_or_mark segments o c h)

    -- what a closure takes
    pub input : (off on : List Point) → ((c : Point) → Contains off c ↔ Contains (points_off whole ps marks) c) → ((c : Point) → Contains on c ↔ Contains (ends ps ++ points_on whole ps marks) c) → IsInput ps off on
    input off on f g = record {
      rounded_are = λ c. (λ i. (rounded_is c).0 ((f c).0 i), λ i. (f c).1 ((rounded_is c).1 i));
      given_are = λ c i. given_out c ((g c).0 i);
      all_given = λ c i. (g c).1 (given_in c i);
    }
