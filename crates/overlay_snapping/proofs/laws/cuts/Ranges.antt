-- The ends of segments in range, and the marks of a settling pass over them, are in range.
use Rattle.std.proofs.Common.{◌≡◌, sym, ap, subst, ⊎_elim, ℕ, ◌<◌, Bool, true, not, List, [], ◌∷◌, ◌++◌, map, filter, length, get_or, arith}
use Rattle.std.specs.Prelude.{pos, All, Contains, IsTrue, slice_index_or}
use Rattle.std.specs.List.{list_all}
use Rattle.std.specs.Ordering.{int_eq}
use Rattle.std.proofs.lemmas.Bool.{and_parts}
use Rattle.std.proofs.lemmas.List.{length-map, get_or-map}
use Rattle.std.proofs.lemmas.List.Elements.{All-contains, Contains-get_or}
use Rattle.overlay_geometry.specs.Points.{Point, Pair, turn, is_in_box, lies_on}
use Rattle.overlay_geometry.specs.PointOf.{point_of}
use Rattle.overlay_geometry.specs.Coordinates.{is_point_in_range, is_pair_in_range}
use Rattle.overlay_geometry.specs.InRange.{IsPointInRange, IsPairInRange}
use Rattle.overlay_geometry.proofs.laws.geometry.Points.{inside_parts}
use Rattle.overlay_geometry.proofs.laws.geometry.Coordinates.{pair_parts, pair_in_range, in_box_in_range}
use Rattle.overlay_geometry.proofs.laws.lists.Lists.{Has, Has-map, Has-map_out, Has-filter_out, list_all-from_Has, list_all-at}
use Rattle.overlay_geometry.proofs.laws.lists.Elements.{Contains-from_Has, Has-from_Contains, Has-append_out, Has-flat_map_out}
use Rattle.overlay_base.specs.Windings.{empty}
use Rattle.overlay_base.specs.Segments.{WholeSegment, ends}
use Rattle.overlay_base.specs.SegmentOf.{ends_of, x_segment_of, segment_of, segments_of, pairs_in}
use Rattle.overlay_base.specs.ArrangedOf.{AreInRange}
use Rattle.overlay_base.specs.declared.segm.segment.Segment.{Segment}
use Rattle.overlay_base.proofs.laws.geometry.Apart.{pairs-map}
use Rattle.overlay_intersections.specs.Marks.{settling}
use Rattle.overlay_intersections.specs.MarkOf.{Mark, mark_of, marks_of, mark_points_of, AreMarksOf}
use Rattle.overlay_intersections.specs.PassMarks.{marks_on}
use Rattle.overlay_intersections.specs.declared.split.line_mark.LineMark.{LineMark}
use Rattle.overlay_intersections.specs.declared.split.placing.Placing.TheVariants.{Settling}
use Rattle.overlay_intersections.proofs.laws.crossings.CrossingLaws.{points_lie_in_both_boxes}
use Rattle.overlay_snapping.specs.CutsOf.{AreMarksAt}
use Rattle.overlay_snapping.specs.steps.Cutting.{origin, lies_at, points_on, points_off}
use Rattle.overlay_snapping.proofs.laws.chains.MarkLists.{pair_at}
use Rattle.overlay_snapping.proofs.laws.chains.MarkPoints.{IsMarkBy, crosses, touches, mark_is_by}
use Rattle.overlay_snapping.proofs.laws.closure.Elements.{contained}
use Rattle.overlay_snapping.proofs.laws.cuts.Given.{mark_out, coded}

-- ---- a mark lies in the box of its segment

box_of_by : (s t : Pair) (c : Point) → IsMarkBy s t c → IsTrue (is_in_box s c)
unfolding lies_on
box_of_by s t c (crosses k same) = subst (λ (p : Point). IsTrue (is_in_box s p)) (sym same) (points_lie_in_both_boxes s t k).2
box_of_by s t c (touches h e) = (and_parts (int_eq (turn s.a s.b c) (pos 0)) (is_in_box s c) (inside_parts s c h).0).1

mark_in_box : (segments : List WholeSegment) (s : Pair) (c : Point) → Contains (marks_on settling segments s) c → IsTrue (is_in_box s c)
mark_in_box segments s c h = let r = mark_is_by segments s c (Has-from_Contains (marks_on settling segments s) c h) in box_of_by s r.0 c r.2

module _ {C I D : Type 0} {m : _} {w : _} {o : _} {e : _} {p : _} (segments : List (Segment C I D m w o e p)) (in_range : AreInRange segments) where
  abbrev is_inside : Point → Bool
  is_inside c = is_point_in_range (w.whole w.MIN_COORD) (w.whole w.MAX_COORD) c

  pair_inside : (s : Pair) → Contains (pairs_in segments) s → IsTrue (is_pair_in_range (w.whole w.MIN_COORD) (w.whole w.MAX_COORD) s)
  pair_inside s i =
      let there = subst (λ (l : List Pair). Contains l s) (pairs-map segments) i in
      let r = Has-map_out (λ t. ends_of t) segments s (Has-from_Contains (map (λ t. ends_of t) segments) s there) in
      subst (λ (t : Pair). IsTrue (is_pair_in_range (w.whole w.MIN_COORD) (w.whole w.MAX_COORD) t)) r.2
      (pair_in_range w.whole w.MIN_COORD w.MAX_COORD (x_segment_of r.0) (All-contains (λ (t : Segment C I D m w o e p). IsPairInRange w.whole w.MIN_COORD w.MAX_COORD (x_segment_of t)) segments r.0 in_range (Contains-from_Has segments r.0 r.1)))

  mark_inside : (s : Pair) (c : Point) → Contains (pairs_in segments) s → Contains (marks_on settling (segments_of segments) s) c → is_inside c ≡ true
  mark_inside s c i h = in_box_in_range (w.whole w.MIN_COORD) (w.whole w.MAX_COORD) s c (pair_inside s i) (mark_in_box (segments_of segments) s c h)

  end_inside : (c : Point) → Has (ends (pairs_in segments)) c → is_inside c ≡ true
  end_inside c i =
      let r = Has-flat_map_out (λ (s : Pair). s.a ∷ s.b ∷ []) (pairs_in segments) c i in
      let both = pair_parts (w.whole w.MIN_COORD) (w.whole w.MAX_COORD) r.0 (pair_inside r.0 (Contains-from_Has (pairs_in segments) r.0 r.1)) in
      ⊎_elim (λ e. subst (λ (q : Point). is_inside q ≡ true) e both.0) (λ j. ⊎_elim (λ e. subst (λ (q : Point). is_inside q ≡ true) e both.1) (λ n. absurd n) j) r.2

  -- ---- the marks of all

  module _ (marks : List (LineMark I)) (given : AreMarksOf Settling segments marks) where
    -- the indices of the marks
    pub marks_within : All (λ (n : LineMark I). n.index < length segments) marks
    marks_within k d inside =
        let long = length-map marks (mark_of w.whole) in
        let r = given.within k (mark_of w.whole d) (omega (arith, inside, long)) in
        let same : (get_or (marks_of w.whole marks) k (mark_of w.whole d)).index ≡ (get_or marks k d).index = ap (λ (n : Mark). n.index) (get_or-map (mark_of w.whole) marks k d (mark_of w.whole d) inside) in
        let all = length-map segments (λ s. segment_of s) in
        omega (arith, r, same, all)

    code_inside : (n : LineMark I) → Contains marks n → is_inside (point_of w.whole n.point) ≡ true
    code_inside n i =
        let r = mark_out (segments_of segments) (marks_of w.whole marks) given (mark_of w.whole n) (coded w.whole (segments_of segments) marks given n i) in
        mark_inside r.0 (point_of w.whole n.point) (contained (pairs_in segments) n.index r.0 r.1) r.2

    -- their points
    pub marks_in_range : All (λ (n : LineMark I). IsPointInRange w.whole w.MIN_COORD w.MAX_COORD n.point) marks
    marks_in_range k d inside = code_inside (get_or marks k d) (Contains-get_or marks k d inside)

    those_inside : (test : LineMark I → Bool) → list_all is_inside (map (λ (n : LineMark I). point_of w.whole n.point) (filter test marks)) ≡ true
    those_inside test = list_all-from_Has is_inside (map (λ (n : LineMark I). point_of w.whole n.point) (filter test marks)) each
      where
        each : (c : Point) → Has (map (λ (n : LineMark I). point_of w.whole n.point) (filter test marks)) c → is_inside c ≡ true
        each c h =
            let r = Has-map_out (λ (n : LineMark I). point_of w.whole n.point) (filter test marks) c h in
            subst (λ (q : Point). is_inside q ≡ true) r.2 (code_inside r.0 (Contains-from_Has marks r.0 (Has-filter_out test marks r.0 r.1).0))

    pub off_in_range : list_all is_inside (points_off w.whole (pairs_in segments) marks) ≡ true
    off_in_range = those_inside (λ n. not (lies_at (pairs_in segments) (mark_of w.whole n)))

    pub given_in_range : list_all is_inside (ends (pairs_in segments) ++ points_on w.whole (pairs_in segments) marks) ≡ true
    given_in_range = list_all-from_Has is_inside (ends (pairs_in segments) ++ points_on w.whole (pairs_in segments) marks) (λ c h. ⊎_elim (end_inside c) (on_inside c) (Has-append_out (ends (pairs_in segments)) (points_on w.whole (pairs_in segments) marks) c h))
      where
        on_inside : (c : Point) → Has (points_on w.whole (pairs_in segments) marks) c → is_inside c ≡ true
        on_inside c i = list_all-at is_inside (points_on w.whole (pairs_in segments) marks) c (those_inside (λ n. lies_at (pairs_in segments) (mark_of w.whole n))) i

  -- ---- the marks of one

  pub own_in_range : (index : ℕ) (own : List (LineMark I)) → index < length segments → AreMarksAt segments index own → All (λ (n : LineMark I). IsPointInRange w.whole w.MIN_COORD w.MAX_COORD n.point) own
  own_in_range index own within are k d inside =
      let long = length-map segments (λ s. segment_of s) in
      let there : WholeSegment = record { pair = record { a = origin; b = origin }; count = empty } in
      let s = (slice_index_or (segments_of segments) index there).pair in
      let n = get_or own k d in
      let point : Contains (mark_points_of w.whole own) (point_of w.whole n.point) = Contains-from_Has (mark_points_of w.whole own) (point_of w.whole n.point) (Has-map (λ (n : LineMark I). point_of w.whole n.point) own n (Has-from_Contains own n (Contains-get_or own k d inside))) in
      mark_inside s (point_of w.whole n.point) (pair_at (segments_of segments) index there (omega (arith, within, long))) (subst (λ (l : List Point). Contains l (point_of w.whole n.point)) (are there) point)
