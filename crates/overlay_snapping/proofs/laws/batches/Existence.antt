-- Where the hot points are known, a function names the points at which each segment is cut.
use Rattle.std.proofs.Common.{◌≤◌, ◌<◌, ℕ, arith, [], length, ◌∷◌, ⊎_elim, refl, Bool, not, ◌&&◌, IsTrue, List, ◌++◌, filter}
use Rattle.std.specs.Prelude.{Contains, slice_index_or}
use Rattle.std.proofs.lemmas.Bool.{and_parts, and_from, not-true}
use Rattle.overlay_geometry.specs.Points.{Point, Pair, point_cmp, is_end, lies_on}
use Rattle.overlay_geometry.specs.Sorting.{distinct_in_order}
use Rattle.overlay_geometry.proofs.laws.geometry.Points.{point_cmp_total, point_same}
use Rattle.overlay_geometry.proofs.laws.lists.Elements.{Contains-from_Has, Has-from_Contains, Has-append_out}
use Rattle.overlay_geometry.proofs.laws.lists.Keys.{AllByRecursion-distinct_in_order, Has-distinct_in_order, IsStrictlySortedBy-distinct, is_strictly_sorted-from}
use Rattle.overlay_geometry.proofs.laws.lists.Lists.{Has, AllByRecursion-at, AllByRecursion-from_Has, Has-append_left, Has-append_right, Has-filter, Has-filter_out}
use Rattle.overlay_base.specs.Segments.{WholeSegment, pairs, are_ordered}
use Rattle.overlay_base.specs.Windings.{empty}
use Rattle.overlay_intersections.specs.MarkOf.{Mark, points_at}
use Rattle.overlay_intersections.specs.Marks.{settling}
use Rattle.overlay_intersections.specs.PassMarks.{marks_on}
use Rattle.overlay_snapping.specs.Chains.{AreSnapCuts, AreDecided}
use Rattle.overlay_snapping.specs.HotOf.{AreHotPoints, KnowsHot}
use Rattle.overlay_snapping.specs.Pixels.{meets_pixel}
use Rattle.overlay_snapping.specs.PointFinderOf.{points_in}
use Rattle.overlay_snapping.specs.declared.snap.cut_finder.CutFinder.{CutFinder}
use Rattle.overlay_snapping.specs.steps.Batches.{HasCut}
use Rattle.overlay_snapping.proofs.laws.cuts.Added.{AreCutsBelow}
use Rattle.overlay_snapping.proofs.laws.chains.MarkLists.{own_point, pair_at}
use Rattle.overlay_snapping.proofs.laws.chains.HotCuts.{IsFoundCut, marked, met, found_is_cut, cut_is_found}

module _ (segments : List WholeSegment) (o : IsTrue (are_ordered segments)) (points : List Point) (hot : AreHotPoints (pairs segments) points) (decided : AreDecided segments) where
  abbrev is_met : Pair → Point → Bool
  is_met s c = meets_pixel s c && not (is_end s c)

  -- the marks that lie on a segment, and the hot points that it meets
  candidates : Pair → List Point
  candidates s = filter (lies_on s) (marks_on settling segments s) ++ filter (is_met s) points

  named : Pair → List Point
  named s = distinct_in_order point_cmp (candidates s)

  module _ (s : Pair) (i : Contains (pairs segments) s) (c : Point) where
    out : Has (named s) c → IsFoundCut segments s c
    unfolding named candidates
    out h = ⊎_elim mark hot_point (Has-append_out (filter (lies_on s) (marks_on settling segments s)) (filter (is_met s) points) c there)
      where
        there : Has (candidates s) c
        there = AllByRecursion-at (λ q. Has (candidates s) q) (named s) c (AllByRecursion-distinct_in_order point_cmp (λ q. Has (candidates s) q) (candidates s) (AllByRecursion-from_Has (λ q. Has (candidates s) q) (candidates s) (λ q j. j))) h

        mark : Has (filter (lies_on s) (marks_on settling segments s)) c → IsFoundCut segments s c
        mark j = let r = Has-filter_out (lies_on s) (marks_on settling segments s) c j in marked (Contains-from_Has (marks_on settling segments s) c r.0) r.1

        hot_point : Has (filter (is_met s) points) c → IsFoundCut segments s c
        hot_point j =
            let r = Has-filter_out (is_met s) points c j in
            let both = and_parts (meets_pixel s c) (not (is_end s c)) r.1 in
            met ((hot c).0 (Contains-from_Has points c r.0)) both.0 (not-true (is_end s c) both.1)

    back : IsFoundCut segments s c → Has (named s) c
    unfolding named candidates
    back f = Has-distinct_in_order point_cmp_total point_same (candidates s) c (by f)
      where
        by : IsFoundCut segments s c → Has (candidates s) c
        by (marked m on) = Has-append_left (filter (lies_on s) (marks_on settling segments s)) (filter (is_met s) points) c (Has-filter (lies_on s) (marks_on settling segments s) c (Has-from_Contains (marks_on settling segments s) c m) on)
        by (met t k n) = Has-append_right (filter (lies_on s) (marks_on settling segments s)) (filter (is_met s) points) c (Has-filter (is_met s) points c (Has-from_Contains points c ((hot c).1 t)) (and_from (meets_pixel s c) (not (is_end s c)) k (rw n refl)))

  snap_cuts : AreSnapCuts segments named
  unfolding named
  snap_cuts s i = record {
    in_order = is_strictly_sorted-from point_cmp_total (named s) (IsStrictlySortedBy-distinct point_cmp_total (candidates s));
    complete = λ c. (
      λ h. found_is_cut segments o s i (decided s i) c (out s i c (Has-from_Contains (named s) c h)),
      λ h. Contains-from_Has (named s) c (back s i c (cut_is_found segments o s i c h.0 h.1)),
    );
  }

pub cuts_exist : {I : Type 0} {w : _} {o : _} {e : _} {p : _} (segments : List WholeSegment) → IsTrue (are_ordered segments) → (finder : CutFinder I w o e p) → KnowsHot segments finder → (on : Pair → List Point) × AreSnapCuts segments on
cuts_exist segments o finder known = (named segments o (points_in finder.hot) known.hot known.decided, snap_cuts segments o (points_in finder.hot) known.hot known.decided)

-- ---- some of the cuts

first_cut : (segments : List WholeSegment) (n : ℕ) (mark : Mark) (marks : List Mark) → n ≤ length segments → AreCutsBelow segments n (mark ∷ marks) → HasCut segments
first_cut segments n mark marks le h =
    let s = slice_index_or segments mark.index (record { pair = record { a = mark.point; b = mark.point }; count = empty }) in
    let inside = h.below.0 in
    let cut = ((h.each mark.index _ h.below.0).complete mark.point).0 (Contains-from_Has (points_at mark.index (mark ∷ marks)) mark.point (own_point mark marks)) in
    (s.pair, mark.point, pair_at segments mark.index _ (omega (arith, le, inside)), cut.0, cut.1)

-- where cuts of the first segments are listed, some segment is cut
pub some_cut : (segments : List WholeSegment) (n : ℕ) (marks : List Mark) → n ≤ length segments → 0 < length marks → AreCutsBelow segments n marks → HasCut segments
some_cut segments n [] le some h = absurd (omega (arith, some))
some_cut segments n (mark ∷ marks) le some h = first_cut segments n mark marks le h
