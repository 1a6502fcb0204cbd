-- What is found over the part of a list of code that is near rectangles, as what is found over the list.
use Rattle.std.proofs.Common.{◌≡◌, sym, ap, subst, ◌∙◌, arith, ℕ, ◌<◌, ◌≤◌, List, map, filter, length}
use Rattle.std.specs.Prelude.{All, IsSortedByKey, Option}
use Rattle.std.proofs.lemmas.List.{get_or-map, length-map}
use Rattle.std.proofs.lemmas.List.Elements.{All-filter}
use Rattle.overlay_geometry.specs.Points.{pair_cmp}
use Rattle.overlay_geometry.specs.Ranges.{Rect}
use Rattle.overlay_base.specs.ArrangedOf.{AreInRange}
use Rattle.overlay_geometry.specs.InRange.{IsPairInRange}
use Rattle.overlay_base.specs.SegmentOf.{x_segment_of, ends_of, segments_of, pairs_in}
use Rattle.overlay_base.specs.declared.segm.segment.Segment.{Segment}
use Rattle.overlay_grid.specs.Grid.{Layout, LieInside}
use Rattle.overlay_intersections.specs.Looked.{list_looks}
use Rattle.overlay_intersections.specs.MarkOf.{Mark, mark_of, marks_of, AreMarks}
use Rattle.overlay_intersections.specs.Marks.{Placing}
use Rattle.overlay_intersections.specs.PassMarks.{is_rounded}
use Rattle.overlay_intersections.specs.declared.split.line_mark.LineMark.{LineMark}
use Rattle.overlay_cuts.specs.PassLooks.{wide_looks}
use Rattle.overlay_split.specs.steps.ChangedBoxes.{is_near, near_from, renamed, AreApartElsewhere}
use Rattle.overlay_split.proofs.laws.passes.PartLooks.{list_looks-part, wide_looks-part}
use Rattle.overlay_split.proofs.laws.passes.PartMarks.{marks_of_part, part_size}
use Rattle.overlay_split.proofs.laws.passes.PartSteps.{part_sorted, part_segments, part_pairs, part_inside}
use Rattle.overlay_split.proofs.laws.passes.UnmarkedPairs.{part_has_the_marks}

module _ {C I D : Type 0} {m : _} {w : _} {o : _} {e : _} {p : _} (rects : List Rect) (xs found : List (Segment C I D m w o e p)) (same : found ≡ filter (λ s. is_near rects (ends_of s)) xs) where
  found_segments : segments_of found ≡ filter (λ u. is_near rects u.pair) (segments_of xs)
  found_segments = ap (λ l. segments_of l) same ∙ part_segments (is_near rects) xs

  found_pairs : pairs_in found ≡ filter (is_near rects) (pairs_in xs)
  found_pairs = ap (λ l. pairs_in l) same ∙ part_pairs (is_near rects) xs

  pub found_sorted : IsSortedByKey ends_of pair_cmp xs → IsSortedByKey ends_of pair_cmp found
  found_sorted h = subst (λ l. IsSortedByKey ends_of pair_cmp l) (sym same) (part_sorted (λ s. is_near rects (ends_of s)) xs h)

  pub found_in_range : AreInRange xs → AreInRange found
  found_in_range h = subst (λ l. AreInRange l) (sym same) (All-filter (λ s. is_near rects (ends_of s)) (λ s. IsPairInRange w.whole w.MIN_COORD w.MAX_COORD (x_segment_of s)) xs h)

  pub found_inside : (grid : Option Layout) → LieInside grid (pairs_in xs) → LieInside grid (pairs_in found)
  found_inside grid h = subst (LieInside grid) (sym found_pairs) (part_inside grid (is_near rects) (pairs_in xs) h)

  pub found_listed : list_looks (pairs_in found) ≤ list_looks (pairs_in xs)
  found_listed = subst (λ ps. list_looks ps ≤ list_looks (pairs_in xs)) (sym found_pairs) (list_looks-part (is_near rects) (pairs_in xs))

  pub found_looks : (grid : Option Layout) → wide_looks grid (pairs_in found) ≤ wide_looks grid (pairs_in xs)
  found_looks grid = subst (λ ps. wide_looks grid ps ≤ wide_looks grid (pairs_in xs)) (sym found_pairs) (wide_looks-part (is_near rects) (pairs_in xs) grid)

  module _ (placing : Placing) (apart : AreApartElsewhere rects (pairs_in xs)) where
    pub found_rounded : is_rounded (segments_of found) ≡ is_rounded (segments_of xs)
    found_rounded = ap is_rounded found_segments ∙ sym (part_has_the_marks placing (segments_of xs) (is_near rects) apart).1

    found_are : (ms : List Mark) → AreMarks placing (segments_of found) ms → AreMarks placing (filter (λ u. is_near rects u.pair) (segments_of xs)) ms
    found_are ms are = subst (λ l. AreMarks placing l ms) found_segments are

    pub found_marks : (ms : List Mark) (indexes : List ℕ) → indexes ≡ near_from rects 0 (pairs_in xs) → AreMarks placing (segments_of found) ms → AreMarks placing (segments_of xs) (map (renamed indexes) ms)
    found_marks ms indexes at are = subst (λ l. AreMarks placing (segments_of xs) (map (renamed l) ms)) (sym at) (marks_of_part placing (segments_of xs) rects apart ms (found_are ms are))

    pub found_within : (marks : List (LineMark I)) (indexes : List ℕ) → indexes ≡ near_from rects 0 (pairs_in xs) → AreMarks placing (segments_of found) (marks_of w.whole marks) → All (λ n. n.index < length indexes) marks
    found_within marks indexes at are k d lt =
        let size = length-map marks (mark_of w.whole) in
        let here = (found_are (marks_of w.whole marks) are).within k (mark_of w.whole d) (omega (arith, lt, size)) in
        let read = get_or-map (mark_of w.whole) marks k d (mark_of w.whole d) lt in
        let one = subst (λ n. n.index < length (filter (λ u. is_near rects u.pair) (segments_of xs))) read here in
        let many = ap length at ∙ part_size placing (segments_of xs) rects apart in
        omega (arith, one, many)
