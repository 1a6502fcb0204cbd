-- One turn of the walk over segments of code: the cuts of one more segment, its pieces, and the join of what is held.
use Rattle.std.proofs.Common.{◌≡◌, ◌∙◌, refl, sym, ap, subst, arith, ℕ, ◌+◌, ◌<◌, ◌^◌, true, IsTrue, IsFalse, List, [], ◌∷◌, ◌++◌, take, length, get_or}
use Rattle.std.specs.Prelude.{All, Contains, nat_lt}
use Rattle.std.specs.List.{AllByRecursion, list_all}
use Rattle.std.proofs.lemmas.Bool.{and_parts, and_from, both_ways}
use Rattle.std.proofs.lemmas.List.{length-map, take_more}
use Rattle.std.proofs.lemmas.List.Elements.{All-from_recursion, recursion_from_All}
use Rattle.std.proofs.lemmas.List.Sums.{sum_by-take-le}
use Rattle.overlay_geometry.specs.Points.{Point, point_cmp, is_end}
use Rattle.overlay_geometry.specs.Sorting.{is_strictly_sorted}
use Rattle.overlay_geometry.proofs.laws.lists.Elements.{Contains-from_Has}
use Rattle.overlay_geometry.proofs.laws.lists.Lists.{AllByRecursion-from_Has, list_all-and}
use Rattle.overlay_base.specs.Join.{join, join_leaves_range}
use Rattle.overlay_base.specs.SegmentOf.{ends_of, winding_of, segment_of, segments_of}
use Rattle.overlay_base.specs.Segments.{WholeSegment, pairs, are_ordered}
use Rattle.overlay_base.specs.Windings.{is_count_in_range, is_valid}
use Rattle.overlay_base.specs.declared.segm.fault.Fault.{Fault}
use Rattle.overlay_base.specs.declared.segm.fault.Fault.TheVariants.{Memory, CountOutOfRange}
use Rattle.overlay_base.specs.declared.segm.segment.Segment.{Segment}
use Rattle.overlay_base.specs.steps.Early.{magnitude, magnitudes}
use Rattle.overlay_base.proofs.laws.joins.Members.{masks-join, counts_in_range-join}
use Rattle.overlay_intersections.specs.MarkOf.{mark_points_of}
use Rattle.overlay_intersections.specs.declared.split.line_mark.LineMark.{LineMark}
use Rattle.overlay_cuts.specs.Path.{pieces}
use Rattle.overlay_snapping.specs.Chains.{AreCutsBetween, AreDecided}
use Rattle.overlay_snapping.specs.CutsOf.{AreCutsAt}
use Rattle.overlay_snapping.specs.steps.Batches.{IsCutSoFar, HasCuts, ForCuts}
use Rattle.overlay_snapping.proofs.laws.batches.CutLists.{cuts_are_few}
use Rattle.overlay_snapping.proofs.laws.batches.Walks.{AreFew, one_more, held_fits}
use Rattle.overlay_snapping.proofs.laws.chains.MarkLists.{same_cuts, pair_at}
use Rattle.overlay_snapping.proofs.laws.cuts.Reads.{read_mapped}

-- ---- one more segment

module _ {C I D : Type 0} {m : _} {w : _} {o : _} {e : _} {p : _} (xs : List (Segment C I D m w o e p)) (index : ℕ) (s : Segment C I D m w o e p) (lt : index < length xs) (is : s ≡ get_or xs index s) (cuts : List (LineMark I)) (at : AreCutsAt xs index cuts) where
  abbrev segments : List WholeSegment
  segments = segments_of xs

  abbrev marks : List Point
  marks = mark_points_of w.whole cuts

  here : get_or segments index (segment_of s) ≡ segment_of s
  here = read_mapped (λ t. segment_of t) xs index s (segment_of s) lt is

  inside : index < length segments
  inside = let long = length-map xs (λ t. segment_of t) in omega (arith, lt, long)

  there : Contains (pairs segments) (ends_of s)
  there = subst (λ (t : WholeSegment). Contains (pairs segments) t.pair) here (pair_at segments index (segment_of s) inside)

  between : AreCutsBetween (pairs segments) (ends_of s) marks
  between = subst (λ (t : WholeSegment). AreCutsBetween (pairs segments) t.pair marks) here (at.points (segment_of s))

  pub cuts_rise : IsTrue (is_strictly_sorted point_cmp marks)
  cuts_rise = between.in_order

  pub cuts_are_free : All (λ c. IsFalse (is_end (ends_of s) c)) marks
  cuts_are_free = All-from_recursion (λ c. IsFalse (is_end (ends_of s) c)) marks (AllByRecursion-from_Has (λ c. IsFalse (is_end (ends_of s) c)) marks (λ c h. ((between.complete c).0 (Contains-from_Has marks c h)).1))

  module _ (ordered : IsTrue (are_ordered segments)) (decided : AreDecided segments) (held after : List WholeSegment) (pushed : after ≡ held ++ pieces (segment_of s) marks) where
    pub cut_further : ForCuts segments (λ on. IsCutSoFar on (take index segments) held) → ForCuts segments (λ on. IsCutSoFar on (take (index + 1) segments) after)
    cut_further so_far on named =
        let same : on (ends_of s) ≡ marks = same_cuts (pairs segments) (ends_of s) (on (ends_of s)) marks (named (ends_of s) there) between in
        let few : AreFew on (segment_of s) = subst (AreFew on) here (All-from_recursion (AreFew on) segments (cuts_are_few segments on ordered decided named) index (segment_of s) inside) in
        let next : take (index + 1) segments ≡ take index segments ++ segment_of s ∷ [] = take_more segments index (segment_of s) inside ∙ ap (λ t. take index segments ++ t ∷ []) here in
        subst (λ l. IsCutSoFar on l after) (sym next)
        (one_more on (take index segments) held after (segment_of s) (so_far on named) few (pushed ∙ ap (λ l. held ++ pieces (segment_of s) l) (sym same)))

-- ---- what is held is joined

-- no running sum leaves the range
pub none_leaves : (segments held : List WholeSegment) (n : ℕ) → HasCuts segments → magnitudes segments < 2 ^ 31 → ForCuts segments (λ on. IsCutSoFar on (take n segments) held) → IsFalse (join_leaves_range held)
none_leaves segments held n has small so_far =
    let part = sum_by-take-le (λ (s : WholeSegment). magnitude s.count) segments n in
    held_fits has.1.0 (take n segments) held (so_far has.1.0 has.1.1) (omega (arith, part, small))

-- so a join is refused for memory alone
pub only_memory : (fault : Fault) (held : List WholeSegment) → (fault ≡ CountOutOfRange → IsTrue (join_leaves_range held)) → IsFalse (join_leaves_range held) → fault ≡ Memory
only_memory Memory held refused fits = refl
only_memory CountOutOfRange held refused fits = absurd (both_ways (join_leaves_range held) fits (refused refl))

module _ {C I D : Type 0} {m : _} {w : _} {o : _} {e : _} {p : _} where
  abbrev Valid : Segment C I D m w o e p → Type 0
  Valid t = IsTrue (is_valid (winding_of t))

  masks_of : (ts : List (Segment C I D m w o e p)) → AllByRecursion Valid ts → list_all (λ s. nat_lt s.count.mask 4) (segments_of ts) ≡ true
  masks_of [] h = refl
  masks_of (t ∷ ts) h = and_from _ _ (and_parts (is_count_in_range (winding_of t)) (nat_lt (winding_of t).mask 4) h.0).1 (masks_of ts h.1)

  out : (ts : List (Segment C I D m w o e p)) → list_all (λ s. is_valid s.count) (segments_of ts) ≡ true → AllByRecursion Valid ts
  out [] h = tt
  out (t ∷ ts) h = let parts = and_parts (is_valid (winding_of t)) _ h in (parts.0, out ts parts.1)

  pub valid_joined : (old new : List (Segment C I D m w o e p)) → segments_of new ≡ join (segments_of old) → IsFalse (join_leaves_range (segments_of old)) → All Valid old → All Valid new
  valid_joined old new is fits h =
      All-from_recursion Valid new (out new (ap (list_all (λ s. is_valid s.count)) is
      ∙ list_all-and (λ s. is_count_in_range s.count) (λ s. nat_lt s.count.mask 4) (join (segments_of old)) (counts_in_range-join (segments_of old) fits) (masks-join (segments_of old) (masks_of old (recursion_from_All Valid old h)))))
