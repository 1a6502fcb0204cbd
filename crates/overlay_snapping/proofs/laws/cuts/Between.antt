-- The marks of a segment that lie on it and the hot points that it meets, in order and each once, are its cuts.
use Rattle.std.proofs.Common.{◌≡◌, refl, sym, ap, subst, ◌∙◌, ⊎_elim, ◌↔◌, ℕ, ◌+◌, ◌<◌, ◌≤◌, Bool, not, ◌&&◌, List, [], ◌∷◌, ◌++◌, map, length, take, take_all, get_or, append_assoc, Ordering}
use Rattle.std.specs.Prelude.{ℤ, Contains, IsTrue, IsPermutation, IsSorted, slice_index_or}
use Rattle.std.specs.List.{AllByRecursion, dedup}
use Rattle.std.specs.List.Retain.{IsFiltered, DiffersFromLast}
use Rattle.std.specs.List.Sorted.{IsStrictlySortedBy}
use Rattle.std.specs.Ordering.{int_cmp, eq_by_cmp}
use Rattle.std.proofs.lemmas.Bool.{not-true, and_parts, and_from}
use Rattle.std.proofs.lemmas.Cmp.{on_total}
use Rattle.std.proofs.lemmas.List.{map-append}
use Rattle.std.proofs.lemmas.List.Elements.{All-from_recursion, Contains-append_cases, Contains-append_left, Contains-append_right}
use Rattle.std.proofs.lemmas.List.Filters.{dedup_is}
use Rattle.std.proofs.lemmas.List.Kept.{IsStrictlySortedBy-dedup}
use Rattle.overlay_geometry.specs.Points.{Point, Pair, point_cmp, is_end, lies_on}
use Rattle.overlay_geometry.specs.PointOf.{point_of}
use Rattle.overlay_geometry.specs.Sorting.{is_strictly_sorted}
use Rattle.overlay_geometry.specs.declared.geom.point.IntPoint.{IntPoint}
use Rattle.overlay_geometry.proofs.laws.geometry.Points.{point_cmp_total}
use Rattle.overlay_geometry.proofs.laws.lists.Lists.{Has-map, Has-map_out}
use Rattle.overlay_geometry.proofs.laws.lists.Elements.{Contains-from_Has, Has-from_Contains, IsStrictlySortedBy-map}
use Rattle.overlay_geometry.proofs.laws.lists.Keys.{is_strictly_sorted-from}
use Rattle.overlay_base.specs.Segments.{WholeSegment, pairs, are_ordered}
use Rattle.overlay_base.specs.SegmentOf.{segments_of}
use Rattle.overlay_base.specs.declared.segm.segment.Segment.{Segment}
use Rattle.overlay_intersections.specs.Marks.{settling}
use Rattle.overlay_intersections.specs.MarkOf.{mark_points_of}
use Rattle.overlay_intersections.specs.PassMarks.{marks_on}
use Rattle.overlay_intersections.specs.declared.split.line_mark.LineMark.{LineMark}
use Rattle.overlay_intersections.proofs.laws.marks.Comparisons.{same_points}
use Rattle.overlay_snapping.specs.Pixels.{meets_pixel}
use Rattle.overlay_snapping.specs.Chains.{AreDecided, AreCutsBetween}
use Rattle.overlay_snapping.specs.CutsOf.{AreCutsAt}
use Rattle.overlay_snapping.specs.HotOf.{AreHotPoints}
use Rattle.overlay_snapping.specs.steps.Cutting.{points_along}
use Rattle.overlay_snapping.specs.steps.Met.{AddsAllMet}
use Rattle.overlay_snapping.proofs.laws.chains.HotCuts.{IsFoundCut, marked, met, found_is_cut, cut_is_found}
use Rattle.overlay_snapping.proofs.laws.closure.Elements.{mapped, no_element}
use Rattle.overlay_snapping.proofs.laws.cuts.Collected.{Contains-collected, collected-Contains}
use Rattle.overlay_snapping.proofs.laws.point_trees.Columns.{listed_same}
use Rattle.overlay_snapping.proofs.laws.point_trees.MetPlaces.{taken_next}

-- ---- what is listed

module _ {I : Type 0} (whole : I → ℤ) (segments : List WholeSegment) (points : List Point) (hot : AreHotPoints (pairs segments) points) (s : Pair) (own : List (LineMark I)) (are : mark_points_of whole own ≡ marks_on settling segments s)
    (listed : List Point) (adds : AddsAllMet s points (points_along whole s own) listed) where
  listed_out : (c : Point) → Contains listed c → IsFoundCut segments s c
  listed_out c h = ⊎_elim along meeting (Contains-append_cases (points_along whole s own) adds.added c (subst (λ (l : List Point). Contains l c) adds.is h))
    where
      along : Contains (points_along whole s own) c → IsFoundCut segments s c
      along i =
          let r = Contains-collected (λ (m : LineMark I). lies_on s (point_of whole m.point)) (λ m. point_of whole m.point) own c i in
          let there = Contains-from_Has (mark_points_of whole own) (point_of whole r.0.point) (Has-map (λ (m : LineMark I). point_of whole m.point) own r.0 (Has-from_Contains own r.0 r.1)) in
          marked (subst (λ (q : Point). Contains (marks_on settling segments s) q) r.3 (subst (λ (l : List Point). Contains l (point_of whole r.0.point)) are there)) (subst (λ (q : Point). IsTrue (lies_on s q)) r.3 r.2)

      meeting : Contains adds.added c → IsFoundCut segments s c
      meeting i =
          let r = adds.only c i in
          let both = and_parts (meets_pixel s c) (not (is_end s c)) r.1 in
          met ((hot c).0 r.0) both.0 (not-true (is_end s c) both.1)

  listed_in : (c : Point) → IsFoundCut segments s c → Contains listed c
  listed_in c (marked m on) =
      let there = subst (λ (l : List Point). Contains l c) (sym are) m in
      let r = Has-map_out (λ (m : LineMark I). point_of whole m.point) own c (Has-from_Contains (mark_points_of whole own) c there) in
      subst (λ (l : List Point). Contains l c) (sym adds.is)
      (Contains-append_left (points_along whole s own) adds.added c
      (subst (λ (q : Point). Contains (points_along whole s own) q) r.2
      (collected-Contains (λ (m : LineMark I). lies_on s (point_of whole m.point)) (λ m. point_of whole m.point) own r.0 (Contains-from_Has own r.0 r.1) (subst (λ (q : Point). IsTrue (lies_on s q)) (sym r.2) on))))
  listed_in c (met t k n) =
      let there = (hot c).1 t in
      subst (λ (l : List Point). Contains l c) (sym adds.is)
      (Contains-append_right (points_along whole s own) adds.added c (adds.all c there there (and_from (meets_pixel s c) (not (is_end s c)) k (ap not n))))

-- ---- in order, each once

module _ {I : Type 0} (eq : I → I → Bool) (cmp : I → I → Ordering) (whole : I → ℤ) (e : (a b : I) → eq a b ≡ eq_by_cmp cmp a b) (o : (a b : I) → cmp a b ≡ int_cmp (whole a) (whole b)) (injective : (a b : I) → whole a ≡ whole b → a ≡ b) where
  abbrev coordinate_eq : IntPoint I → IntPoint I → Bool
  coordinate_eq p q = eq p.x q.x && eq p.y q.y

  abbrev by_point : IntPoint I → IntPoint I → Ordering
  by_point p q = point_cmp (point_of whole p) (point_of whole q)

  kept_in_order : (sorted kept : List (IntPoint I)) → IsSorted by_point sorted → IsFiltered (DiffersFromLast coordinate_eq) [] sorted kept → IsStrictlySortedBy point_cmp (map (point_of whole) kept)
  kept_in_order sorted kept s d =
      let is : kept ≡ dedup coordinate_eq sorted = dedup_is coordinate_eq sorted kept d in
      IsStrictlySortedBy-map (point_of whole) point_cmp kept
      (subst (λ l. IsStrictlySortedBy by_point l) (sym is) (IsStrictlySortedBy-dedup (on_total (point_of whole) point_cmp_total) (same_points eq cmp whole e o) sorted s))

  module _ (segments : List WholeSegment) (ordered : IsTrue (are_ordered segments)) (points : List Point) (hot : AreHotPoints (pairs segments) points) (decided : AreDecided segments) (s : Pair) (i : Contains (pairs segments) s) (own : List (LineMark I)) (are : mark_points_of whole own ≡ marks_on settling segments s) where
    pub are_between : (listed sorted kept : List (IntPoint I)) → AddsAllMet s points (points_along whole s own) (map (point_of whole) listed) → IsPermutation listed sorted → IsSorted by_point sorted → IsFiltered (DiffersFromLast coordinate_eq) [] sorted kept →
        AreCutsBetween (pairs segments) s (map (point_of whole) kept)
    are_between listed sorted kept all permutation order filtered = record {
      in_order = is_strictly_sorted-from point_cmp_total (map (point_of whole) kept) (kept_in_order sorted kept order filtered);
      complete = λ c. (λ h. found_is_cut segments ordered s i (decided s i) c (out c h), λ h. back c (cut_is_found segments ordered s i c h.0 h.1));
    }
      where
        same : (q : IntPoint I) → Contains kept q ↔ Contains listed q
        same = listed_same eq cmp whole e o injective listed listed sorted kept refl permutation filtered

        out : (c : Point) → Contains (map (point_of whole) kept) c → IsFoundCut segments s c
        out c h = listed_out whole segments points hot s own are (map (point_of whole) listed) all c (mapped (point_of whole) kept listed (λ q. (same q).0) c h)

        back : (c : Point) → IsFoundCut segments s c → Contains (map (point_of whole) kept) c
        back c f = mapped (point_of whole) listed kept (λ q. (same q).1) c (listed_in whole segments points hot s own are (map (point_of whole) listed) all c f)

    pub none_between : (listed : List (IntPoint I)) → AddsAllMet s points (points_along whole s own) (map (point_of whole) listed) → listed ≡ [] → AreCutsBetween (pairs segments) s []
    unfolding is_strictly_sorted
    none_between listed all e = record {
      in_order = refl;
      complete = λ c. (λ h. absurd (no_element c h), λ h. back c (cut_is_found segments ordered s i c h.0 h.1));
    }
      where
        back : (c : Point) → IsFoundCut segments s c → Contains [] c
        back c f = subst (λ (l : List (IntPoint I)). Contains (map (point_of whole) l) c) e (listed_in whole segments points hot s own are (map (point_of whole) listed) all c f)

-- ---- as marks of code

abbrev pub cut_at : {I : Type 0} → ℕ → IntPoint I → LineMark I
cut_at index p = record { index = index; point = p }

own_points : {I : Type 0} (whole : I → ℤ) (index : ℕ) (kept : List (IntPoint I)) → mark_points_of whole (map (cut_at index) kept) ≡ map (point_of whole) kept
own_points whole index [] = refl
own_points whole index (p ∷ kept) = ap (λ l. point_of whole p ∷ l) (own_points whole index kept)

own_index : {I : Type 0} (index : ℕ) (kept : List (IntPoint I)) → AllByRecursion (λ (c : LineMark I). c.index ≡ index) (map (cut_at index) kept)
own_index index [] = tt
own_index index (p ∷ kept) = (refl, own_index index kept)

pub cuts_at : {C I D : Type 0} {m : _} {w : _} {o : _} {e : _} {p : _} (segments : List (Segment C I D m w o e p)) (index : ℕ) (kept : List (IntPoint I)) →
    ((d : WholeSegment) → AreCutsBetween (pairs (segments_of segments)) (slice_index_or (segments_of segments) index d).pair (map (point_of w.whole) kept)) → AreCutsAt segments index (map (cut_at index) kept)
cuts_at {I = I} {w = w} segments index kept h = record {
  own = All-from_recursion (λ (c : LineMark I). c.index ≡ index) (map (cut_at index) kept) (own_index index kept);
  points = λ d. subst (λ (l : List Point). AreCutsBetween (pairs (segments_of segments)) (slice_index_or (segments_of segments) index d).pair l) (sym (own_points w.whole index kept)) (h d);
}

-- one more is added
pub added_more : {I : Type 0} (index : ℕ) (old now more : List (LineMark I)) (kept : List (IntPoint I)) (i : ℕ) (p : IntPoint I) → i < length kept → p ≡ get_or kept i p → more ≡ now ++ cut_at index p ∷ [] →
    now ≡ old ++ map (cut_at index) (take i kept) → more ≡ old ++ map (cut_at index) (take (i + 1) kept)
added_more index old now more kept i p within at pushed h =
    pushed ∙ ap (λ l. l ++ cut_at index p ∷ []) h ∙ append_assoc old (map (cut_at index) (take i kept)) (cut_at index p ∷ [])
    ∙ ap (λ l. old ++ l) (sym (ap (map (cut_at index)) (taken_next kept i p within at) ∙ map-append (cut_at index) (take i kept) (p ∷ [])))

pub added_all : {I : Type 0} (index : ℕ) (old now : List (LineMark I)) (items kept : List (IntPoint I)) (i : ℕ) → items ≡ kept → length items ≤ i → now ≡ old ++ map (cut_at index) (take i items) → now ≡ old ++ map (cut_at index) kept
added_all index old now items kept i e end h = h ∙ ap (λ l. old ++ map (cut_at index) l) (take_all i items end ∙ e)
