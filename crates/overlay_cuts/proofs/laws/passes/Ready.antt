-- What a pass requires of its list, as its parts require it.
use Rattle.std.proofs.Common.{◌≡◌, ◌==◌, not, refl, sym, ap, subst, drop, sum_by, slice_index_or, ◌∙◌, ℕ, zero, suc, ◌<◌, ◌≤◌, arith, Bool, true, ◌&&◌, List, [], ◌∷◌, map, length, IsSortedByKey, All, Ordering, is_lt}
use Rattle.std.specs.Prelude.{ℤ, IsTrue, nat_lt}
use native.Mathlib.Numerals.{unary_clauses}
use Rattle.std.specs.Cmp.{IsTotalOrder}
use Rattle.std.specs.List.{AllByRecursion}
use Rattle.std.specs.List.Sorted.{IsStrictlySortedBy}
use Rattle.std.specs.Ordering.{ordering_reverse}
use Rattle.std.proofs.lemmas.Bool.{and_parts, ne_eqb, lt-ltb}
use Rattle.std.proofs.lemmas.List.Elements.{All-from_recursion, recursion_from_All}
use Rattle.std.proofs.lemmas.List.Sums.{sum_by-cons}
use Rattle.overlay_geometry.specs.Points.{Point, Pair, point_cmp, pair_cmp}
use Rattle.overlay_geometry.specs.Sorting.{distinct_in_order}
use Rattle.overlay_base.specs.Windings.{is_valid, is_not_empty}
use Rattle.overlay_base.specs.Segments.{WholeSegment, pairs, is_map}
use Rattle.overlay_base.specs.Join.{join}
use Rattle.overlay_base.proofs.laws.joins.Maps.{is_map-join}
use Rattle.overlay_base.specs.Planar.{is_splittable}
use Rattle.overlay_geometry.specs.Coordinates.{is_pair_in_range, is_point_in_range}
use Rattle.overlay_geometry.specs.InRange.{IsPairInRange}
use Rattle.overlay_base.specs.SegmentOf.{x_segment_of, ends_of, segments_of, segment_of, data_segments_of, winding_of}
use Rattle.overlay_base.specs.declared.segm.segment.Segment.{Segment}
use Rattle.overlay_geometry.proofs.laws.lists.Lists.{AllByRecursion-both, AllByRecursion-from_Has, AllByRecursion-from_list_all, AllByRecursion-map_out, AllByRecursion-weaker, sum_by-map}
use Rattle.overlay_geometry.proofs.laws.lists.Keys.{IsStrictlySortedBy-from_test}
use Rattle.overlay_base.specs.EdgeData.{DataSegment, Hooks, without_data}
use Rattle.overlay_base.proofs.laws.joins.Views.{segments_ordered, segments_of-bare}
use Rattle.overlay_geometry.proofs.laws.geometry.Points.{pair_cmp_total}
use Rattle.overlay_base.proofs.laws.geometry.Apart.{pairs-map}
use Rattle.overlay_intersections.specs.Marks.{Placing}
use Rattle.overlay_cuts.specs.CutOf.{AreMarksBy, AreCutMarks}
use Rattle.overlay_cuts.specs.Pass.{cut_by}
use Rattle.overlay_intersections.specs.PassMarks.{marks_on, mark_count}
use Rattle.overlay_cuts.specs.DataPass.{data_cut_by}
use Rattle.overlay_intersections.specs.MarkOf.{Mark, AreMarks, points_at}
use Rattle.overlay_intersections.proofs.laws.marks.Marks.{IsFree, IsFree-marks_on}
use Rattle.overlay_cuts.proofs.laws.paths.MarkedPairs.{EachMark-at}
use Rattle.overlay_cuts.proofs.laws.paths.PieceCounts.{counts-cut, is_valid-inverse}
use Rattle.overlay_cuts.proofs.laws.paths.Ends.{distinct_in_order-sorted, marks_on_rise}
use Rattle.overlay_cuts.proofs.laws.passes.DataPasses.{bare-data_cut}
use Rattle.overlay_cuts.proofs.laws.passes.MarkBlocks.{points_at-own}
use Rattle.overlay_cuts.proofs.laws.passes.CutLists.{at_place}
use Rattle.overlay_cuts.proofs.laws.passes.CutWalks.{IsUsable, IsReady, read_place, marks_at_place}

-- keys in strict order
IsSortedByKey-strictly : {X K : Type 0} {cmp : K → K → Ordering} (o : IsTotalOrder cmp) (key : X → K) (xs : List X) → IsStrictlySortedBy cmp (map key xs) → IsSortedByKey key cmp xs
unfolding IsStrictlySortedBy
IsSortedByKey-strictly o key [] s k d p q = absurd (omega arith)
IsSortedByKey-strictly o key (x ∷ []) s k d p q = absurd (omega arith)
IsSortedByKey-strictly {cmp = cmp} o key (x ∷ y ∷ xs) s zero d p q = ap is_lt (o.antisymm (key y) (key x) ∙ ap ordering_reverse s.0.0)
IsSortedByKey-strictly o key (x ∷ y ∷ xs) s (suc k) d p q = simp unary_clauses (simp unary_clauses at (IsSortedByKey-strictly o key (y ∷ xs) s.1 k d (omega arith) (omega arith)))

module _ {C I D : Type 0} {m : _} {w : _} {o : _} {e : _} {p : _} (xs : List (Segment C I D m w o e p)) where
  pub IsSortedByKey-is_map : IsTrue (is_map (segments_of xs)) → IsSortedByKey ends_of pair_cmp xs
  unfolding is_map
  IsSortedByKey-is_map h =
      let sorted = IsStrictlySortedBy-from_test pair_cmp_total (pairs (segments_of xs)) (and_parts _ _ h).0 in
      IsSortedByKey-strictly pair_cmp_total ends_of xs (subst (IsStrictlySortedBy pair_cmp) (pairs-map xs) sorted)

  module _ (least greatest : ℤ) (h : IsTrue (is_splittable least greatest (segments_of xs))) where
    each_splittable : AllByRecursion (λ (s : Segment C I D m w o e p). (is_pair_in_range least greatest (ends_of s) && is_valid (segment_of s).count && is_not_empty (segment_of s).count) ≡ true) xs
    unfolding is_splittable
    each_splittable = go xs (AllByRecursion-from_list_all _ (segments_of xs) h)
      where
        go : (ys : List (Segment C I D m w o e p)) → AllByRecursion (λ s. (is_pair_in_range least greatest s.pair && is_valid s.count && is_not_empty s.count) ≡ true) (segments_of ys) → AllByRecursion (λ (s : Segment C I D m w o e p). (is_pair_in_range least greatest (ends_of s) && is_valid (segment_of s).count && is_not_empty (segment_of s).count) ≡ true) ys
        go [] k = tt
        go (y ∷ ys) k = (k.0, go ys k.1)

    -- segments whose ends are in order and whose counts are valid
    pub IsUsable-each : AllByRecursion IsUsable (data_segments_of xs)
    IsUsable-each = go xs each_splittable
      where
        go : (ys : List (Segment C I D m w o e p)) → AllByRecursion (λ (s : Segment C I D m w o e p). (is_pair_in_range least greatest (ends_of s) && is_valid (segment_of s).count && is_not_empty (segment_of s).count) ≡ true) ys → AllByRecursion IsUsable (data_segments_of ys)
        go [] k = tt
        go (y ∷ ys) k = ((y.ordered, (and_parts (is_pair_in_range least greatest (ends_of y)) (is_valid (segment_of y).count) (and_parts _ (is_not_empty (segment_of y).count) k.0).0).1), go ys k.1)

  pub IsPairInRange-each : (least greatest : I) → IsTrue (is_splittable (w.whole least) (w.whole greatest) (segments_of xs)) → All (λ (s : Segment C I D m w o e p). IsPairInRange w.whole least greatest (x_segment_of s)) xs
  IsPairInRange-each least greatest h = All-from_recursion (λ (s : Segment C I D m w o e p). IsPairInRange w.whole least greatest (x_segment_of s)) xs (go xs (each_splittable (w.whole least) (w.whole greatest) h))
    where
      go : (ys : List (Segment C I D m w o e p)) → AllByRecursion (λ (s : Segment C I D m w o e p). (is_pair_in_range (w.whole least) (w.whole greatest) (ends_of s) && is_valid (segment_of s).count && is_not_empty (segment_of s).count) ≡ true) ys → AllByRecursion (λ (s : Segment C I D m w o e p). IsPairInRange w.whole least greatest (x_segment_of s)) ys
      go [] k = tt
      go (y ∷ ys) k =
          let in_range = (and_parts (is_pair_in_range (w.whole least) (w.whole greatest) (ends_of y)) (is_valid (segment_of y).count) (and_parts _ (is_not_empty (segment_of y).count) k.0).0).0 in
          let ends = and_parts (is_point_in_range (w.whole least) (w.whole greatest) (ends_of y).a) (is_point_in_range (w.whole least) (w.whole greatest) (ends_of y).b) in_range in
          (record { a_in_range = ends.0; b_in_range = ends.1 }, go ys k.1)

-- ---- whether a mark is made

at_places : {X : Type 0} (P : X → Type 0) (xs : List X) → ((j : ℕ) (x : X) (rest : List X) → drop j xs ≡ x ∷ rest → P x) → AllByRecursion P xs
at_places P [] h = tt
at_places P (x ∷ xs) h = (h 0 x xs refl, at_places P xs (λ j y rest e. h (suc j) y rest e))

sum_zero : {X : Type 0} (f : X → ℕ) (xs : List X) → AllByRecursion (λ x. f x ≡ 0) xs → sum_by f xs ≡ 0
sum_zero f [] h = refl
sum_zero f (x ∷ xs) h = omega (arith, sum_by-cons f x xs, h.0, sum_zero f xs h.1)

sum_some : {X : Type 0} (f : X → ℕ) (xs : List X) (j : ℕ) (x : X) (rest : List X) → drop j xs ≡ x ∷ rest → f x ≤ sum_by f xs
sum_some f [] zero x rest e = let n : 0 ≡ suc (length rest) = ap length e in absurd (omega (arith, n))
sum_some f [] (suc j) x rest e = let n : 0 ≡ suc (length rest) = ap length e in absurd (omega (arith, n))
sum_some f (y ∷ xs) zero x rest e = let same : y ≡ x = ap (λ l. slice_index_or l 0 y) e in omega (arith, sum_by-cons f y xs, ap f same)
sum_some f (y ∷ xs) (suc j) x rest e = omega (arith, sum_by-cons f y xs, sum_some f xs j x rest e)

module _ (placing : Placing) (segments : List WholeSegment) (all : List Mark) (are : AreMarks placing segments all) where
  -- the marks of a pass are named by a function of pairs
  pub AreMarksBy-pass : AreMarksBy (marks_on placing segments) segments all
  AreMarksBy-pass = record { in_order = are.in_order; within = are.within; each = are.each }

  each_place : (j : ℕ) (s : WholeSegment) (rest : List WholeSegment) → drop j segments ≡ s ∷ rest → points_at j all ≡ marks_on placing segments s.pair
  each_place j s rest e = let r = read_place segments j s rest e in are.each j s r.0 ∙ ap (λ (t : WholeSegment). marks_on placing segments t.pair) (r.1 s)

  in_pairs : mark_count placing segments ≡ sum_by (λ (s : WholeSegment). length (marks_on placing segments s.pair)) segments
  unfolding mark_count
  in_pairs = sum_by-map (λ p. length (marks_on placing segments p)) (λ (s : WholeSegment). s.pair) segments

  pub none_counted : length all ≡ 0 → mark_count placing segments ≡ 0
  none_counted e =
      let none : all ≡ [] = nil all e in
      in_pairs ∙ sum_zero (λ (s : WholeSegment). length (marks_on placing segments s.pair)) segments
      (at_places (λ s. length (marks_on placing segments s.pair) ≡ 0) segments (λ j s rest h. ap length (sym (each_place j s rest h) ∙ ap (points_at j) none)))
    where
      nil : (ms : List Mark) → length ms ≡ 0 → ms ≡ []
      nil [] h = refl
      nil (m ∷ ms) h = absurd (omega (arith, h))

  pub some_counted : 0 < length all → 0 < mark_count placing segments
  some_counted lt = go all lt refl
    where
      go : (ms : List Mark) → 0 < length ms → ms ≡ all → 0 < mark_count placing segments
      go [] l h = absurd (omega (arith, l))
      go (m ∷ ms) l h =
          let inside : m.index < length segments = (subst (AllByRecursion (λ n. n.index < length segments)) (sym h) (recursion_from_All (λ n. n.index < length segments) all are.within)).0 in
          let at = at_place segments m.index inside in
          let here = each_place m.index at.0 (drop (suc m.index) segments) at.1 in
          let one : 0 < length (marks_on placing segments at.0.pair) = omega (arith, ap length (sym here), ap (λ l. length (points_at m.index l)) (sym h), ap length (points_at-own m.index m ms refl)) in
          omega (arith, one, in_pairs, sum_some (λ (s : WholeSegment). length (marks_on placing segments s.pair)) segments m.index at.0 (drop (suc m.index) segments) at.1)

  -- a list of marks that is not empty shows it
  pub marks_tell : (n : ℕ) → length all ≡ n → (is_empty : Bool) → is_empty ≡ (n == 0) → not is_empty ≡ nat_lt 0 (mark_count placing segments)
  marks_tell zero e b is = ap not is ∙ sym (ap (nat_lt 0) (none_counted e))
  marks_tell (suc n) e b is = ap not (is ∙ ne_eqb (suc n) 0 (λ h. omega (arith, h))) ∙ sym (lt-ltb 0 (mark_count placing segments) (some_counted (omega (arith, e))))

-- the same over the list without its data
pub AreMarksBy-bare : {C I D : Type 0} {m : _} {w : _} {o : _} {e : _} {p : _} (xs : List (Segment C I D m w o e p)) (placing : Placing) (all : List Mark) → AreMarks placing (segments_of xs) all → AreMarksBy (marks_on placing (without_data (data_segments_of xs))) (segments_of xs) all
AreMarksBy-bare xs placing all are = subst (λ (l : List WholeSegment). AreMarksBy (marks_on placing l) (segments_of xs) all) (segments_of-bare xs) (AreMarksBy-pass placing (segments_of xs) all are)

-- ---- marks at which a list may be cut

-- those of a pass are such marks
pub AreCutMarks-pass : (placing : Placing) (segments : List WholeSegment) (all : List Mark) → AreMarks placing segments all → AreCutMarks segments all
AreCutMarks-pass placing segments all are = record {
  on = marks_on placing segments;
  are = AreMarksBy-pass placing segments all are;
  rise = All-from_recursion (λ s. IsStrictlySortedBy point_cmp (marks_on placing segments s)) (pairs segments) (AllByRecursion-from_Has (λ s. IsStrictlySortedBy point_cmp (marks_on placing segments s)) (pairs segments) (λ s _. marks_on_rise placing segments s));
  free = All-from_recursion (λ s. All (IsFree s) (marks_on placing segments s)) (pairs segments) (AllByRecursion-from_Has (λ s. All (IsFree s) (marks_on placing segments s)) (pairs segments) (λ s _. All-from_recursion (IsFree s) (marks_on placing segments s) (IsFree-marks_on placing segments s)));
}

-- a list is ready to be cut at such marks, whatever function names them
IsReady-each : {D : Type 0} (on : Pair → List Point) (segments : List WholeSegment) (given : List (DataSegment D)) → segments ≡ without_data given → (all : List Mark) → AreCutMarks segments all → AreMarksBy on segments all → AllByRecursion IsUsable given → AllByRecursion (IsReady on) given
IsReady-each {D} on segments given same all can are usable =
    AllByRecursion-weaker (λ s. ((IsUsable s × Rises s.pair) × IsFreeOf s.pair) × (can.on s.pair ≡ on s.pair)) (IsReady on)
    (λ s k. record { usable = k.0.0.0; sorted = subst (λ l. distinct_in_order point_cmp l ≡ l) k.1 (distinct_in_order-sorted point_cmp (can.on s.pair) k.0.0.1); free = subst (AllByRecursion (IsFree s.pair)) k.1 k.0.1 }) given
    (AllByRecursion-both (λ s. (IsUsable s × Rises s.pair) × IsFreeOf s.pair) (λ s. can.on s.pair ≡ on s.pair) given
    (AllByRecursion-both (λ s. IsUsable s × Rises s.pair) (λ s. IsFreeOf s.pair) given
    (AllByRecursion-both IsUsable (λ s. Rises s.pair) given usable (in_given Rises (recursion_from_All Rises (pairs segments) can.rise)))
    (in_given IsFreeOf (AllByRecursion-from_Has IsFreeOf (pairs segments) (EachMark-at IsFree can.on segments can.free))))
    (at_places (λ s. can.on s.pair ≡ on s.pair) given (λ j s rest e. sym (marks_at_place can.on segments given same all can.are j s rest e) ∙ marks_at_place on segments given same all are j s rest e)))
  where
    Rises : Pair → Type 0
    Rises s = IsStrictlySortedBy point_cmp (can.on s)

    IsFreeOf : Pair → Type 0
    IsFreeOf s = AllByRecursion (IsFree s) (can.on s)

    in_given : (P : Pair → Type 0) → AllByRecursion P (pairs segments) → AllByRecursion (λ s. P s.pair) given
    in_given P h =
        AllByRecursion-map_out (λ s. P s.pair) (λ (s : DataSegment D). record { pair = s.pair; count = s.count }) given
        (AllByRecursion-map_out P (λ (s : WholeSegment). s.pair) (without_data given) (subst (λ (l : List WholeSegment). AllByRecursion P (pairs l)) same h))

-- a list of code is
pub IsReady-list : {C I D : Type 0} {m : _} {w : _} {o : _} {e : _} {p : _} (xs : List (Segment C I D m w o e p)) (least greatest : ℤ) → IsTrue (is_splittable least greatest (segments_of xs)) → (all : List Mark) → AreCutMarks (segments_of xs) all →
    (on : Pair → List Point) → AreMarksBy on (segments_of xs) all → AllByRecursion (IsReady on) (data_segments_of xs)
IsReady-list xs least greatest h all can on are = IsReady-each on (segments_of xs) (data_segments_of xs) (segments_of-bare xs) all can are (IsUsable-each xs least greatest h)

-- where no mark is given none is named
pub none_on_each : {C I D : Type 0} {m : _} {w : _} {o : _} {e : _} {p : _} (xs : List (Segment C I D m w o e p)) (on : Pair → List Point) (all : List Mark) → all ≡ [] → AreMarksBy on (segments_of xs) all → AllByRecursion (λ s. on s.pair ≡ []) (data_segments_of xs)
none_on_each xs on all none are =
    at_places (λ s. on s.pair ≡ []) (data_segments_of xs) (λ j s rest e. sym (marks_at_place on (segments_of xs) (data_segments_of xs) (segments_of-bare xs) all are j s rest e) ∙ ap (points_at j) none)

-- ---- the pieces of a cut

module _ {C I D S : Type 0} {m : _} {w : _} {o : _} {e : _} {p : _} (hooks : Hooks D S) (on : Pair → List Point) (xs ys : List (Segment C I D m w o e p)) (store : S) (is : data_segments_of ys ≡ (data_cut_by hooks on (data_segments_of xs) store).0) where
  -- without data they are the cut
  pub cut_as_segments : segments_of ys ≡ cut_by on (segments_of xs)
  cut_as_segments = segments_of-bare ys ∙ ap (λ l. without_data l) is ∙ bare-data_cut hooks on (data_segments_of xs) store ∙ ap (cut_by on) (sym (segments_of-bare xs))

  -- their counts are valid
  pub are_valid-cut : (least greatest : ℤ) → IsTrue (is_splittable least greatest (segments_of xs)) → All (λ (s : Segment C I D m w o e p). IsTrue (is_valid (winding_of s))) ys
  are_valid-cut least greatest h =
      All-from_recursion (λ (s : Segment C I D m w o e p). IsTrue (is_valid (winding_of s))) ys (out ys (subst (AllByRecursion (λ s. IsTrue (is_valid s.count))) (sym cut_as_segments) (counts-cut (λ c. IsTrue (is_valid c)) is_valid-inverse on (segments_of xs) (each xs (IsUsable-each xs least greatest h)))))
    where
      each : (zs : List (Segment C I D m w o e p)) → AllByRecursion IsUsable (data_segments_of zs) → AllByRecursion (λ s. IsTrue (is_valid s.count)) (segments_of zs)
      each [] k = tt
      each (z ∷ zs) k = (k.0.1, each zs k.1)

      out : (zs : List (Segment C I D m w o e p)) → AllByRecursion (λ s. IsTrue (is_valid s.count)) (segments_of zs) → AllByRecursion (λ (s : Segment C I D m w o e p). IsTrue (is_valid (winding_of s))) zs
      out [] k = tt
      out (z ∷ zs) k = (k.0, out zs k.1)

-- the joined segments of a list are a map
pub is_map-joined : {C I D : Type 0} {m : _} {w : _} {o : _} {e : _} {p : _} (xs : List (Segment C I D m w o e p)) (ys : List WholeSegment) → ys ≡ join (segments_of xs) → IsTrue (is_map ys)
is_map-joined xs ys is = subst (λ (l : List WholeSegment). IsTrue (is_map l)) (sym is) (is_map-join (segments_of xs) (segments_ordered xs))
