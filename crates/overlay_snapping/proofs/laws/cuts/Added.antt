-- The cuts of one segment after another, and the marks that are left for the rest of them.
use Rattle.std.proofs.Common.{◌≡◌, refl, sym, ap, subst, ◌∙◌, ◌⊎◌, inl, inr, ℕ, zero, suc, ◌+◌, ◌<◌, ◌≤◌, ◌==◌, false, List, [], ◌∷◌, ◌++◌, map, filter, take, drop, length, is_lt, append-nil, arith}
use native.Mathlib.Numerals.{unary_clauses}
use Rattle.std.specs.Prelude.{◌≢◌, ℤ, All, IsSortedByKey, slice_index_or}
use Rattle.std.specs.List.{AllByRecursion, AllWithin, HoldsAt}
use Rattle.std.specs.Ordering.{nat_cmp}
use Rattle.std.proofs.lemmas.Bool.{ne_eqb, cases_order}
use Rattle.std.proofs.lemmas.List.{map-append}
use Rattle.std.proofs.lemmas.List.Elements.{filter-append, All-from_recursion, recursion_from_All}
use Rattle.overlay_geometry.specs.Points.{Point}
use Rattle.overlay_geometry.specs.PointOf.{point_of}
use Rattle.overlay_geometry.proofs.laws.lists.Lists.{AllByRecursion-weaker, AllByRecursion-append, AllByRecursion-map}
use Rattle.overlay_base.specs.Segments.{WholeSegment, pairs}
use Rattle.overlay_base.specs.SegmentOf.{segments_of}
use Rattle.overlay_base.specs.declared.segm.segment.Segment.{Segment}
use Rattle.overlay_intersections.specs.Marks.{settling}
use Rattle.overlay_intersections.specs.MarkOf.{Mark, mark_of, marks_of, mark_points_of, AreMarks, points_at}
use Rattle.overlay_intersections.specs.PassMarks.{marks_on}
use Rattle.overlay_intersections.specs.declared.split.line_mark.LineMark.{LineMark}
use Rattle.overlay_cuts.proofs.laws.passes.MarkBlocks.{AreRising, AreRising-from, points_at-own, points_at-other, IsFront, IsFront-from}
use Rattle.overlay_snapping.specs.Chains.{AreCutsBetween, AreDecided}
use Rattle.overlay_snapping.specs.CutsOf.{AreCuts, AreCutsAt}

-- ---- the points at an index

points_at-append : (k : ℕ) (xs ys : List Mark) → points_at k (xs ++ ys) ≡ points_at k xs ++ points_at k ys
points_at-append k xs ys =
    ap (map (λ (m : Mark). m.point)) (filter-append (λ (m : Mark). m.index == k) xs ys) ∙ map-append (λ (m : Mark). m.point) (filter (λ m. m.index == k) xs) (filter (λ m. m.index == k) ys)

none_at : (k : ℕ) (ms : List Mark) → AllByRecursion (λ m. m.index ≡ k → ⊥) ms → points_at k ms ≡ []
none_at k [] h = refl
none_at k (m ∷ ms) h = points_at-other k m ms (ne_eqb m.index k h.0) ∙ none_at k ms h.1

all_at : (k : ℕ) (ms : List Mark) → AllByRecursion (λ m. m.index ≡ k) ms → points_at k ms ≡ map (λ m. m.point) ms
all_at k [] h = refl
all_at k (m ∷ ms) h = points_at-own k m ms h.0 ∙ ap (λ l. m.point ∷ l) (all_at k ms h.1)

-- ---- rising marks

rising_same : (k : ℕ) (ms : List Mark) → AllByRecursion (λ m. m.index ≡ k) ms → AreRising ms
rising_same k [] h = tt
rising_same k (m ∷ ms) h = (let e = h.0 in AllByRecursion-weaker (λ (n : Mark). n.index ≡ k) (λ n. m.index ≤ n.index) (λ n f. omega (arith, e, f)) ms h.1, rising_same k ms h.1)

rising_append : (k : ℕ) (xs ys : List Mark) → AreRising xs → AllByRecursion (λ m. m.index < k) xs → AllByRecursion (λ m. m.index ≡ k) ys → AreRising (xs ++ ys)
rising_append k [] ys r b o = rising_same k ys o
rising_append k (x ∷ xs) ys r b o =
    let l = b.0 in
    (AllByRecursion-append (λ (n : Mark). x.index ≤ n.index) xs ys r.0 (AllByRecursion-weaker (λ (n : Mark). n.index ≡ k) (λ n. x.index ≤ n.index) (λ n e. omega (arith, l, e)) ys o), rising_append k xs ys r.1 b.1 o)

not_less : (i j : ℕ) → i ≤ j → is_lt (nat_cmp j i) ≡ false
not_less i j le = grind (arith, le)

rising_sorted : (ms : List Mark) → AreRising ms → IsSortedByKey (λ m. m.index) nat_cmp ms
rising_sorted [] r k d p q = absurd (omega arith)
rising_sorted (m ∷ []) r k d p q = absurd (omega arith)
rising_sorted (m ∷ n ∷ ms) r zero d p q = not_less m.index n.index r.0.0
rising_sorted (m ∷ n ∷ ms) r (suc k) d p q = simp unary_clauses (simp unary_clauses at (rising_sorted (n ∷ ms) r.1 k d (omega arith) (omega arith)))

-- ---- the cuts of the first segments

pub record AreCutsBelow (segments : List WholeSegment) (n : ℕ) (cuts : List Mark) : Type 0 where
  pub rising : AreRising cuts
  pub below : AllByRecursion (λ m. m.index < n) cuts
  pub each : (k : ℕ) (d : WholeSegment) → k < n → AreCutsBetween (pairs segments) (slice_index_or segments k d).pair (points_at k cuts)

pub cuts_none : (segments : List WholeSegment) → AreCutsBelow segments 0 []
cuts_none segments = record { rising = tt; below = tt; each = λ k d l. absurd (omega (arith, l)) }

pub cuts_more : (segments : List WholeSegment) (n : ℕ) (old added : List Mark) → AreCutsBelow segments n old → AllByRecursion (λ m. m.index ≡ n) added →
    ((d : WholeSegment) → AreCutsBetween (pairs segments) (slice_index_or segments n d).pair (map (λ m. m.point) added)) → AreCutsBelow segments (n + 1) (old ++ added)
cuts_more segments n old added h own points = record {
  rising = rising_append n old added h.rising h.below own;
  below = AllByRecursion-append (λ (m : Mark). m.index < n + 1) old added (AllByRecursion-weaker (λ (m : Mark). m.index < n) (λ m. m.index < n + 1) (λ m l. omega (arith, l)) old h.below)
      (AllByRecursion-weaker (λ (m : Mark). m.index ≡ n) (λ m. m.index < n + 1) (λ m e. omega (arith, e)) added own);
  each = λ k d l. by k d l (cases_order k n);
}
  where
    before : (k : ℕ) → k < n → points_at k (old ++ added) ≡ points_at k old
    before k l =
        points_at-append k old added
        ∙ ap (λ x. points_at k old ++ x) (none_at k added (AllByRecursion-weaker (λ (m : Mark). m.index ≡ n) (λ m. m.index ≡ k → ⊥) (λ m e f. absurd (omega (arith, e, f, l))) added own))
        ∙ append-nil (points_at k old)

    here : points_at n (old ++ added) ≡ map (λ m. m.point) added
    here =
        points_at-append n old added
        ∙ ap (λ x. x ++ points_at n added) (none_at n old (AllByRecursion-weaker (λ (m : Mark). m.index < n) (λ m. m.index ≡ n → ⊥) (λ m l e. absurd (omega (arith, l, e))) old h.below))
        ∙ all_at n added own

    by : (k : ℕ) (d : WholeSegment) → k < n + 1 → (k ≡ n) ⊎ ((k < n) ⊎ (n < k)) → AreCutsBetween (pairs segments) (slice_index_or segments k d).pair (points_at k (old ++ added))
    by k d l (inl e) =
        subst (λ (i : ℕ). AreCutsBetween (pairs segments) (slice_index_or segments i d).pair (points_at i (old ++ added))) (sym e)
        (subst (λ (x : List Point). AreCutsBetween (pairs segments) (slice_index_or segments n d).pair x) (sym here) (points d))
    by k d l (inr (inl b)) = subst (λ (x : List Point). AreCutsBetween (pairs segments) (slice_index_or segments k d).pair x) (sym (before k b)) (h.each k d b)
    by k d l (inr (inr a)) = absurd (omega (arith, l, a))

pub cuts_all : (segments : List WholeSegment) (n : ℕ) (cuts : List Mark) → AreDecided segments → n ≡ length segments → AreCutsBelow segments n cuts → AreCuts segments cuts
cuts_all segments n cuts decided e h = record {
  in_order = rising_sorted cuts h.rising;
  within = subst (λ (k : ℕ). All (λ (m : Mark). m.index < k) cuts) e (All-from_recursion (λ (m : Mark). m.index < n) cuts h.below);
  each = λ k d l. h.each k d (omega (arith, l, e));
  decided = decided;
}

-- ---- the marks of the other segments

pub record AreMarksFrom (segments : List WholeSegment) (n : ℕ) (rest : List Mark) : Type 0 where
  pub rising : AreRising rest
  pub least : AllByRecursion (λ m. n ≤ m.index) rest
  pub each : (k : ℕ) (d : WholeSegment) → n ≤ k → k < length segments → points_at k rest ≡ marks_on settling segments (slice_index_or segments k d).pair

pub marks_first : (segments : List WholeSegment) (marks : List Mark) → AreMarks settling segments marks → AreMarksFrom segments 0 marks
marks_first segments marks given = record { rising = AreRising-from marks given.in_order; least = all marks; each = λ k d le l. given.each k d l }
  where
    all : (ms : List Mark) → AllByRecursion (λ m. 0 ≤ m.index) ms
    all [] = tt
    all (m ∷ ms) = (omega arith, all ms)

-- those in front are of one segment, and the others of the segments after it
module _ {X : Type 0} (f : X → Mark) (segments : List WholeSegment) (index : ℕ) (rest : List X) (h : AreMarksFrom segments index (map f rest)) (n : ℕ) (within : n ≤ length rest)
    (own : AllWithin (λ x. (f x).index ≡ index) rest 0 n) (later : n < length rest → HoldsAt (λ x. (f x).index ≢ index) rest n) where
  front : IsFront f rest index n
  front = IsFront-from f rest index n h.rising h.least within own (λ d l. later l d)

  pub marks_own : (d : WholeSegment) → index < length segments → map (λ x. (f x).point) (take n rest) ≡ marks_on settling segments (slice_index_or segments index d).pair
  marks_own d l = sym front.own ∙ h.each index d (omega arith) l

  pub marks_later : AreMarksFrom segments (index + 1) (map f (drop n rest))
  marks_later = record {
    rising = front.rising;
    least = AllByRecursion-weaker (λ (m : Mark). index < m.index) (λ m. index + 1 ≤ m.index) (λ m l. omega (arith, l)) (map f (drop n rest)) front.past;
    each = λ k d le l. front.others k (omega (arith, le)) ∙ h.each k d (omega (arith, le)) l;
  }

-- ---- the cuts of one more, as marks of code

mark_points : {I : Type 0} (whole : I → ℤ) (marks : List (LineMark I)) → mark_points_of whole marks ≡ map (λ (m : Mark). m.point) (marks_of whole marks)
mark_points whole [] = refl
mark_points whole (m ∷ ms) = ap (λ l. point_of whole m.point ∷ l) (mark_points whole ms)

pub cuts_added : {C I D : Type 0} {m : _} {w : _} {o : _} {e : _} {p : _} (segments : List (Segment C I D m w o e p)) (index : ℕ) (old new added : List (LineMark I)) → new ≡ old ++ added → AreCutsAt segments index added →
    AreCutsBelow (segments_of segments) index (marks_of w.whole old) → AreCutsBelow (segments_of segments) (index + 1) (marks_of w.whole new)
cuts_added {I = I} {w = w} segments index old new added e h below =
    subst (λ (l : List Mark). AreCutsBelow (segments_of segments) (index + 1) l) (sym (ap (marks_of w.whole) e ∙ map-append (mark_of w.whole) old added))
    (cuts_more (segments_of segments) index (marks_of w.whole old) (marks_of w.whole added) below
    (AllByRecursion-map (λ (m : Mark). m.index ≡ index) (mark_of w.whole) added (recursion_from_All (λ (c : LineMark I). c.index ≡ index) added h.own))
    (λ d. subst (λ (l : List Point). AreCutsBetween (pairs (segments_of segments)) (slice_index_or (segments_of segments) index d).pair l) (mark_points w.whole added) (h.points d)))
