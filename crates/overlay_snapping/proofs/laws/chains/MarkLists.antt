-- A list of marks at the cuts of segments, and the function that names the same points for each pair.
use Rattle.std.proofs.Common.{◌≡◌, ◌==◌, filter, refl, sym, subst, arith, ◌⊎◌, ⊎_elim, inl, inr, IsFalse, ℕ, suc, ◌+◌, ◌<◌, List, [], ◌∷◌, length, true, false, if◌then◌else◌}
use Rattle.std.specs.Prelude.{◌≢◌, Contains, All, slice_index_or}
use Rattle.std.proofs.lemmas.Bool.{cases_Bool, both_ways, cond-true, cond-false}
use Rattle.std.proofs.lemmas.List.Elements.{All-from_recursion, Contains-get_or}
use Rattle.overlay_geometry.specs.Points.{Point, Pair, point_cmp, pair_eq, is_end}
use Rattle.overlay_geometry.proofs.laws.geometry.Points.{same_pair_by_eq, pair_eq_same, not_end, point_cmp_total}
use Rattle.overlay_geometry.proofs.laws.lists.Lists.{Has, AllByRecursion-from_Has, Has-map, Has-filter}
use Rattle.overlay_geometry.proofs.laws.lists.Keys.{IsStrictlySortedBy-from_test}
use Rattle.overlay_geometry.proofs.laws.lists.Elements.{Contains-from_Has, Has-from_Contains}
use Rattle.overlay_base.specs.Windings.{empty}
use Rattle.overlay_base.specs.Segments.{WholeSegment, pairs}
use Rattle.overlay_intersections.specs.MarkOf.{Mark, points_at}
use Rattle.overlay_cuts.specs.Pass.{EachMark}
use Rattle.std.specs.List.Sorted.{IsStrictlySortedBy}
use Rattle.overlay_cuts.specs.CutOf.{AreMarksBy, AreCutMarks}
use Rattle.overlay_snapping.specs.Chains.{IsCutAt, AreCutsBetween, AreSnapCuts}
use Rattle.overlay_snapping.specs.CutsOf.{AreCuts}
use Rattle.overlay_snapping.proofs.laws.chains.Orders.{same_points}

-- ---- one list of cuts

pub same_cuts : (segments : List Pair) (s : Pair) (first second : List Point) → AreCutsBetween segments s first → AreCutsBetween segments s second → first ≡ second
same_cuts segments s first second h k =
    same_points first second h.in_order k.in_order
    (λ c i. Has-from_Contains second c ((k.complete c).1 ((h.complete c).0 (Contains-from_Has first c i))))
    (λ c i. Has-from_Contains first c ((h.complete c).1 ((k.complete c).0 (Contains-from_Has second c i))))

-- ---- the function

-- the points of the marks at the first pair that is the given one
pub marks_for : List WholeSegment → List Mark → ℕ → Pair → List Point
marks_for [] marks index p = []
marks_for (s ∷ segments) marks index p = if pair_eq s.pair p then points_at index marks else marks_for segments marks (suc index) p

found : (Q : Pair → List Point → Type 0) (segments : List WholeSegment) (marks : List Mark) (index : ℕ) → ((k : ℕ) (d : WholeSegment) → k < length segments → Q (slice_index_or segments k d).pair (points_at (index + k) marks)) →
    (p : Pair) → Has (pairs segments) p → Q p (marks_for segments marks index p)
unfolding marks_for
found Q [] marks index each p i = absurd i
found Q (s ∷ segments) marks index each p i =
    ⊎_elim
    (λ same. subst (Q p) (sym (cond-true (pair_eq s.pair p) (points_at index marks) (marks_for segments marks (suc index) p) same))
    (subst (λ (r : Pair). Q r (points_at index marks)) (same_pair_by_eq s.pair p same) (subst (λ (n : ℕ). Q s.pair (points_at n marks)) (none index) (each 0 s (omega arith)))))
    (λ other. subst (Q p) (sym (cond-false (pair_eq s.pair p) (points_at index marks) (marks_for segments marks (suc index) p) other))
    (found Q segments marks (suc index) (λ k d l. subst (λ (n : ℕ). Q (slice_index_or segments k d).pair (points_at n marks)) (shifted index k) (each (suc k) d (omega (arith, l)))) p (later other i)))
    (cases_Bool (pair_eq s.pair p))
  where
    none : (n : ℕ) → n + 0 ≡ n
    none n = omega arith

    shifted : (n k : ℕ) → n + suc k ≡ suc n + k
    shifted n k = omega arith

    later : pair_eq s.pair p ≡ false → (s.pair ≡ p) ⊎ Has (pairs segments) p → Has (pairs segments) p
    later other (inl e) = absurd (both_ways (pair_eq s.pair p) other (subst (λ (r : Pair). pair_eq s.pair r ≡ true) e (pair_eq_same s.pair)))
    later other (inr i) = i

-- ---- the cuts, as a function and as a list

pub cuts_for : (segments : List WholeSegment) (marks : List Mark) → AreCuts segments marks → AreSnapCuts segments (marks_for segments marks 0)
cuts_for segments marks cuts s i =
    found (AreCutsBetween (pairs segments)) segments marks 0
    (λ k d l. subst (λ (n : ℕ). AreCutsBetween (pairs segments) (slice_index_or segments k d).pair (points_at n marks)) (from_none k) (cuts.each k d l)) s (Has-from_Contains (pairs segments) s i)
  where
    from_none : (k : ℕ) → k ≡ 0 + k
    from_none k = omega arith

pub pair_at : (segments : List WholeSegment) (k : ℕ) (d : WholeSegment) → k < length segments → Contains (pairs segments) (slice_index_or segments k d).pair
pair_at segments k d l = Contains-from_Has (pairs segments) (slice_index_or segments k d).pair (Has-map (λ (u : WholeSegment). u.pair) segments (slice_index_or segments k d) (Has-from_Contains segments (slice_index_or segments k d) (Contains-get_or segments k d l)))

-- whatever function names the cuts, the marks are those that it names
pub marks_by_cuts : (segments : List WholeSegment) (marks : List Mark) (on : Pair → List Point) → AreCuts segments marks → AreSnapCuts segments on → AreMarksBy on segments marks
marks_by_cuts segments marks on cuts named = record {
  in_order = cuts.in_order;
  within = cuts.within;
  each = λ index d l. same_cuts (pairs segments) (slice_index_or segments index d).pair (points_at index marks) (on (slice_index_or segments index d).pair) (cuts.each index d l) (named (slice_index_or segments index d).pair (pair_at segments index d l));
}

pub each_cut : (P : Pair → Point → Type 0) (segments : List WholeSegment) (on : Pair → List Point) → AreSnapCuts segments on → ((s : Pair) (m : Point) → Has (pairs segments) s → IsCutAt (pairs segments) s m → IsFalse (is_end s m) → P s m) → EachMark P on segments
each_cut P segments on named f =
    All-from_recursion (λ s. All (λ m. P s m) (on s)) (pairs segments)
    (AllByRecursion-from_Has (λ s. All (λ m. P s m) (on s)) (pairs segments) (λ s i.
    All-from_recursion (λ m. P s m) (on s) (AllByRecursion-from_Has (λ m. P s m) (on s) (λ m j.
    let cut = ((named s (Contains-from_Has (pairs segments) s i)).complete m).0 (Contains-from_Has (on s) m j) in f s m i cut.0 cut.1))))

pub cuts_are_free : (segments : List WholeSegment) (on : Pair → List Point) → AreSnapCuts segments on → EachMark (λ s m. (m ≢ s.a) × (m ≢ s.b)) on segments
cuts_are_free segments on named = each_cut (λ s m. (m ≢ s.a) × (m ≢ s.b)) segments on named (λ s m i cut free. not_end s m free)

-- so segments may be cut at the marks
pub cut_marks : (segments : List WholeSegment) (marks : List Mark) → AreCuts segments marks → AreCutMarks segments marks
cut_marks segments marks cuts =
    let on = marks_for segments marks 0 in
    let named = cuts_for segments marks cuts in
    record {
      on = on;
      are = marks_by_cuts segments marks on cuts named;
      rise = All-from_recursion (λ s. IsStrictlySortedBy point_cmp (on s)) (pairs segments) (AllByRecursion-from_Has (λ s. IsStrictlySortedBy point_cmp (on s)) (pairs segments) (λ s i.
          IsStrictlySortedBy-from_test point_cmp_total (on s) (named s (Contains-from_Has (pairs segments) s i)).in_order));
      free = cuts_are_free segments on named;
    }

same_number : (n : ℕ) → (n == n) ≡ true
same_number n = grind (arith)

-- a mark in front is one of those of its segment
pub own_point : (mark : Mark) (marks : List Mark) → Has (points_at mark.index (mark ∷ marks)) mark.point
own_point mark marks = Has-map (λ (m : Mark). m.point) (filter (λ (m : Mark). m.index == mark.index) (mark ∷ marks)) mark (Has-filter (λ (m : Mark). m.index == mark.index) (mark ∷ marks) mark (inl refl) (same_number mark.index))

-- ---- whether there are marks

pub first_is_cut : (segments : List WholeSegment) (mark : Mark) (marks : List Mark) → AreCuts segments (mark ∷ marks) → (s : Pair) × (c : Point) × Contains (pairs segments) s × IsCutAt (pairs segments) s c × IsFalse (is_end s c)
first_is_cut segments mark marks cuts =
    let d : WholeSegment = record { pair = record { a = mark.point; b = mark.point }; count = empty } in
    let less : mark.index < length segments = cuts.within 0 mark (omega arith) in
    let s = (slice_index_or segments mark.index d).pair in
    let here = own_point mark marks in
    let cut = ((cuts.each mark.index d less).complete mark.point).0 (Contains-from_Has (points_at mark.index (mark ∷ marks)) mark.point here) in
    (s, mark.point, pair_at segments mark.index d less, cut.0, cut.1)

-- a segment that is cut has a mark
pub cut_is_marked : (segments : List WholeSegment) (marks : List Mark) → AreCuts segments marks → (s : Pair) (c : Point) → Contains (pairs segments) s → IsCutAt (pairs segments) s c → IsFalse (is_end s c) → marks ≡ [] → ⊥
unfolding marks_for
cut_is_marked segments marks cuts s c i cut free none =
    let there = ((cuts_for segments marks cuts s i).complete c).1 (cut, free) in
    no_point segments 0 s c (subst (λ l. Has (marks_for segments l 0 s) c) none (Has-from_Contains (marks_for segments marks 0 s) c there))
  where
    no_point : (segments : List WholeSegment) (index : ℕ) (p : Pair) (c : Point) → Has (marks_for segments [] index p) c → ⊥
    no_point [] index p c h = absurd h
    no_point (s ∷ segments) index p c h = ⊎_elim (λ e. none_here (subst (λ l. Has l c) (cond-true (pair_eq s.pair p) (points_at index []) (marks_for segments [] (suc index) p) e) h)) (λ e. no_point segments (suc index) p c (subst (λ l. Has l c) (cond-false (pair_eq s.pair p) (points_at index []) (marks_for segments [] (suc index) p) e) h)) (cases_Bool (pair_eq s.pair p))
      where
        none_here : Has (points_at index []) c → ⊥
        none_here h = h
