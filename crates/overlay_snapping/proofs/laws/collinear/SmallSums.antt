-- Where the counts are small and no crossing is rounded, no sum of pieces is too large: a segment has one piece at most on a pair of ends.
use Rattle.std.proofs.Common.{◌≡◌, ◌∙◌, refl, sym, ap, ap₂, subst, arith, cond, not, ℕ, ◌+◌, ◌^◌, ◌<◌, ◌≤◌, Bool, true, false, ◌||◌, IsTrue, IsFalse, List, [], ◌∷◌, ◌++◌, inl, inr}
use Rattle.std.specs.List.{list_any}
use Rattle.std.proofs.lemmas.Bool.{cond-false, and_from, false_from_ne_true}
use Rattle.std.proofs.Common.{lt-ltb}
use Rattle.overlay_geometry.specs.Points.{Point, Pair, point_cmp, pair_eq, is_strictly_inside}
use Rattle.overlay_geometry.specs.Sorting.{distinct_in_order}
use Rattle.overlay_geometry.proofs.laws.geometry.Points.{Before, Before-trans, Before-irreflexive, same_pair_by_eq}
use Rattle.overlay_geometry.proofs.laws.lists.Lists.{Has, Has-map, Pairwise, AllByRecursion-weaker, AllByRecursion-from_Has}
use Rattle.overlay_geometry.proofs.laws.lists.Keys.{AllByRecursion-distinct_in_order}
use Rattle.std.specs.Prelude.{unsigned_abs, ℤ, ◌+ℤ◌}
use Rattle.std.proofs.lemmas.Int.{ints}
use Rattle.overlay_base.specs.Join.{join_leaves_range}
use Rattle.overlay_base.specs.Segments.{WholeSegment, are_ordered}
use Rattle.overlay_base.specs.Sums.{IsCommutativeMonoid, gathered}
use Rattle.overlay_base.specs.Windings.{Winding, add, empty, is_count_in_range}
use Rattle.overlay_base.specs.steps.Early.{magnitude, magnitudes}
use Rattle.overlay_base.proofs.laws.joins.Early.{magnitudes-cons}
use Rattle.overlay_base.proofs.laws.joins.Ranges.{sums_leave, sums_leave-nil, sums_leave-same, sums_leave-other, join_leaves_range-sums}
use Rattle.overlay_intersections.specs.Marks.{settling}
use Rattle.overlay_intersections.specs.PassMarks.{marks_on, is_rounded}
use Rattle.overlay_cuts.specs.Path.{piece, pieces_along, pieces}
use Rattle.overlay_cuts.specs.Pass.{pieces_of, cut}
use Rattle.overlay_cuts.proofs.laws.paths.Cuts.{gathered-cut}
use Rattle.overlay_cuts.proofs.laws.paths.Paths.{Pairwise-distinct_in_order}
use Rattle.overlay_cuts.proofs.laws.planar.Meetings.{MarksAt-inside}
use Rattle.overlay_cuts.proofs.laws.planar.Parts.{IsMarked}
use Rattle.overlay_cuts.proofs.laws.planar.ExactMarks.{In, In-ordered, marks_on-IsMarked}
use Rattle.overlay_cuts.proofs.laws.planar.OrderedPaths.{ends_ordered, piece_forward, path_in_order}

naturals_add : IsCommutativeMonoid ◌+◌ 0
naturals_add = record { comm = λ a b. omega arith; assoc = λ a b c. omega arith; unit_left = λ a. omega arith }

abs-add : (x y : ℤ) → unsigned_abs (x +ℤ y) ≤ unsigned_abs x + unsigned_abs y
abs-add x y = omega (arith, ints)

magnitude-add : (c d : Winding) → magnitude (add c d) ≤ magnitude c + magnitude d
magnitude-add c d = let x = abs-add c.subj d.subj in let y = abs-add c.clip d.clip in omega arith

in_range : (c : Winding) → magnitude c < 2 ^ 31 → is_count_in_range c ≡ true
in_range c h = and_from _ _ (lt-ltb (unsigned_abs c.subj) (2 ^ 31) (omega arith)) (lt-ltb (unsigned_abs c.clip) (2 ^ 31) (omega arith))

-- how large the counts on one pair are together
module _ (q : Pair) where
  at : WholeSegment → ℕ
  at u = cond (pair_eq u.pair q) (magnitude u.count) 0

  all_at : List WholeSegment → ℕ
  all_at us = gathered ◌+◌ 0 at us

  sums_stay : (c : Winding) (ts : List WholeSegment) → magnitude c + all_at ts < 2 ^ 31 → sums_leave c ts q ≡ false
  unfolding all_at at
  sums_stay c [] h = sums_leave-nil c q
  sums_stay c (t ∷ ts) h = by (pair_eq t.pair q) refl h (λ d. sums_stay d ts)
    where
      by : (b : Bool) → pair_eq t.pair q ≡ b → magnitude c + (cond b (magnitude t.count) 0 + all_at ts) < 2 ^ 31 → ((d : Winding) → magnitude d + all_at ts < 2 ^ 31 → sums_leave d ts q ≡ false) → sums_leave c (t ∷ ts) q ≡ false
      by true e k ih =
          let m = magnitude-add c t.count in
          sums_leave-same c t ts q e
          ∙ ap₂ (λ a b. not a || b) (in_range (add c t.count) (omega (arith, k, m))) (ih (add c t.count) (omega (arith, k, m)))
      by false e k ih = sums_leave-other c t ts q e ∙ ih c (omega (arith, k))

  -- points behind the start of q are no start of it
  none_behind : (c : Winding) (p : Point) (xs : List Point) → Pairwise Before (p ∷ xs) → Before q.a p → all_at (pieces_along c (p ∷ xs)) ≡ 0
  unfolding pieces_along all_at at
  none_behind c p [] h less = refl
  none_behind c p (x ∷ xs) h less =
      let here : Before p x = h.0.0 in
      let first : at (piece c p x) ≡ 0 =
      ap at (piece_forward c p x here)
      ∙ cond-false (pair_eq (record { a = p; b = x }) q) (magnitude c) 0 (false_from_ne_true _ (λ t. Before-irreflexive p (subst (λ z. Before z p) (sym (ap (λ (s : Pair). s.a) (same_pair_by_eq (record { a = p; b = x }) q t))) less))) in
      ap₂ (λ m n. m + n) first (none_behind c x xs h.1 (Before-trans q.a p x less here))

  one_at_most : (c : Winding) (p : Point) (xs : List Point) → Pairwise Before (p ∷ xs) → all_at (pieces_along c (p ∷ xs)) ≤ magnitude c
  unfolding pieces_along all_at at
  one_at_most c p [] h = omega arith
  one_at_most c p (x ∷ xs) h = by (pair_eq (record { a = p; b = x }) q) refl (one_at_most c x xs h.1)
    where
      here : Before p x
      here = h.0.0

      first : at (piece c p x) ≡ cond (pair_eq (record { a = p; b = x }) q) (magnitude c) 0
      first = ap at (piece_forward c p x here)

      rest : ℕ
      rest = all_at (pieces_along c (x ∷ xs))

      by : (b : Bool) → pair_eq (record { a = p; b = x }) q ≡ b → rest ≤ magnitude c → at (piece c p x) + rest ≤ magnitude c
      by true e ih =
          let start = ap (λ (s : Pair). s.a) (same_pair_by_eq (record { a = p; b = x }) q e) in
          let none = none_behind c x xs h.1 (subst (λ z. Before z x) start here) in
          let f = first ∙ ap (λ b. cond b (magnitude c) 0) e in
          omega (arith, none, f)
      by false e ih =
          let f = first ∙ ap (λ b. cond b (magnitude c) 0) e in
          omega (arith, ih, f)

  module _ (segments : List WholeSegment) (o : IsTrue (are_ordered segments)) (exact : IsFalse (is_rounded segments)) where
    of_segment : (s : WholeSegment) → Has segments s → all_at (pieces_of settling segments s) ≤ magnitude s.count
    unfolding pieces
    of_segment s i =
        let pair = s.pair in
        let j : In segments pair = Has-map (λ (u : WholeSegment). u.pair) segments s i in
        let os = In-ordered segments o pair j in
        let marks = marks_on settling segments pair in
        let points = distinct_in_order point_cmp marks in
        let marked = AllByRecursion-from_Has (IsMarked (In segments) pair) marks (marks_on-IsMarked settling segments o exact pair j) in
        let inside = AllByRecursion-weaker (IsMarked (In segments) pair) (λ v. IsTrue (is_strictly_inside pair v)) (λ v m. MarksAt-inside pair m.0 v m.2) marks marked in
        let parts = ends_ordered pair points os (Pairwise-distinct_in_order marks) (AllByRecursion-distinct_in_order point_cmp (λ v. IsTrue (is_strictly_inside pair v)) marks inside) in
        subst (λ (l : List Point). all_at (pieces_along s.count l) ≤ magnitude s.count) (sym (path_in_order pair marks os inside)) (one_at_most s.count pair.a (points ++ pair.b ∷ []) (parts.1, parts.0))

    of_some : (us : List WholeSegment) → ((s : WholeSegment) → Has us s → Has segments s) → gathered ◌+◌ 0 (λ s. all_at (pieces_of settling segments s)) us ≤ magnitudes us
    of_some [] h = omega arith
    of_some (s ∷ us) h =
        let first = of_segment s (h s (inl refl)) in
        let rest = of_some us (λ u i. h u (inr i)) in
        let e = magnitudes-cons s us in
        omega (arith, first, rest, e)

    of_cut : all_at (cut settling segments) ≤ magnitudes segments
    unfolding all_at
    of_cut = subst (λ (n : ℕ). n ≤ magnitudes segments) (sym (gathered-cut naturals_add at (marks_on settling segments) segments)) (of_some segments (λ s i. i))

none_leave : (segments us : List WholeSegment) → IsTrue (are_ordered segments) → IsFalse (is_rounded segments) → magnitudes segments < 2 ^ 31 → list_any (λ s. sums_leave empty (cut settling segments) s.pair) us ≡ false
none_leave segments [] o exact h = refl
none_leave segments (s ∷ us) o exact h =
    let b = of_cut s.pair segments o exact in
    ap₂ (λ x y. x || y) (sums_stay s.pair empty (cut settling segments) (omega (arith, b, h))) (none_leave segments us o exact h)

pub small_pieces_stay : (segments : List WholeSegment) → IsTrue (are_ordered segments) → IsFalse (is_rounded segments) → magnitudes segments < 2 ^ 31 → IsFalse (join_leaves_range (cut settling segments))
small_pieces_stay segments o exact h = join_leaves_range-sums (cut settling segments) ∙ none_leave segments (cut settling segments) o exact h
