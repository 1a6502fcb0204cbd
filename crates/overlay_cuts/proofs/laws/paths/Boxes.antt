-- No pass reaches outside the box around the ends of the join.
use Rattle.std.proofs.Common.{◌≡◌, ◌⊎◌, inl, inr, ⊎_elim, sym, subst, arith, ℕ, zero, suc, List, [], ◌∷◌, Bool, true}
use Rattle.std.specs.Prelude.{ℤ, ◌≤ℤ◌, ◌<ℤ◌, IsTrue, not, int_le, nat_lt, nat_le}
use Rattle.std.specs.List.{list_any, AllByRecursion}
use Rattle.std.specs.Int.{int_min, int_max}
use Rattle.std.proofs.lemmas.Int.{ints, clamps, by_lt_z}
use Rattle.std.proofs.lemmas.Bool.{and_parts, and_from, or_left, or_right, cond_both}
use Rattle.overlay_geometry.specs.Points.{Point, Pair, point_cmp, pair_lt, point_lt, is_end, is_in_box, is_between, is_strictly_inside, is_within_box_of, sqr_distance}
use Rattle.overlay_base.specs.Windings.{Winding}
use Rattle.overlay_base.specs.Segments.{WholeSegment, pairs, ends}
use Rattle.overlay_base.specs.Join.{join}
use Rattle.overlay_geometry.specs.Meeting.{do_cross}
use Rattle.overlay_intersections.specs.Crossing.{is_exact, snapping_point, settling_point}
use Rattle.overlay_intersections.specs.Marks.{Placing, snapping, settling, nearer_end, nearest_end, snapped_to, crossing_mark, ordered_mark, marks_by}
use Rattle.overlay_cuts.specs.Path.{columns_of, next_point, column_path, path_from, path, piece, pieces_along, pieces}
use Rattle.overlay_cuts.specs.Pass.{cut_by, pass_by, pass}
use Rattle.overlay_intersections.specs.PassMarks.{marks_on}
use Rattle.overlay_cuts.specs.Run.{Settings, placing_of_pass, after_passes}
use Rattle.overlay_cuts.specs.Laws.{BoxesAreMeant, CutStaysInBox, StaysInBox}
use Rattle.overlay_geometry.proofs.laws.lists.Lists.{AllByRecursion-flat_map, AllByRecursion-map, list_any-implied, AllByRecursion-append, AllByRecursion-both, AllByRecursion-weaker, AllByRecursion-reverse, AllByRecursion_left, AllByRecursion_right, AllByRecursion-filter, AllByRecursion-from_list_all, list_all-from_AllByRecursion}
use Rattle.overlay_geometry.proofs.laws.lists.Keys.{AllByRecursion-distinct_in_order}
use Rattle.overlay_cuts.proofs.laws.paths.Cuts.{AllByRecursion-cut, AllByRecursion-join}
use Rattle.overlay_cuts.proofs.laws.paths.MarkedPairs.{EachMark-each}
use Rattle.overlay_cuts.proofs.laws.paths.Paths.{all_of, all_of-columns_of, column_path_has}
use Rattle.overlay_intersections.proofs.laws.crossings.Crossings.{settling_in_target, snapping_in_target, do_cross-swap}
use Rattle.overlay_geometry.proofs.laws.integers.Tests.{le-tested}

-- ---- what holds of the ends of two pairs, and in their boxes, holds of the marks of their crossing

abbrev pub AtEnds : (Point → Type 0) → Pair → Type 0
AtEnds P s = P s.a × P s.b

-- P holds in the box of s where it holds at its ends
abbrev pub HoldsInBoxes : (Point → Type 0) → Type 0
HoldsInBoxes P = (s : Pair) (p : Point) → AtEnds P s → IsTrue (is_in_box s p) → P p

module _ (P : Point → Type 0) where
  nearer_end_has : (p : Point) (s : Pair) → AtEnds P s → P (nearer_end p s)
  unfolding nearer_end
  nearer_end_has p s h = cond_both (nat_lt (sqr_distance s.a p) (sqr_distance s.b p)) s.a s.b P (λ e. h.0) (λ e. h.1)

  nearest_end_has : (p : Point) (s t : Pair) → AtEnds P s → AtEnds P t → P (nearest_end p s t)
  unfolding nearest_end
  nearest_end_has p s t h k = cond_both (nat_le (sqr_distance (nearer_end p s) p) (sqr_distance (nearer_end p t) p)) (nearer_end p s) (nearer_end p t) P (λ e. nearer_end_has p s h) (λ e. nearer_end_has p t k)

  crossing_mark_has : HoldsInBoxes P → (placing : Placing) (s t : Pair) → AtEnds P s → AtEnds P t → IsTrue (do_cross s t) → P (crossing_mark placing s t)
  unfolding crossing_mark snapped_to
  crossing_mark_has boxes (snapping r2) s t h k c =
      let p = snapping_point s t in
      let at_p : P p = boxes s p h (snapping_in_target s t c) in
      let e = nearest_end p s t in
      cond_both (is_exact s t) p (snapped_to e r2 p) P (λ _. at_p) (λ _. cond_both (nat_le (sqr_distance e p) r2) e p P (λ _. nearest_end_has p s t h k) (λ _. at_p))
  crossing_mark_has boxes settling s t h k c = boxes s (settling_point s t) h (settling_in_target s t c)

  marks_by_have : HoldsInBoxes P → (placing : Placing) (s t : Pair) → AtEnds P s → AtEnds P t → AllByRecursion P (marks_by placing s t)
  unfolding marks_by ordered_mark
  marks_by_have boxes placing s t h k =
      cond_both (do_cross s t) _ _ (AllByRecursion P)
      (λ c. AllByRecursion-filter (λ p. not (is_end s p)) P (ordered_mark placing s t ∷ [])
      ((λ _. cond_both (pair_lt s t) (crossing_mark placing s t) (crossing_mark placing t s) P (λ _. crossing_mark_has boxes placing s t h k c) (λ _. crossing_mark_has boxes placing t s k h (do_cross-swap s t c))), tt))
      (λ c. AllByRecursion-filter (λ p. is_strictly_inside s p) P (t.a ∷ t.b ∷ []) ((λ _. k.0), ((λ _. k.1), tt)))

  pub marks_on_have : HoldsInBoxes P → (placing : Placing) (segments : List WholeSegment) (s : Pair) → AllByRecursion (λ t. AtEnds P t.pair) segments → AtEnds P s → AllByRecursion P (marks_on placing segments s)
  unfolding marks_on
  marks_on_have boxes placing segments s all h =
      AllByRecursion-distinct_in_order point_cmp P _ (AllByRecursion-flat_map (λ t. marks_by placing s t) P (pairs segments) (AllByRecursion-map (λ t. AllByRecursion P (marks_by placing s t)) (λ (t : WholeSegment). t.pair) segments (AllByRecursion-weaker (λ t. AtEnds P t.pair) (λ t. AllByRecursion P (marks_by placing s t.pair)) (λ t k. marks_by_have boxes placing s t.pair h k) segments all)))

  -- ---- the points of a path are the ends and the marks

  pub path_from_has : (columns : List (List Point)) (before b : Point) → AllByRecursion P (all_of columns) → P b → AllByRecursion P (path_from before columns b)
  unfolding path_from
  path_from_has [] before b h k = (k, tt)
  path_from_has (column ∷ columns) before b h k =
      let here = AllByRecursion_left P column (all_of columns) h in
      AllByRecursion-append P (column_path before column (next_point columns b)) _ (column_path_has (AllByRecursion P) before column (next_point columns b) here (AllByRecursion-reverse P column here)) (path_from_has columns _ b (AllByRecursion_right P column (all_of columns) h) k)

  piece_has : (count : Winding) (p q : Point) → P p → P q → AtEnds P (piece count p q).pair
  unfolding piece
  piece_has count p q h k = cond_both (point_lt p q) _ _ (λ (s : WholeSegment). AtEnds P s.pair) (λ _. (h, k)) (λ _. (k, h))

  pieces_along_have : (count : Winding) (p : Point) (points : List Point) → P p → AllByRecursion P points → AllByRecursion (λ s. AtEnds P s.pair) (pieces_along count (p ∷ points))
  unfolding pieces_along
  pieces_along_have count p [] h k = tt
  pieces_along_have count p (q ∷ points) h k = (piece_has count p q h k.0, pieces_along_have count q points k.0 k.1)

  pub pieces_have : (s : WholeSegment) (marks : List Point) → AtEnds P s.pair → AllByRecursion P marks → AllByRecursion (λ p. AtEnds P p.pair) (pieces s marks)
  unfolding pieces path
  pieces_have s marks h k =
      pieces_along_have s.count s.pair.a (path_from s.pair.a (columns_of marks) s.pair.b) h.0
      (path_from_has (columns_of marks) s.pair.a s.pair.b (subst (AllByRecursion P) (sym (all_of-columns_of marks)) (AllByRecursion-distinct_in_order point_cmp P marks k)) h.1)

  -- a cut, joined, keeps what holds at all ends and marks
  pub pass_by_has : (marks : Pair → List Point) (segments : List WholeSegment) → AllByRecursion (λ s. AtEnds P s.pair) segments → AllByRecursion (λ s. AllByRecursion P (marks s.pair)) segments → AllByRecursion (λ s. AtEnds P s.pair) (pass_by marks segments)
  pass_by_has marks segments ends at_marks =
      AllByRecursion-join (AtEnds P) (cut_by marks segments)
      (AllByRecursion-cut (λ s. AtEnds P s.pair) marks segments
      (AllByRecursion-weaker (λ s. AtEnds P s.pair × AllByRecursion P (marks s.pair)) (λ s. AllByRecursion (λ p. AtEnds P p.pair) (pieces s (marks s.pair))) (λ s h. pieces_have s (marks s.pair) h.0 h.1) segments
      (AllByRecursion-both (λ s. AtEnds P s.pair) (λ s. AllByRecursion P (marks s.pair)) segments ends at_marks)))

  -- a pass keeps what holds at all ends, where it holds in boxes
  pub pass_has : HoldsInBoxes P → (placing : Placing) (segments : List WholeSegment) → AllByRecursion (λ s. AtEnds P s.pair) segments → AllByRecursion (λ s. AtEnds P s.pair) (pass placing segments)
  unfolding pass
  pass_has boxes placing segments all =
      pass_by_has (marks_on placing segments) segments all
      (AllByRecursion-weaker (λ s. AtEnds P s.pair) (λ s. AllByRecursion P (marks_on placing segments s.pair)) (λ s h. marks_on_have boxes placing segments s.pair all h) segments all)

-- ---- the box around points

le_through : (u v w : ℤ) → int_le u v ≡ true → v ≤ℤ w → int_le u w ≡ true
le_through u v w h k = grind (arith, ints)

le_before : (u v w : ℤ) → int_le v w ≡ true → u ≤ℤ v → int_le u w ≡ true
le_before u v w h k = grind (arith, ints)

le_itself : (u : ℤ) → int_le u u ≡ true
le_itself u = grind (arith, ints)

-- a number between two others is not less than one of them, and not more than one
from_one : (u v z : ℤ) → IsTrue (is_between u v z) → (u ≤ℤ z) ⊎ (v ≤ℤ z)
from_one u v z h = let k = le-tested (int_min u v) z ((and_parts (int_le (int_min u v) z) (int_le z (int_max u v)) h).0) in by_lt_z u v (λ (l : u <ℤ v). inl (omega (arith, ints, clamps, k, l))) (λ (l : v ≤ℤ u). inr (omega (arith, ints, clamps, k, l)))

to_one : (u v z : ℤ) → IsTrue (is_between u v z) → (z ≤ℤ u) ⊎ (z ≤ℤ v)
to_one u v z h = let k = le-tested z (int_max u v) ((and_parts (int_le (int_min u v) z) (int_le z (int_max u v)) h).1) in by_lt_z u v (λ (l : u <ℤ v). inr (omega (arith, ints, clamps, k, l))) (λ (l : v ≤ℤ u). inl (omega (arith, ints, clamps, k, l)))

-- the four tests
record IsWithin (points : List Point) (p : Point) : Type 0 where
  left : IsTrue (list_any (λ q. int_le q.x p.x) points)
  right : IsTrue (list_any (λ q. int_le p.x q.x) points)
  below : IsTrue (list_any (λ q. int_le q.y p.y) points)
  above : IsTrue (list_any (λ q. int_le p.y q.y) points)

IsWithin-to : (points : List Point) (p : Point) → IsWithin points p → IsTrue (is_within_box_of points p)
unfolding is_within_box_of
IsWithin-to points p h = and_from _ _ (and_from _ _ (and_from _ _ h.left h.right) h.below) h.above

IsWithin-from : (points : List Point) (p : Point) → IsTrue (is_within_box_of points p) → IsWithin points p
unfolding is_within_box_of
IsWithin-from points p h =
    let all = and_parts _ _ h in
    let three = and_parts _ _ all.0 in
    let two = and_parts _ _ three.0 in
    record { left = two.0; right = two.1; below = three.1; above = all.1 }

within_boxes : (points : List Point) → HoldsInBoxes (IsWithin points)
unfolding is_in_box
within_boxes points s p h k =
    let b = and_parts (is_between s.a.x s.b.x p.x) (is_between s.a.y s.b.y p.y) k in
    record {
      left = ⊎_elim (λ l. list_any-implied (λ q. int_le q.x s.a.x) (λ q. int_le q.x p.x) (λ q e. le_through q.x s.a.x p.x e l) points h.0.left) (λ l. list_any-implied (λ q. int_le q.x s.b.x) (λ q. int_le q.x p.x) (λ q e. le_through q.x s.b.x p.x e l) points h.1.left) (from_one s.a.x s.b.x p.x b.0);
      right = ⊎_elim (λ l. list_any-implied (λ q. int_le s.a.x q.x) (λ q. int_le p.x q.x) (λ q e. le_before p.x s.a.x q.x e l) points h.0.right) (λ l. list_any-implied (λ q. int_le s.b.x q.x) (λ q. int_le p.x q.x) (λ q e. le_before p.x s.b.x q.x e l) points h.1.right) (to_one s.a.x s.b.x p.x b.0);
      below = ⊎_elim (λ l. list_any-implied (λ q. int_le q.y s.a.y) (λ q. int_le q.y p.y) (λ q e. le_through q.y s.a.y p.y e l) points h.0.below) (λ l. list_any-implied (λ q. int_le q.y s.b.y) (λ q. int_le q.y p.y) (λ q e. le_through q.y s.b.y p.y e l) points h.1.below) (from_one s.a.y s.b.y p.y b.1);
      above = ⊎_elim (λ l. list_any-implied (λ q. int_le s.a.y q.y) (λ q. int_le p.y q.y) (λ q e. le_before p.y s.a.y q.y e l) points h.0.above) (λ l. list_any-implied (λ q. int_le s.b.y q.y) (λ q. int_le p.y q.y) (λ q e. le_before p.y s.b.y q.y e l) points h.1.above) (to_one s.a.y s.b.y p.y b.1);
    }

any_itself : {X : Type 0} (test : X → X → Bool) → ((x : X) → test x x ≡ true) → (xs : List X) → AllByRecursion (λ p. IsTrue (list_any (λ q. test q p) xs)) xs
any_itself test r [] = tt
any_itself test r (x ∷ xs) =
    (or_left (test x x) (list_any (λ q. test q x) xs) (r x), AllByRecursion-weaker (λ p. IsTrue (list_any (λ q. test q p) xs)) (λ p. IsTrue (list_any (λ q. test q p) (x ∷ xs))) (λ p h. or_right (test x p) (list_any (λ q. test q p) xs) h) xs (any_itself test r xs))

IsWithin-each : (points : List Point) → AllByRecursion (IsWithin points) points
IsWithin-each points =
    AllByRecursion-weaker (λ p. (IsTrue (list_any (λ q. int_le q.x p.x) points) × IsTrue (list_any (λ q. int_le p.x q.x) points)) × (IsTrue (list_any (λ q. int_le q.y p.y) points) × IsTrue (list_any (λ q. int_le p.y q.y) points))) (IsWithin points)
    (λ p h. record { left = h.0.0; right = h.0.1; below = h.1.0; above = h.1.1 }) points
    (AllByRecursion-both _ _ points
    (AllByRecursion-both _ _ points (any_itself (λ (q p : Point). int_le q.x p.x) (λ q. le_itself q.x) points) (any_itself (λ (q p : Point). int_le p.x q.x) (λ q. le_itself q.x) points))
    (AllByRecursion-both _ _ points (any_itself (λ (q p : Point). int_le q.y p.y) (λ q. le_itself q.y) points) (any_itself (λ (q p : Point). int_le p.y q.y) (λ q. le_itself q.y) points)))

pub AllByRecursion-ends : (P : Point → Type 0) (segments : List WholeSegment) → AllByRecursion (λ s. AtEnds P s.pair) segments → AllByRecursion P (ends (pairs segments))
AllByRecursion-ends P [] h = tt
AllByRecursion-ends P (s ∷ segments) h = (h.0.0, (h.0.1, AllByRecursion-ends P segments h.1))

pub AllByRecursion-from_ends : (P : Point → Type 0) (segments : List WholeSegment) → AllByRecursion P (ends (pairs segments)) → AllByRecursion (λ s. AtEnds P s.pair) segments
AllByRecursion-from_ends P [] h = tt
AllByRecursion-from_ends P (s ∷ segments) h = ((h.0, h.1.0), AllByRecursion-from_ends P segments h.1.1)

-- what holds at the ends of the join, and in boxes, holds at the ends of every arrangement of a run
pub run_has : (P : Point → Type 0) → HoldsInBoxes P → (settings : Settings) (given : List WholeSegment) → AllByRecursion (λ s. AtEnds P s.pair) (join given) → (k : ℕ) → AllByRecursion (λ s. AtEnds P s.pair) (after_passes settings given k)
unfolding after_passes
run_has P boxes settings given h zero = h
run_has P boxes settings given h (suc k) = pass_has P boxes (placing_of_pass settings (suc k)) (after_passes settings given k) (run_has P boxes settings given h k)

pub boxes_are_meant : BoxesAreMeant
boxes_are_meant = (
  λ points. list_all-from_AllByRecursion (λ p. is_within_box_of points p) points (AllByRecursion-weaker (IsWithin points) (λ p. IsTrue (is_within_box_of points p)) (λ p h. IsWithin-to points p h) points (IsWithin-each points)),
  λ corners s p a b i. IsWithin-to corners p (within_boxes corners s p (IsWithin-from corners s.a a, IsWithin-from corners s.b b) i),
)

pub cut_stays_in_box : CutStaysInBox
cut_stays_in_box corners marks segments inside at_marks =
    let In : Point → Type 0 = λ p. IsTrue (is_within_box_of corners p) in
    list_all-from_AllByRecursion (λ p. is_within_box_of corners p) (ends (pairs (pass_by marks segments)))
    (AllByRecursion-ends In (pass_by marks segments)
    (pass_by_has In marks segments (AllByRecursion-from_ends In segments (AllByRecursion-from_list_all (λ p. is_within_box_of corners p) (ends (pairs segments)) inside)) (EachMark-each (λ s m. In m) marks segments at_marks)))

pub stays_in_box : StaysInBox
stays_in_box settings given k =
    let corners = ends (pairs (join given)) in
    let last = after_passes settings given k in
    list_all-from_AllByRecursion (λ p. is_within_box_of corners p) (ends (pairs last))
    (AllByRecursion-weaker (IsWithin corners) (λ p. IsTrue (is_within_box_of corners p)) (λ p h. IsWithin-to corners p h) (ends (pairs last))
    (AllByRecursion-ends (IsWithin corners) last
    (run_has (IsWithin corners) (within_boxes corners) settings given (AllByRecursion-from_ends (IsWithin corners) (join given) (IsWithin-each corners)) k)))
