-- A rounded settling pass makes a mark, and lowers the potential by at least the number of its marks.
use Rattle.std.proofs.Common.{◌≡◌, ◌⊎◌, inl, inr, ⊎_elim, refl, sym, ap, subst, ◌∙◌, arith, ℕ, ◌+◌, ◌<◌, ◌≤◌, List, [], ◌∷◌, map, length, true, false}
use Rattle.std.specs.Prelude.{◌<ℤ◌, IsTrue, not, sum_by}
use Rattle.std.specs.List.{list_any, AllByRecursion}
use Rattle.std.proofs.lemmas.Int.{ints, by_lt_z}
use Rattle.std.proofs.lemmas.List.Sums.{sum_by-cons}
use Rattle.std.proofs.lemmas.Bool.{and_parts, cond-true, cond-false, cases_Bool}
use Rattle.overlay_geometry.specs.Points.{Point, Pair, point_cmp, pair_lt, is_end, is_ordered}
use Rattle.overlay_geometry.specs.Sorting.{distinct_in_order}
use Rattle.overlay_base.specs.Segments.{WholeSegment, pairs, are_ordered}
use Rattle.overlay_geometry.specs.Meeting.{do_cross}
use Rattle.overlay_base.specs.Sums.{IsCommutativeMonoid, gathered}
use Rattle.overlay_intersections.specs.Crossing.{is_exact}
use Rattle.overlay_intersections.specs.Marks.{Placing, settling, ordered_mark, marks_by, cross_inexactly}
use Rattle.overlay_cuts.specs.Path.{columns_of, path_from, path, pieces}
use Rattle.overlay_cuts.specs.Pass.{pieces_of, cut, pass}
use Rattle.overlay_intersections.specs.PassMarks.{marks_on, is_rounded, mark_count}
use Rattle.overlay_cuts.specs.Potential.{spread, potential}
use Rattle.overlay_split.specs.Laws.{SettlingLowers}
use Rattle.overlay_geometry.proofs.laws.geometry.Points.{before, by_pair_order, point_cmp_total, point_same, Before-x}
use Rattle.overlay_base.proofs.laws.lists.Monoids.{gathered-map}
use Rattle.overlay_base.proofs.laws.joins.Maps.{are_ordered-map}
use Rattle.overlay_geometry.proofs.laws.lists.Lists.{Steps, AllByRecursion-weaker, Has, Has-filter, Has-flat_map, Has-from_list_any, AllByRecursion-from_list_all}
use Rattle.overlay_geometry.proofs.laws.lists.Keys.{Has-distinct_in_order}
use Rattle.overlay_base.proofs.laws.joins.Members.{sum_by-join_le}
use Rattle.overlay_cuts.proofs.laws.paths.Paths.{all_of-columns_of, steps_of_path}
use Rattle.overlay_intersections.proofs.laws.marks.Marks.{Differ, IsFree, IsFree-marks_on, IsRoundedPoint, rounded-marks_on, marks_at_crossing}
use Rattle.overlay_cuts.proofs.laws.paths.Pieces.{last_point-path_from}
use Rattle.overlay_cuts.proofs.laws.paths.Monotone.{Rises, Falls}
use Rattle.overlay_split.proofs.laws.paths.Monotone.{IsDirection, Rises-is_direction, Falls-is_direction, reach, spread_is, potential-pieces_along, length-path_from}
use Rattle.overlay_intersections.proofs.laws.crossings.Crossings.{do_cross-swap}
use Rattle.overlay_cuts.proofs.laws.paths.Cuts.{gathered-cut}
use Rattle.overlay_intersections.proofs.laws.crossings.AnswerMarks.{pair_lt_back, crossing_ends_differ}
use Rattle.overlay_cuts.proofs.laws.paths.Ends.{distinct_in_order-sorted, ends_differ, marks_on_rise, runs_down, runs_up}

-- ---- the path of a pair through rounded points runs in one direction

counted : (R : Point → Point → Type 0) → IsDirection R → (segment : WholeSegment) (marks : List Point) → Differ segment.pair.a segment.pair.b → AllByRecursion (IsFree segment.pair) marks → Steps R segment.pair.a (path_from segment.pair.a (columns_of marks) segment.pair.b) → potential (pieces segment marks) + length (distinct_in_order point_cmp marks) ≡ spread segment.pair
unfolding pieces path
counted R is segment marks ends free steps =
    let s = segment.pair in
    let points = path_from s.a (columns_of marks) s.b in
    let e = potential-pieces_along R is segment.count s.a points steps (steps_of_path s marks ends free) in
    let f = ap (reach s.a) (last_point-path_from (columns_of marks) s.a s.a s.b) in
    let g = length-path_from (columns_of marks) s.a s.b in
    let h = ap (λ (ps : List Point). length ps) (all_of-columns_of marks) in
    let k = spread_is s ends in
    joined _ _ _ _ _ _ _ e f g h k
  where
    joined : (all n m d u v w : ℕ) → all + n ≡ u → u ≡ v → n ≡ m + 1 → m ≡ d → w + 1 ≡ v → all + d ≡ w
    joined all n m d u v w e f g h k = omega arith

-- the spreads of the pieces, and a unit for each mark, sum to the spread of the segment
pub potential-pieces : (segment : WholeSegment) (marks : List Point) → IsTrue (is_ordered segment.pair) → AllByRecursion (IsFree segment.pair) marks → AllByRecursion (IsRoundedPoint segment.pair) marks → potential (pieces segment marks) + length (distinct_in_order point_cmp marks) ≡ spread segment.pair
potential-pieces segment marks o free rounded =
    let s = segment.pair in
    let x = Before-x s.a s.b (before s.a s.b o) in
    let d = ends_differ s o in
    by_lt_z s.b.y s.a.y
    (λ (l : s.b.y <ℤ s.a.y). counted Falls Falls-is_direction segment marks d free (runs_down s marks x (omega (arith, ints, l)) rounded))
    (λ l. counted Rises Rises-is_direction segment marks d free (runs_up s marks x l rounded))

-- ---- points in order are left as they are

pub distinct-marks_on : (placing : Placing) (segments : List WholeSegment) (s : Pair) → distinct_in_order point_cmp (marks_on placing segments s) ≡ marks_on placing segments s
distinct-marks_on placing segments s = distinct_in_order-sorted point_cmp (marks_on placing segments s) (marks_on_rise placing segments s)

-- ---- sums of naturals

naturals_add : IsCommutativeMonoid ◌+◌ 0
naturals_add = record { comm = λ a b. omega arith; assoc = λ a b c. omega arith; unit_left = λ a. omega arith }

abbrev pub sum_over : {X : Type 0} → (X → ℕ) → List X → ℕ
sum_over f xs = gathered ◌+◌ 0 f xs

sum_by_is : {X : Type 0} (f : X → ℕ) (xs : List X) → sum_by f xs ≡ sum_over f xs
sum_by_is f [] = refl
sum_by_is f (x ∷ xs) = sum_by-cons f x xs ∙ ap (λ (n : ℕ). f x + n) (sum_by_is f xs)

sums_of_each : {X : Type 0} (f g h : X → ℕ) (xs : List X) → AllByRecursion (λ x. f x + g x ≡ h x) xs → sum_over f xs + sum_over g xs ≡ sum_over h xs
sums_of_each f g h [] e = refl
sums_of_each f g h (x ∷ xs) e = let k = sums_of_each f g h xs e.1 in let l = e.0 in omega (arith, k, l)

-- ---- a cut

pub potential_is : (segments : List WholeSegment) → potential segments ≡ sum_over (λ s. spread s.pair) segments
unfolding potential
potential_is segments = sum_by_is (λ (s : WholeSegment). spread s.pair) segments

mark_count_is : (segments : List WholeSegment) → mark_count settling segments ≡ sum_over (λ s. length (marks_on settling segments s.pair)) segments
unfolding mark_count
mark_count_is segments = sum_by_is (λ s. length (marks_on settling segments s)) (pairs segments) ∙ gathered-map ◌+◌ 0 (λ s. length (marks_on settling segments s)) (λ (s : WholeSegment). s.pair) segments

potential-pieces_of : (segments : List WholeSegment) (s : WholeSegment) → IsTrue (is_ordered s.pair) → sum_over (λ p. spread p.pair) (pieces_of settling segments s) + length (marks_on settling segments s.pair) ≡ spread s.pair
potential-pieces_of segments s o =
    let marks = marks_on settling segments s.pair in
    let e = potential-pieces s marks o (IsFree-marks_on settling segments s.pair) (rounded-marks_on segments s.pair o) in
    let f = potential_is (pieces s marks) in
    let g = ap (λ (ps : List Point). length ps) (distinct-marks_on settling segments s.pair) in
    joined _ _ _ _ _ e f g
  where
    joined : (p q m n w : ℕ) → p + m ≡ w → p ≡ q → m ≡ n → q + n ≡ w
    joined p q m n w e f g = omega arith

pub potential-cut : (segments : List WholeSegment) → IsTrue (are_ordered segments) → potential (cut settling segments) + mark_count settling segments ≡ potential segments
potential-cut segments ordered =
    joined _ _ _ _ _ _ _ (potential_is (cut settling segments)) (gathered-cut naturals_add (λ (s : WholeSegment). spread s.pair) (marks_on settling segments) segments) (mark_count_is segments) (potential_is segments)
    (sums_of_each (λ s. sum_over (λ p. spread p.pair) (pieces_of settling segments s)) (λ s. length (marks_on settling segments s.pair)) (λ s. spread s.pair) segments
    (AllByRecursion-weaker (λ s. IsTrue (is_ordered s.pair)) (λ s. sum_over (λ p. spread p.pair) (pieces_of settling segments s) + length (marks_on settling segments s.pair) ≡ spread s.pair) (λ s o. potential-pieces_of segments s o) segments (AllByRecursion-from_list_all (λ s. is_ordered s.pair) segments ordered)))
  where
    joined : (a b c m n v w : ℕ) → a ≡ b → b ≡ c → m ≡ n → v ≡ w → c + n ≡ w → a + m ≡ v
    joined a b c m n v w e f g h k = omega arith

-- ---- some mark is made

-- the mark of a crossing does not depend on which pair it is made for
pub ordered_mark-swap : (placing : Placing) (s t : Pair) → ordered_mark placing s t ≡ ordered_mark placing t s
unfolding ordered_mark
ordered_mark-swap placing s t =
    by_pair_order s t
    (λ less. cond-true (pair_lt s t) _ _ less ∙ sym (cond-false (pair_lt t s) _ _ (pair_lt_back s t less)))
    (λ same. subst (λ (u : Pair). ordered_mark placing s u ≡ ordered_mark placing u s) same refl)
    (λ more. cond-false (pair_lt s t) _ _ (pair_lt_back t s more) ∙ sym (cond-true (pair_lt t s) _ _ more))

mark_unless_end : (placing : Placing) (s t : Pair) → IsTrue (do_cross s t) → is_end s (ordered_mark placing s t) ≡ false → Has (marks_by placing s t) (ordered_mark placing s t)
mark_unless_end placing s t c e =
    let m = ordered_mark placing s t in
    subst (λ (l : List Point). Has l m) (sym (marks_at_crossing placing s t c)) (Has-filter (λ p. not (is_end s p)) (m ∷ []) m (inl refl) (ap not e))

-- two pairs that cross mark one another, at least one of them, since the point is not an end of both
mark_of_crossing : (placing : Placing) (s t : Pair) → IsTrue (do_cross s t) → Has (marks_by placing s t) (ordered_mark placing s t) ⊎ Has (marks_by placing t s) (ordered_mark placing t s)
mark_of_crossing placing s t c = by_end (cases_Bool (is_end s (ordered_mark placing s t)))
  where
    by_end : (is_end s (ordered_mark placing s t) ≡ true) ⊎ (is_end s (ordered_mark placing s t) ≡ false) → Has (marks_by placing s t) (ordered_mark placing s t) ⊎ Has (marks_by placing t s) (ordered_mark placing t s)
    by_end (inr e) = inl (mark_unless_end placing s t c e)
    by_end (inl e) = inr (mark_unless_end placing t s (do_cross-swap s t c) (subst (λ (p : Point). is_end t p ≡ false) (ordered_mark-swap placing s t) (crossing_ends_differ s t _ c e)))

length-some : {X : Type 0} (xs : List X) (x : X) → Has xs x → 0 < length xs
length-some [] x i = absurd i
length-some (y ∷ xs) x i = omega arith

sum_by-at_le : {X : Type 0} (f : X → ℕ) (xs : List X) (x : X) → Has xs x → f x ≤ sum_by f xs
sum_by-at_le f [] x i = absurd i
sum_by-at_le f (y ∷ xs) x (inl e) = let s = sum_by-cons f y xs in let g = ap f e in omega (arith, s, g)
sum_by-at_le f (y ∷ xs) x (inr i) = let s = sum_by-cons f y xs in let h = sum_by-at_le f xs x i in omega (arith, s, h)

-- a mark that one pair puts on another is counted
counted_mark : (placing : Placing) (segments : List WholeSegment) (s t : Pair) (m : Point) → Has (pairs segments) s → Has (pairs segments) t → Has (marks_by placing s t) m → 0 < mark_count placing segments
unfolding marks_on mark_count
counted_mark placing segments s t m i j k =
    let here = Has-distinct_in_order point_cmp_total point_same _ m (Has-flat_map (λ u. marks_by placing s u) (pairs segments) t m j k) in
    let some = length-some _ m here in
    let most = sum_by-at_le (λ u. length (marks_on placing segments u)) (pairs segments) s i in
    omega (arith, some, most)

pub some_mark : (placing : Placing) (segments : List WholeSegment) → IsTrue (is_rounded segments) → 0 < mark_count placing segments
unfolding is_rounded cross_inexactly
some_mark placing segments h =
    let all = pairs segments in
    let first = Has-from_list_any (λ s. list_any (λ t. cross_inexactly s t) all) all h in
    let second = Has-from_list_any (λ t. cross_inexactly first.0 t) all first.2 in
    let s = first.0 in
    let t = second.0 in
    ⊎_elim (counted_mark placing segments s t _ first.1 second.1) (counted_mark placing segments t s _ second.1 first.1)
    (mark_of_crossing placing s t (and_parts (do_cross s t) (not (is_exact s t)) second.2).0)

-- ---- the law

pub settling_lowers : SettlingLowers
unfolding pass potential
settling_lowers segments map rounded =
    let e = potential-cut segments (are_ordered-map segments map) in
    let f = sum_by-join_le spread (cut settling segments) in
    (some_mark settling segments rounded, omega (arith, e, f))
