-- On exact input the pieces lie on the given segments between special points, and each elementary pair keeps its count.
use Rattle.std.proofs.Common.{◌≡◌, refl, sym, ap, ap₂, ◌∙◌, ◌⊎◌, ⊎_elim, inl, inr, subst, true, false, Bool, IsTrue, IsFalse, ◌&&◌, cond, List, [], ◌∷◌, ◌++◌, map, filter, ℕ, zero, suc}
use Rattle.std.specs.Prelude.{flat_map, pos}
use Rattle.std.specs.List.{list_any, AllByRecursion}
use Rattle.std.proofs.lemmas.Bool.{cond-false, cond-true, cases_Bool, and_from, and_parts, both_ways, not-true, false_from_ne_true}
use Rattle.overlay_geometry.specs.Points.{Point, Pair, point_cmp, point_eq, is_end, lies_on, is_strictly_inside, turn}
use Rattle.overlay_geometry.specs.Sorting.{distinct_in_order}
use Rattle.overlay_base.specs.Windings.{Winding, total, add, empty}
use Rattle.overlay_base.specs.Segments.{WholeSegment, pairs, counts, ends, are_ordered}
use Rattle.overlay_base.specs.Join.{join}
use Rattle.overlay_geometry.specs.Meeting.{do_cross}
use Rattle.overlay_base.specs.Sums.{gathered}
use Rattle.overlay_intersections.specs.Crossing.{snapping_point}
use Rattle.overlay_intersections.specs.Marks.{Placing, cross_inexactly}
use Rattle.overlay_cuts.specs.Path.{last_point, piece, pieces_along, pieces}
use Rattle.overlay_cuts.specs.Pass.{pieces_of, cut, pass}
use Rattle.overlay_intersections.specs.PassMarks.{marks_on, is_rounded}
use Rattle.overlay_cuts.specs.ExactInput.{is_exact_input, special_points, has_point, contains_pair, is_elementary, count_along, lies_on_input}
use Rattle.overlay_geometry.proofs.laws.lists.Lists.{Pairwise, AllByRecursion-append, AllByRecursion-weaker, Has, AllByRecursion-at, AllByRecursion-from_Has, Has-append_left, Has-append_right, Has-flat_map, Has-map, Has-filter, list_any-at, list_all-from_Has, AllByRecursion-map, list_any-from_Has}
use Rattle.overlay_geometry.proofs.laws.lists.Keys.{AllByRecursion-distinct_in_order}
use Rattle.overlay_base.proofs.laws.counts.Windings.{empty-add, add-empty, cond-empty, cond-add}
use Rattle.overlay_base.proofs.laws.joins.Bags.{windings_add, gathered-join}
use Rattle.overlay_base.proofs.laws.joins.Maps.{are_ordered-join}
use Rattle.overlay_geometry.proofs.laws.geometry.Points.{Before, before, UpTo, UpTo-same, UpTo-Before, UpTo-trans, UpTo-not_Before, by_order, point_eq_same, collinear, lies_on_order, lies_on_from_order, inside_order, inside_from_order, turn_same_outer, turn_same_last}
use Rattle.overlay_cuts.proofs.laws.paths.Paths.{Pairwise-distinct_in_order}
use Rattle.overlay_cuts.proofs.laws.paths.Pieces.{last_point-append}
use Rattle.overlay_cuts.proofs.laws.paths.Cuts.{gathered-cut, AllByRecursion-join}
use Rattle.overlay_cuts.proofs.laws.planar.Meetings.{MarksAt, MarksAt-inside, IsPart, IsPart-line, IsPart-a_on, IsPart-b_on}
use Rattle.overlay_cuts.proofs.laws.planar.Parts.{IsMarked, IsUndivided}
use Rattle.overlay_intersections.proofs.laws.crossings.AnswerMarks.{end_cases}
use Rattle.overlay_intersections.proofs.laws.crossings.ExactCrossings.{IsCrossingPoint-unique, from_both_lines, exact_snapping_point}
use Rattle.overlay_cuts.proofs.laws.planar.ExactMarks.{end_b, In, In-ordered, In-exact, marks_on-IsMarked}
use Rattle.overlay_cuts.proofs.laws.planar.OrderedPaths.{IsOnLine, ends_ordered, piece_forward, path_in_order}
use Rattle.overlay_cuts.proofs.laws.planar.PlanarPasses.{IsPieceOf, pieces_of_parts, pass_undivided}
use Rattle.overlay_cuts.proofs.laws.planar.Unmarked.{none_passes}

-- ---- one pass

-- the pairs of the join are given
pub In-join : (given : List WholeSegment) (s : Pair) → In (join given) s → In given s
In-join given s i =
    let each = AllByRecursion-join (In given) given (AllByRecursion-from_Has (λ (u : WholeSegment). In given u.pair) given (λ u j. Has-map (λ (v : WholeSegment). v.pair) given u j)) in
    AllByRecursion-at (In given) (pairs (join given)) s (AllByRecursion-map (In given) (λ (u : WholeSegment). u.pair) (join given) each) i

pub join_not_rounded : (given : List WholeSegment) → IsFalse (is_rounded given) → IsFalse (is_rounded (join given))
unfolding is_rounded
join_not_rounded given h =
    none_passes (λ s. list_any (λ t. cross_inexactly s t) (pairs (join given))) (pairs (join given)) (λ s i.
    none_passes (λ t. cross_inexactly s t) (pairs (join given)) (λ t j.
    list_any-at (λ u. cross_inexactly s u) (pairs given) t (list_any-at (λ v. list_any (λ u. cross_inexactly v u) (pairs given)) (pairs given) s h (In-join given s i)) (In-join given t j)))

-- ---- special points

Has-end_a : (segments : List Pair) (s : Pair) → Has segments s → Has (ends segments) s.a
Has-end_a segments s i = Has-flat_map (λ (u : Pair). u.a ∷ u.b ∷ []) segments s s.a i (inl refl)

Has-end_b : (segments : List Pair) (s : Pair) → Has segments s → Has (ends segments) s.b
Has-end_b segments s i = Has-flat_map (λ (u : Pair). u.a ∷ u.b ∷ []) segments s s.b i (inr (inl refl))

pub special_end : (segments : List Pair) (s : Pair) (e : Point) → Has segments s → IsTrue (is_end s e) → Has (special_points segments) e
unfolding special_points
special_end segments s e i h =
    Has-append_left (ends segments) (flat_map (λ s. map (λ t. snapping_point s t) (filter (λ t. do_cross s t) segments)) segments) e
    (⊎_elim (λ at_a. subst (Has (ends segments)) (sym at_a) (Has-end_a segments s i)) (λ at_b. subst (Has (ends segments)) (sym at_b) (Has-end_b segments s i)) (end_cases s e h))

special_crossing : (segments : List Pair) (s t : Pair) → Has segments s → Has segments t → IsTrue (do_cross s t) → Has (special_points segments) (snapping_point s t)
unfolding special_points
special_crossing segments s t i j c =
    Has-append_right (ends segments) (flat_map (λ s. map (λ t. snapping_point s t) (filter (λ t. do_cross s t) segments)) segments) (snapping_point s t)
    (Has-flat_map (λ s. map (λ t. snapping_point s t) (filter (λ t. do_cross s t) segments)) segments s (snapping_point s t) i
    (Has-map (λ u. snapping_point s u) (filter (λ u. do_cross s u) segments) t (Has-filter (λ u. do_cross s u) segments t j c)))

-- marks are special
pub special_mark : (given : List WholeSegment) → IsTrue (are_ordered given) → IsFalse (is_rounded given) → (s u : Pair) (e : Point) → In given s → In given u → MarksAt s u e → Has (special_points (pairs given)) e
special_mark given o h s u e i j (inr m) = special_end (pairs given) u e j m.2
special_mark given o h s u e i j (inl m) =
    let on_s = (inside_order s e (In-ordered given o s i) m.0).0 in
    let on_u = (inside_order u e (In-ordered given o u j) m.2).0 in
    let same = IsCrossingPoint-unique s u (snapping_point s u) e m.1 (exact_snapping_point s u m.1 (In-exact given h s u i j m.1)) (from_both_lines s u e on_s on_u) in
    subst (Has (special_points (pairs given))) same (special_crossing (pairs given) s u i j m.1)

special_stop : (given : List WholeSegment) → IsTrue (are_ordered given) → IsFalse (is_rounded given) → (s : Pair) (e : Point) → In (join given) s → IsTrue (is_end s e) ⊎ IsMarked (In (join given)) s e → Has (special_points (pairs given)) e
special_stop given o h s e i (inl k) = special_end (pairs given) s e (In-join given s i) k
special_stop given o h s e i (inr (u, j, m)) = special_mark given o h s u e (In-join given s i) (In-join given u j) m

pub contains_from : (s e : Pair) → IsTrue (lies_on s e.a) → IsTrue (lies_on s e.b) → IsTrue (contains_pair s e)
unfolding contains_pair
contains_from s e h k = and_from (lies_on s e.a) (lies_on s e.b) h k

pub contains_parts : (s e : Pair) → IsTrue (contains_pair s e) → IsTrue (lies_on s e.a) × IsTrue (lies_on s e.b)
unfolding contains_pair
contains_parts s e h = and_parts (lies_on s e.a) (lies_on s e.b) h

-- the result lies on the given segments
piece_on_input : (given : List WholeSegment) → IsTrue (are_ordered given) → IsFalse (is_rounded given) → (r : Pair) → IsPieceOf (join given) r →
    (list_any (λ s. contains_pair s r) (pairs given) && has_point (special_points (pairs given)) r.a && has_point (special_points (pairs given)) r.b) ≡ true
piece_on_input given o h r (s, i, u) =
    let points = special_points (pairs given) in
    let on = list_any-from_Has (λ t. contains_pair t r) (pairs given) s (In-join given s i) (contains_from s r (IsPart-a_on r s u.part) (IsPart-b_on r s u.part)) in
    let at_a = list_any-from_Has (λ q. point_eq r.a q) points r.a (special_stop given o h s r.a i u.at_a) (point_eq_same r.a) in
    let at_b = list_any-from_Has (λ q. point_eq r.b q) points r.b (special_stop given o h s r.b i u.at_b) (point_eq_same r.b) in
    and_from _ _ (and_from _ _ on at_a) at_b

pub pass_on_input : (placing : Placing) (given : List WholeSegment) → IsTrue (are_ordered given) → IsFalse (is_rounded given) → IsTrue (lies_on_input given (pass placing (join given)))
unfolding lies_on_input
pass_on_input placing given o h =
    let each = AllByRecursion-map (IsPieceOf (join given)) (λ (u : WholeSegment). u.pair) (pass placing (join given)) (pass_undivided placing (join given) (are_ordered-join given o) (join_not_rounded given h)) in
    list_all-from_Has (λ r. list_any (λ s. contains_pair s r) (pairs given) && has_point (special_points (pairs given)) r.a && has_point (special_points (pairs given)) r.b) (pairs (pass placing (join given)))
    (λ r i. piece_on_input given o h r (AllByRecursion-at (IsPieceOf (join given)) (pairs (pass placing (join given))) r each i))

-- ---- counts along an elementary pair

-- what a segment counts along e
abbrev along : Pair → Pair → Winding → Winding
along e p c = cond (contains_pair p e) c empty

count_along-gathered : (segments : List WholeSegment) (e : Pair) → count_along segments e ≡ gathered add empty (λ s. along e s.pair s.count) segments
unfolding count_along total
count_along-gathered [] e = refl
count_along-gathered (s ∷ segments) e = by (contains_pair s.pair e) (count_along-gathered segments e)
  where
    rest : List WholeSegment
    rest = filter (λ u. contains_pair u.pair e) segments

    sum : Winding
    sum = gathered add empty (λ u. along e u.pair u.count) segments

    by : (b : Bool) → total (counts rest) ≡ sum → total (counts (cond b (s ∷ rest) rest)) ≡ add (cond b s.count empty) sum
    by true ih = ap (add s.count) ih
    by false ih = ih ∙ sym (empty-add sum)

-- a join changes none
pub count_along-join : (bag : List WholeSegment) (e : Pair) → count_along (join bag) e ≡ count_along bag e
count_along-join bag e =
    count_along-gathered (join bag) e ∙ gathered-join windings_add (along e) (λ p. cond-empty (contains_pair p e)) (λ p c d. cond-add (contains_pair p e) c d) bag ∙ sym (count_along-gathered bag e)

along_misses : (e p : Pair) (c : Winding) → IsFalse (contains_pair p e) → along e p c ≡ empty
along_misses e p c h = cond-false (contains_pair p e) c empty h

along_holds : (e p : Pair) (c : Winding) → IsTrue (contains_pair p e) → along e p c ≡ c
along_holds e p c h = cond-true (contains_pair p e) c empty h

gathered_on : (f g : WholeSegment → Winding) (xs : List WholeSegment) → ((s : WholeSegment) → Has xs s → f s ≡ g s) → gathered add empty f xs ≡ gathered add empty g xs
gathered_on f g [] h = refl
gathered_on f g (x ∷ xs) h = ap₂ add (h x (inl refl)) (gathered_on f g xs (λ z i. h z (inr i)))

gathered_none : (f : WholeSegment → Winding) (xs : List WholeSegment) → AllByRecursion (λ s. f s ≡ empty) xs → gathered add empty f xs ≡ empty
gathered_none f [] h = refl
gathered_none f (x ∷ xs) h = ap₂ add h.0 (gathered_none f xs h.1) ∙ empty-add empty

-- a step of the path before e, after it, or along it
step_before : (e : Pair) (p q : Point) (c : Winding) → Before e.a e.b → Before p q → UpTo q e.a → along e (record { a = p; b = q }) c ≡ empty
step_before e p q c o less h =
    along_misses e (record { a = p; b = q }) c (false_from_ne_true (contains_pair (record { a = p; b = q }) e) (λ k.
    let on = lies_on_order (record { a = p; b = q }) e.b less (contains_parts (record { a = p; b = q }) e k).1 in
    UpTo-not_Before e.b e.a (UpTo-trans e.b q e.a on.2 h) o))

step_after : (e : Pair) (p q : Point) (c : Winding) → Before e.a e.b → Before p q → UpTo e.b p → along e (record { a = p; b = q }) c ≡ empty
step_after e p q c o less h =
    along_misses e (record { a = p; b = q }) c (false_from_ne_true (contains_pair (record { a = p; b = q }) e) (λ k.
    let on = lies_on_order (record { a = p; b = q }) e.a less (contains_parts (record { a = p; b = q }) e k).0 in
    UpTo-not_Before e.b e.a (UpTo-trans e.b p e.a h on.1) o))

step_along : (e s : Pair) (p q : Point) (c : Winding) → Before s.a s.b → Before e.a e.b → Before p q → IsOnLine s p → IsOnLine s q → IsOnLine s e.a → IsOnLine s e.b → UpTo p e.a → UpTo e.b q → along e (record { a = p; b = q }) c ≡ c
step_along e s p q c os o less hp hq ha hb h k =
    let step : Pair = record { a = p; b = q } in
    let on_a = lies_on_from_order step e.a less (collinear s.a s.b p q e.a os hp hq ha) h (UpTo-trans e.a e.b q (UpTo-Before e.a e.b o) k) in
    let on_b = lies_on_from_order step e.b less (collinear s.a s.b p q e.b os hp hq hb) (UpTo-trans p e.a e.b h (UpTo-Before e.a e.b o)) k in
    along_holds e step c (contains_from step e on_a on_b)

along_piece : (e : Pair) (c : Winding) (p q : Point) → Before p q → along e (piece c p q).pair (piece c p q).count ≡ along e (record { a = p; b = q }) c
along_piece e c p q h = ap (λ (u : WholeSegment). along e u.pair u.count) (piece_forward c p q h)

sum_after : (e : Pair) (c : Winding) (p : Point) (xs : List Point) → Before e.a e.b → Pairwise Before (p ∷ xs) → UpTo e.b p → gathered add empty (λ u. along e u.pair u.count) (pieces_along c (p ∷ xs)) ≡ empty
unfolding pieces_along
sum_after e c p [] o two h = refl
sum_after e c p (q ∷ xs) o two h =
    ap₂ add (along_piece e c p q two.0.0 ∙ step_after e p q c o two.0.0 h) (sum_after e c q xs o two.1 (UpTo-trans e.b p q h (UpTo-Before p q two.0.0))) ∙ empty-add empty

sum_through : (e s : Pair) (c : Winding) (p : Point) (xs : List Point) → Before s.a s.b → Before e.a e.b → IsOnLine s e.a → IsOnLine s e.b → Pairwise Before (p ∷ xs) → AllByRecursion (IsOnLine s) (p ∷ xs) → AllByRecursion (λ v. UpTo v e.a ⊎ UpTo e.b v) xs → UpTo p e.a → UpTo e.b (last_point p xs) → gathered add empty (λ u. along e u.pair u.count) (pieces_along c (p ∷ xs)) ≡ c
unfolding pieces_along last_point
sum_through e s c p [] os o ha hb two on sides h k = absurd (UpTo-not_Before e.b e.a (UpTo-trans e.b p e.a k h) o)
sum_through e s c p (q ∷ xs) os o ha hb two on sides h k =
    ⊎_elim
    (λ low. ap₂ add (along_piece e c p q two.0.0 ∙ step_before e p q c o two.0.0 low) (sum_through e s c q xs os o ha hb two.1 on.1 sides.1 low k) ∙ empty-add c)
    (λ high. ap₂ add (along_piece e c p q two.0.0 ∙ step_along e s p q c os o two.0.0 on.0 on.1.0 ha hb h high) (sum_after e c q xs o two.1 high) ∙ add-empty c)
    sides.0

-- ---- an elementary pair

pub elementary_ordered : (given : List WholeSegment) (e : Pair) → IsTrue (is_elementary given e) → Before e.a e.b
unfolding is_elementary
elementary_ordered given e h = before e.a e.b (and_parts _ _ (and_parts _ _ (and_parts _ _ (and_parts _ _ h).0).0).0).0

pub elementary_clear : (given : List WholeSegment) (e : Pair) → IsTrue (is_elementary given e) → (v : Point) → Has (special_points (pairs given)) v → IsFalse (is_strictly_inside e v)
unfolding is_elementary
elementary_clear given e h v i =
    list_any-at (λ p. is_strictly_inside e p) (special_points (pairs given)) v (not-true (list_any (λ p. is_strictly_inside e p) (special_points (pairs given))) (and_parts _ _ h).1) i

-- a point of its line that does not lie strictly inside it comes before it or after it
beside : (e : Pair) (v : Point) → Before e.a e.b → turn e.a e.b v ≡ pos 0 → IsFalse (is_strictly_inside e v) → UpTo v e.a ⊎ UpTo e.b v
beside e v o on h =
    by_order v e.a (λ less. inl (UpTo-Before v e.a less)) (λ same. inl (subst (UpTo v) same (UpTo-same v))) (λ after.
    by_order v e.b (λ less. absurd (both_ways (is_strictly_inside e v) h (inside_from_order e v o on after less))) (λ same. inr (subst (λ z. UpTo z v) same (UpTo-same v))) (λ more. inr (UpTo-Before e.b v more)))

-- ---- the pieces of a segment together count along e what the segment counts there

IsPart-on : (p s : Pair) (v : Point) → IsPart p s → IsTrue (lies_on p v) → IsTrue (lies_on s v)
IsPart-on p s v h k =
    let on = lies_on_order p v h.ordered k in
    lies_on_from_order s v h.whole (IsPart-line p s v h on.0) (UpTo-trans s.a p.a v h.from_a on.1) (UpTo-trans v p.b s.b on.2 h.up_to_b)

IsPart-contains : (p s e : Pair) → IsPart p s → IsTrue (contains_pair p e) → IsTrue (contains_pair s e)
IsPart-contains p s e h k =
    let on = contains_parts p e k in
    contains_from s e (IsPart-on p s e.a h on.0) (IsPart-on p s e.b h on.1)

last_of_path : (p b : Point) (points : List Point) → last_point p (points ++ b ∷ []) ≡ b
unfolding last_point
last_of_path p b points = last_point-append p points (b ∷ [])

pieces_miss : (placing : Placing) (segments : List WholeSegment) → IsTrue (are_ordered segments) → IsFalse (is_rounded segments) → (s : WholeSegment) → Has segments s → (e : Pair) → IsFalse (contains_pair s.pair e) → gathered add empty (λ u. along e u.pair u.count) (pieces_of placing segments s) ≡ empty
pieces_miss placing segments o h s i e n =
    gathered_none (λ u. along e u.pair u.count) (pieces_of placing segments s)
    (AllByRecursion-weaker (λ piece. IsUndivided (In segments) s.pair piece.pair) (λ u. along e u.pair u.count ≡ empty)
    (λ u part. along_misses e u.pair u.count (false_from_ne_true (contains_pair u.pair e) (λ k. both_ways (contains_pair s.pair e) n (IsPart-contains u.pair s.pair e part.part k))))
    (pieces_of placing segments s) (pieces_of_parts placing segments o h s i))

pieces_meet : (placing : Placing) (segments : List WholeSegment) → IsTrue (are_ordered segments) → IsFalse (is_rounded segments) → (s : WholeSegment) → Has segments s → (e : Pair) → Before e.a e.b →
    ((v : Point) → IsTrue (is_end s.pair v) ⊎ IsMarked (In segments) s.pair v → IsFalse (is_strictly_inside e v)) → IsTrue (contains_pair s.pair e) → gathered add empty (λ u. along e u.pair u.count) (pieces_of placing segments s) ≡ s.count
unfolding pieces
pieces_meet placing segments o h s i e oe clear k =
    let pair = s.pair in
    let j : In segments pair = Has-map (λ (u : WholeSegment). u.pair) segments s i in
    let os = In-ordered segments o pair j in
    let on = contains_parts pair e k in
    let at_a = lies_on_order pair e.a os on.0 in
    let at_b = lies_on_order pair e.b os on.1 in
    let marks = marks_on placing segments pair in
    let points = distinct_in_order point_cmp marks in
    let marked = AllByRecursion-from_Has (IsMarked (In segments) pair) marks (marks_on-IsMarked placing segments o h pair j) in
    let inside = AllByRecursion-weaker (IsMarked (In segments) pair) (λ v. IsTrue (is_strictly_inside pair v)) (λ v m. MarksAt-inside pair m.0 v m.2) marks marked in
    let parts = ends_ordered pair points os (Pairwise-distinct_in_order marks) (AllByRecursion-distinct_in_order point_cmp (λ v. IsTrue (is_strictly_inside pair v)) marks inside) in
    let side = λ (v : Point) (stop : IsTrue (is_end pair v) ⊎ IsMarked (In segments) pair v) (line : IsOnLine pair v). beside e v oe (collinear pair.a pair.b e.a e.b v os at_a.0 at_b.0 line) (clear v stop) in
    let sides = AllByRecursion-weaker (IsMarked (In segments) pair) (λ v. UpTo v e.a ⊎ UpTo e.b v) (λ v m. side v (inr m) (inside_order pair v os (MarksAt-inside pair m.0 v m.2)).0) points (AllByRecursion-distinct_in_order point_cmp (IsMarked (In segments) pair) marks marked) in
    let side_b = side pair.b (inl (end_b pair)) (turn_same_last pair.a pair.b) in
    ap (λ (l : List Point). gathered add empty (λ u. along e u.pair u.count) (pieces_along s.count l)) (path_in_order pair marks os inside)
    ∙ sum_through e pair s.count pair.a (points ++ pair.b ∷ []) os oe at_a.0 at_b.0 (parts.1, parts.0) (turn_same_outer pair.a pair.b, parts.2)
    (AllByRecursion-append (λ v. UpTo v e.a ⊎ UpTo e.b v) points (pair.b ∷ []) sides (side_b, tt)) at_a.1 (subst (UpTo e.b) (sym (last_of_path pair.a pair.b points)) at_b.2)

pub count_along-cut : (placing : Placing) (segments : List WholeSegment) → IsTrue (are_ordered segments) → IsFalse (is_rounded segments) → (e : Pair) → Before e.a e.b →
    ((s : Pair) (v : Point) → In segments s → IsTrue (is_end s v) ⊎ IsMarked (In segments) s v → IsFalse (is_strictly_inside e v)) → count_along (cut placing segments) e ≡ count_along segments e
count_along-cut placing segments o h e oe clear =
    count_along-gathered (cut placing segments) e
    ∙ gathered-cut windings_add (λ u. along e u.pair u.count) (marks_on placing segments) segments
    ∙ gathered_on (λ s. gathered add empty (λ u. along e u.pair u.count) (pieces_of placing segments s)) (λ s. along e s.pair s.count) segments
    (λ s i. ⊎_elim
    (λ yes. pieces_meet placing segments o h s i e oe (λ v stop. clear s.pair v (Has-map (λ (u : WholeSegment). u.pair) segments s i) stop) yes ∙ sym (along_holds e s.pair s.count yes))
    (λ no_. pieces_miss placing segments o h s i e no_ ∙ sym (along_misses e s.pair s.count no_))
    (cases_Bool (contains_pair s.pair e)))
    ∙ sym (count_along-gathered segments e)

-- a pass over the join of exact input keeps the count along each elementary pair
pub count_along-pass : (placing : Placing) (given : List WholeSegment) → IsTrue (are_ordered given) → IsFalse (is_rounded given) → (e : Pair) → IsTrue (is_elementary given e) → count_along (pass placing (join given)) e ≡ count_along given e
unfolding pass
count_along-pass placing given o h e k =
    count_along-join (cut placing (join given)) e
    ∙ count_along-cut placing (join given) (are_ordered-join given o) (join_not_rounded given h) e (elementary_ordered given e k) (λ s v i stop. elementary_clear given e k v (special_stop given o h s v i stop))
    ∙ count_along-join given e

pub exact_means : (given : List WholeSegment) → IsTrue (is_exact_input given) → IsFalse (is_rounded given)
unfolding is_exact_input
exact_means given h = not-true (is_rounded given) h
