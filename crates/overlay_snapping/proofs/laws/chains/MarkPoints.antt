-- The points through which chains go, by the marks of a settling pass: a crossing is rounded to a point exactly where a mark lies
-- off the segment that it marks, and the ends and the marks are all points of chains.
use Rattle.std.proofs.Common.{◌≡◌, sym, ◌∙◌, subst, ap, ◌⊎◌, ⊎_elim, inl, inr, refl, true, false, IsTrue, IsFalse, Bool, not, ◌&&◌, List, [], ◌∷◌, map, filter}
use Rattle.std.specs.Prelude.{pos, flat_map, Contains}
use Rattle.std.specs.Ordering.{int_eq}
use Rattle.std.proofs.lemmas.Bool.{and_parts, and_from, cases_Bool, both_ways, not-true, cond_both, false_from_ne_true}
use Rattle.overlay_geometry.specs.Points.{Point, Pair, turn, point_cmp, pair_lt, is_end, is_in_box, is_strictly_inside, lies_on}
use Rattle.overlay_geometry.specs.Meeting.{do_cross}
use Rattle.overlay_geometry.specs.Sorting.{distinct_in_order}
use Rattle.overlay_geometry.proofs.laws.geometry.Points.{point_cmp_total, point_same, Before, UpTo-same, UpTo-Before, lies_on_from_order, inside_parts, turn_same_last, turn_same_outer}
use Rattle.overlay_geometry.proofs.laws.lists.Lists.{Has, AllByRecursion-at, AllByRecursion-from_Has, Has-append_left, Has-append_right, Has-flat_map, Has-filter, Has-filter_out, Has-map, Has-map_out}
use Rattle.overlay_geometry.proofs.laws.lists.Elements.{Contains-from_Has, Has-from_Contains, Has-append_out, Has-flat_map_out}
use Rattle.overlay_geometry.proofs.laws.lists.Keys.{AllByRecursion-distinct_in_order, Has-distinct_in_order}
use Rattle.overlay_base.specs.Segments.{WholeSegment, pairs, ends}
use Rattle.overlay_intersections.specs.Crossing.{is_exact, settling_point}
use Rattle.overlay_intersections.specs.Marks.{settling, crossing_mark, ordered_mark, marks_by, cross_inexactly}
use Rattle.overlay_intersections.specs.PassMarks.{marks_on}
use Rattle.overlay_intersections.proofs.laws.crossings.AnswerMarks.{end_cases}
use Rattle.overlay_intersections.proofs.laws.crossings.Crossings.{do_cross-swap}
use Rattle.overlay_intersections.proofs.laws.crossings.CrossingLaws.{no_end_of_both, exact_is_on_both_lines, target_does_not_matter, points_lie_in_both_boxes}
use Rattle.overlay_intersections.proofs.laws.marks.Marks.{marks_at_crossing, marks_at_ends}
use Rattle.overlay_cuts.proofs.laws.planar.ExactMarks.{In-ordered}
use Rattle.overlay_snapping.specs.Chains.{crossings_by, rounded_crossings, whole_crossings, given_points, rounded, passed, IsChainPoint}
use Rattle.overlay_snapping.specs.Laws.{RoundedAreMarksOff, ChainPointsAreEndsAndMarks}

-- ---- the mark of a crossing

settles_at : (s t : Pair) → IsTrue (do_cross s t) → ordered_mark settling s t ≡ settling_point s t
unfolding ordered_mark crossing_mark
settles_at s t c = cond_both (pair_lt s t) (settling_point s t) (settling_point t s) (λ p. p ≡ settling_point s t) (λ _. refl) (λ _. sym (target_does_not_matter s t c).1)

pub Has-marks_on : (segments : List WholeSegment) (s t : Pair) (c : Point) → Has (pairs segments) t → Has (marks_by settling s t) c → Has (marks_on settling segments s) c
unfolding marks_on
Has-marks_on segments s t c j h =
    Has-distinct_in_order point_cmp_total point_same (flat_map (λ u. marks_by settling s u) (pairs segments)) c
    (Has-flat_map (λ u. marks_by settling s u) (pairs segments) t c j h)

-- where two cross, each is marked at the settling point unless that is an end of it
crossing_marks : (segments : List WholeSegment) (s t : Pair) → Has (pairs segments) t → IsTrue (do_cross s t) → is_end s (settling_point s t) ≡ false → Has (marks_on settling segments s) (settling_point s t)
crossing_marks segments s t j c e =
    Has-marks_on segments s t (settling_point s t) j
    (subst (λ l. Has l (settling_point s t)) (sym (marks_at_crossing settling s t c))
    (Has-filter (λ p. not (is_end s p)) (ordered_mark settling s t ∷ []) (settling_point s t) (inl (settles_at s t c)) (ap not e)))

crossing_marks_other : (segments : List WholeSegment) (s t : Pair) → Has (pairs segments) s → IsTrue (do_cross s t) → is_end t (settling_point s t) ≡ false → Has (marks_on settling segments t) (settling_point s t)
crossing_marks_other segments s t i c e =
    let same : settling_point t s ≡ settling_point s t = sym (target_does_not_matter s t c).1 in
    subst (Has (marks_on settling segments t)) same
    (crossing_marks segments t s i (do_cross-swap s t c) (subst (λ p. is_end t p ≡ false) (sym same) e))

-- ---- a mark is where two cross, or an end that lies inside

pub data IsMarkBy (s t : Pair) (c : Point) : Type 0 where
  crosses : IsTrue (do_cross s t) → c ≡ settling_point s t → IsMarkBy s t c
  touches : IsTrue (is_strictly_inside s c) → (c ≡ t.a) ⊎ (c ≡ t.b) → IsMarkBy s t c

by_one : (s t : Pair) (c : Point) → Has (marks_by settling s t) c → IsMarkBy s t c
by_one s t c h = ⊎_elim cross touch (cases_Bool (do_cross s t))
  where
    cross : do_cross s t ≡ true → IsMarkBy s t c
    cross k =
        let found = Has-filter_out (λ p. not (is_end s p)) (ordered_mark settling s t ∷ []) c (subst (λ l. Has l c) (marks_at_crossing settling s t k) h) in
        ⊎_elim (λ e. crosses k (sym e ∙ settles_at s t k)) (λ n. absurd n) found.0

    touch : do_cross s t ≡ false → IsMarkBy s t c
    touch k =
        let found = Has-filter_out (λ p. is_strictly_inside s p) (t.a ∷ t.b ∷ []) c (subst (λ l. Has l c) (marks_at_ends settling s t k) h) in
        touches found.1 (⊎_elim (λ e. inl (sym e)) (λ r. ⊎_elim (λ e. inr (sym e)) (λ n. absurd n) r) found.0)

pub mark_is_by : (segments : List WholeSegment) (s : Pair) (c : Point) → Has (marks_on settling segments s) c → (t : Pair) × Has (pairs segments) t × IsMarkBy s t c
unfolding marks_on
mark_is_by segments s c h =
    let found = Has-flat_map_out (λ t. marks_by settling s t) (pairs segments) c (from_distinct (flat_map (λ t. marks_by settling s t) (pairs segments)) h) in
    (found.0, found.1, by_one s found.0 c found.2)
  where
    from_distinct : (points : List Point) → Has (distinct_in_order point_cmp points) c → Has points c
    from_distinct points k = AllByRecursion-at (Has points) (distinct_in_order point_cmp points) c (AllByRecursion-distinct_in_order point_cmp (Has points) points (AllByRecursion-from_Has (Has points) points (λ x i. i))) k

-- ---- crossings

pub end_lies_on : (s : Pair) (c : Point) → Before s.a s.b → lies_on s c ≡ false → is_end s c ≡ false
end_lies_on s c o h = false_from_ne_true (is_end s c) (λ e. both_ways (lies_on s c) h (end_on (end_cases s c e)))
  where
    end_on : (c ≡ s.a) ⊎ (c ≡ s.b) → lies_on s c ≡ true
    end_on (inl e) = rw e (lies_on_from_order s s.a o (turn_same_outer s.a s.b) (UpTo-same s.a) (UpTo-Before s.a s.b o))
    end_on (inr e) = rw e (lies_on_from_order s s.b o (turn_same_last s.a s.b) (UpTo-Before s.a s.b o) (UpTo-same s.b))

-- an exact crossing lies on the first
pub exact_lies_on : (s t : Pair) → IsTrue (do_cross s t) → is_exact s t ≡ true → lies_on s (settling_point s t) ≡ true
unfolding lies_on
exact_lies_on s t c e =
    let lines = and_parts (int_eq (turn s.a s.b (settling_point s t)) (pos 0)) (int_eq (turn t.a t.b (settling_point s t)) (pos 0)) (sym (exact_is_on_both_lines s t c).1 ∙ e) in
    and_from _ _ lines.0 (points_lie_in_both_boxes s t c).2

-- what lies on both is an exact crossing
lies_on_exact : (s t : Pair) → IsTrue (do_cross s t) → lies_on s (settling_point s t) ≡ true → lies_on t (settling_point s t) ≡ true → is_exact s t ≡ true
unfolding lies_on
lies_on_exact s t c h k =
    let on_s = and_parts (int_eq (turn s.a s.b (settling_point s t)) (pos 0)) (is_in_box s (settling_point s t)) h in
    let on_t = and_parts (int_eq (turn t.a t.b (settling_point s t)) (pos 0)) (is_in_box t (settling_point s t)) k in
    (exact_is_on_both_lines s t c).1 ∙ and_from _ _ on_s.0 on_t.0

pub inexact_parts : (s t : Pair) → cross_inexactly s t ≡ true → (do_cross s t ≡ true) × (is_exact s t ≡ false)
unfolding cross_inexactly
inexact_parts s t h = let parts = and_parts (do_cross s t) (not (is_exact s t)) h in (parts.0, not-true (is_exact s t) parts.1)

pub inexact_from : (s t : Pair) → do_cross s t ≡ true → is_exact s t ≡ false → cross_inexactly s t ≡ true
unfolding cross_inexactly
inexact_from s t c e = and_from (do_cross s t) (not (is_exact s t)) c (ap not e)

-- the pairs and the test behind a crossing of a list
pub Has-crossings_by : (test : Pair → Pair → Bool) (list : List Pair) (s t : Pair) → Has list s → Has list t → test s t ≡ true → Has (crossings_by test list) (settling_point s t)
unfolding crossings_by
Has-crossings_by test list s t i j h =
    Has-flat_map (λ s. map (λ t. settling_point s t) (filter (λ t. test s t) list)) list s (settling_point s t) i
    (Has-map (λ t. settling_point s t) (filter (λ t. test s t) list) t (Has-filter (λ t. test s t) list t j h))

pub Has-crossings_by_out : (test : Pair → Pair → Bool) (list : List Pair) (c : Point) → Has (crossings_by test list) c → (s t : Pair) × Has list s × Has list t × (test s t ≡ true) × (settling_point s t ≡ c)
unfolding crossings_by
Has-crossings_by_out test list c h =
    let of_s = Has-flat_map_out (λ s. map (λ t. settling_point s t) (filter (λ t. test s t) list)) list c h in
    let of_t = Has-map_out (λ t. settling_point of_s.0 t) (filter (λ t. test of_s.0 t) list) c of_s.2 in
    let passed = Has-filter_out (λ t. test of_s.0 t) list of_t.0 of_t.1 in
    (of_s.0, of_t.0, of_s.1, passed.0, passed.1, of_t.2)

-- ---- the laws

pub rounded_are_marks_off : RoundedAreMarksOff
rounded_are_marks_off segments o c = (λ h. to (Has-crossings_by_out cross_inexactly (pairs segments) c (Has-from_Contains (rounded_crossings (pairs segments)) c h)), from)
  where
    IsOff : Type 0
    IsOff = (s : Pair) × Contains (pairs segments) s × Contains (marks_on settling segments s) c × IsFalse (lies_on s c)

    off : (s : Pair) → Has (pairs segments) s → Has (marks_on settling segments s) c → lies_on s c ≡ false → IsOff
    off s i m n = (s, Contains-from_Has (pairs segments) s i, Contains-from_Has (marks_on settling segments s) c m, n)

    either : (s t : Pair) → Has (pairs segments) s → Has (pairs segments) t → do_cross s t ≡ true → is_exact s t ≡ false → settling_point s t ≡ c →
        (lies_on s c ≡ true) ⊎ (lies_on s c ≡ false) → (lies_on t c ≡ true) ⊎ (lies_on t c ≡ false) → IsOff
    either s t i j k e same (inr n) l =
        off s i (subst (Has (marks_on settling segments s)) same (crossing_marks segments s t j k (subst (λ p. is_end s p ≡ false) (sym same) (end_lies_on s c (In-ordered segments o s i) n)))) n
    either s t i j k e same (inl h) (inr n) =
        off t j (subst (Has (marks_on settling segments t)) same (crossing_marks_other segments s t i k (subst (λ p. is_end t p ≡ false) (sym same) (end_lies_on t c (In-ordered segments o t j) n)))) n
    either s t i j k e same (inl h) (inl l) =
        absurd (both_ways (is_exact s t) e (lies_on_exact s t k (subst (λ p. lies_on s p ≡ true) (sym same) h) (subst (λ p. lies_on t p ≡ true) (sym same) l)))

    to : (s t : Pair) × Has (pairs segments) s × Has (pairs segments) t × (cross_inexactly s t ≡ true) × (settling_point s t ≡ c) → IsOff
    to (s, t, i, j, h, same) = let parts = inexact_parts s t h in either s t i j parts.0 parts.1 same (cases_Bool (lies_on s c)) (cases_Bool (lies_on t c))

    by_mark : (s t : Pair) → Has (pairs segments) s → Has (pairs segments) t → lies_on s c ≡ false → IsMarkBy s t c → Contains (rounded_crossings (pairs segments)) c
    by_mark s t i j n (touches h e) = absurd (both_ways (lies_on s c) n (inside_parts s c h).0)
    by_mark s t i j n (crosses k same) =
        subst (Contains (rounded_crossings (pairs segments))) (sym same)
        (Contains-from_Has (rounded_crossings (pairs segments)) (settling_point s t)
        (Has-crossings_by cross_inexactly (pairs segments) s t i j (inexact_from s t k
        (false_from_ne_true (is_exact s t) (λ e. both_ways (lies_on s c) n (subst (λ p. lies_on s p ≡ true) (sym same) (exact_lies_on s t k e)))))))

    from : IsOff → Contains (rounded_crossings (pairs segments)) c
    from (s, i, m, n) =
        let by = mark_is_by segments s c (Has-from_Contains (marks_on settling segments s) c m) in
        by_mark s by.0 (Has-from_Contains (pairs segments) s i) by.1 n by.2

pub chain_points_are_ends_and_marks : ChainPointsAreEndsAndMarks
chain_points_are_ends_and_marks segments o c = (to, from)
  where
    IsMark : Type 0
    IsMark = (s : Pair) × Contains (pairs segments) s × Contains (marks_on settling segments s) c

    mark : (s : Pair) → Has (pairs segments) s → Has (marks_on settling segments s) c → IsMark
    mark s i m = (s, Contains-from_Has (pairs segments) s i, Contains-from_Has (marks_on settling segments s) c m)

    -- no point is an end of both
    one_marks : (s t : Pair) → Has (pairs segments) s → Has (pairs segments) t → do_cross s t ≡ true → settling_point s t ≡ c → (is_end s c ≡ true) ⊎ (is_end s c ≡ false) → IsMark
    one_marks s t i j k same (inr n) = mark s i (subst (Has (marks_on settling segments s)) same (crossing_marks segments s t j k (subst (λ p. is_end s p ≡ false) (sym same) n)))
    one_marks s t i j k same (inl h) =
        let n : is_end t c ≡ false = false_from_ne_true (is_end t c) (λ l. both_ways (is_end s c && is_end t c) (not-true (is_end s c && is_end t c) (no_end_of_both s t c k)) (and_from (is_end s c) (is_end t c) h l)) in
        mark t j (subst (Has (marks_on settling segments t)) same (crossing_marks_other segments s t i k (subst (λ p. is_end t p ≡ false) (sym same) n)))

    given : Contains (given_points (pairs segments)) c → Contains (ends (pairs segments)) c ⊎ IsMark
    given h =
        ⊎_elim
        (λ i. inl (Contains-from_Has (ends (pairs segments)) c i))
        (λ i.
        let by = Has-crossings_by_out (λ s t. do_cross s t && is_exact s t) (pairs segments) c i in
        let parts = and_parts (do_cross by.0 by.1) (is_exact by.0 by.1) by.4 in
        inr (one_marks by.0 by.1 by.2 by.3 parts.0 by.5 (cases_Bool (is_end by.0 c))))
        (Has-append_out (ends (pairs segments)) (whole_crossings (pairs segments)) c (Has-from_Contains (given_points (pairs segments)) c h))

    to : IsChainPoint (pairs segments) c → Contains (ends (pairs segments)) c ⊎ IsMark
    to (inl (rounded h)) = let off = (rounded_are_marks_off segments o c).0 h in inr (off.0, off.1, off.2)
    to (inl (passed h m p)) = given h
    to (inr h) = given h

    end : Has (ends (pairs segments)) c → IsChainPoint (pairs segments) c
    end i = inr (Contains-from_Has (given_points (pairs segments)) c (Has-append_left (ends (pairs segments)) (whole_crossings (pairs segments)) c i))

    crossing : (s t : Pair) → Has (pairs segments) s → Has (pairs segments) t → do_cross s t ≡ true → settling_point s t ≡ c → (is_exact s t ≡ true) ⊎ (is_exact s t ≡ false) → IsChainPoint (pairs segments) c
    crossing s t i j k same (inl e) =
        inr (Contains-from_Has (given_points (pairs segments)) c (Has-append_right (ends (pairs segments)) (whole_crossings (pairs segments)) c
        (subst (Has (whole_crossings (pairs segments))) same (Has-crossings_by (λ s t. do_cross s t && is_exact s t) (pairs segments) s t i j (and_from (do_cross s t) (is_exact s t) k e)))))
    crossing s t i j k same (inr n) =
        inl (rounded (Contains-from_Has (rounded_crossings (pairs segments)) c
        (subst (Has (rounded_crossings (pairs segments))) same (Has-crossings_by cross_inexactly (pairs segments) s t i j (inexact_from s t k n)))))

    by_mark : (s t : Pair) → Has (pairs segments) s → Has (pairs segments) t → IsMarkBy s t c → IsChainPoint (pairs segments) c
    by_mark s t i j (crosses k same) = crossing s t i j k (sym same) (cases_Bool (is_exact s t))
    by_mark s t i j (touches h (inl e)) = end (rw e (Has-flat_map (λ (u : Pair). u.a ∷ u.b ∷ []) (pairs segments) t t.a j (inl refl)))
    by_mark s t i j (touches h (inr e)) = end (rw e (Has-flat_map (λ (u : Pair). u.a ∷ u.b ∷ []) (pairs segments) t t.b j (inr (inl refl))))

    from : Contains (ends (pairs segments)) c ⊎ IsMark → IsChainPoint (pairs segments) c
    from (inl h) = end (Has-from_Contains (ends (pairs segments)) c h)
    from (inr (s, i, m)) =
        let by = mark_is_by segments s c (Has-from_Contains (marks_on settling segments s) c m) in
        by_mark s by.0 (Has-from_Contains (pairs segments) s i) by.1 by.2
