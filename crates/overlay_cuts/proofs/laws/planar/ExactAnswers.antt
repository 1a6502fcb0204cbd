-- The result of exact input, given without passes: the pieces are the elementary pairs of the join.
use Rattle.std.proofs.Common.{◌≡◌, refl, sym, ap, ◌∙◌, ◌⊎◌, ⊎_elim, inl, inr, subst, true, false, Bool, IsTrue, IsFalse, cond, List, [], ◌∷◌, map, filter}
use Rattle.std.specs.Prelude.{not}
use Rattle.std.proofs.lemmas.Bool.{cond-false, cond-true, cases_Bool, and_from, and_parts, both_ways, false_from_ne_true}
use Rattle.overlay_geometry.specs.Points.{Point, Pair, point_eq, pair_eq, is_end, lies_on, is_strictly_inside}
use Rattle.overlay_base.specs.Windings.{total, empty}
use Rattle.overlay_base.specs.Segments.{WholeSegment, pairs, counts, ends, are_ordered, winding_at}
use Rattle.overlay_geometry.specs.Meeting.{do_cross, are_collinear}
use Rattle.overlay_intersections.specs.Crossing.{snapping_point}
use Rattle.overlay_intersections.specs.Marks.{Placing}
use Rattle.overlay_intersections.specs.PassMarks.{is_rounded}
use Rattle.overlay_cuts.specs.Pass.{cut, pass}
use Rattle.overlay_cuts.specs.ExactInput.{special_points, has_point, contains_pair, is_elementary, count_along}
use Rattle.overlay_geometry.proofs.laws.lists.Lists.{Has, Has-map_out, Has-filter_out, AllByRecursion-at, list_any-from_Has, Has-from_list_any}
use Rattle.overlay_geometry.proofs.laws.lists.Elements.{Has-append_out, Has-flat_map_out}
use Rattle.overlay_geometry.proofs.laws.geometry.Points.{Before, from_before, UpTo-same, UpTo-Before, UpTo-not_Before, turn_same_outer, turn_same_last, lies_on_from_order, point_eq_same, same_by_eq, same_pair_by_eq, pair_eq_same, lies_on_order, inside_from_parts}
use Rattle.overlay_intersections.proofs.laws.crossings.AnswerMarks.{end_cases}
use Rattle.overlay_cuts.proofs.laws.planar.Unmarked.{none_passes}
use Rattle.overlay_cuts.proofs.laws.planar.Meetings.{same_tests, MarksAt-end, MarksAt-cross, crossing_not_collinear, are_collinear-trans, are_collinear_symmetric, IsPart-inside, IsPart-a_on, IsPart-b_on}
use Rattle.overlay_cuts.proofs.laws.planar.Parts.{IsMarked}
use Rattle.overlay_cuts.proofs.laws.planar.ExactMarks.{In, In-ordered, In-exact, end_a, end_b}
use Rattle.overlay_cuts.proofs.laws.planar.WholeCrossings.{IsCrossingPoint-inside}
use Rattle.overlay_intersections.proofs.laws.crossings.ExactCrossings.{exact_snapping_point}
use Rattle.overlay_cuts.proofs.laws.planar.PlanarPasses.{IsPieceOf, pass_undivided}
use Rattle.overlay_cuts.proofs.laws.planar.ExactInputs.{special_end, special_mark, contains_from, contains_parts, elementary_clear, elementary_ordered, count_along-join, count_along-cut}

-- ---- lists

filter-alike : {X : Type 0} (p q : X → Bool) (xs : List X) → ((x : X) → Has xs x → p x ≡ q x) → filter p xs ≡ filter q xs
filter-alike p q [] h = refl
filter-alike p q (x ∷ xs) h = by (p x) (q x) (h x (inl refl)) (filter-alike p q xs (λ y m. h y (inr m)))
  where
    by : (b c : Bool) → b ≡ c → filter p xs ≡ filter q xs → cond b (x ∷ filter p xs) (filter p xs) ≡ cond c (x ∷ filter q xs) (filter q xs)
    by true true e r = ap (λ l. x ∷ l) r
    by false false e r = r
    by true false e r = absurd (both_ways false refl (sym e))
    by false true e r = absurd (both_ways false refl e)

filter-none : {X : Type 0} (p : X → Bool) (xs : List X) → ((x : X) → Has xs x → p x ≡ false) → filter p xs ≡ []
filter-none p [] h = refl
filter-none p (x ∷ xs) h = rw (h x (inl refl)) (filter-none p xs (λ y m. h y (inr m)))

-- ---- a list of ordered pairs that cross at whole points alone

module _ (segments : List WholeSegment) (o : IsTrue (are_ordered segments)) (h : IsFalse (is_rounded segments)) where
  -- where a piece ends is special
  special_at : (s : Pair) (e : Point) → In segments s → IsTrue (is_end s e) ⊎ IsMarked (In segments) s e → Has (special_points (pairs segments)) e
  special_at s e i (inl k) = special_end (pairs segments) s e i k
  special_at s e i (inr (u, j, m)) = special_mark segments o h s u e i j m

  -- a crossing of two others strictly inside s marks s, since s lies on the line of one of them at most
  crossing_marks : (s t u : Pair) (e : Point) → In segments s → In segments t → In segments u → IsTrue (do_cross t u) → IsTrue (is_strictly_inside t e) → IsTrue (is_strictly_inside u e) → IsTrue (is_strictly_inside s e) → IsMarked (In segments) s e
  crossing_marks s t u e i j k c on_t on_u on_s =
      let os = In-ordered segments o s i in
      let ot = In-ordered segments o t j in
      let ou = In-ordered segments o u k in
      ⊎_elim
      (λ along. (
        u,
        k,
        MarksAt-cross s u e os ou on_s on_u (false_from_ne_true (are_collinear s u) (λ both.
            both_ways (are_collinear t u) (crossing_not_collinear t u c) (are_collinear-trans t s u ot os (sym (are_collinear_symmetric s t os ot) ∙ along) both))),
      ))
      (λ across. (t, j, MarksAt-cross s t e os ot on_s on_t across))
      (cases_Bool (are_collinear s t))

  -- so a special point strictly inside s marks s
  pub special_marks : (s : Pair) (e : Point) → In segments s → IsTrue (is_strictly_inside s e) → Has (special_points (pairs segments)) e → IsMarked (In segments) s e
  unfolding special_points
  special_marks s e i inside m =
      ⊎_elim
      (λ at_end.
      let found = Has-flat_map_out (λ (u : Pair). u.a ∷ u.b ∷ []) (pairs segments) e at_end in
      (found.0, found.1, MarksAt-end s found.0 e (In-ordered segments o s i) inside (is_end_of found.0 found.2)))
      (λ at_crossing.
      let first = Has-flat_map_out (λ t. map (λ u. snapping_point t u) (filter (λ u. do_cross t u) (pairs segments))) (pairs segments) e at_crossing in
      let second = Has-map_out (λ u. snapping_point first.0 u) (filter (λ u. do_cross first.0 u) (pairs segments)) e first.2 in
      let crossed = Has-filter_out (λ u. do_cross first.0 u) (pairs segments) second.0 second.1 in
      let both = IsCrossingPoint-inside first.0 second.0 (snapping_point first.0 second.0) (In-ordered segments o first.0 first.1) (In-ordered segments o second.0 crossed.0) crossed.1 (exact_snapping_point first.0 second.0 crossed.1 (In-exact segments h first.0 second.0 first.1 crossed.0 crossed.1)) in
      crossing_marks s first.0 second.0 e i first.1 crossed.0 crossed.1 (subst (λ p. IsTrue (is_strictly_inside first.0 p)) second.2 both.0) (subst (λ p. IsTrue (is_strictly_inside second.0 p)) second.2 both.1) inside)
      (Has-append_out (ends (pairs segments)) _ e m)
    where
      is_end_of : (u : Pair) → Has (u.a ∷ u.b ∷ []) e → IsTrue (is_end u e)
      is_end_of u (inl a) = subst (λ p. IsTrue (is_end u p)) a (end_a u)
      is_end_of u (inr (inl b)) = subst (λ p. IsTrue (is_end u p)) b (end_b u)
      is_end_of u (inr (inr none)) = absurd none

  -- a piece is elementary
  piece_is_elementary : (r : Pair) → IsPieceOf segments r → IsTrue (is_elementary segments r)
  unfolding is_elementary
  piece_is_elementary r (s, i, u) =
      let points = special_points (pairs segments) in
      let at_a = list_any-from_Has (λ q. point_eq r.a q) points r.a (special_at s r.a i u.at_a) (point_eq_same r.a) in
      let at_b = list_any-from_Has (λ q. point_eq r.b q) points r.b (special_at s r.b i u.at_b) (point_eq_same r.b) in
      let on = list_any-from_Has (λ t. contains_pair t r) (pairs segments) s i (contains_from s r (IsPart-a_on r s u.part) (IsPart-b_on r s u.part)) in
      let clear = none_passes (λ p. is_strictly_inside r p) points (λ v m. false_from_ne_true (is_strictly_inside r v) (λ inside. u.clear v (special_marks s v i (IsPart-inside r s v u.part inside) m) inside)) in
      and_from _ _ (and_from _ _ (and_from _ _ (and_from _ _ (from_before r.a r.b u.part.ordered) at_a) at_b) on) (ap not clear)

  special_ends : (e : Pair) → IsTrue (is_elementary segments e) → Has (special_points (pairs segments)) e.a × Has (special_points (pairs segments)) e.b
  unfolding is_elementary
  special_ends e k =
      let first = and_parts _ _ (and_parts _ _ (and_parts _ _ k).0).0 in (
        among e.a (and_parts _ _ first.0).1,
        among e.b first.1,
      )
    where
      among : (p : Point) → IsTrue (has_point (special_points (pairs segments)) p) → Has (special_points (pairs segments)) p
      among p t = let q = Has-from_list_any (λ q. point_eq p q) (special_points (pairs segments)) t in subst (Has (special_points (pairs segments))) (sym (same_by_eq p q.0 q.2)) q.1

  -- an end of an elementary pair that lies on another is an end of that one
  end_of : (r : Pair) (v : Point) → IsTrue (is_elementary segments r) → Has (special_points (pairs segments)) v → IsTrue (lies_on r v) → (v ≡ r.a) ⊎ (v ≡ r.b)
  end_of r v k m on =
      ⊎_elim (end_cases r v) (λ none. absurd (both_ways (is_strictly_inside r v) (elementary_clear segments r k v m) (inside_from_parts r v on none))) (cases_Bool (is_end r v))

  -- of two elementary pairs that contain one another both are the same
  contained_is_same : (r e : Pair) → IsTrue (is_elementary segments r) → IsTrue (is_elementary segments e) → IsTrue (contains_pair r e) → r ≡ e
  contained_is_same r e k l c =
      let on = contains_parts r e c in
      let before_r = elementary_ordered segments r k in
      let before_e = elementary_ordered segments e l in
      let ends = special_ends e l in
      let a_on = lies_on_order r e.a before_r on.0 in
      let b_on = lies_on_order r e.b before_r on.1 in
      let first : e.a ≡ r.a = ⊎_elim (λ same. same) (λ last. absurd (UpTo-not_Before e.b r.b b_on.2 (subst (λ p. Before p e.b) last before_e))) (end_of r e.a k ends.0 on.0) in
      let second : e.b ≡ r.b = ⊎_elim (λ start. absurd (UpTo-not_Before r.a e.a a_on.1 (subst (Before e.a) start before_e))) (λ same. same) (end_of r e.b k ends.1 on.1) in
      λ i. record { a = sym first i; b = sym second i }

  contains_itself : (e : Pair) → Before e.a e.b → IsTrue (contains_pair e e)
  contains_itself e o = contains_from e e
      (lies_on_from_order e e.a o (turn_same_outer e.a e.b) (UpTo-same e.a) (UpTo-Before e.a e.b o))
      (lies_on_from_order e e.b o (turn_same_last e.a e.b) (UpTo-Before e.a e.b o) (UpTo-same e.b))

  -- ---- what a pass leaves

  module _ (placing : Placing) where
    passed_is_elementary : (s : WholeSegment) → Has (pass placing segments) s → IsTrue (is_elementary segments s.pair)
    passed_is_elementary s m =
        piece_is_elementary s.pair (AllByRecursion-at (λ u. IsPieceOf segments u.pair) (pass placing segments) s (pass_undivided placing segments o h) m)

    winding_along : (e : Pair) → IsTrue (is_elementary segments e) → winding_at (pass placing segments) e ≡ count_along (pass placing segments) e
    unfolding winding_at count_along
    winding_along e k =
        ap (λ (l : List WholeSegment). total (counts l)) (filter-alike (λ s. pair_eq s.pair e) (λ s. contains_pair s.pair e) (pass placing segments) (λ s m.
        same_tests (pair_eq s.pair e) (contains_pair s.pair e)
        (λ t. subst (λ p. IsTrue (contains_pair p e)) (sym (same_pair_by_eq s.pair e t)) (contains_itself e (elementary_ordered segments e k)))
        (λ t. subst (λ p. IsTrue (pair_eq s.pair p)) (contained_is_same s.pair e (passed_is_elementary s m) k t) (pair_eq_same s.pair))))

    no_winding : (e : Pair) → IsFalse (is_elementary segments e) → winding_at (pass placing segments) e ≡ empty
    unfolding winding_at total
    no_winding e k =
        ap (λ (l : List WholeSegment). total (counts l)) (filter-none (λ s. pair_eq s.pair e) (pass placing segments) (λ s m.
        false_from_ne_true (pair_eq s.pair e) (λ t. both_ways (is_elementary segments e) k (subst (λ p. IsTrue (is_elementary segments p)) (same_pair_by_eq s.pair e t) (passed_is_elementary s m)))))

    keeps_along : (e : Pair) → IsTrue (is_elementary segments e) → count_along (pass placing segments) e ≡ count_along segments e
    unfolding pass
    keeps_along e k =
        count_along-join (cut placing segments) e
        ∙ count_along-cut placing segments o h e (elementary_ordered segments e k) (λ s v i stop. elementary_clear segments e k v (special_at s v i stop))

    pub pass_winding : (e : Pair) → winding_at (pass placing segments) e ≡ cond (is_elementary segments e) (count_along segments e) empty
    pass_winding e =
        ⊎_elim
        (λ k. winding_along e k ∙ keeps_along e k ∙ sym (cond-true (is_elementary segments e) (count_along segments e) empty k))
        (λ k. no_winding e k ∙ sym (cond-false (is_elementary segments e) (count_along segments e) empty k))
        (cases_Bool (is_elementary segments e))
