-- Where no crossing of the pieces is rounded, none of the given segments is, and a settling pass over the pieces is one over these.
use Rattle.std.proofs.Common.{◌≡◌, ◌∙◌, ◌⊎◌, ⊎_elim, inl, inr, refl, sym, ap, ap₂, subst, cond, not, Bool, true, false, ◌&&◌, IsTrue, IsFalse, List, map, filter}
use Rattle.std.specs.Prelude.{pos, flat_map}
use Rattle.std.specs.List.{list_any}
use Rattle.std.proofs.lemmas.Bool.{and_parts, and_from, cases_Bool}
use Rattle.overlay_geometry.specs.Points.{Point, Pair, point_eq, turn, is_strictly_inside}
use Rattle.overlay_geometry.specs.Meeting.{do_cross}
use Rattle.overlay_geometry.proofs.laws.geometry.Points.{Before, from_before, UpTo-Before, UpTo-trans, lies_on_order, lies_on_from_order, point_eq_same, same_by_eq, inside_order}
use Rattle.overlay_geometry.proofs.laws.lists.Lists.{Has, list_any-from_Has, Has-from_list_any, Has-append_left, Has-append_right, Has-flat_map, Has-map, Has-map_out, Has-filter, Has-filter_out}
use Rattle.overlay_geometry.proofs.laws.lists.Elements.{Contains-from_Has, Has-from_Contains, Has-append_out, Has-flat_map_out}
use Rattle.overlay_base.specs.Windings.{empty}
use Rattle.overlay_base.specs.Segments.{WholeSegment, pairs, ends, are_ordered}
use Rattle.overlay_base.proofs.laws.geometry.Apart.{do_cross_back}
use Rattle.overlay_base.proofs.laws.joins.Maps.{map_is_its_windings}
use Rattle.overlay_intersections.specs.Crossing.{is_exact, snapping_point}
use Rattle.overlay_intersections.specs.Marks.{settling, cross_inexactly}
use Rattle.overlay_intersections.specs.PassMarks.{is_rounded}
use Rattle.overlay_intersections.proofs.laws.crossings.ExactCrossings.{IsCrossingPoint-unique, from_both_lines, on_both_lines, exact_snapping_point, exact_by_lines}
use Rattle.overlay_cuts.specs.ExactInput.{special_points, has_point, contains_pair, is_elementary, count_along}
use Rattle.overlay_cuts.specs.Pass.{pass}
use Rattle.overlay_cuts.proofs.laws.paths.Maps.{is_map-pass}
use Rattle.overlay_cuts.proofs.laws.planar.Unmarked.{none_passes}
use Rattle.overlay_cuts.proofs.laws.planar.Meetings.{IsPart, IsPart-line, IsPart-line_back, same_tests}
use Rattle.overlay_cuts.proofs.laws.planar.Parts.{IsPart-cross}
use Rattle.overlay_cuts.proofs.laws.planar.ExactMarks.{In, In-ordered, In-exact}
use Rattle.overlay_cuts.proofs.laws.planar.ExactInputs.{contains_from, contains_parts, elementary_clear, elementary_ordered}
use Rattle.overlay_cuts.proofs.laws.planar.ExactAnswers.{pass_winding}
use Rattle.overlay_snapping.specs.steps.Resolved.{AreResolved, IsClear}
use Rattle.overlay_snapping.proofs.laws.collinear.Narrowings.{narrow, MeetsLine, Narrowed, part_of_itself, part_of_part}

-- ---- pairs that contain others

pub part_from : (t s : Pair) → Before t.a t.b → Before s.a s.b → IsTrue (contains_pair s t) → IsPart t s
part_from t s o k c =
    let on = contains_parts s t c in
    let at_a = lies_on_order s t.a k on.0 in
    let at_b = lies_on_order s t.b k on.1 in
    record { whole = k; ordered = o; a_on_line = at_a.0; b_on_line = at_b.0; from_a = at_a.1; up_to_b = at_b.2 }

pub contains_part : (t s : Pair) → IsPart t s → IsTrue (contains_pair s t)
contains_part t s h =
    contains_from s t
    (lies_on_from_order s t.a h.whole h.a_on_line h.from_a (UpTo-trans t.a t.b s.b (UpTo-Before t.a t.b h.ordered) h.up_to_b))
    (lies_on_from_order s t.b h.whole h.b_on_line (UpTo-trans s.a t.a t.b h.from_a (UpTo-Before t.a t.b h.ordered)) h.up_to_b)

-- ---- special points of two lists

is_special : List Pair → Point → Type 0
is_special segments p = Has (special_points segments) p

special_from_end : (segments : List Pair) (p : Point) → Has (ends segments) p → is_special segments p
unfolding special_points is_special
special_from_end segments p i = Has-append_left (ends segments) (flat_map (λ s. map (λ t. snapping_point s t) (filter (λ t. do_cross s t) segments)) segments) p i

special_from_crossing : (segments : List Pair) (s t : Pair) → Has segments s → Has segments t → IsTrue (do_cross s t) → is_special segments (snapping_point s t)
unfolding special_points is_special
special_from_crossing segments s t i j c =
    Has-append_right (ends segments) (flat_map (λ s. map (λ t. snapping_point s t) (filter (λ t. do_cross s t) segments)) segments) (snapping_point s t)
    (Has-flat_map (λ s. map (λ t. snapping_point s t) (filter (λ t. do_cross s t) segments)) segments s (snapping_point s t) i
    (Has-map (λ u. snapping_point s u) (filter (λ u. do_cross s u) segments) t (Has-filter (λ u. do_cross s u) segments t j c)))

-- what holds of ends and of crossings holds of special points
by_special : {P : Point → Type 0} (segments : List Pair) → ((p : Point) → Has (ends segments) p → P p) → ((s t : Pair) → Has segments s → Has segments t → IsTrue (do_cross s t) → P (snapping_point s t)) → (p : Point) → is_special segments p → P p
unfolding special_points is_special
by_special {P} segments f g p i =
    ⊎_elim (f p)
    (λ at.
    let first = Has-flat_map_out (λ t. map (λ u. snapping_point t u) (filter (λ u. do_cross t u) segments)) segments p at in
    let second = Has-map_out (λ u. snapping_point first.0 u) (filter (λ u. do_cross first.0 u) segments) p first.2 in
    let crossed = Has-filter_out (λ u. do_cross first.0 u) segments second.0 second.1 in
    subst P second.2 (g first.0 second.0 first.1 crossed.0 crossed.1))
    (Has-append_out (ends segments) _ p i)

-- an elementary pair of one list is one of another that has the same special points and contains the pair
module _ (xs ys : List WholeSegment) (there : (p : Point) → is_special (pairs xs) p → is_special (pairs ys) p) (back : (p : Point) → is_special (pairs ys) p → is_special (pairs xs) p) (e : Pair)
    (on : IsTrue (is_elementary xs e) → IsTrue (list_any (λ s. contains_pair s e) (pairs xs)) → IsTrue (list_any (λ s. contains_pair s e) (pairs ys))) where
  point_there : (p : Point) → IsTrue (has_point (special_points (pairs xs)) p) → IsTrue (has_point (special_points (pairs ys)) p)
  unfolding is_special
  point_there p h =
      let q = Has-from_list_any (λ q. point_eq p q) (special_points (pairs xs)) h in
      let same = same_by_eq p q.0 q.2 in
      list_any-from_Has (λ q. point_eq p q) (special_points (pairs ys)) p (subst (Has (special_points (pairs ys))) (sym same) (there q.0 q.1)) (point_eq_same p)

  elementary_there : IsTrue (is_elementary xs e) → IsTrue (is_elementary ys e)
  unfolding is_elementary is_special
  elementary_there k =
      let four = and_parts _ _ k in
      let three = and_parts _ _ four.0 in
      let two = and_parts _ _ three.0 in
      let one = and_parts _ _ two.0 in
      let clear = none_passes (λ p. is_strictly_inside e p) (special_points (pairs ys)) (λ p i. elementary_clear xs e k p (back p i)) in
      and_from _ _ (and_from _ _ (and_from _ _ (and_from _ _ one.0 (point_there e.a one.1)) (point_there e.b two.1)) (on k three.1)) (ap not clear)

-- ---- given segments and pieces

module _ (given pieces : List WholeSegment) (o : IsTrue (are_ordered given)) (k : IsTrue (are_ordered pieces)) (h : AreResolved given pieces) (exact : IsFalse (is_rounded pieces)) where
  end_there : (p : Point) → Has (ends (pairs given)) p → Has (ends (pairs pieces)) p
  end_there p i = Has-from_Contains (ends (pairs pieces)) p ((h.same_ends p).1 (Contains-from_Has (ends (pairs given)) p i))

  end_back : (p : Point) → Has (ends (pairs pieces)) p → Has (ends (pairs given)) p
  end_back p i = Has-from_Contains (ends (pairs given)) p ((h.same_ends p).0 (Contains-from_Has (ends (pairs pieces)) p i))

  -- a piece in place of a segment that crosses another
  record Replaced (s u : Pair) : Type 0 where
    t : Pair
    has : In pieces t
    crosses : IsTrue (do_cross t u)
    line : (p : Point) → turn t.a t.b p ≡ pos 0 → turn s.a s.b p ≡ pos 0

  -- an end on the lines of both
  record EndOnBoth (s u : Pair) : Type 0 where
    p : Point
    has : Has (ends (pairs given)) p
    on_s : turn s.a s.b p ≡ pos 0
    on_u : turn u.a u.b p ≡ pos 0

  replace : (s u : Pair) → In given s → Before u.a u.b → IsTrue (do_cross s u) → EndOnBoth s u ⊎ Replaced s u
  replace s u i ou c = ⊎_elim met narrowed (narrow s u (ends (pairs given)) os c)
    where
      os : Before s.a s.b
      os = In-ordered given o s i

      met : MeetsLine s u (ends (pairs given)) → EndOnBoth s u ⊎ Replaced s u
      met m = inl (record { p = m.p; has = m.has; on_s = (inside_order s m.p os m.inside).0; on_u = m.on_line })

      narrowed : Narrowed s u (ends (pairs given)) → EndOnBoth s u ⊎ Replaced s u
      narrowed n =
          let e = n.e in
          let found = h.covering s e (Contains-from_Has (pairs given) s i) (from_before e.a e.b n.part.ordered) (λ p j. n.clear p (Has-from_Contains (ends (pairs given)) p j)) (contains_part e s n.part) in
          let t = found.0 in
          let there = Has-from_Contains (pairs pieces) t found.1 in
          let part = part_from e t n.part.ordered (In-ordered pieces k t there) found.2 in
          inr (record {
            t = t;
            has = there;
            crosses = IsPart-cross e t u u part (part_of_itself u ou) n.crosses;
            line = λ p on. IsPart-line e s p n.part (IsPart-line_back e t p part on);
          })

  crossing_back : (s u : Pair) → IsTrue (do_cross s u) → IsTrue (do_cross u s)
  crossing_back s u c = sym (do_cross_back s u) ∙ c

  record BothReplaced (s u : Pair) : Type 0 where
    first : Replaced s u
    second : Replaced u first.t

  replace_both : (s u : Pair) → In given s → In given u → IsTrue (do_cross s u) → EndOnBoth s u ⊎ BothReplaced s u
  replace_both s u i j c = ⊎_elim inl again (replace s u i (In-ordered given o u j) c)
    where
      again : Replaced s u → EndOnBoth s u ⊎ BothReplaced s u
      again r =
          ⊎_elim (λ m. inl (record { p = m.p; has = m.has; on_s = r.line m.p m.on_u; on_u = m.on_s })) (λ r'. inr (record { first = r; second = r' }))
          (replace u r.t j (In-ordered pieces k r.t r.has) (crossing_back r.t u r.crosses))

  -- where two pieces cross, on the lines of the two that they replace
  record CrossOnBoth (s u : Pair) : Type 0 where
    t : Pair
    v : Pair
    has_t : In pieces t
    has_v : In pieces v
    crosses : IsTrue (do_cross t v)
    on_s : turn s.a s.b (snapping_point t v) ≡ pos 0
    on_u : turn u.a u.b (snapping_point t v) ≡ pos 0

  cross_of : (s u : Pair) → BothReplaced s u → CrossOnBoth s u
  cross_of s u b =
      let r = b.first in
      let q = b.second in
      let c = crossing_back q.t r.t q.crosses in
      let on = on_both_lines r.t q.t (snapping_point r.t q.t) c (exact_snapping_point r.t q.t c (In-exact pieces exact r.t q.t r.has q.has c)) in
      record { t = r.t; v = q.t; has_t = r.has; has_v = q.has; crosses = c; on_s = r.line _ on.0; on_u = q.line _ on.1 }

  given_exact : (s u : Pair) → In given s → In given u → IsTrue (do_cross s u) → IsTrue (is_exact s u)
  given_exact s u i j c =
      ⊎_elim (λ m. exact_by_lines s u m.p c m.on_s m.on_u) (λ b. let x = cross_of s u b in exact_by_lines s u (snapping_point x.t x.v) c x.on_s x.on_u) (replace_both s u i j c)

  pub given_not_rounded : IsFalse (is_rounded given)
  unfolding is_rounded cross_inexactly
  given_not_rounded =
      none_passes (λ s. list_any (λ t. cross_inexactly s t) (pairs given)) (pairs given) (λ s i.
      none_passes (λ t. cross_inexactly s t) (pairs given) (λ u j.
      ⊎_elim (λ c. ap₂ (λ a b. a && not b) c (given_exact s u i j c)) (λ c. ap (λ a. a && not (is_exact s u)) c) (cases_Bool (do_cross s u))))

  -- ---- special points

  at_crossing : (s u : Pair) (p : Point) → In given s → In given u → IsTrue (do_cross s u) → turn s.a s.b p ≡ pos 0 → turn u.a u.b p ≡ pos 0 → p ≡ snapping_point s u
  at_crossing s u p i j c on_s on_u = IsCrossingPoint-unique s u p (snapping_point s u) c (from_both_lines s u p on_s on_u) (exact_snapping_point s u c (given_exact s u i j c))

  special_there : (p : Point) → is_special (pairs given) p → is_special (pairs pieces) p
  special_there =
      by_special (pairs given) (λ p i. special_from_end (pairs pieces) p (end_there p i)) (λ s u i j c.
      ⊎_elim
      (λ m. subst (is_special (pairs pieces)) (at_crossing s u m.p i j c m.on_s m.on_u) (special_from_end (pairs pieces) m.p (end_there m.p m.has)))
      (λ b. let x = cross_of s u b in subst (is_special (pairs pieces)) (at_crossing s u (snapping_point x.t x.v) i j c x.on_s x.on_u) (special_from_crossing (pairs pieces) x.t x.v x.has_t x.has_v x.crosses))
      (replace_both s u i j c))

  record Below (t : Pair) : Type 0 where
    s : Pair
    has : In given s
    part : IsPart t s

  below : (t : Pair) → In pieces t → Below t
  below t i =
      let found = h.on_given t (Contains-from_Has (pairs pieces) t i) in
      let there = Has-from_Contains (pairs given) found.0 found.1 in
      record { s = found.0; has = there; part = part_from t found.0 (In-ordered pieces k t i) (In-ordered given o found.0 there) found.2 }

  special_back : (p : Point) → is_special (pairs pieces) p → is_special (pairs given) p
  special_back =
      by_special (pairs pieces) (λ p i. special_from_end (pairs given) p (end_back p i)) (λ t v i j c.
      let x = below t i in
      let y = below v j in
      let crossed = IsPart-cross t x.s v y.s x.part y.part c in
      let on = on_both_lines t v (snapping_point t v) c (exact_snapping_point t v c (In-exact pieces exact t v i j c)) in
      subst (is_special (pairs given)) (sym (at_crossing x.s y.s (snapping_point t v) x.has y.has crossed (IsPart-line t x.s _ x.part on.0) (IsPart-line v y.s _ y.part on.1)))
      (special_from_crossing (pairs given) x.s y.s x.has y.has crossed))

  -- ---- elementary pairs

  clear_of : (e : Pair) → IsTrue (is_elementary given e) → IsClear (pairs given) e
  unfolding is_special
  clear_of e m p i = elementary_clear given e m p (special_from_end (pairs given) p (Has-from_Contains (ends (pairs given)) p i))

  on_piece : (e : Pair) → IsTrue (is_elementary given e) → IsTrue (list_any (λ s. contains_pair s e) (pairs given)) → IsTrue (list_any (λ s. contains_pair s e) (pairs pieces))
  on_piece e m any =
      let s = Has-from_list_any (λ s. contains_pair s e) (pairs given) any in
      let found = h.covering s.0 e (Contains-from_Has (pairs given) s.0 s.1) (from_before e.a e.b (elementary_ordered given e m)) (clear_of e m) s.2 in
      list_any-from_Has (λ s. contains_pair s e) (pairs pieces) found.0 (Has-from_Contains (pairs pieces) found.0 found.1) found.2

  on_segment : (e : Pair) → IsTrue (is_elementary pieces e) → IsTrue (list_any (λ s. contains_pair s e) (pairs pieces)) → IsTrue (list_any (λ s. contains_pair s e) (pairs given))
  on_segment e m any =
      let t = Has-from_list_any (λ s. contains_pair s e) (pairs pieces) any in
      let x = below t.0 t.1 in
      let part = part_from e t.0 (elementary_ordered pieces e m) x.part.ordered t.2 in
      list_any-from_Has (λ s. contains_pair s e) (pairs given) x.s x.has (contains_part e x.s (part_of_part e t.0 x.s part x.part))

  same_elementary : (e : Pair) → is_elementary pieces e ≡ is_elementary given e
  same_elementary e = same_tests (is_elementary pieces e) (is_elementary given e) (elementary_there pieces given special_back special_there e (on_segment e)) (elementary_there given pieces special_there special_back e (on_piece e))

  same_count : (e : Pair) (b : Bool) → b ≡ is_elementary given e → cond b (count_along pieces e) empty ≡ cond b (count_along given e) empty
  same_count e false same = refl
  same_count e true same = h.counting e (from_before e.a e.b (elementary_ordered given e (sym same))) (clear_of e (sym same))

  pub pass_of_pieces : pass settling pieces ≡ pass settling given
  pass_of_pieces =
      map_is_its_windings (pass settling pieces) (pass settling given) (is_map-pass settling pieces k) (is_map-pass settling given o) (λ e.
      pass_winding pieces k exact settling e
      ∙ ap (λ b. cond b (count_along pieces e) empty) (same_elementary e)
      ∙ same_count e (is_elementary given e) refl
      ∙ sym (pass_winding given o given_not_rounded settling e))
