-- Where the boundaries of two shapes cross at a point that is not whole, there are points of all four kinds: beside both of two
-- segments that cross, on each of the four sides.
use Rattle.std.proofs.Common.{◌≡◌, ap, ap₂, sym, subst, ◌∙◌, inl, inr, [], ◌∷◌, ◌++◌}
use Rattle.std.specs.Prelude.{IsTrue, Bool, true, not, ◌&&◌, ◌⊎◌, List}
use Rattle.std.specs.List.{list_any}
use Rattle.std.proofs.lemmas.Bool.{and_parts, both_ways, cases_Bool}
use Rattle.overlay_geometry.specs.Points.{Point, Pair, pair_eq}
use Rattle.overlay_geometry.specs.Meeting.{do_cross, are_apart}
use Rattle.overlay_geometry.proofs.laws.geometry.Points.{Before, pair_eq_same, same_pair_by_eq}
use Rattle.overlay_geometry.proofs.laws.lists.Lists.{Has, Has-map_out, list_any-from_Has, Has-from_list_any}
use Rattle.overlay_base.specs.Join.{join}
use Rattle.overlay_base.specs.Segments.{WholeSegment, pairs, winding_at}
use Rattle.overlay_base.specs.Windings.{add, is_not_empty}
use Rattle.overlay_base.specs.declared.overlay_core.fill_rule.FillRule.{FillRule}
use Rattle.overlay_base.specs.declared.segm.shape_type.ShapeType.TheVariants.{Subject, Clip}
use Rattle.overlay_base.proofs.laws.geometry.Apart.{are_apart_parts}
use Rattle.overlay_base.proofs.laws.joins.Bags.{winding_at-append, is_not_empty-false}
use Rattle.overlay_base.proofs.laws.joins.Members.{holds-join}
use Rattle.overlay_intersections.specs.Marks.{cross_inexactly}
use Rattle.overlay_intersections.specs.Crossing.{is_exact}
use Rattle.overlay_intersections.specs.PassMarks.{is_rounded}
use Rattle.overlay_cuts.specs.Places.{IsFar}
use Rattle.overlay_contours.specs.Contours.{edges}
use Rattle.overlay_contours.specs.ContourSegments.{contour_segments, overlay_segments}
use Rattle.overlay_relations.specs.Boundaries.{IsBoundaryOf}
use Rattle.overlay_relations.specs.Relations.{HasPoint, is_in}
use Rattle.overlay_relations.proofs.laws.CrossingPlaces.{IsBesideBoth, beside_crossing}
use Rattle.overlay_relations.proofs.laws.Boundaries.{arc, arranged, IsSide, side_with, far_off_lines, far_left, far_right, edges_ordered, around_shape}

-- ---- which of two joined parts has a pair

pub found : (bag : List WholeSegment) (s : Pair) → is_not_empty (winding_at bag s) ≡ true → Has (pairs (join bag)) s
found bag s h =
    let there = Has-from_list_any (λ k. pair_eq s k) (pairs (join bag)) (holds-join bag s ∙ h) in
    subst (λ (k : Pair). Has (pairs (join bag)) k) (sym (same_pair_by_eq s there.0 there.2)) there.1

counted : (bag : List WholeSegment) (s : Pair) → Has (pairs (join bag)) s → is_not_empty (winding_at bag s) ≡ true
counted bag s m = sym (holds-join bag s) ∙ list_any-from_Has (λ k. pair_eq s k) (pairs (join bag)) s m (pair_eq_same s)

in_either : (xs ys : List WholeSegment) (s : Pair) → Has (pairs (join (xs ++ ys))) s → Has (pairs (join xs)) s ⊎ Has (pairs (join ys)) s
in_either xs ys s m = elim (cases_Bool (is_not_empty (winding_at xs s))) [
  | inl h ↦ inl (found xs s h)
  | inr h ↦ elim (cases_Bool (is_not_empty (winding_at ys s))) [
    | inl k ↦ inr (found ys s k)
    | inr k ↦ absurd (both_ways _ (ap is_not_empty (winding_at-append xs ys s ∙ ap₂ add (is_not_empty-false (winding_at xs s) h) (is_not_empty-false (winding_at ys s) k))) (counted (xs ++ ys) s m))
  ]
]

pub in_shapes : (first second : List (List Point)) (s : Pair) → Has (pairs (join (overlay_segments first second))) s → Has (pairs (join (contour_segments Subject first))) s ⊎ Has (pairs (join (contour_segments Clip second))) s
unfolding overlay_segments
in_shapes first second s m = in_either (contour_segments Subject first) (contour_segments Clip second) s m

-- ---- two that cross

pub record HasCrossing (list : List WholeSegment) : Type 0 where
  pub s : Pair
  pub t : Pair
  pub is_first : Has (pairs list) s
  pub is_second : Has (pairs list) t
  pub cross : IsTrue (do_cross s t)

pub crossing_of : (list : List WholeSegment) → IsTrue (is_rounded list) → HasCrossing list
unfolding is_rounded cross_inexactly
crossing_of list h =
    let one = Has-from_list_any (λ s. list_any (λ t. do_cross s t && not (is_exact s t)) (pairs list)) (pairs list) h in
    let two = Has-from_list_any (λ t. do_cross one.0 t && not (is_exact one.0 t)) (pairs list) one.2 in
    record { s = one.0; t = two.0; is_first = one.1; is_second = two.1; cross = (and_parts (do_cross one.0 two.0) (not (is_exact one.0 two.0)) two.2).0 }

pub not_in_one : (xs : List WholeSegment) (s t : Pair) → IsTrue (are_apart s t) → IsTrue (do_cross s t) → ⊥
not_in_one xs s t h c = both_ways (do_cross s t) (are_apart_parts s t h).0 c

module _ (subject_rule clip_rule : FillRule) (subject clip first second : List (List Point)) (a : IsBoundaryOf subject_rule subject first) (b : IsBoundaryOf clip_rule clip second) where
  abbrev xs : List WholeSegment
  xs = arc Subject first a.apart (is_in subject_rule subject) (λ p. IsFar 0 p (edges subject)) (around_shape subject_rule subject first a)

  abbrev ys : List WholeSegment
  ys = arc Subject second b.apart (is_in clip_rule clip) (λ p. IsFar 0 p (edges clip)) (around_shape clip_rule clip second b)

  abbrev lines : List Pair
  lines = edges subject ++ edges clip

  each_ordered : (ks ls : List Pair) → ((g : Pair) → Has ks g → Before g.a g.b) → ((g : Pair) → Has ls g → Before g.a g.b) → (g : Pair) → Has (ks ++ ls) g → Before g.a g.b
  each_ordered [] ls h k g m = k g m
  each_ordered (x ∷ ks) ls h k g (inl e) = h g (inl e)
  each_ordered (x ∷ ks) ls h k g (inr m) = each_ordered ks ls (λ g m. h g (inr m)) k g m

  lines_ordered : (g : Pair) → Has lines g → Before g.a g.b
  lines_ordered = each_ordered (edges subject) (edges clip) (edges_ordered subject) (edges_ordered clip)

  module _ (s : WholeSegment) (m : Has xs s) (t : WholeSegment) (k : Has ys t) (c : IsTrue (do_cross s.pair t.pair)) where
    beside : (left_of_s left_of_t : Bool) → IsBesideBoth xs ys s.pair t.pair lines left_of_s left_of_t
    beside left_of_s left_of_t = beside_crossing xs ys (arranged Subject first a.apart (is_in subject_rule subject) (λ p. IsFar 0 p (edges subject)) (around_shape subject_rule subject first a)) (arranged Subject second b.apart (is_in clip_rule clip) (λ p. IsFar 0 p (edges clip)) (around_shape clip_rule clip second b)) s m t k lines lines_ordered left_of_s left_of_t c

    far_of : (l r : Bool) (q : IsBesideBoth xs ys s.pair t.pair lines l r) → IsFar 0 q.place (edges subject ++ edges clip)
    far_of l r q = far_off_lines lines q.place q.off_lines

    side_of_s : (wanted : Bool) → IsSide Subject first a.apart (is_in subject_rule subject) (λ p. IsFar 0 p (edges subject)) (around_shape subject_rule subject first a) s.pair wanted
    side_of_s wanted =
        let q = beside true true in
        side_with Subject first a.apart (is_in subject_rule subject) (λ p. IsFar 0 p (edges subject)) (around_shape subject_rule subject first a) s m q.place q.some q.first (far_left q.place (edges subject) (edges clip) (far_of true true q)) wanted

    side_of_t : (wanted : Bool) → IsSide Subject second b.apart (is_in clip_rule clip) (λ p. IsFar 0 p (edges clip)) (around_shape clip_rule clip second b) t.pair wanted
    side_of_t wanted =
        let q = beside true true in
        side_with Subject second b.apart (is_in clip_rule clip) (λ p. IsFar 0 p (edges clip)) (around_shape clip_rule clip second b) t k q.place q.some q.second (far_right q.place (edges subject) (edges clip) (far_of true true q)) wanted

    point_with : (in_subject in_clip : Bool) → HasPoint subject_rule clip_rule subject clip in_subject in_clip
    point_with in_subject in_clip =
        let for_s = side_of_s in_subject in
        let for_t = side_of_t in_clip in
        let q = beside for_s.left for_t.left in
        let far = far_of for_s.left for_t.left q in
        record {
          point = q.place;
          some = q.some;
          off_edges = far;
          of_subject = for_s.all q.place q.some q.first (far_left q.place (edges subject) (edges clip) far);
          of_clip = for_t.all q.place q.some q.second (far_right q.place (edges subject) (edges clip) far);
        }

  pub point_of_pairs : (s t : Pair) → Has (pairs xs) s → Has (pairs ys) t → IsTrue (do_cross s t) → (in_subject in_clip : Bool) → HasPoint subject_rule clip_rule subject clip in_subject in_clip
  point_of_pairs s t m k c in_subject in_clip =
      let one = Has-map_out (λ (u : WholeSegment). u.pair) xs s m in
      let two = Has-map_out (λ (u : WholeSegment). u.pair) ys t k in
      point_with one.0 one.1 two.0 two.1 (subst (λ (r : Pair). IsTrue (do_cross r two.0.pair)) (sym one.2) (subst (λ (r : Pair). IsTrue (do_cross s r)) (sym two.2) c)) in_subject in_clip
