-- Where two boundaries cross, each part of the one shape meets each part of the other: on an edge, on the two sides of the crossing, are
-- points inside and outside of the other shape.
use Rattle.std.proofs.Common.{◌≡◌, ap, refl, sym, subst, ◌∙◌, arith, ℕ, ◌+◌, ◌<◌, inl, inr}
use Rattle.std.specs.Prelude.{ℤ, pos, ◌+ℤ◌, ◌-ℤ◌, ◌*ℤ◌, neg_ℤ, ◌<ℤ◌, IsTrue, Bool, true, false, not, List}
use Rattle.std.specs.List.{list_all}
use Rattle.std.proofs.lemmas.Int.{ints}
use Rattle.std.proofs.lemmas.Bool.{cases_Bool, both_ways}
use Rattle.overlay_geometry.specs.Below.{width}
use Rattle.overlay_geometry.specs.Meeting.{do_cross, are_apart}
use Rattle.overlay_geometry.specs.Points.{Point, Pair, pair_eq}
use Rattle.overlay_geometry.proofs.laws.geometry.Polynomials.{as_D, diffs, D-eq}
use Rattle.overlay_geometry.proofs.laws.geometry.Points.{Before, UpTo-Before, same_pair_by_eq, not_same_pair}
use Rattle.overlay_geometry.proofs.laws.integers.Tests.{by_sign}
use Rattle.overlay_geometry.proofs.laws.lists.Lists.{Has, list_all-at}
use Rattle.overlay_geometry.proofs.laws.lists.Elements.{Contains-from_Has, Has-from_Contains}
use Rattle.overlay_base.specs.Join.{join}
use Rattle.overlay_base.specs.Places.{RationalPoint, winding_below}
use Rattle.overlay_base.specs.Rays.{goes_through}
use Rattle.overlay_base.specs.Segments.{WholeSegment, pairs}
use Rattle.overlay_base.specs.declared.overlay_core.fill_rule.FillRule.{FillRule}
use Rattle.overlay_base.specs.declared.segm.shape_type.ShapeType.{ShapeType}
use Rattle.overlay_base.specs.declared.segm.shape_type.ShapeType.TheVariants.{Subject, Clip}
use Rattle.overlay_base.proofs.laws.geometry.Apart.{are_apart_parts, do_cross_back}
use Rattle.overlay_build.specs.Boundary.{truth}
use Rattle.overlay_cuts.specs.Places.{IsFar}
use Rattle.overlay_cuts.proofs.laws.nearness.Places.{join_keeps_winding}
use Rattle.overlay_cuts.proofs.laws.planar.ExactInputs.{In-join}
use Rattle.overlay_sweep.specs.ColumnWindings.{side_bottom, side_top}
use Rattle.overlay_sweep.proofs.laws.columns.ColumnLines.{point_lt-cases}
use Rattle.overlay_sweep.proofs.laws.columns.ColumnOrder.{is_apart}
use Rattle.overlay_contours.specs.Contours.{edges, winding_number}
use Rattle.overlay_contours.specs.ContourSegments.{contour_segments, overlay_segments}
use Rattle.overlay_relations.specs.Boundaries.{has_inexact_crossing, IsBoundaryOf}
use Rattle.overlay_relations.specs.Contacts.{IsCloser, Borders, IsOnBoundary}
use Rattle.overlay_relations.specs.Matrix.{IsAt, PartsMeet}
use Rattle.overlay_relations.specs.declared.matrix.Part.{Part}
use Rattle.overlay_relations.specs.declared.matrix.Part.TheVariants.{Interior, Boundary, Exterior}
use Rattle.overlay_relations.specs.Crossings.{HaveCrossingEdges}
use Rattle.overlay_relations.specs.Laws.{InexactBoundariesCross}
use Rattle.overlay_relations.specs.MatrixLaws.{CrossingBoundariesMeetAll}
use Rattle.overlay_relations.specs.Relations.{is_in}
use Rattle.overlay_relations.proofs.laws.InsidePlaces.{enlarged, tops, IsInside, inside_both, off_others}
use Rattle.overlay_relations.proofs.laws.NearPlaces.{near, turn_by, at_bottom, fineness, fine_enough, IsFine, own_turn, inside_after, inside_before, before_in_x, after_in_x, before_in_y, after_in_y}
use Rattle.overlay_relations.proofs.laws.NearUprights.{near_top, near_bottom, off_passes, passes_by_turn}
use Rattle.overlay_relations.proofs.laws.CrossingPlaces.{above_all, crossing_some, IsOffLines}
use Rattle.overlay_relations.proofs.laws.Boundaries.{arc, arranged, tells, part, sides_differ, shape_winds, edges_ordered, far_alone, around_shape, contour_pairs, truth_same}
use Rattle.overlay_relations.proofs.laws.CrossingRegions.{in_shapes, crossing_of}
use Rattle.overlay_relations.proofs.laws.CrossingEdges.{crossing_boundaries_meet}
use Rattle.overlay_relations.proofs.laws.Closeness.{some_product}
use Rattle.overlay_relations.proofs.laws.SteadyWindings.{through_from_order}
use Rattle.overlay_relations.proofs.laws.SharedPoints.{edge_segment, edge_borders, steady_contours, close_inside, clear_near}
use Rattle.overlay_relations.proofs.laws.AcrossEdges.{IsRegion}
use Rattle.overlay_relations.proofs.laws.SharedEdges.{either}
use Rattle.overlay_relations.proofs.laws.Matrices.{part_of, open_at, meet_of_point, Clear, lines, lines_ordered, clear_off, far_subject, far_clip}

-- ---- along a pair, to either end of it

abbrev along : Pair → Bool → Point
along s true = record { x = width s; y = s.b.y -ℤ s.a.y }
along s false = record { x = neg_ℤ (width s); y = neg_ℤ (s.b.y -ℤ s.a.y) }

no_turn : (s : Pair) (up : Bool) → turn_by s (along s up) ≡ pos 0
no_turn s true = plain (width s) (s.b.y -ℤ s.a.y)
  where
    plain : (w h : ℤ) → w *ℤ h -ℤ h *ℤ w ≡ pos 0
    plain w h = rw (as_D w, as_D h) (simp diffs (D-eq _ _ _ _ (omega arith)))
no_turn s false = plain (width s) (s.b.y -ℤ s.a.y)
  where
    plain : (w h : ℤ) → w *ℤ neg_ℤ h -ℤ h *ℤ neg_ℤ w ≡ pos 0
    plain w h = rw (as_D w, as_D h) (simp diffs (D-eq _ _ _ _ (omega arith)))

back_turn : (s t : Pair) → turn_by t (along s false) ≡ neg_ℤ (turn_by t (along s true))
back_turn s t = plain (width t) (t.b.y -ℤ t.a.y) (width s) (s.b.y -ℤ s.a.y)
  where
    plain : (u v w h : ℤ) → u *ℤ neg_ℤ h -ℤ v *ℤ neg_ℤ w ≡ neg_ℤ (u *ℤ h -ℤ v *ℤ w)
    plain u v w h = rw (as_D u, as_D v, as_D w, as_D h) (simp diffs (D-eq _ _ _ _ (omega arith)))

level_way : (s : Pair) (up : Bool) → s.a.x ≡ s.b.x → (along s up).x ≡ pos 0
level_way s true e = plain s.a.x s.b.x e
  where
    plain : (a b : ℤ) → a ≡ b → b -ℤ a ≡ pos 0
    plain a b e = omega (arith, ints, e)
level_way s false e = plain s.a.x s.b.x e
  where
    plain : (a b : ℤ) → a ≡ b → neg_ℤ (b -ℤ a) ≡ pos 0
    plain a b e = omega (arith, ints, e)

-- a part of that way is on the pair
module _ (s : Pair) (x : RationalPoint) (up : Bool) (n : ℕ) (o : Before s.a s.b) (i : IsInside s x) (fine : IsFine s (along s up) n s) (some : 0 < (near x (along s up) n).bottom) where
  abbrev there : RationalPoint
  there = near x (along s up) n

  upright : s.a.x ≡ s.b.x → s.a.x *ℤ pos x.bottom ≡ x.x → s.a.x *ℤ pos there.bottom ≡ there.x
  upright e here = at_bottom s.a.x n x.bottom ∙ ap (λ (z : ℤ). pos n *ℤ z) here ∙ none (pos n *ℤ x.x) _ (level_way s up e)
    where
      none : (z v : ℤ) → v ≡ pos 0 → z ≡ z +ℤ v
      none z v e = omega (arith, ints, e)

  after : Before (enlarged there.bottom s.a) (tops there)
  after = elim o [
    | inl wide ↦ inl (after_in_x s (along s up) n s fine x s.a.x (inside_after s x wide i))
    | inr r ↦ elim i.after_a [
      | inl k ↦ inl (after_in_x s (along s up) n s fine x s.a.x k)
      | inr k ↦ inr (upright r.0 k.0, after_in_y s (along s up) n s fine x s.a.y k.1)
    ]
  ]

  ahead : Before (tops there) (enlarged there.bottom s.b)
  ahead = elim o [
    | inl wide ↦ inl (before_in_x s (along s up) n s fine x s.b.x (inside_before s x wide i))
    | inr r ↦ elim i.before_b [
      | inl k ↦ inl (before_in_x s (along s up) n s fine x s.b.x k)
      | inr k ↦ inr (
        sym (upright r.0 (ap (λ (z : ℤ). z *ℤ pos x.bottom) r.0 ∙ sym k.0)) ∙ ap (λ (z : ℤ). z *ℤ pos there.bottom) r.0,
        before_in_y s (along s up) n s fine x s.b.y k.1,
      )
    ]
  ]

  stays_on : goes_through s there ≡ true
  stays_on = through_from_order s there some o (own_turn s (along s up) n x i ∙ no_turn s up) (UpTo-Before _ _ after) (UpTo-Before _ _ ahead)

-- ---- a boundary that crosses the pair

less_sum : (a b f : ℕ) → f < a → f < a + b
less_sum a b f l = omega (arith, l)

more_sum : (a b f : ℕ) → f < b → f < a + b
more_sum a b f l = omega (arith, l)

module _ (Clear : RationalPoint → Type 0) (value : RationalPoint → Bool) (region : List (List Point)) (is : IsRegion Clear value region) (t : WholeSegment) (m : Has (arc Subject region is.apart value Clear is.around) t)
    (s : Pair) (o : Before s.a s.b) (x : RationalPoint) (some : 0 < x.bottom) (on_s : IsInside s x) (on_t : IsInside t.pair x) (turned : turn_by t.pair (along s true) ≡ pos 0 → ⊥) where
  abbrev ys : List WholeSegment
  ys = arc Subject region is.apart value Clear is.around

  on : (u : WholeSegment) → Has ys u → Before u.pair.a u.pair.b
  on u h = point_lt-cases u.pair.a u.pair.b ((arranged Subject region is.apart value Clear is.around).ordered u h)

  for_way : Bool → ℕ
  for_way up = (above_all (λ (u : WholeSegment). fineness t.pair (along s up) u.pair) ys).0 + (fineness s (along s up) s + 1)

  parts : ℕ
  parts = for_way true + for_way false

  fine_t : (up : Bool) (u : WholeSegment) → Has ys u → IsFine t.pair (along s up) parts u.pair
  unfolding parts for_way
  fine_t true u h = fine_enough t.pair (along s true) parts u.pair (less_sum (for_way true) (for_way false) _ (less_sum _ _ _ ((above_all (λ (u : WholeSegment). fineness t.pair (along s true) u.pair) ys).1 u h)))
  fine_t false u h = fine_enough t.pair (along s false) parts u.pair (more_sum (for_way true) (for_way false) _ (less_sum _ _ _ ((above_all (λ (u : WholeSegment). fineness t.pair (along s false) u.pair) ys).1 u h)))

  fine_s : (up : Bool) → IsFine s (along s up) parts s
  unfolding parts for_way
  fine_s true = fine_enough s (along s true) parts s (less_sum (for_way true) (for_way false) _ (more_sum _ _ _ (next _)))
    where
      next : (a : ℕ) → a < a + 1
      next a = omega arith
  fine_s false = fine_enough s (along s false) parts s (more_sum (for_way true) (for_way false) _ (more_sum _ _ _ (next _)))
    where
      next : (a : ℕ) → a < a + 1
      next a = omega arith

  abbrev at : Bool → RationalPoint
  at up = near x (along s up) parts

  parts_some : 0 < parts
  unfolding parts for_way
  parts_some = plain _ _ _ _
    where
      plain : (a b c d : ℕ) → 0 < (a + (b + 1)) + (c + (d + 1))
      plain a b c d = omega arith

  at_some : (up : Bool) → 0 < (at up).bottom
  at_some up = some_product parts x.bottom parts_some some

  at_on : (up : Bool) → goes_through s (at up) ≡ true
  at_on up = stays_on s x up parts o on_s (fine_s up) (at_some up)

  turned_by : (up : Bool) → turn_by t.pair (along s up) ≡ pos 0 → ⊥
  turned_by true e = turned e
  turned_by false e = turned (plain _ _ (back_turn s t.pair) e)
    where
      plain : (a b : ℤ) → a ≡ neg_ℤ b → a ≡ pos 0 → b ≡ pos 0
      plain a b e f = omega (arith, ints, e, f)

  passes : (up : Bool) (u : WholeSegment) → Has ys u → goes_through u.pair (at up) ≡ false
  passes up u h = elim (cases_Bool (pair_eq u.pair t.pair)) [
    | inl e ↦ subst (λ (r : Pair). goes_through r (at up) ≡ false) (sym (same_pair_by_eq u.pair t.pair e)) (passes_by_turn t.pair (at up) (λ z. turned_by up (sym (own_turn t.pair (along s up) parts x on_t) ∙ z)))
    | inr e ↦ off_passes t.pair (along s up) parts u.pair (fine_t up u h) x some (at_some up) (on u h)
        (off_others t.pair u.pair x some (on t m) (on u h) on_t (is_apart t.pair u.pair ((arranged Subject region is.apart value Clear is.around).apart t u m h)) (λ f. not_same_pair u.pair t.pair e (sym f)))
  ]

  at_off : (up : Bool) (g : Pair) → Has (edges region) g → goes_through g (at up) ≡ false
  at_off up g h = let u = edge_segment region is.apart is.once value Clear is.around g h in subst (λ (r : Pair). goes_through r (at up) ≡ false) u.2 (passes up u.0 u.1)

  winds_as : (up : Bool) → winding_number region (at up) ≡ part Subject (winding_below ys (at up))
  winds_as up = sym (shape_winds Subject region (at up)) ∙ ap (part Subject) (sym (join_keeps_winding (contour_segments Subject region) (at up)))

  top_at : (up : Bool) → pos 0 <ℤ turn_by t.pair (along s up) → winding_number region (at up) ≡ part Subject (side_top ys t)
  top_at up l = winds_as up ∙ ap (part Subject) ((tells Subject region is.apart value Clear is.around t m).top (at up) (at_some up)
      (near_top ys (arranged Subject region is.apart value Clear is.around) t m x some on_t (along s up) parts (fine_t up) (at_some up) l))

  bottom_at : (up : Bool) → turn_by t.pair (along s up) <ℤ pos 0 → winding_number region (at up) ≡ part Subject (side_bottom ys t)
  bottom_at up l = winds_as up ∙ ap (part Subject) ((tells Subject region is.apart value Clear is.around t m).bottom (at up) (at_some up)
      (near_bottom ys (arranged Subject region is.apart value Clear is.around) t m x some on_t (along s up) parts (fine_t up) (at_some up) l))

  -- on the two sides of the crossing the region winds otherwise
  winds_differ : winding_number region (at true) ≡ winding_number region (at false) → ⊥
  winds_differ e =
      let differ = sides_differ Subject region is.apart value Clear is.around t m in
      by_sign (turn_by t.pair (along s true))
      (λ l. differ (sym (bottom_at true l) ∙ e ∙ top_at false (subst (λ (z : ℤ). pos 0 <ℤ z) (sym (back_turn s t.pair)) (up_turn _ l))))
      turned
      (λ l. differ (sym (bottom_at false (subst (λ (z : ℤ). z <ℤ pos 0) (sym (back_turn s t.pair)) (down_turn _ l))) ∙ sym e ∙ top_at true l))
    where
      up_turn : (z : ℤ) → z <ℤ pos 0 → pos 0 <ℤ neg_ℤ z
      up_turn z l = omega (arith, ints, l)

      down_turn : (z : ℤ) → pos 0 <ℤ z → neg_ℤ z <ℤ pos 0
      down_turn z l = omega (arith, ints, l)

-- ---- two boundaries that cross

module _ (subject_rule clip_rule : FillRule) (subject clip first second : List (List Point)) (a : IsBoundaryOf subject_rule subject first) (b : IsBoundaryOf clip_rule clip second) where
  abbrev IsClear : RationalPoint → Type 0
  IsClear p = Clear subject_rule clip_rule subject clip first second a b p

  abbrev all_lines : List Pair
  all_lines = lines subject_rule clip_rule subject clip first second a b

  all_ordered : (g : Pair) → Has all_lines g → Before g.a g.b
  all_ordered = lines_ordered subject_rule clip_rule subject clip first second a b

  off_lines : (q : RationalPoint) → IsOffLines all_lines q → IsClear q
  off_lines = clear_off subject_rule clip_rule subject clip first second a b

  of_first : IsRegion IsClear (is_in subject_rule subject) first
  of_first = record { apart = a.apart; once = a.once; around = λ p some far. around_shape subject_rule subject first a p some (far_subject subject_rule clip_rule subject clip first second a b p far) }

  of_second : IsRegion IsClear (is_in clip_rule clip) second
  of_second = record { apart = b.apart; once = b.once; around = λ p some far. around_shape clip_rule clip second b p some (far_clip subject_rule clip_rule subject clip first second a b p far) }

  -- an edge through a point has it on the boundary of its shape
  on_boundary : (fill_rule : FillRule) (contours region : List (List Point)) → IsRegion IsClear (λ p. is_in fill_rule contours p) region → ((q : RationalPoint) → IsClear q → IsFar 0 q (edges contours)) → (g : Pair) → Has (edges region) g → (p : RationalPoint) → 0 < p.bottom → goes_through g p ≡ true → IsOnBoundary fill_rule contours p
  on_boundary fill_rule contours region is far g m p some on inside n =
      let q = edge_borders region is.apart is.once (λ p. is_in fill_rule contours p) IsClear is.around g m p some on all_lines all_ordered off_lines inside n in
      record { point = q.0; some = q.1; closer = q.3; off_edges = far_alone q.0 contours (far q.0 (off_lines q.0 q.2)); here = q.4 }

  -- off a boundary, a point is of the kind of one clear point near by
  module _ (fill_rule : FillRule) (contours region : List (List Point)) (is : IsRegion IsClear (λ p. is_in fill_rule contours p) region) (p : RationalPoint) (some : 0 < p.bottom) (off : (g : Pair) → Has (edges region) g → goes_through g p ≡ false) where
    box : (n : ℕ) × ((q : RationalPoint) → 0 < q.bottom → IsCloser n p q → winding_number region q ≡ winding_number region p)
    box = steady_contours region p some off

    here : (q : RationalPoint) × (0 < q.bottom) × IsOffLines all_lines q × IsCloser box.0 p q
    here = clear_near all_lines all_ordered p some box.0

    kind : Bool
    kind = is_in fill_rule contours here.0

    winds_by_kind : winding_number region p ≡ truth kind
    unfolding kind
    winds_by_kind = sym (box.1 here.0 here.1 here.3) ∙ is.around here.0 here.1 (off_lines here.0 here.2)

    of_kind : Borders fill_rule contours (not kind) p → ⊥
    of_kind borders =
        let q = close_inside fill_rule contours (not kind) p some borders all_lines all_ordered box.0 in
        other kind (truth_same _ _ (sym winds_by_kind ∙ sym (box.1 q.place q.some_place q.closer) ∙ is.around q.place q.some_place (off_lines q.place q.off_lines)) ∙ q.here)
      where
        other : (v : Bool) → v ≡ not v → ⊥
        other true e = both_ways false refl (sym e)
        other false e = both_ways true (sym e) refl

  -- the boundary of one shape, and an open part of the other
  border_with : (fill_rule other_rule : FillRule) (contours others region further : List (List Point)) → IsRegion IsClear (λ p. is_in fill_rule contours p) region → ((q : RationalPoint) → IsClear q → IsFar 0 q (edges contours)) → IsRegion IsClear (λ p. is_in other_rule others p) further
      → (s t : Pair) → Has (edges region) s → Has (edges further) t → IsTrue (do_cross s t) → (wanted : Bool) → (p : RationalPoint) × (0 < p.bottom) × IsOnBoundary fill_rule contours p × IsAt other_rule others (part_of subject_rule clip_rule subject clip first second a b wanted) p
  border_with fill_rule other_rule contours others region further is far other s t m k c wanted =
      let u = edge_segment further other.apart other.once (λ p. is_in other_rule others p) IsClear other.around t k in
      let os = edges_ordered region s m in
      let cross = subst (λ (r : Pair). IsTrue (do_cross s r)) (sym u.2) c in
      let order_u = subst (λ (r : Pair). Before r.a r.b) (sym u.2) (edges_ordered further t k) in
      let x = inside_both s u.0.pair os order_u cross in
      let turned = λ (e : turn_by u.0.pair (along s true) ≡ pos 0). crossing_some u.0.pair s (sym (do_cross_back s u.0.pair) ∙ cross) e in
      let at_up = λ (up : Bool). at IsClear (λ p. is_in other_rule others p) further other u.0 u.1 s os x.place x.some x.first x.second turned up in
      let some = at_some IsClear (λ p. is_in other_rule others p) further other u.0 u.1 s os x.place x.some x.first x.second turned in
      let on = at_on IsClear (λ p. is_in other_rule others p) further other u.0 u.1 s os x.place x.some x.first x.second turned in
      let off = at_off IsClear (λ p. is_in other_rule others p) further other u.0 u.1 s os x.place x.some x.first x.second turned in
      let kind_at = λ (up : Bool). kind other_rule others further other (at_up up) (some up) (off up) in
      let take : (up : Bool) → kind_at up ≡ wanted → (p : RationalPoint) × (0 < p.bottom) × IsOnBoundary fill_rule contours p × IsAt other_rule others (part_of subject_rule clip_rule subject clip first second a b wanted) p = λ up e. (
        at_up up,
        some up,
        on_boundary fill_rule contours region is far s m (at_up up) (some up) (on up),
        open_at subject_rule clip_rule subject clip first second a b other_rule others wanted (at_up up) (subst (λ (v : Bool). Borders other_rule others (not v) (at_up up) → ⊥) e (of_kind other_rule others further other (at_up up) (some up) (off up))),
      ) in
      elim (either (kind_at true) (kind_at false) wanted (λ e. winds_differ IsClear (λ p. is_in other_rule others p) further other u.0 u.1 s os x.place x.some x.first x.second turned
      (winds_by_kind other_rule others further other (at_up true) (some true) (off true) ∙ ap truth e ∙ sym (winds_by_kind other_rule others further other (at_up false) (some false) (off false))))) [
        | inl e ↦ take true e
        | inr e ↦ take false e
      ]

  edge_of : (shape_type : ShapeType) (region : List (List Point)) (s : Pair) → Has (pairs (join (contour_segments shape_type region))) s → Has (edges region) s
  edge_of shape_type region s m = subst (λ (l : List Pair). Has l s) (contour_pairs shape_type region) (In-join (contour_segments shape_type region) s m)

  apart_in : (region : List (List Point)) → IsTrue (list_all (λ s. list_all (λ t. are_apart s t) (edges region)) (edges region)) → (s t : Pair) → Has (edges region) s → Has (edges region) t → IsTrue (do_cross s t) → ⊥
  apart_in region apart s t m k c = both_ways (do_cross s t) (are_apart_parts s t (list_all-at (λ t. are_apart s t) (edges region) t (list_all-at (λ s. list_all (λ t. are_apart s t) (edges region)) (edges region) s apart m) k)).0 c

  crossing_pair : (s t : Pair) → Has (edges first) s → Has (edges second) t → IsTrue (do_cross s t) → HaveCrossingEdges first second
  crossing_pair s t m k c = (s, t, Contains-from_Has (edges first) s m, Contains-from_Has (edges second) t k, c)

  crossing_edges : IsTrue (has_inexact_crossing first second) → HaveCrossingEdges first second
  crossing_edges h =
      let c = crossing_of (join (overlay_segments first second)) h in
      elim (in_shapes first second c.s c.is_first) [
        | inl i ↦ elim (in_shapes first second c.t c.is_second) [
          | inl j ↦ absurd (apart_in first a.apart c.s c.t (edge_of Subject first c.s i) (edge_of Subject first c.t j) c.cross)
          | inr j ↦ crossing_pair c.s c.t (edge_of Subject first c.s i) (edge_of Clip second c.t j) c.cross
        ]
        | inr i ↦ elim (in_shapes first second c.t c.is_second) [
          | inl j ↦ crossing_pair c.t c.s (edge_of Subject first c.t j) (edge_of Clip second c.s i) (sym (do_cross_back c.s c.t) ∙ c.cross)
          | inr j ↦ absurd (apart_in second b.apart c.s c.t (edge_of Clip second c.s i) (edge_of Clip second c.t j) c.cross)
        ]
      ]

  module _ (h : HaveCrossingEdges first second) where
    abbrev s : Pair
    s = h.0

    abbrev t : Pair
    t = h.1

    of_s : Has (edges first) s
    of_s = Has-from_Contains (edges first) s h.2

    of_t : Has (edges second) t
    of_t = Has-from_Contains (edges second) t h.3

    cross : IsTrue (do_cross s t)
    cross = h.4

    both_open : (kind other : Bool) → PartsMeet subject_rule clip_rule subject clip (part_of subject_rule clip_rule subject clip first second a b kind) (part_of subject_rule clip_rule subject clip first second a b other)
    both_open kind other = meet_of_point subject_rule clip_rule subject clip first second a b kind other (crossing_boundaries_meet subject_rule clip_rule subject clip first second a b h kind other)

    border_open : (wanted : Bool) → PartsMeet subject_rule clip_rule subject clip Boundary (part_of subject_rule clip_rule subject clip first second a b wanted)
    border_open wanted =
        let p = border_with subject_rule clip_rule subject clip first second of_first (far_subject subject_rule clip_rule subject clip first second a b) of_second s t of_s of_t cross wanted in
        record { point = p.0; some = p.1; at_subject = p.2; at_clip = p.3 }

    open_border : (wanted : Bool) → PartsMeet subject_rule clip_rule subject clip (part_of subject_rule clip_rule subject clip first second a b wanted) Boundary
    open_border wanted =
        let p = border_with clip_rule subject_rule clip subject second first of_second (far_clip subject_rule clip_rule subject clip first second a b) of_first t s of_t of_s (sym (do_cross_back s t) ∙ cross) wanted in
        record { point = p.0; some = p.1; at_subject = p.3; at_clip = p.2 }

    on_pair : (s : Pair) (x : RationalPoint) → 0 < x.bottom → Before s.a s.b → IsInside s x → goes_through s x ≡ true
    on_pair s x some o i = through_from_order s x some o i.on_line (UpTo-Before _ _ i.after_a) (UpTo-Before _ _ i.before_b)

    both_borders : PartsMeet subject_rule clip_rule subject clip Boundary Boundary
    both_borders =
        let os = edges_ordered first s of_s in
        let ot = edges_ordered second t of_t in
        let x = inside_both s t os ot cross in
        record {
          point = x.place;
          some = x.some;
          at_subject = on_boundary subject_rule subject first of_first (far_subject subject_rule clip_rule subject clip first second a b) s of_s x.place x.some (on_pair s x.place x.some os x.first);
          at_clip = on_boundary clip_rule clip second of_second (far_clip subject_rule clip_rule subject clip first second a b) t of_t x.place x.some (on_pair t x.place x.some ot x.second);
        }

    all_parts : (of_subject of_clip : Part) → PartsMeet subject_rule clip_rule subject clip of_subject of_clip
    all_parts Interior Interior = both_open true true
    all_parts Interior Boundary = open_border true
    all_parts Interior Exterior = both_open true false
    all_parts Boundary Interior = border_open true
    all_parts Boundary Boundary = both_borders
    all_parts Boundary Exterior = border_open false
    all_parts Exterior Interior = both_open false true
    all_parts Exterior Boundary = open_border false
    all_parts Exterior Exterior = both_open false false

pub inexact_boundaries_cross : InexactBoundariesCross
inexact_boundaries_cross subject_rule clip_rule subject clip first second a b h = crossing_edges subject_rule clip_rule subject clip first second a b h

pub crossing_boundaries_meet_all : CrossingBoundariesMeetAll
crossing_boundaries_meet_all subject_rule clip_rule subject clip first second a b h = all_parts subject_rule clip_rule subject clip first second a b h
