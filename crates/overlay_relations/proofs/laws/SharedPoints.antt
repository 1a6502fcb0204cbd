-- Which points two shapes share, by the overlays of their boundaries that move nothing. A point that is near to the inside of both, and on
-- no edge of one of them, has points near to it that are inside both.
use Rattle.std.proofs.Common.{◌≡◌, ap, refl, sym, subst, ◌∙◌, arith, ℕ, ◌+◌, ◌*◌, ◌<◌, ◌≤◌, inl, inr, [], ◌++◌, filter}
use Rattle.std.specs.Prelude.{ℤ, pos, ◌-ℤ◌, unsigned_abs, IsTrue, Bool, true, false, not, ◌⊎◌, ◌↔◌, List, count_by}
use Rattle.std.specs.List.{list_all, list_any}
use Rattle.std.proofs.lemmas.Int.{ints}
use Rattle.std.proofs.lemmas.Bool.{not-true, cases_Bool}
use Rattle.overlay_geometry.specs.Meeting.{are_apart}
use Rattle.overlay_geometry.specs.Points.{Point, Pair, pair_eq, is_ordered}
use Rattle.overlay_geometry.proofs.laws.geometry.Points.{Before, from_before}
use Rattle.overlay_geometry.proofs.laws.lists.Elements.{Contains-from_Has, Has-from_Contains}
use Rattle.overlay_geometry.proofs.laws.lists.Lists.{Has, Has-map, Has-map_out, list_all-at, list_all-from_Has, list_any-at, Has-from_list_any}
use Rattle.overlay_base.specs.Places.{RationalPoint}
use Rattle.overlay_base.specs.Rays.{goes_through}
use Rattle.overlay_base.specs.Segments.{WholeSegment, are_ordered}
use Rattle.overlay_base.specs.Windings.{is_not_empty}
use Rattle.overlay_base.specs.declared.overlay_core.fill_rule.FillRule.{FillRule}
use Rattle.overlay_base.specs.declared.overlay_core.fill_rule.FillRule.TheVariants.{NonZero}
use Rattle.overlay_base.specs.declared.overlay_core.overlay_rule.OverlayRule.TheVariants.{Subject as SubjectRule, Clip as ClipRule}
use Rattle.overlay_base.specs.declared.segm.shape_type.ShapeType.TheVariants.{Subject}
use Rattle.overlay_build.specs.Boundary.{truth}
use Rattle.overlay_cuts.specs.Nearness.{whole_point}
use Rattle.overlay_cuts.specs.Places.{IsFar}
use Rattle.overlay_split.proofs.laws.nearness.FarRays.{far_lies_on_none}
use Rattle.overlay_sweep.specs.Fill.{is_inside}
use Rattle.overlay_contours.specs.Beyond.{IsOverlayBeyond}
use Rattle.overlay_contours.specs.Boxes.{all_points}
use Rattle.overlay_contours.specs.Contours.{steps, is_edge, in_order, directed_edges, edges, winding_number}
use Rattle.overlay_contours.specs.ContourSegments.{step_segment, contour_segments}
use Rattle.overlay_contours.specs.Polygons.{IsBeyond}
use Rattle.overlay_relations.specs.Boundaries.{IsBoundaryOf}
use Rattle.overlay_relations.specs.Contacts.{IsCloser, Borders, IsOnBoundary, SharePoint}
use Rattle.overlay_relations.specs.ContactLaws.{BoundariesAreEdges, HaveCommonPoint, CommonPointsDecide}
use Rattle.overlay_relations.specs.Relations.{is_in, InteriorsMeet}
use Rattle.overlay_relations.proofs.laws.NearPlaces.{near, turn_by}
use Rattle.overlay_relations.proofs.laws.CrossingPlaces.{above_all, by_pair, IsWay, the_way, IsOffLines, near_off_line}
use Rattle.overlay_relations.proofs.laws.CrossingRegions.{found}
use Rattle.overlay_relations.proofs.laws.Boundaries.{arc, part, far_off_lines, far_left, far_right, far_alone, edges_ordered, around_shape, contour_pairs, pair_of_step, shape_balances, shape_winds, truth_same}
use Rattle.overlay_relations.proofs.laws.ExactRegions.{once_counts, step_counts, has_either, far_both, far_boundary, nonzero_truth}
use Rattle.overlay_relations.proofs.laws.Closeness.{some_product, close_through, close_weaker, near_close}
use Rattle.overlay_relations.proofs.laws.SteadyWindings.{steady}
use Rattle.overlay_relations.proofs.laws.BothSides.{both_sides}
use Rattle.overlay_relations.proofs.laws.ContourEnds.{shared_end, through_end, end_is_point, point_is_end}

-- ---- near a point on no edge of contours

pub bag_edge : (contours : List (List Point)) (u : WholeSegment) → Has (contour_segments Subject contours) u → Has (edges contours) u.pair
bag_edge contours u m = subst (λ (l : List Pair). Has l u.pair) (contour_pairs Subject contours) (Has-map (λ (s : WholeSegment). s.pair) (contour_segments Subject contours) u m)

bag_ordered : (contours : List (List Point)) → IsTrue (are_ordered (contour_segments Subject contours))
bag_ordered contours = list_all-from_Has (λ s. is_ordered s.pair) (contour_segments Subject contours) (λ s m. from_before s.pair.a s.pair.b (edges_ordered contours s.pair (bag_edge contours s m)))

-- a point on no edge of contours has a box around it in which they wind around all points alike
pub steady_contours : (contours : List (List Point)) (p : RationalPoint) → 0 < p.bottom → ((g : Pair) → Has (edges contours) g → goes_through g p ≡ false)
    → (n : ℕ) × ((q : RationalPoint) → 0 < q.bottom → IsCloser n p q → winding_number contours q ≡ winding_number contours p)
steady_contours contours p some off =
    let box = steady (contour_segments Subject contours) (bag_ordered contours) (shape_balances Subject contours) p some (λ u m. off u.pair (bag_edge contours u m)) in
    (box.0, λ q some_q close. sym (shape_winds Subject contours q) ∙ ap (part Subject) (box.1 q some_q close) ∙ shape_winds Subject contours p)

pub far_passes : (contours : List (List Point)) (p : RationalPoint) → 0 < p.bottom → IsFar 0 p (edges contours) → (g : Pair) → Has (edges contours) g → goes_through g p ≡ false
far_passes contours p some far g m =
    let there = Has-map_out (λ (s : WholeSegment). s.pair) (contour_segments Subject contours) g (subst (λ (l : List Pair). Has l g) (sym (contour_pairs Subject contours)) m) in
    let none = far_lies_on_none (contour_segments Subject contours) p (bag_ordered contours) some (subst (λ (l : List Pair). IsFar 0 p l) (sym (contour_pairs Subject contours)) far) in
    subst (λ (s : Pair). goes_through s p ≡ false) there.2 (not-true _ (list_all-at (λ s. not (goes_through s.pair p)) (contour_segments Subject contours) there.0 none there.1))

-- ---- a short way off, to a point on no line of a list

abbrev pub flat : Pair
flat = record { a = record { x = pos 0; y = pos 0 }; b = record { x = pos 1; y = pos 0 } }

abbrev pub tall : Pair
tall = record { a = record { x = pos 0; y = pos 0 }; b = record { x = pos 0; y = pos 1 } }

pub flat_some : by_pair flat tall ≡ pos 0 → ⊥
flat_some e = absurd (cc)

module _ (contours : List (List Point)) (lines : List Pair) (each : (g : Pair) → Has lines g → Before g.a g.b) (p : RationalPoint) (some : 0 < p.bottom) (far : IsFar 0 p (edges contours)) (n : ℕ) where
  -- Nearer to p than one n-th is a point on no line of a list, around which contours wind as around p.
  pub record IsCloseOff : Type 0 where
    pub place : RationalPoint
    pub some_place : 0 < place.bottom
    pub off_lines : IsOffLines lines place
    pub closer : IsCloser n p place
    pub alike : winding_number contours place ≡ winding_number contours p

  box : (k : ℕ) × ((q : RationalPoint) → 0 < q.bottom → IsCloser k p q → winding_number contours q ≡ winding_number contours p)
  box = steady_contours contours p some (far_passes contours p some far)

  module _ (go : IsWay flat tall lines true true) where
    turns : (k : ℕ) × ((g : Pair) → Has lines g → unsigned_abs (turn_by g go.step) < k)
    turns = above_all (λ g. unsigned_abs (turn_by g go.step)) lines

    abbrev most : ℕ
    most = n + box.0

    abbrev pieces : ℕ
    pieces = turns.0 + most * unsigned_abs go.step.x + most * unsigned_abs go.step.y + 1

    first_less : (a b c f : ℕ) → f < a → f < a + b + c + 1
    first_less a b c f l = omega (arith, l)

    second_less : (a b c : ℕ) → b < a + b + c + 1
    second_less a b c = omega arith

    third_less : (a b c : ℕ) → c < a + b + c + 1
    third_less a b c = omega arith

    pieces_some : (a b c : ℕ) → 0 < a + b + c + 1
    pieces_some a b c = omega arith

    abbrev there : RationalPoint
    there = near p go.step pieces

    there_some : 0 < there.bottom
    there_some = some_product pieces p.bottom (pieces_some turns.0 _ _) some

    there_close : IsCloser most p there
    there_close = near_close most p go.step pieces some (second_less turns.0 _ _) (third_less turns.0 _ _)

    left_part : (a b : ℕ) → a ≤ a + b
    left_part a b = omega arith

    right_part : (a b : ℕ) → b ≤ a + b
    right_part a b = omega arith

    off_there : IsCloseOff
    off_there = record {
      place = there;
      some_place = there_some;
      off_lines = λ g m. near_off_line g p go.step pieces (first_less turns.0 _ _ _ (turns.1 g m)) (go.off_lines g m);
      closer = close_weaker n most p there (left_part n box.0) there_close;
      alike = box.1 there there_some (close_weaker box.0 most p there (right_part n box.0) there_close);
    }

  pub close_off : IsCloseOff
  close_off = off_there (the_way flat tall flat_some lines each true true)

-- near to any point is one on no line
pub clear_near : (lines : List Pair) → ((g : Pair) → Has lines g → Before g.a g.b) → (p : RationalPoint) → 0 < p.bottom → (n : ℕ) → (q : RationalPoint) × (0 < q.bottom) × IsOffLines lines q × IsCloser n p q
clear_near lines each p some n = let q = close_off [] lines each p some (λ near. Has-from_Contains [] near.0 near.1) n in (q.place, q.some_place, q.off_lines, q.closer)

-- ---- what is near to the inside of a shape, on no line of a list

module _ (fill_rule : FillRule) (contours : List (List Point)) (inside : Bool) (p : RationalPoint) (some : 0 < p.bottom) (borders : Borders fill_rule contours inside p)
    (lines : List Pair) (each : (g : Pair) → Has lines g → Before g.a g.b) (n : ℕ) where
  pub record IsCloseInside : Type 0 where
    pub place : RationalPoint
    pub some_place : 0 < place.bottom
    pub off_lines : IsOffLines lines place
    pub closer : IsCloser n p place
    pub here : is_in fill_rule contours place ≡ inside

  pub close_inside : IsCloseInside
  close_inside =
      let first = borders (2 * n) in
      let second = close_off contours lines each first.point first.some (far_left first.point (edges contours) (edges []) first.off_edges) (2 * n) in
      record {
        place = second.place;
        some_place = second.some_place;
        off_lines = second.off_lines;
        closer = close_through n p first.point second.place some first.some second.some_place first.closer second.closer;
        here = ap (is_inside fill_rule) second.alike ∙ first.here;
      }

-- ---- points on an edge of contours that have a shape on one side

-- each edge of what an overlay returns is a segment of it, joined
module _ (boundary : List (List Point)) (apart : IsTrue (list_all (λ s. list_all (λ t. are_apart s t) (edges boundary)) (edges boundary))) (once : (e : Pair) → count_by (λ s. pair_eq s e) (edges boundary) ≤ 1)
    (inside : RationalPoint → Bool) (IsClear : RationalPoint → Type 0) (around : (p : RationalPoint) → 0 < p.bottom → IsClear p → winding_number boundary p ≡ truth (inside p)) where
  abbrev xs : List WholeSegment
  xs = arc Subject boundary apart inside IsClear around

  pub edge_segment : (g : Pair) → Has (edges boundary) g → (s : WholeSegment) × Has xs s × (s.pair ≡ g)
  unfolding contour_segments
  edge_segment g m =
      let out = Has-map_out in_order (directed_edges boundary) g m in
      let s = step_segment Subject out.0 in
      let few = subst (λ (l : List Pair). count_by (λ r. pair_eq r s.pair) l ≤ 1) (sym (contour_pairs Subject boundary)) (once s.pair) in
      let counts = once_counts (contour_segments Subject boundary) s (step_counts out.0).0 (Has-map (step_segment Subject) (filter is_edge (steps boundary)) out.0 out.1) few in
      let there = Has-map_out (λ (u : WholeSegment). u.pair) xs s.pair (found (contour_segments Subject boundary) s.pair (ap is_not_empty counts ∙ (step_counts out.0).1)) in
      (there.0, there.1, there.2 ∙ pair_of_step Subject out.0 ∙ out.2)

  -- near to a point on an edge, however near, are points inside and points outside, on no line of a list
  pub edge_borders : (g : Pair) → Has (edges boundary) g → (p : RationalPoint) (some : 0 < p.bottom) → goes_through g p ≡ true → (lines : List Pair) → ((g : Pair) → Has lines g → Before g.a g.b)
      → ((q : RationalPoint) → IsOffLines lines q → IsClear q) → (wanted : Bool) (n : ℕ) → (q : RationalPoint) × (0 < q.bottom) × IsOffLines lines q × IsCloser n p q × (inside q ≡ wanted)
  edge_borders g m p some on lines each clear wanted n =
      let s = edge_segment g m in
      let q = both_sides Subject boundary apart inside IsClear around s.0 s.1 p some (subst (λ (r : Pair). goes_through r p ≡ true) (sym s.2) on) lines each clear wanted n in
      (q.place, q.some_place, q.off_lines, q.closer, q.here)

-- ---- a boundary is where a shape has points inside and outside near by

module _ (fill_rule : FillRule) (contours boundary : List (List Point)) (is : IsBoundaryOf fill_rule contours boundary) (p : RationalPoint) (some : 0 < p.bottom) where
  on_boundary : IsTrue (list_any (λ e. goes_through e p) (edges boundary)) → IsOnBoundary fill_rule contours p
  on_boundary h inside n =
      let there = Has-from_list_any (λ e. goes_through e p) (edges boundary) h in
      let q = edge_borders boundary is.apart is.once (is_in fill_rule contours) (λ q. IsFar 0 q (edges contours)) (around_shape fill_rule contours boundary is) there.0 there.1 p some there.2
      (edges contours) (edges_ordered contours) (λ q off. far_off_lines (edges contours) q off) inside n in
      record {
        point = q.0;
        some = q.1;
        closer = q.3;
        off_edges = far_alone q.0 contours (far_off_lines (edges contours) q.0 q.2);
        here = q.4;
      }

  both_differ : truth true ≡ truth false → ⊥
  both_differ e = omega (arith, ints, e)

  off_boundary : list_any (λ e. goes_through e p) (edges boundary) ≡ false → IsOnBoundary fill_rule contours p → ⊥
  off_boundary none on =
      let box = steady_contours boundary p some (λ g m. list_any-at (λ e. goes_through e p) (edges boundary) g none m) in
      let far_of = λ (q : RationalPoint) (far : IsBeyond 0 contours [] q). far_left q (edges contours) (edges []) far in
      let value = λ (inside : Bool). let q = on inside box.0 in ap truth (sym q.here) ∙ sym (around_shape fill_rule contours boundary is q.point q.some (far_left q.point (edges contours) (edges []) q.off_edges)) ∙ box.1 q.point q.some q.closer in
      both_differ (value true ∙ sym (value false))

  on_edges : IsTrue (list_any (λ e. goes_through e p) (edges boundary)) ↔ IsOnBoundary fill_rule contours p
  on_edges = (
    on_boundary,
    λ on. elim (cases_Bool (list_any (λ e. goes_through e p) (edges boundary))) [ inl h ↦ h | inr h ↦ absurd (off_boundary h on) ],
  )

pub boundaries_are_edges : BoundariesAreEdges
boundaries_are_edges fill_rule contours boundary is p some = on_edges fill_rule contours boundary is p some

-- ---- two shapes

module _ (subject_rule clip_rule : FillRule) (subject clip of_first of_second : List (List Point))
    (around_first : (p : RationalPoint) → 0 < p.bottom → IsBeyond 0 subject clip p → winding_number of_first p ≡ truth (is_in subject_rule subject p))
    (around_second : (p : RationalPoint) → 0 < p.bottom → IsBeyond 0 subject clip p → winding_number of_second p ≡ truth (is_in clip_rule clip p)) where
  abbrev all_lines : List Pair
  all_lines = edges subject ++ edges clip

  all_ordered : (g : Pair) → Has all_lines g → Before g.a g.b
  all_ordered g m = elim (has_either (edges subject) (edges clip) g m) [ inl i ↦ edges_ordered subject g i | inr i ↦ edges_ordered clip g i ]

  module _ (share : SharePoint subject_rule clip_rule subject clip) where
    abbrev p : RationalPoint
    p = share.point

    abbrev IsPassed : List (List Point) → Type 0
    IsPassed contours = (g : Pair) → Has (edges contours) g → goes_through g p ≡ false

    near_subject : (n : ℕ) → IsCloseInside subject_rule subject true p share.some share.of_subject all_lines all_ordered n
    near_subject n = close_inside subject_rule subject true p share.some share.of_subject all_lines all_ordered n

    near_clip : (n : ℕ) → IsCloseInside clip_rule clip true p share.some share.of_clip all_lines all_ordered n
    near_clip n = close_inside clip_rule clip true p share.some share.of_clip all_lines all_ordered n

    passed_first : IsPassed of_first → InteriorsMeet subject_rule clip_rule subject clip
    passed_first off =
        let box = steady_contours of_first p share.some off in
        let q = near_clip box.0 in
        let r = near_subject box.0 in
        let far_q = far_off_lines all_lines q.place q.off_lines in
        let far_r = far_off_lines all_lines r.place r.off_lines in
        record {
          point = q.place;
          some = q.some_place;
          off_edges = far_q;
          of_subject = truth_same _ _ (sym (around_first q.place q.some_place far_q) ∙ box.1 q.place q.some_place q.closer ∙ sym (box.1 r.place r.some_place r.closer) ∙ around_first r.place r.some_place far_r) ∙ r.here;
          of_clip = q.here;
        }

    passed_second : IsPassed of_second → InteriorsMeet subject_rule clip_rule subject clip
    passed_second off =
        let box = steady_contours of_second p share.some off in
        let q = near_subject box.0 in
        let r = near_clip box.0 in
        let far_q = far_off_lines all_lines q.place q.off_lines in
        let far_r = far_off_lines all_lines r.place r.off_lines in
        record {
          point = q.place;
          some = q.some_place;
          off_edges = far_q;
          of_subject = q.here;
          of_clip = truth_same _ _ (sym (around_second q.place q.some_place far_q) ∙ box.1 q.place q.some_place q.closer ∙ sym (box.1 r.place r.some_place r.closer) ∙ around_second r.place r.some_place far_r) ∙ r.here;
        }

    module _ (apart : IsTrue (list_all (λ s. list_all (λ t. are_apart s t) (edges of_second)) (edges of_first))) where
      on_both : (g h : Pair) → Has (edges of_first) g → Has (edges of_second) h → goes_through g p ≡ true → goes_through h p ≡ true → HaveCommonPoint of_first of_second
      on_both g h m k on_g on_h =
          let end = shared_end g h p share.some (edges_ordered of_first g m) (edges_ordered of_second h k) on_g on_h
          (list_all-at (λ t. are_apart g t) (edges of_second) h (list_all-at (λ s. list_all (λ t. are_apart s t) (edges of_second)) (edges of_first) g apart m) k) in
          (end.0, Contains-from_Has (all_points of_first) end.0 (end_is_point of_first g end.0 m end.1), Contains-from_Has (all_points of_second) end.0 (end_is_point of_second h end.0 k end.2))

      common_or_inside : HaveCommonPoint of_first of_second ⊎ InteriorsMeet subject_rule clip_rule subject clip
      common_or_inside = elim (cases_Bool (list_any (λ e. goes_through e p) (edges of_first))) [
        | inl h ↦ elim (cases_Bool (list_any (λ e. goes_through e p) (edges of_second))) [
          | inl k ↦
              let g = Has-from_list_any (λ e. goes_through e p) (edges of_first) h in
              let t = Has-from_list_any (λ e. goes_through e p) (edges of_second) k in
              inl (on_both g.0 t.0 g.1 t.1 g.2 t.2)
          | inr k ↦ inr (passed_second (λ g m. list_any-at (λ e. goes_through e p) (edges of_second) g k m))
        ]
        | inr h ↦ inr (passed_first (λ g m. list_any-at (λ e. goes_through e p) (edges of_first) g h m))
      ]

-- ---- the overlays of two boundaries

alone : (v : Bool) → truth v -ℤ truth false ≡ truth v
alone true = refl
alone false = refl

module _ (subject_rule clip_rule : FillRule) (subject clip first second of_first of_second : List (List Point)) (a : IsBoundaryOf subject_rule subject first) (b : IsBoundaryOf clip_rule clip second)
    (o : IsOverlayBeyond 0 SubjectRule NonZero first second of_first) (i : IsOverlayBeyond 0 ClipRule NonZero first second of_second) where
  clear : (p : RationalPoint) → IsBeyond 0 subject clip p → IsBeyond 0 first second p
  clear p far =
      far_both p (edges first) (edges second)
      (far_boundary subject_rule subject first a p (far_left p (edges subject) (edges clip) far))
      (far_boundary clip_rule clip second b p (far_right p (edges subject) (edges clip) far))

  wound_first : (p : RationalPoint) → 0 < p.bottom → IsBeyond 0 subject clip p → winding_number of_first p ≡ truth (is_in subject_rule subject p)
  wound_first p some far =
      o.bound.winds p some (clear p far)
      ∙ ap (λ (m : ℤ). truth (is_inside NonZero m) -ℤ truth false) (around_shape subject_rule subject first a p some (far_left p (edges subject) (edges clip) far))
      ∙ ap (λ (v : Bool). truth v -ℤ truth false) (nonzero_truth (is_in subject_rule subject p))
      ∙ alone (is_in subject_rule subject p)

  wound_second : (p : RationalPoint) → 0 < p.bottom → IsBeyond 0 subject clip p → winding_number of_second p ≡ truth (is_in clip_rule clip p)
  wound_second p some far =
      i.bound.winds p some (clear p far)
      ∙ ap (λ (m : ℤ). truth (is_inside NonZero m) -ℤ truth false) (around_shape clip_rule clip second b p some (far_right p (edges subject) (edges clip) far))
      ∙ ap (λ (v : Bool). truth v -ℤ truth false) (nonzero_truth (is_in clip_rule clip p))
      ∙ alone (is_in clip_rule clip p)

  abbrev both_lines : List Pair
  both_lines = edges subject ++ edges clip

  both_ordered : (g : Pair) → Has both_lines g → Before g.a g.b
  both_ordered = all_ordered subject_rule clip_rule subject clip of_first of_second wound_first wound_second

  subject_borders : (v : Point) → Has (all_points of_first) v → Borders subject_rule subject true (whole_point v)
  subject_borders v m n =
      let g = point_is_end of_first o.bound.proper v m in
      let q = edge_borders of_first o.apart o.once (is_in subject_rule subject) (λ q. IsBeyond 0 subject clip q) wound_first g.0 g.1 (whole_point v) (omega arith) (through_end g.0 v (edges_ordered of_first g.0 g.1) g.2)
      both_lines both_ordered (λ q off. far_off_lines both_lines q off) true n in
      record { point = q.0; some = q.1; closer = q.3; off_edges = far_alone q.0 subject (far_left q.0 (edges subject) (edges clip) (far_off_lines both_lines q.0 q.2)); here = q.4 }

  clip_borders : (v : Point) → Has (all_points of_second) v → Borders clip_rule clip true (whole_point v)
  clip_borders v m n =
      let g = point_is_end of_second i.bound.proper v m in
      let q = edge_borders of_second i.apart i.once (is_in clip_rule clip) (λ q. IsBeyond 0 subject clip q) wound_second g.0 g.1 (whole_point v) (omega arith) (through_end g.0 v (edges_ordered of_second g.0 g.1) g.2)
      both_lines both_ordered (λ q off. far_off_lines both_lines q off) true n in
      record { point = q.0; some = q.1; closer = q.3; off_edges = far_alone q.0 clip (far_right q.0 (edges subject) (edges clip) (far_off_lines both_lines q.0 q.2)); here = q.4 }

  shared_there : HaveCommonPoint of_first of_second → SharePoint subject_rule clip_rule subject clip
  shared_there (v, m, k) = record {
    point = whole_point v;
    some = omega arith;
    of_subject = subject_borders v (Has-from_Contains (all_points of_first) v m);
    of_clip = clip_borders v (Has-from_Contains (all_points of_second) v k);
  }

pub common_points_decide : CommonPointsDecide
common_points_decide subject_rule clip_rule subject clip first second of_first of_second a b o i apart = (
  shared_there subject_rule clip_rule subject clip first second of_first of_second a b o i,
  λ share. common_or_inside subject_rule clip_rule subject clip of_first of_second (wound_first subject_rule clip_rule subject clip first second of_first of_second a b o i)
      (wound_second subject_rule clip_rule subject clip first second of_first of_second a b o i) share apart,
)
