-- Which parts of two shapes meet, by the regions of their boundaries in one arrangement.
use Rattle.std.proofs.Common.{◌≡◌, ap, ap₂, refl, sym, subst, ◌∙◌, arith, ℕ, ◌+◌, ◌<◌, ◌≤◌, inl, inr, [], ◌∷◌, ◌++◌}
use Rattle.std.specs.Prelude.{ℤ, pos, neg_ℤ, ◌-ℤ◌, ◌*ℤ◌, ◌<ℤ◌, unsigned_abs, int_lt, IsTrue, Bool, true, false, not, ◌&&◌, ◌||◌, ◌⊎◌, ◌↔◌, List, Contains, cond, filter}
use Rattle.std.specs.List.{list_all, list_any}
use Rattle.std.proofs.lemmas.Int.{ints}
use Rattle.std.proofs.lemmas.Bool.{and_parts, both_ways, cases_Bool, false_from_ne_true, not-true}
use Rattle.std.proofs.lemmas.List.Elements.{All-contains}
use Rattle.overlay_geometry.specs.Meeting.{are_apart}
use Rattle.overlay_geometry.specs.Points.{Point, Pair}
use Rattle.overlay_geometry.proofs.laws.geometry.Points.{Before}
use Rattle.overlay_geometry.proofs.laws.integers.Tests.{le-test_false}
use Rattle.overlay_geometry.proofs.laws.lists.Elements.{Contains-from_Has, Has-from_Contains}
use Rattle.overlay_geometry.proofs.laws.lists.Lists.{Has, Has-append_left, Has-append_right, list_all-at, list_all-from_Has, list_any-at, Has-from_list_any}
use Rattle.overlay_base.specs.Places.{RationalPoint, runs_below, lies_below, winding_below}
use Rattle.overlay_base.specs.Segments.{WholeSegment, total_weight}
use Rattle.overlay_base.specs.Windings.{empty, total}
use Rattle.overlay_base.specs.declared.segm.shape_type.ShapeType.TheVariants.{Subject as ShapeSubject}
use Rattle.overlay_base.specs.Rays.{goes_through}
use Rattle.overlay_base.specs.Rules.{holds}
use Rattle.overlay_base.specs.declared.overlay_core.fill_rule.FillRule.{FillRule}
use Rattle.overlay_base.specs.declared.overlay_core.fill_rule.FillRule.TheVariants.{EvenOdd, NonZero, Positive, Negative}
use Rattle.overlay_base.specs.declared.overlay_core.overlay_rule.OverlayRule.{OverlayRule}
use Rattle.overlay_base.specs.declared.overlay_core.overlay_rule.OverlayRule.TheVariants.{Subject, Clip, Intersect, Union, Difference, InverseDifference}
use Rattle.overlay_build.specs.Boundary.{truth}
use Rattle.overlay_cuts.specs.Nearness.{whole_point}
use Rattle.overlay_cuts.specs.Places.{IsFar}
use Rattle.overlay_sweep.specs.Fill.{is_inside}
use Rattle.overlay_contours.specs.Beyond.{IsOverlayBeyond}
use Rattle.overlay_contours.specs.Boxes.{all_points}
use Rattle.overlay_contours.specs.Contours.{edges, winding_number}
use Rattle.overlay_contours.specs.ContourSegments.{contour_segments}
use Rattle.overlay_contours.specs.Polygons.{IsBeyond}
use Rattle.overlay_relations.specs.Boundaries.{IsBoundaryOf}
use Rattle.overlay_relations.specs.Contacts.{IsCloser, Borders, IsOnBoundary}
use Rattle.overlay_relations.specs.ContactLaws.{HaveCommonPoint}
use Rattle.overlay_relations.specs.Matrix.{IsAt, PartsMeet}
use Rattle.overlay_relations.specs.declared.matrix.Part.{Part}
use Rattle.overlay_relations.specs.declared.matrix.Part.TheVariants.{Interior, Boundary, Exterior}
use Rattle.overlay_relations.specs.MatrixLaws.{HaveCommonEdge, IsRegionBy, MatrixByRegions}
use Rattle.overlay_relations.specs.Relations.{is_in, HasPoint}
use Rattle.overlay_relations.proofs.laws.NearPlaces.{above_abs}
use Rattle.overlay_relations.proofs.laws.NearUprights.{outside_low, passes_in_x}
use Rattle.overlay_relations.proofs.laws.CrossingPlaces.{above_all, IsOffLines}
use Rattle.overlay_relations.proofs.laws.Boundaries.{part, shape_winds, edges_ordered, far_off_lines, far_left, far_right, far_alone, around_shape, truth_same, less_none}
use Rattle.overlay_relations.proofs.laws.ExactRegions.{has_either, far_both, far_boundary, nonzero_truth, exact_boundaries_decide}
use Rattle.overlay_relations.proofs.laws.Closeness.{close_weaker}
use Rattle.overlay_relations.proofs.laws.SharedPoints.{edge_borders, steady_contours, far_passes, close_inside, clear_near, bag_edge}
use Rattle.overlay_relations.proofs.laws.ContourEnds.{shared_end, through_end, end_is_point, point_is_end}
use Rattle.overlay_relations.proofs.laws.AcrossEdges.{middle, IsRegion}
use Rattle.overlay_relations.proofs.laws.SharedEdges.{Tells, edge_on, edge_not, common_edge}

-- ---- truth values

inside_of_boundary : Tells (λ a b. a && b) (λ a b. b && not a) true
inside_of_boundary = record {
  both = λ a b c d h k. both a b c d h k;
  one = λ a c b h k. one a c b h k;
  differ = λ e. both_ways false refl (sym e);
}
  where
    both : (a b c d : Bool) → ((a && b) ≡ (c && d) → ⊥) → ((b && not a) ≡ (d && not c) → ⊥) → (a ≡ c → ⊥) × (b ≡ true) × (d ≡ true)
    both true true false true h k = (λ e. both_ways false refl (sym e), refl, refl)
    both false true true true h k = (λ e. both_ways true (sym e) refl, refl, refl)
    both true true true true h k = absurd (h refl)
    both false true false true h k = absurd (h refl)
    both true true true false h k = absurd (k refl)
    both true true false false h k = absurd (k refl)
    both false true true false h k = absurd (h refl)
    both false true false false h k = absurd (h refl)
    both true false true true h k = absurd (k refl)
    both true false false true h k = absurd (h refl)
    both true false true false h k = absurd (h refl)
    both true false false false h k = absurd (h refl)
    both false false true true h k = absurd (k refl)
    both false false false true h k = absurd (h refl)
    both false false true false h k = absurd (h refl)
    both false false false false h k = absurd (h refl)

    one : (a c b : Bool) → ((a && b) ≡ (c && b) → ⊥) → (b && not a) ≡ (b && not c) → ⊥
    one true true true h k = h refl
    one true false true h k = both_ways false refl k
    one false true true h k = both_ways true k refl
    one false false true h k = h refl
    one true true false h k = h refl
    one true false false h k = h refl
    one false true false h k = h refl
    one false false false h k = h refl

outside_of_boundary : Tells (λ a b. a || b) (λ a b. a && not b) false
outside_of_boundary = record {
  both = λ a b c d h k. both a b c d h k;
  one = λ a c b h k. one a c b h k;
  differ = λ e. both_ways false refl (sym e);
}
  where
    both : (a b c d : Bool) → ((a || b) ≡ (c || d) → ⊥) → ((a && not b) ≡ (c && not d) → ⊥) → (a ≡ c → ⊥) × (b ≡ false) × (d ≡ false)
    both true false false false h k = (λ e. both_ways false refl (sym e), refl, refl)
    both false false true false h k = (λ e. both_ways true (sym e) refl, refl, refl)
    both true true true true h k = absurd (h refl)
    both false true false true h k = absurd (h refl)
    both true true true false h k = absurd (h refl)
    both true true false false h k = absurd (k refl)
    both false true true false h k = absurd (h refl)
    both false true false false h k = absurd (k refl)
    both true false true true h k = absurd (h refl)
    both true false false true h k = absurd (h refl)
    both true false true false h k = absurd (h refl)
    both true true false true h k = absurd (h refl)
    both false false true true h k = absurd (k refl)
    both false false false true h k = absurd (k refl)
    both false true true true h k = absurd (h refl)
    both false false false false h k = absurd (h refl)

    one : (a c b : Bool) → ((a || b) ≡ (c || b) → ⊥) → (a && not b) ≡ (c && not b) → ⊥
    one true true true h k = h refl
    one true false true h k = h refl
    one false true true h k = h refl
    one false false true h k = h refl
    one true true false h k = h refl
    one true false false h k = both_ways false refl (sym k)
    one false true false h k = both_ways true (sym k) refl
    one false false false h k = h refl

is_or_not : (a b : Bool) → (a ≡ b) ⊎ (a ≡ not b)
is_or_not true true = inl refl
is_or_not true false = inr refl
is_or_not false true = inr refl
is_or_not false false = inl refl

part_left : (a b : ℕ) → a ≤ a + b
part_left a b = omega arith

part_right : (a b : ℕ) → b ≤ a + b
part_right a b = omega arith

-- the same functions, written otherwise
tells_same : (f g h k : Bool → Bool → Bool) (wanted : Bool) → ((v w : Bool) → h v w ≡ f v w) → ((v w : Bool) → k v w ≡ g v w) → Tells f g wanted → Tells h k wanted
tells_same f g h k wanted e i tells = record {
  both = λ v w x y p q. tells.both v w x y (λ z. p (e v w ∙ z ∙ sym (e x y))) (λ z. q (i v w ∙ z ∙ sym (i x y)));
  one = λ v x w p q. tells.one v x w (λ z. p (e v w ∙ z ∙ sym (e x w))) (sym (i v w) ∙ q ∙ i x w);
  differ = λ z. tells.differ (sym (e true wanted) ∙ z ∙ e false wanted);
}

and_turned : (v w : Bool) → (w && v) ≡ (v && w)
and_turned true true = refl
and_turned true false = refl
and_turned false true = refl
and_turned false false = refl

or_turned : (v w : Bool) → (w || v) ≡ (v || w)
or_turned true true = refl
or_turned true false = refl
or_turned false true = refl
or_turned false false = refl

only_left : (v w : Bool) → IsTrue (v && not w) → (v ≡ true) × (w ≡ false)
only_left v w h = let both = and_parts v (not w) h in (both.0, not-true w both.1)

only_right : (v w : Bool) → IsTrue (w && not v) → (v ≡ false) × (w ≡ true)
only_right v w h = let both = and_parts w (not v) h in (not-true v both.1, both.0)

-- ---- a point inside or outside of one shape

-- off the edges, the value at a point is that of all points near by
keeps_kind : (fill_rule : FillRule) (contours : List (List Point)) (p : RationalPoint) → 0 < p.bottom → IsFar 0 p (edges contours) → (kind other : Bool) → is_in fill_rule contours p ≡ kind → (kind ≡ other → ⊥) → Borders fill_rule contours other p → ⊥
keeps_kind fill_rule contours p some far kind other is differ borders =
    let box = steady_contours contours p some (far_passes contours p some far) in
    let q = borders box.0 in
    differ (sym is ∙ sym (ap (is_inside fill_rule) (box.1 q.point q.some q.closer)) ∙ q.here)

-- ---- a point to the left of all edges

widest : (lines : List Pair) → (n : ℕ) × ((g : Pair) → Has lines g → unsigned_abs g.a.x + unsigned_abs g.b.x < n)
widest lines = above_all (λ g. unsigned_abs g.a.x + unsigned_abs g.b.x) lines

leftmost : ℕ → RationalPoint
leftmost n = record { x = neg_ℤ (pos n); y = pos 0; bottom = 1 }

left_some : (n : ℕ) → 0 < (leftmost n).bottom
unfolding leftmost
left_some n = omega arith

beyond_left : (x : ℤ) (n : ℕ) → unsigned_abs x < n → neg_ℤ (pos n) <ℤ (x *ℤ pos 1)
beyond_left x n h = plain x n (above_abs x n h)
  where
    plain : (x : ℤ) (n : ℕ) → neg_ℤ (pos n) <ℤ x → neg_ℤ (pos n) <ℤ (x *ℤ pos 1)
    plain x n l = omega (arith, ints, l)

first_small : (a b n : ℕ) → a + b < n → a < n
first_small a b n h = omega (arith, h)

second_small : (a b n : ℕ) → a + b < n → b < n
second_small a b n h = omega (arith, h)

filter_none : {X : Type 0} (f : X → Bool) (xs : List X) → ((x : X) → Has xs x → f x ≡ false) → filter f xs ≡ []
filter_none f [] h = refl
filter_none f (x ∷ xs) h = ap (λ (v : Bool). cond v (x ∷ filter f xs) (filter f xs)) (h x (inl refl)) ∙ filter_none f xs (λ y m. h y (inr m))

none_below : (xs : List WholeSegment) (p : RationalPoint) → ((u : WholeSegment) → Has xs u → lies_below u.pair p ≡ false) → winding_below xs p ≡ empty
unfolding winding_below total_weight total
none_below xs p h = ap total_weight (filter_none (λ s. lies_below s.pair p) xs h)

outside_rule : (fill_rule : FillRule) → is_inside fill_rule (pos 0) ≡ false
outside_rule EvenOdd = refl
outside_rule NonZero = refl
outside_rule Positive = refl
outside_rule Negative = refl

module _ (fill_rule : FillRule) (contours : List (List Point)) (n : ℕ) (wide : (g : Pair) → Has (edges contours) g → unsigned_abs g.a.x + unsigned_abs g.b.x < n) where
  passes_left : (g : Pair) → Has (edges contours) g → goes_through g (leftmost n) ≡ false
  unfolding leftmost
  passes_left g m = passes_in_x g (leftmost n) (outside_low _ _ _ (beyond_left g.a.x n (first_small _ _ n (wide g m))) (beyond_left g.b.x n (second_small _ _ n (wide g m))))

  winds_not : winding_number contours (leftmost n) ≡ pos 0
  unfolding leftmost
  winds_not =
      sym (shape_winds ShapeSubject contours (leftmost n))
      ∙ ap (part ShapeSubject) (none_below (contour_segments ShapeSubject contours) (leftmost n) (λ u m.
      let g = bag_edge contours u m in
      ap (λ (v : Bool). v && int_lt (leftmost n).x (u.pair.b.x *ℤ pos 1) && runs_below u.pair (leftmost n)) (le-test_false (u.pair.a.x *ℤ pos 1) (leftmost n).x (beyond_left u.pair.a.x n (first_small _ _ n (wide u.pair g))))))

  outside_left : Borders fill_rule contours true (leftmost n) → ⊥
  unfolding leftmost
  outside_left borders =
      let box = steady_contours contours (leftmost n) (omega arith) passes_left in
      let q = borders box.0 in
      both_ways true (sym q.here ∙ ap (is_inside fill_rule) (box.1 q.point q.some q.closer ∙ winds_not) ∙ outside_rule fill_rule) refl

-- ---- regions

module _ (subject_rule clip_rule : FillRule) (subject clip first second : List (List Point)) (a : IsBoundaryOf subject_rule subject first) (b : IsBoundaryOf clip_rule clip second) where
  abbrev in_subject : RationalPoint → Bool
  in_subject p = is_in subject_rule subject p

  abbrev in_clip : RationalPoint → Bool
  in_clip p = is_in clip_rule clip p

  abbrev pub Clear : RationalPoint → Type 0
  Clear p = IsBeyond 0 subject clip p

  abbrev pub lines : List Pair
  lines = edges subject ++ edges clip

  pub lines_ordered : (g : Pair) → Has lines g → Before g.a g.b
  lines_ordered g m = elim (has_either (edges subject) (edges clip) g m) [ inl i ↦ edges_ordered subject g i | inr i ↦ edges_ordered clip g i ]

  pub clear_off : (q : RationalPoint) → IsOffLines lines q → Clear q
  clear_off q off = far_off_lines lines q off

  pub far_subject : (q : RationalPoint) → Clear q → IsFar 0 q (edges subject)
  far_subject q far = far_left q (edges subject) (edges clip) far

  pub far_clip : (q : RationalPoint) → Clear q → IsFar 0 q (edges clip)
  far_clip q far = far_right q (edges subject) (edges clip) far

  pub region_of : (rule : OverlayRule) (region : List (List Point)) → holds rule false false ≡ false → IsOverlayBeyond 0 rule NonZero first second region → IsRegion Clear (λ p. holds rule (in_subject p) (in_clip p)) region
  region_of rule region outside o = record {
    apart = o.apart;
    once = o.once;
    around = λ p some far.
        o.bound.winds p some
        (far_both p (edges first) (edges second) (far_boundary subject_rule subject first a p (far_subject p far)) (far_boundary clip_rule clip second b p (far_clip p far)))
        ∙ ap₂ (λ (m n : ℤ). truth (holds rule (is_inside NonZero m) (is_inside NonZero n)) -ℤ truth (holds rule false false)) (around_shape subject_rule subject first a p some (far_subject p far)) (around_shape clip_rule clip second b p some (far_clip p far))
        ∙ ap₂ (λ (v w : Bool). truth (holds rule v w) -ℤ truth (holds rule false false)) (nonzero_truth (in_subject p)) (nonzero_truth (in_clip p))
        ∙ ap (λ (v : Bool). truth (holds rule (in_subject p) (in_clip p)) -ℤ truth v) outside
        ∙ less_none (truth (holds rule (in_subject p) (in_clip p)));
  }

  edge_there : (segments : List Pair) (rule : OverlayRule) (region : List (List Point)) → IsRegionBy first second segments rule region → (g : Pair) → Has (edges region) g → Has segments g
  edge_there segments rule region is g m = Has-from_Contains segments g (All-contains (Contains segments) (edges region) g is.arranged (Contains-from_Has (edges region) g m))

  edges_apart : (segments : List Pair) → IsTrue (list_all (λ s. list_all (λ t. are_apart s t) segments) segments) → (rule other : OverlayRule) (region further : List (List Point)) → IsRegionBy first second segments rule region → IsRegionBy first second segments other further
      → IsTrue (list_all (λ s. list_all (λ t. are_apart s t) (edges further)) (edges region))
  edges_apart segments planar rule other region further i j =
      list_all-from_Has (λ s. list_all (λ t. are_apart s t) (edges further)) (edges region) (λ g m.
      list_all-from_Has (λ t. are_apart g t) (edges further) (λ h k.
      list_all-at (λ t. are_apart g t) segments h (list_all-at (λ s. list_all (λ t. are_apart s t) segments) segments g planar (edge_there segments rule region i g m)) (edge_there segments other further j h k)))

  -- ---- two open parts

  abbrev pub part_of : Bool → Part
  part_of true = Interior
  part_of false = Exterior

  pub open_at : (fill_rule : FillRule) (contours : List (List Point)) (kind : Bool) (p : RationalPoint) → (Borders fill_rule contours (not kind) p → ⊥) → IsAt fill_rule contours (part_of kind) p
  open_at fill_rule contours true p h = h
  open_at fill_rule contours false p h = h

  at_open : (fill_rule : FillRule) (contours : List (List Point)) (kind : Bool) (p : RationalPoint) → IsAt fill_rule contours (part_of kind) p → Borders fill_rule contours (not kind) p → ⊥
  at_open fill_rule contours true p h = h
  at_open fill_rule contours false p h = h

  other_kind : (kind : Bool) → kind ≡ not kind → ⊥
  other_kind true e = both_ways false refl (sym e)
  other_kind false e = both_ways true (sym e) refl

  pub meet_of_point : (kind other : Bool) → HasPoint subject_rule clip_rule subject clip kind other → PartsMeet subject_rule clip_rule subject clip (part_of kind) (part_of other)
  meet_of_point kind other p = record {
    point = p.point;
    some = p.some;
    at_subject = open_at subject_rule subject kind p.point (keeps_kind subject_rule subject p.point p.some (far_subject p.point p.off_edges) kind (not kind) p.of_subject (other_kind kind));
    at_clip = open_at clip_rule clip other p.point (keeps_kind clip_rule clip p.point p.some (far_clip p.point p.off_edges) other (not other) p.of_clip (other_kind other));
  }

  -- ---- regions of both shapes

  module _ (segments : List Pair) (planar : IsTrue (list_all (λ s. list_all (λ t. are_apart s t) segments) segments)) (of_subject of_clip : List (List Point)) (os : IsRegionBy first second segments Subject of_subject) (oc : IsRegionBy first second segments Clip of_clip) where
    rs : IsRegion Clear in_subject of_subject
    rs = region_of Subject of_subject refl os.overlay

    rc : IsRegion Clear in_clip of_clip
    rc = region_of Clip of_clip refl oc.overlay

    -- a point on the boundary of a shape is on an edge of its region
    on_edge : (fill_rule : FillRule) (contours region : List (List Point)) → IsRegion Clear (λ p. is_in fill_rule contours p) region → (p : RationalPoint) (some : 0 < p.bottom) → IsOnBoundary fill_rule contours p → (g : Pair) × Has (edges region) g × (goes_through g p ≡ true)
    on_edge fill_rule contours region is p some on = elim (cases_Bool (list_any (λ g. goes_through g p) (edges region))) [
      | inl h ↦ Has-from_list_any (λ g. goes_through g p) (edges region) h
      | inr h ↦
          let box = steady_contours region p some (λ g m. list_any-at (λ g. goes_through g p) (edges region) g h m) in
          let c = close_inside fill_rule contours true p some (on true) lines lines_ordered box.0 in
          let d = close_inside fill_rule contours false p some (on false) lines lines_ordered box.0 in
          absurd (both_ways true
          (sym c.here
          ∙ truth_same _ _ (sym (is.around c.place c.some_place (clear_off c.place c.off_lines)) ∙ box.1 c.place c.some_place c.closer ∙ sym (box.1 d.place d.some_place d.closer) ∙ is.around d.place d.some_place (clear_off d.place d.off_lines))
          ∙ d.here) refl)
    ]

    borders_meet : PartsMeet subject_rule clip_rule subject clip Boundary Boundary → HaveCommonPoint of_subject of_clip
    borders_meet p =
        let g = on_edge subject_rule subject of_subject rs p.point p.some p.at_subject in
        let h = on_edge clip_rule clip of_clip rc p.point p.some p.at_clip in
        let e = shared_end g.0 h.0 p.point p.some (edges_ordered of_subject g.0 g.1) (edges_ordered of_clip h.0 h.1) g.2 h.2
        (list_all-at (λ t. are_apart g.0 t) (edges of_clip) h.0 (list_all-at (λ s. list_all (λ t. are_apart s t) (edges of_clip)) (edges of_subject) g.0 (edges_apart segments planar Subject Clip of_subject of_clip os oc) g.1) h.1) in
        (e.0, Contains-from_Has (all_points of_subject) e.0 (end_is_point of_subject g.0 e.0 g.1 e.1), Contains-from_Has (all_points of_clip) e.0 (end_is_point of_clip h.0 e.0 h.1 e.2))

    at_point : (fill_rule : FillRule) (contours region : List (List Point)) → IsRegion Clear (λ p. is_in fill_rule contours p) region → ((q : RationalPoint) → Clear q → IsFar 0 q (edges contours)) → (v : Point) (g : Pair) → Has (edges region) g → goes_through g (whole_point v) ≡ true → IsOnBoundary fill_rule contours (whole_point v)
    at_point fill_rule contours region is far v g m on inside n =
        let q = edge_borders region is.apart is.once (λ p. is_in fill_rule contours p) Clear is.around g m (whole_point v) (omega arith) on lines lines_ordered clear_off inside n in
        record { point = q.0; some = q.1; closer = q.3; off_edges = far_alone q.0 contours (far q.0 (clear_off q.0 q.2)); here = q.4 }

    borders_there : HaveCommonPoint of_subject of_clip → PartsMeet subject_rule clip_rule subject clip Boundary Boundary
    borders_there (v, m, k) =
        let g = point_is_end of_subject os.overlay.bound.proper v (Has-from_Contains (all_points of_subject) v m) in
        let h = point_is_end of_clip oc.overlay.bound.proper v (Has-from_Contains (all_points of_clip) v k) in
        record {
          point = whole_point v;
          some = omega arith;
          at_subject = at_point subject_rule subject of_subject rs far_subject v g.0 g.1 (through_end g.0 v (edges_ordered of_subject g.0 g.1) g.2);
          at_clip = at_point clip_rule clip of_clip rc far_clip v h.0 h.1 (through_end h.0 v (edges_ordered of_clip h.0 h.1) h.2);
        }

    -- a point in an open part of a shape has points of that kind near by, on no line
    module _ (fill_rule : FillRule) (contours region : List (List Point)) (is : IsRegion Clear (λ p. is_in fill_rule contours p) region) (far : (q : RationalPoint) → Clear q → IsFar 0 q (edges contours)) (kind : Bool) (p : RationalPoint) (some : 0 < p.bottom) (no : Borders fill_rule contours (not kind) p → ⊥) where
      passes_by : (g : Pair) → Has (edges region) g → goes_through g p ≡ false
      passes_by g m = false_from_ne_true _ (λ h. no (λ n.
          let q = edge_borders region is.apart is.once (λ p. is_in fill_rule contours p) Clear is.around g m p some h lines lines_ordered clear_off (not kind) n in
          record { point = q.0; some = q.1; closer = q.3; off_edges = far_alone q.0 contours (far q.0 (clear_off q.0 q.2)); here = q.4 }))

      kind_box : (n : ℕ) × ((q : RationalPoint) → 0 < q.bottom → IsCloser n p q → winding_number region q ≡ winding_number region p)
      kind_box = steady_contours region p some passes_by

      -- all clear points near by are of one kind
      kind_alike : (q r : RationalPoint) → 0 < q.bottom → 0 < r.bottom → Clear q → Clear r → IsCloser kind_box.0 p q → IsCloser kind_box.0 p r → is_in fill_rule contours q ≡ is_in fill_rule contours r
      kind_alike q r sq sr cq cr nq nr = truth_same _ _ (sym (is.around q sq cq) ∙ kind_box.1 q sq nq ∙ sym (kind_box.1 r sr nr) ∙ is.around r sr cr)

      kind_near : (q : RationalPoint) → 0 < q.bottom → Clear q → IsCloser kind_box.0 p q → is_in fill_rule contours q ≡ kind
      kind_near q sq cq nq = elim (is_or_not (is_in fill_rule contours q) kind) [
        | inl e ↦ e
        | inr e ↦ absurd (no (λ n.
            let c = clear_near lines lines_ordered p some (n + kind_box.0) in
            record {
              point = c.0;
              some = c.1;
              closer = close_weaker n (n + kind_box.0) p c.0 (part_left n kind_box.0) c.3;
              off_edges = far_alone c.0 contours (far c.0 (clear_off c.0 c.2));
              here = kind_alike c.0 q c.1 sq (clear_off c.0 c.2) cq (close_weaker kind_box.0 (n + kind_box.0) p c.0 (part_right n kind_box.0) c.3) nq ∙ e;
            }))
      ]

    point_of_meet : (kind other : Bool) → PartsMeet subject_rule clip_rule subject clip (part_of kind) (part_of other) → HasPoint subject_rule clip_rule subject clip kind other
    point_of_meet kind other m =
        let no = at_open subject_rule subject kind m.point m.at_subject in
        let none = at_open clip_rule clip other m.point m.at_clip in
        let k = (kind_box subject_rule subject of_subject rs far_subject kind m.point m.some no).0 in
        let l = (kind_box clip_rule clip of_clip rc far_clip other m.point m.some none).0 in
        let c = clear_near lines lines_ordered m.point m.some (k + l) in
        record {
          point = c.0;
          some = c.1;
          off_edges = clear_off c.0 c.2;
          of_subject = kind_near subject_rule subject of_subject rs far_subject kind m.point m.some no c.0 c.1 (clear_off c.0 c.2) (close_weaker k (k + l) m.point c.0 (part_left k l) c.3);
          of_clip = kind_near clip_rule clip of_clip rc far_clip other m.point m.some none c.0 c.1 (clear_off c.0 c.2) (close_weaker l (k + l) m.point c.0 (part_right k l) c.3);
        }

    open_entry : (rule : OverlayRule) (region : List (List Point)) (kind other : Bool) → holds rule false false ≡ false → IsTrue (holds rule kind other) → ((v w : Bool) → IsTrue (holds rule v w) → (v ≡ kind) × (w ≡ other)) → IsRegionBy first second segments rule region
        → PartsMeet subject_rule clip_rule subject clip (part_of kind) (part_of other) ↔ (region ≡ [] → ⊥)
    open_entry rule region kind other outside here only is =
        let decide = exact_boundaries_decide rule subject_rule clip_rule subject clip first second region outside a b is.overlay in (
          λ m none.
              let p = point_of_meet kind other m in
              decide.0 none (record {
                point = p.point;
                some = p.some;
                off_edges = p.off_edges;
                here = subst (λ (v : Bool). IsTrue (holds rule v (in_clip p.point))) (sym p.of_subject) (subst (λ (w : Bool). IsTrue (holds rule kind w)) (sym p.of_clip) here);
              }),
          λ some.
              let p = decide.1 some in
              let kinds = only (in_subject p.point) (in_clip p.point) p.here in
              meet_of_point kind other (record { point = p.point; some = p.some; off_edges = p.off_edges; of_subject = kinds.0; of_clip = kinds.1 }),
        )

    -- ---- a boundary and an open part

    module _ (r s : List (List Point)) (rule other : OverlayRule) (ir : IsRegionBy first second segments rule r) (is : IsRegionBy first second segments other s) (outside : holds rule false false ≡ false) (further : holds other false false ≡ false) (wanted : Bool) where
      common_from : (e : Pair) × Has (edges r) e × Has (edges s) e → HaveCommonEdge r s
      common_from (e, m, k) = (e, Contains-from_Has (edges r) e m, Contains-from_Has (edges s) e k)

      border_of_subject : Tells (λ v w. holds rule v w) (λ v w. holds other v w) wanted → PartsMeet subject_rule clip_rule subject clip Boundary (part_of wanted) ↔ HaveCommonEdge r s
      border_of_subject tells = (
        λ m. common_from (common_edge subject_rule clip_rule subject clip lines lines_ordered Clear clear_off far_subject far_clip (λ v w. holds rule v w) (λ v w. holds other v w) wanted tells r s of_clip
            (region_of rule r outside ir.overlay) (region_of other s further is.overlay) rc (edges_apart segments planar rule other r s ir is) (edges_apart segments planar rule Clip r of_clip ir oc)
            m.point m.some m.at_subject (at_open clip_rule clip wanted m.point m.at_clip)),
        λ c. record {
          point = middle c.0;
          some = omega arith;
          at_subject = edge_on subject_rule clip_rule subject clip lines lines_ordered Clear clear_off far_subject far_clip (λ v w. holds rule v w) (λ v w. holds other v w) wanted tells r s of_clip
              (region_of rule r outside ir.overlay) (region_of other s further is.overlay) rc (edges_apart segments planar rule other r s ir is) (edges_apart segments planar rule Clip r of_clip ir oc)
              c.0 (Has-from_Contains (edges r) c.0 c.1) (Has-from_Contains (edges s) c.0 c.2);
          at_clip = open_at clip_rule clip wanted (middle c.0) (edge_not subject_rule clip_rule subject clip lines lines_ordered Clear clear_off far_subject far_clip (λ v w. holds rule v w) (λ v w. holds other v w) wanted tells r s of_clip
              (region_of rule r outside ir.overlay) (region_of other s further is.overlay) rc (edges_apart segments planar rule other r s ir is) (edges_apart segments planar rule Clip r of_clip ir oc)
              c.0 (Has-from_Contains (edges r) c.0 c.1) (Has-from_Contains (edges s) c.0 c.2));
        },
      )

      border_of_clip : Tells (λ v w. holds rule w v) (λ v w. holds other w v) wanted → PartsMeet subject_rule clip_rule subject clip (part_of wanted) Boundary ↔ HaveCommonEdge r s
      border_of_clip tells = (
        λ m. common_from (common_edge clip_rule subject_rule clip subject lines lines_ordered Clear clear_off far_clip far_subject (λ v w. holds rule w v) (λ v w. holds other w v) wanted tells r s of_subject
            (region_of rule r outside ir.overlay) (region_of other s further is.overlay) rs (edges_apart segments planar rule other r s ir is) (edges_apart segments planar rule Subject r of_subject ir os)
            m.point m.some m.at_clip (at_open subject_rule subject wanted m.point m.at_subject)),
        λ c. record {
          point = middle c.0;
          some = omega arith;
          at_clip = edge_on clip_rule subject_rule clip subject lines lines_ordered Clear clear_off far_clip far_subject (λ v w. holds rule w v) (λ v w. holds other w v) wanted tells r s of_subject
              (region_of rule r outside ir.overlay) (region_of other s further is.overlay) rs (edges_apart segments planar rule other r s ir is) (edges_apart segments planar rule Subject r of_subject ir os)
              c.0 (Has-from_Contains (edges r) c.0 c.1) (Has-from_Contains (edges s) c.0 c.2);
          at_subject = open_at subject_rule subject wanted (middle c.0) (edge_not clip_rule subject_rule clip subject lines lines_ordered Clear clear_off far_clip far_subject (λ v w. holds rule w v) (λ v w. holds other w v) wanted tells r s of_subject
              (region_of rule r outside ir.overlay) (region_of other s further is.overlay) rs (edges_apart segments planar rule other r s ir is) (edges_apart segments planar rule Subject r of_subject ir os)
              c.0 (Has-from_Contains (edges r) c.0 c.1) (Has-from_Contains (edges s) c.0 c.2));
        },
      )

pub matrix_by_regions : MatrixByRegions
matrix_by_regions subject_rule clip_rule subject clip first second both either subject_alone clip_alone of_subject of_clip a b are =
    let s = are.segments in
    let p = are.planar in
    let os = are.by_subject in
    let oc = are.by_clip in
    let wide = widest (edges subject ++ edges clip) in (
      open_entry subject_rule clip_rule subject clip first second a b s p of_subject of_clip os oc Intersect both true true refl refl (λ v w h. and_parts v w h) are.by_both,
      border_of_clip subject_rule clip_rule subject clip first second a b s p of_subject of_clip os oc both subject_alone Intersect Difference are.by_both are.by_subject_alone refl refl true
          (tells_same (λ v w. v && w) (λ v w. w && not v) (λ v w. w && v) (λ v w. w && not v) true and_turned (λ v w. refl) inside_of_boundary),
      open_entry subject_rule clip_rule subject clip first second a b s p of_subject of_clip os oc Difference subject_alone true false refl refl only_left are.by_subject_alone,
      border_of_subject subject_rule clip_rule subject clip first second a b s p of_subject of_clip os oc both clip_alone Intersect InverseDifference are.by_both are.by_clip_alone refl refl true inside_of_boundary,
      (borders_meet subject_rule clip_rule subject clip first second a b s p of_subject of_clip os oc, borders_there subject_rule clip_rule subject clip first second a b s p of_subject of_clip os oc),
      border_of_subject subject_rule clip_rule subject clip first second a b s p of_subject of_clip os oc either subject_alone Union Difference are.by_either are.by_subject_alone refl refl false outside_of_boundary,
      open_entry subject_rule clip_rule subject clip first second a b s p of_subject of_clip os oc InverseDifference clip_alone false true refl refl only_right are.by_clip_alone,
      border_of_clip subject_rule clip_rule subject clip first second a b s p of_subject of_clip os oc either clip_alone Union InverseDifference are.by_either are.by_clip_alone refl refl false
          (tells_same (λ v w. v || w) (λ v w. v && not w) (λ v w. w || v) (λ v w. v && not w) false or_turned (λ v w. refl) outside_of_boundary),
      record {
        point = leftmost wide.0;
        some = left_some wide.0;
        at_subject = outside_left subject_rule subject wide.0 (λ g m. wide.1 g (Has-append_left (edges subject) (edges clip) g m));
        at_clip = outside_left clip_rule clip wide.0 (λ g m. wide.1 g (Has-append_right (edges subject) (edges clip) g m));
      },
    )
