-- The boundary of a shape, exactly, as an arrangement of segments: planar, balanced, and winding once around each place inside.
-- Beside each segment, on its two sides, one place is inside and one is not.
use Rattle.std.proofs.Common.{◌≡◌, ap, ap₂, refl, sym, subst, ◌∙◌, arith, ℕ, ◌*◌, ◌<◌, ◌≤◌, [], ◌++◌, map, filter}
use Rattle.std.specs.Prelude.{ℤ, pos, negsuc, ◌+ℤ◌, ◌-ℤ◌, ◌*ℤ◌, ◌<ℤ◌, unsigned_abs, bit_or, IsTrue, Bool, true, false, not, if◌then◌else◌, ◌&&◌, ◌==◌, List}
use Rattle.std.specs.List.{list_all, AllByRecursion}
use Rattle.std.proofs.lemmas.Int.{ints}
use Rattle.std.proofs.lemmas.Bool.{and_parts, both_ways}
use Rattle.std.proofs.lemmas.List.{append-nil}
use Rattle.std.proofs.lemmas.Simd.{map-map}
use Rattle.std.proofs.lemmas.List.Elements.{All-contains}
use Rattle.overlay_geometry.specs.Points.{Point, Pair, point_lt, point_eq, pair_cmp, is_ordered}
use Rattle.overlay_geometry.specs.Sorting.{is_strictly_sorted}
use Rattle.overlay_geometry.specs.Meeting.{are_apart}
use Rattle.overlay_geometry.proofs.laws.geometry.Polynomials.{as_D, diffs, D-eq, cancel-zero}
use Rattle.overlay_geometry.proofs.laws.geometry.Points.{Before, by_order, from_before, point_eq_same}
use Rattle.overlay_geometry.proofs.laws.lists.Elements.{Contains-from_Has, Has-from_Contains}
use Rattle.overlay_geometry.proofs.laws.lists.Lists.{Has, Has-map, Has-map_out, Has-filter_out, Has-append_left, Has-append_right, list_all-at, list_all-from_Has, AllByRecursion-from_Has, AllByRecursion-at, AllByRecursion-map}
use Rattle.overlay_base.specs.Balance.{IsBalanced}
use Rattle.overlay_base.specs.BooleanWinding.{boolean_made}
use Rattle.overlay_base.specs.Join.{join}
use Rattle.overlay_base.specs.Places.{RationalPoint, winding_below}
use Rattle.overlay_base.specs.Planar.{is_planar}
use Rattle.overlay_base.specs.Rays.{place_turn}
use Rattle.overlay_base.specs.Segments.{WholeSegment, pairs, is_map, are_ordered}
use Rattle.overlay_base.specs.Windings.{Winding, add, empty, weight, is_not_empty}
use Rattle.overlay_base.specs.declared.overlay_core.fill_rule.FillRule.{FillRule}
use Rattle.overlay_base.specs.declared.segm.shape_type.ShapeType.{ShapeType}
use Rattle.overlay_base.specs.declared.segm.shape_type.ShapeType.TheVariants.{Subject, Clip}
use Rattle.overlay_base.specs.ShapeWindings.{direct_winding, inverted_winding}
use Rattle.overlay_base.proofs.laws.joins.Functionals.{balance-join}
use Rattle.overlay_base.proofs.laws.joins.Maps.{is_map-join}
use Rattle.overlay_base.proofs.laws.joins.Members.{counts-join}
use Rattle.std.specs.Ordering.{int_eq}
use Rattle.overlay_cuts.specs.Nearness.{point_along, IsNear}
use Rattle.overlay_cuts.specs.Places.{IsFar}
use Rattle.overlay_cuts.proofs.laws.nearness.Places.{join_keeps_winding}
use Rattle.overlay_cuts.proofs.laws.planar.ExactInputs.{In-join}
use Rattle.overlay_cuts.proofs.laws.planar.PlanarPasses.{is_planar-from}
use Rattle.overlay_sweep.specs.ColumnWindings.{side_bottom, side_top}
use Rattle.overlay_sweep.proofs.laws.columns.Members.{IsArranged, is_arranged}
use Rattle.overlay_sweep.proofs.laws.live.Sides.{side_top_is}
use Rattle.overlay_build.specs.Beside.{TellsPlaces}
use Rattle.overlay_build.specs.Boundary.{truth}
use Rattle.overlay_build.proofs.laws.regions.BesideUprights.{sides_tell_places}
use Rattle.overlay_contours.specs.Contours.{steps, is_edge, in_order, turned, directed_edges, edges, winding_number}
use Rattle.overlay_contours.specs.ContourSegments.{step_segment, contour_segments, overlay_segments}
use Rattle.overlay_contours.specs.Polygons.{IsBeyond}
use Rattle.overlay_contours.proofs.laws.Balances.{overlay_balances}
use Rattle.overlay_contours.proofs.laws.Steps.{contour_segments-none}
use Rattle.overlay_contours.proofs.laws.Windings.{overlay_winds}
use Rattle.overlay_relations.specs.Boundaries.{IsBoundaryOf}
use Rattle.overlay_relations.specs.Relations.{is_in}
use Rattle.overlay_relations.proofs.laws.CrossingPlaces.{IsBeside, IsOffLines}

-- ---- far from a list of edges

-- a place on no line of a list is on none of its pairs
on_its_line : (ax ay bx by x y : ℤ) (k w d : ℕ) → x *ℤ pos w ≡ (ax *ℤ pos w +ℤ (bx -ℤ ax) *ℤ pos k) *ℤ pos d → y *ℤ pos w ≡ (ay *ℤ pos w +ℤ (by -ℤ ay) *ℤ pos k) *ℤ pos d
    → pos w *ℤ ((bx -ℤ ax) *ℤ (y -ℤ ay *ℤ pos d) -ℤ (by -ℤ ay) *ℤ (x -ℤ ax *ℤ pos d)) ≡ pos 0
on_its_line ax ay bx by x y k w d ex ey =
    spread (bx -ℤ ax) (by -ℤ ay) x y ax ay (pos w) (pos d) ∙ rw (ex, ey) (none (bx -ℤ ax) (by -ℤ ay) ax ay (pos k) (pos w) (pos d))
  where
    spread : (u v x y a b w d : ℤ) → w *ℤ (u *ℤ (y -ℤ b *ℤ d) -ℤ v *ℤ (x -ℤ a *ℤ d)) ≡ u *ℤ (y *ℤ w -ℤ (b *ℤ w) *ℤ d) -ℤ v *ℤ (x *ℤ w -ℤ (a *ℤ w) *ℤ d)
    spread u v x y a b w d = rw (as_D u, as_D v, as_D x, as_D y, as_D a, as_D b, as_D w, as_D d) (simp diffs (D-eq _ _ _ _ (omega arith)))

    off : (b w v k d : ℤ) → (b *ℤ w +ℤ v *ℤ k) *ℤ d -ℤ (b *ℤ w) *ℤ d ≡ (v *ℤ k) *ℤ d
    off b w v k d = rw (as_D b, as_D w, as_D v, as_D k, as_D d) (simp diffs (D-eq _ _ _ _ (omega arith)))

    cancels : (u v k d : ℤ) → u *ℤ ((v *ℤ k) *ℤ d) -ℤ v *ℤ ((u *ℤ k) *ℤ d) ≡ pos 0
    cancels u v k d = rw (as_D u, as_D v, as_D k, as_D d) (simp diffs (D-eq _ _ _ _ (omega arith)))

    none : (u v a b k w d : ℤ) → u *ℤ ((b *ℤ w +ℤ v *ℤ k) *ℤ d -ℤ (b *ℤ w) *ℤ d) -ℤ v *ℤ ((a *ℤ w +ℤ u *ℤ k) *ℤ d -ℤ (a *ℤ w) *ℤ d) ≡ pos 0
    none u v a b k w d = ap₂ (λ (y x : ℤ). u *ℤ y -ℤ v *ℤ x) (off b w v k d) (off a w u k d) ∙ cancels u v k d

within_nothing : (u v : ℤ) (m : ℕ) → 2 * unsigned_abs (u -ℤ v) ≤ 0 * m → u ≡ v
within_nothing u v m h = same (u -ℤ v) u v refl (none (unsigned_abs (u -ℤ v)) m h)
  where
    none : (a m : ℕ) → 2 * a ≤ 0 * m → a ≡ 0
    none a m h = omega (arith, h)

    zero_size : (z : ℤ) → unsigned_abs z ≡ 0 → z ≡ pos 0
    zero_size (pos n) h = omega (arith, ints, h)
    zero_size (negsuc n) h = absurd (omega (arith, ints, h))

    same : (z u v : ℤ) → u -ℤ v ≡ z → unsigned_abs z ≡ 0 → u ≡ v
    same z u v e h = let zero = zero_size z h in omega (arith, ints, e, zero)

near_is_on_line : (g : Pair) (p : RationalPoint) → IsNear 0 p g → place_turn g p ≡ pos 0
near_is_on_line g p (f, w) =
    cancel-zero (pos f.whole) (place_turn g p) (some f.whole f.positive)
    (on_its_line g.a.x g.a.y g.b.x g.b.y p.x p.y f.part f.whole p.bottom
    (within_nothing (p.x *ℤ pos f.whole) ((point_along g f).x *ℤ pos p.bottom) (p.bottom * f.whole) w.in_x)
    (within_nothing (p.y *ℤ pos f.whole) ((point_along g f).y *ℤ pos p.bottom) (p.bottom * f.whole) w.in_y))
  where
    some : (n : ℕ) → 0 < n → pos 0 <ℤ pos n
    some n h = omega (arith, ints, h)

pub far_off_lines : (lines : List Pair) (p : RationalPoint) → IsOffLines lines p → IsFar 0 p lines
far_off_lines lines p off (s, m, near) = off s (Has-from_Contains lines s m) (near_is_on_line s p near)

pub far_left : (p : RationalPoint) (xs ys : List Pair) → IsFar 0 p (xs ++ ys) → IsFar 0 p xs
far_left p xs ys far (s, m, near) = far (s, Contains-from_Has (xs ++ ys) s (Has-append_left xs ys s (Has-from_Contains xs s m)), near)

pub far_right : (p : RationalPoint) (xs ys : List Pair) → IsFar 0 p (xs ++ ys) → IsFar 0 p ys
far_right p xs ys far (s, m, near) = far (s, Contains-from_Has (xs ++ ys) s (Has-append_right xs ys s (Has-from_Contains ys s m)), near)

-- ---- edges are in order

ordered_edge : (s : Pair) → is_edge s ≡ true → Before (in_order s).a (in_order s).b
ordered_edge s e =
    by_order s.a s.b
    (λ l. subst (λ (b : Bool). Before (if b then s else turned s).a (if b then s else turned s).b) (sym (from_before s.a s.b l)) l)
    (λ same. absurd (both_ways (point_eq s.a s.b) (not_true (point_eq s.a s.b) e) (ap (λ (q : Point). point_eq s.a q) (sym same) ∙ point_eq_same s.a)))
    (λ l. subst (λ (b : Bool). Before (if b then s else turned s).a (if b then s else turned s).b) (sym (not_less s.a s.b l)) l)
  where
    not_true : (b : Bool) → not b ≡ true → b ≡ false
    not_true true e = sym e
    not_true false e = refl

    not_less : (p q : Point) → Before q p → point_lt p q ≡ false
    not_less p q l = grind (arith, ints)

pub edges_ordered : (contours : List (List Point)) (g : Pair) → Has (edges contours) g → Before g.a g.b
edges_ordered contours g m =
    let out = Has-map_out in_order (directed_edges contours) g m in
    let kept = Has-filter_out is_edge (steps contours) out.0 out.1 in
    subst (λ (s : Pair). Before s.a s.b) out.2 (ordered_edge out.0 kept.1)

-- ---- the segments of contours, as those of one shape

pub pair_of_step : (shape_type : ShapeType) (s : Pair) → (step_segment shape_type s).pair ≡ in_order s
pair_of_step shape_type s = by (point_lt s.a s.b)
  where
    by : (b : Bool) → (let w : WholeSegment = if b then record { pair = s; count = direct_winding boolean_made shape_type } else record { pair = turned s; count = inverted_winding boolean_made shape_type } in w.pair) ≡ (if b then s else turned s)
    by true = refl
    by false = refl

pub contour_pairs : (shape_type : ShapeType) (contours : List (List Point)) → pairs (contour_segments shape_type contours) ≡ edges contours
unfolding contour_segments
contour_pairs shape_type contours = map-map (λ (s : WholeSegment). s.pair) (step_segment shape_type) (filter is_edge (steps contours)) ∙ (λ i. map (λ s. pair_of_step shape_type s i) (filter is_edge (steps contours)))

pub subject_alone : (contours : List (List Point)) → overlay_segments contours [] ≡ contour_segments Subject contours
unfolding overlay_segments
subject_alone contours = ap (λ (ys : List WholeSegment). contour_segments Subject contours ++ ys) (contour_segments-none Clip) ∙ append-nil (contour_segments Subject contours)

clip_alone : (contours : List (List Point)) → overlay_segments [] contours ≡ contour_segments Clip contours
unfolding overlay_segments
clip_alone contours = ap (λ (xs : List WholeSegment). xs ++ contour_segments Clip contours) (contour_segments-none Subject)

-- the number of a count for a shape
abbrev pub part : ShapeType → Winding → ℤ
part Subject w = w.subj
part Clip w = w.clip

pub shape_balances : (shape_type : ShapeType) (contours : List (List Point)) → IsBalanced (contour_segments shape_type contours)
shape_balances Subject contours = subst (λ (xs : List WholeSegment). IsBalanced xs) (subject_alone contours) (overlay_balances contours [])
shape_balances Clip contours = subst (λ (xs : List WholeSegment). IsBalanced xs) (clip_alone contours) (overlay_balances [] contours)

pub shape_winds : (shape_type : ShapeType) (contours : List (List Point)) (p : RationalPoint) → part shape_type (winding_below (contour_segments shape_type contours) p) ≡ winding_number contours p
shape_winds Subject contours p = ap (λ (xs : List WholeSegment). (winding_below xs p).subj) (sym (subject_alone contours)) ∙ ap (λ (w : Winding). w.subj) (overlay_winds contours [] p)
shape_winds Clip contours p = ap (λ (xs : List WholeSegment). (winding_below xs p).clip) (sym (clip_alone contours)) ∙ ap (λ (w : Winding). w.clip) (overlay_winds [] contours p)

-- a count of that shape alone
abbrev pub IsLone : ShapeType → Winding → Type 0
IsLone Subject c = (c.clip ≡ pos 0) × (c.mask ≡ 0)
IsLone Clip c = (c.subj ≡ pos 0) × (c.mask ≡ 0)

lone_step : (shape_type : ShapeType) (s : Pair) → IsLone shape_type (step_segment shape_type s).count
lone_step shape_type s = by shape_type (point_lt s.a s.b)
  where
    by : (t : ShapeType) (b : Bool) → IsLone t (let w : WholeSegment = if b then record { pair = s; count = direct_winding boolean_made t } else record { pair = turned s; count = inverted_winding boolean_made t } in w.count)
    by Subject true = (refl, refl)
    by Subject false = (refl, refl)
    by Clip true = (refl, refl)
    by Clip false = (refl, refl)

lone_empty : (shape_type : ShapeType) → IsLone shape_type empty
lone_empty Subject = (refl, refl)
lone_empty Clip = (refl, refl)

no_sum : (a b : ℤ) → a ≡ pos 0 → b ≡ pos 0 → a +ℤ b ≡ pos 0
no_sum a b e f = omega (arith, ints, e, f)

lone_add : (shape_type : ShapeType) (c d : Winding) → IsLone shape_type c → IsLone shape_type d → IsLone shape_type (add c d)
lone_add Subject c d h k = (no_sum c.clip d.clip h.0 k.0, ap₂ (λ (m n : ℕ). bit_or m n) h.1 k.1)
lone_add Clip c d h k = (no_sum c.subj d.subj h.0 k.0, ap₂ (λ (m n : ℕ). bit_or m n) h.1 k.1)

lone_counts : (shape_type : ShapeType) (contours : List (List Point)) → AllByRecursion (λ s. IsLone shape_type s.count) (contour_segments shape_type contours)
unfolding contour_segments
lone_counts shape_type contours =
    AllByRecursion-map (λ (s : WholeSegment). IsLone shape_type s.count) (step_segment shape_type) (filter is_edge (steps contours))
    (AllByRecursion-from_Has (λ s. IsLone shape_type (step_segment shape_type s).count) (filter is_edge (steps contours)) (λ s m. lone_step shape_type s))

nothing_left : (c : Winding) → c.subj ≡ pos 0 → c.clip ≡ pos 0 → c.mask ≡ 0 → is_not_empty c ≡ true → ⊥
nothing_left c e f g h = both_ways (is_not_empty c) (ap₂ (λ (a b : ℤ). not (int_eq a (pos 0) && int_eq b (pos 0) && (c.mask == 0))) e f ∙ ap (λ (m : ℕ). not (m == 0)) g) h

lone_part : (shape_type : ShapeType) (c : Winding) → IsLone shape_type c → is_not_empty c ≡ true → part shape_type c ≡ pos 0 → ⊥
lone_part Subject c l some e = nothing_left c e l.0 l.1 some
lone_part Clip c l some e = nothing_left c l.0 e l.1 some

part_sum : (shape_type : ShapeType) (c d : Winding) → part shape_type (add c (weight d)) ≡ part shape_type c +ℤ part shape_type d
part_sum Subject c d = refl
part_sum Clip c d = refl

-- the counts of an arrangement are not empty
map_not_empty : (xs : List WholeSegment) → is_map xs ≡ true → (s : WholeSegment) → Has xs s → is_not_empty s.count ≡ true
unfolding is_map
map_not_empty xs h s m =
    (and_parts (is_ordered s.pair) (is_not_empty s.count)
    (list_all-at (λ t. is_ordered t.pair && is_not_empty t.count) xs s (and_parts (is_strictly_sorted pair_cmp (pairs xs)) (list_all (λ t. is_ordered t.pair && is_not_empty t.count) xs) h).1 m)).1

-- ---- truth values as numbers

pub truth_same : (a b : Bool) → truth a ≡ truth b → a ≡ b
truth_same true true e = refl
truth_same true false e = absurd (omega (arith, ints, e))
truth_same false true e = absurd (omega (arith, ints, e))
truth_same false false e = refl

other_truth : (a b c : Bool) → (truth a ≡ truth b → ⊥) → (c ≡ b → ⊥) → a ≡ c
other_truth true true c h k = absurd (h refl)
other_truth true false true h k = refl
other_truth true false false h k = absurd (k refl)
other_truth false true true h k = absurd (k refl)
other_truth false true false h k = refl
other_truth false false c h k = absurd (h refl)

pub less_none : (z : ℤ) → z -ℤ pos 0 ≡ z
less_none z = omega (arith, ints)

-- ---- the boundary of a shape, exactly

pub far_alone : (p : RationalPoint) (contours : List (List Point)) → IsFar 0 p (edges contours) → IsBeyond 0 contours [] p
far_alone p contours far = subst (λ (l : List Pair). IsFar 0 p l) (sym (append-nil (edges contours))) far

pub around_shape : (fill_rule : FillRule) (contours boundary : List (List Point)) → IsBoundaryOf fill_rule contours boundary → (p : RationalPoint) → 0 < p.bottom → IsFar 0 p (edges contours) → winding_number boundary p ≡ truth (is_in fill_rule contours p)
around_shape fill_rule contours boundary is p some far = is.bound.winds p some (far_alone p contours far) ∙ less_none (truth (is_in fill_rule contours p))

-- ---- the boundary of a shape as an arrangement

module _ (shape_type : ShapeType) (boundary : List (List Point)) (apart : IsTrue (list_all (λ s. list_all (λ t. are_apart s t) (edges boundary)) (edges boundary)))
    (inside : RationalPoint → Bool) (IsClear : RationalPoint → Type 0) (around : (p : RationalPoint) → 0 < p.bottom → IsClear p → winding_number boundary p ≡ truth (inside p)) where
  abbrev pub bag : List WholeSegment
  bag = contour_segments shape_type boundary

  abbrev pub arc : List WholeSegment
  arc = join (contour_segments shape_type boundary)

  in_bag : (s : Pair) → Has (pairs bag) s → Has (edges boundary) s
  in_bag s m = subst (λ (l : List Pair). Has l s) (contour_pairs shape_type boundary) m

  ordered_bag : are_ordered bag ≡ true
  ordered_bag = list_all-from_Has (λ s. is_ordered s.pair) bag (λ s m. from_before s.pair.a s.pair.b (edges_ordered boundary s.pair (in_bag s.pair (Has-map (λ (u : WholeSegment). u.pair) bag s m))))

  pub mapped : IsTrue (is_map arc)
  mapped = is_map-join bag ordered_bag

  pub planar : IsTrue (is_planar arc)
  planar = is_planar-from arc (λ s t i j.
      list_all-at (λ t. are_apart s t) (edges boundary) t (list_all-at (λ s. list_all (λ t. are_apart s t) (edges boundary)) (edges boundary) s apart (in_bag s (In-join bag s i))) (in_bag t (In-join bag t j)))

  pub balanced : IsBalanced arc
  balanced p = balance-join bag p ∙ shape_balances shape_type boundary p

  pub arranged : IsArranged arc
  arranged = is_arranged arc mapped planar

  -- around each clear place it winds once where that is inside
  pub winds : (p : RationalPoint) → 0 < p.bottom → IsClear p → part shape_type (winding_below arc p) ≡ truth (inside p)
  winds p some clear = ap (part shape_type) (join_keeps_winding bag p) ∙ shape_winds shape_type boundary p ∙ around p some clear

  count_some : (s : WholeSegment) → Has arc s → part shape_type s.count ≡ pos 0 → ⊥
  count_some s m =
      lone_part shape_type s.count (AllByRecursion-at (λ (u : WholeSegment). IsLone shape_type u.count) arc s (counts-join (IsLone shape_type) (lone_empty shape_type) (lone_add shape_type) bag (lone_counts shape_type boundary)) m)
      (map_not_empty arc mapped s m)

  pub tells : (s : WholeSegment) → Has arc s → TellsPlaces arc s
  tells s m = All-contains (TellsPlaces arc) arc s (sides_tell_places arc mapped planar balanced) (Contains-from_Has arc s m)

  pub on_top : (s : WholeSegment) → Has arc s → (p : RationalPoint) → 0 < p.bottom → IsBeside arc s.pair true p → IsClear p → truth (inside p) ≡ part shape_type (side_top arc s)
  on_top s m p some beside far = sym (winds p some far) ∙ ap (part shape_type) ((tells s m).top p some (beside.0 refl))

  pub at_bottom : (s : WholeSegment) → Has arc s → (p : RationalPoint) → 0 < p.bottom → IsBeside arc s.pair false p → IsClear p → truth (inside p) ≡ part shape_type (side_bottom arc s)
  at_bottom s m p some beside far = sym (winds p some far) ∙ ap (part shape_type) ((tells s m).bottom p some (beside.1 refl))

  pub sides_differ : (s : WholeSegment) → Has arc s → part shape_type (side_bottom arc s) ≡ part shape_type (side_top arc s) → ⊥
  sides_differ s m e = count_some s m (alone _ _ _ (ap (part shape_type) (side_top_is arc arranged balanced s m) ∙ part_sum shape_type (side_bottom arc s) s.count) e)
    where
      alone : (t b c : ℤ) → t ≡ b +ℤ c → b ≡ t → c ≡ pos 0
      alone t b c e f = omega (arith, ints, e, f)

  -- A side of a segment, such that each place directly beside the segment on that side, and clear, is inside or not, as wanted.
  pub record IsSide (s : Pair) (wanted : Bool) : Type 0 where
    pub left : Bool
    pub all : (p : RationalPoint) → 0 < p.bottom → IsBeside arc s left p → IsClear p → inside p ≡ wanted

  pub side_with : (s : WholeSegment) → Has arc s → (q : RationalPoint) → 0 < q.bottom → IsBeside arc s.pair true q → IsClear q → (wanted : Bool) → IsSide s.pair wanted
  side_with s m q some_q beside_q far_q wanted = by (inside q) refl wanted
    where
      same : (a : Bool) → inside q ≡ a → IsSide s.pair a
      same a e = record { left = true; all = λ p some beside far. truth_same _ _ (on_top s m p some beside far ∙ sym (on_top s m q some_q beside_q far_q)) ∙ e }

      other : (a : Bool) → (a ≡ inside q → ⊥) → IsSide s.pair a
      other a e = record {
        left = false;
        all = λ p some beside far. other_truth (inside p) (inside q) a
            (λ f. sides_differ s m (sym (at_bottom s m p some beside far) ∙ f ∙ on_top s m q some_q beside_q far_q)) e;
      }

      by : (b : Bool) → inside q ≡ b → (a : Bool) → IsSide s.pair a
      by true e true = same true e
      by true e false = other false (λ f. absurd (both_ways (inside q) (sym f) e))
      by false e true = other true (λ f. absurd (both_ways (inside q) e (sym f)))
      by false e false = same false e
