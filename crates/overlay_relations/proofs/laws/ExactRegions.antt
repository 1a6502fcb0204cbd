-- Where the overlay of two boundaries moves nothing, it is empty exactly if its rule holds at no point: beside an edge, it holds
-- on one side.
use Rattle.std.proofs.Common.{◌≡◌, ap, ap₂, refl, sym, subst, ◌∙◌, arith, ℕ, ◌<◌, ◌≤◌, inl, inr, cond, [], ◌∷◌, ◌++◌, filter}
use Rattle.std.specs.Prelude.{ℤ, pos, ◌+ℤ◌, ◌-ℤ◌, Bool, true, false, if◌then◌else◌, ◌⊎◌, List, count_by}
use Rattle.std.proofs.lemmas.Int.{ints}
use Rattle.std.proofs.lemmas.Bool.{both_ways, cases_Bool, false_from_ne_true}
use Rattle.std.proofs.lemmas.List.Elements.{All-contains}
use Rattle.std.proofs.lemmas.List.Sums.{sum_by-cons}
use Rattle.overlay_geometry.specs.Points.{Point, Pair, pair_eq, point_lt}
use Rattle.overlay_geometry.proofs.laws.geometry.Points.{Before, pair_eq_same, same_pair_by_eq}
use Rattle.overlay_geometry.proofs.laws.lists.Elements.{Contains-from_Has, Has-from_Contains}
use Rattle.overlay_geometry.proofs.laws.lists.Lists.{Has, Has-map, Has-map_out, Has-filter, Has-append_left, Has-from_list_any, list_all-at}
use Rattle.overlay_base.specs.BooleanWinding.{boolean_made}
use Rattle.overlay_base.specs.Places.{RationalPoint}
use Rattle.overlay_base.specs.Rules.{holds}
use Rattle.overlay_base.specs.Segments.{WholeSegment, pairs, winding_at}
use Rattle.overlay_base.specs.ShapeWindings.{direct_winding, inverted_winding}
use Rattle.overlay_base.specs.Windings.{Winding, add, empty, is_not_empty}
use Rattle.overlay_base.specs.declared.overlay_core.fill_rule.FillRule.{FillRule}
use Rattle.overlay_base.specs.declared.overlay_core.fill_rule.FillRule.TheVariants.{NonZero}
use Rattle.overlay_base.specs.declared.overlay_core.overlay_rule.OverlayRule.{OverlayRule}
use Rattle.overlay_base.specs.declared.segm.shape_type.ShapeType.TheVariants.{Subject}
use Rattle.overlay_base.proofs.laws.geometry.Pairs.{holds as has_pair}
use Rattle.overlay_base.proofs.laws.joins.Bags.{winding_at-here, winding_at-other, winding_at-absent}
use Rattle.overlay_build.specs.Boundary.{truth}
use Rattle.overlay_sweep.specs.Fill.{is_inside}
use Rattle.overlay_cuts.specs.Places.{IsFar}
use Rattle.overlay_split.proofs.laws.nearness.Places.{IsFar-result}
use Rattle.overlay_contours.specs.Beyond.{IsOverlayBeyond}
use Rattle.overlay_contours.specs.Contours.{steps, steps_of, is_edge, turned, edges, AreProper, winding_number}
use Rattle.overlay_contours.specs.ContourSegments.{step_segment, contour_segments}
use Rattle.overlay_contours.specs.Polygons.{IsBeyond, is_in_overlay}
use Rattle.overlay_relations.specs.Boundaries.{IsBoundaryOf}
use Rattle.overlay_relations.specs.Laws.{ExactBoundariesDecide}
use Rattle.overlay_relations.specs.Relations.{HoldsSomewhere, is_in}
use Rattle.overlay_relations.proofs.laws.CrossingPlaces.{beside_one}
use Rattle.overlay_relations.proofs.laws.CrossingRegions.{found}
use Rattle.overlay_relations.proofs.laws.Boundaries.{arc, arranged, side_with, far_off_lines, far_left, far_right, far_alone, edges_ordered, around_shape, contour_pairs, less_none}

-- ---- a pair that is there once

abbrev flag : Bool → ℕ
flag b = cond b 1 0

count_here : (x : Pair) (xs : List Pair) (e : Pair) → pair_eq x e ≡ true → count_by (λ s. pair_eq s e) (x ∷ xs) ≤ 1 → count_by (λ s. pair_eq s e) xs ≡ 0
count_here x xs e h few =
    let more = sum_by-cons (λ s. flag (pair_eq s e)) x xs in
    let here : flag (pair_eq x e) ≡ 1 = ap flag h in
    omega (arith, more, here, few)

count_other : (x : Pair) (xs : List Pair) (e : Pair) → pair_eq x e ≡ false → count_by (λ s. pair_eq s e) (x ∷ xs) ≤ 1 → count_by (λ s. pair_eq s e) xs ≤ 1
count_other x xs e h few =
    let more = sum_by-cons (λ s. flag (pair_eq s e)) x xs in
    omega (arith, more, few)

count_there : (xs : List Pair) (e : Pair) → Has xs e → count_by (λ s. pair_eq s e) xs ≡ 0 → ⊥
count_there [] e i h = absurd i
count_there (x ∷ xs) e (inl same) h =
    let more = sum_by-cons (λ s. flag (pair_eq s e)) x xs in
    let here : flag (pair_eq x e) ≡ 1 = ap flag (ap (λ (s : Pair). pair_eq s e) same ∙ pair_eq_same e) in
    omega (arith, more, here, h)
count_there (x ∷ xs) e (inr i) h =
    let more = sum_by-cons (λ s. flag (pair_eq s e)) x xs in
    count_there xs e i (omega (arith, more, h))

none_there : (xs : List Pair) (e : Pair) → count_by (λ s. pair_eq s e) xs ≡ 0 → has_pair xs e ≡ false
none_there xs e h = false_from_ne_true _ (λ t.
    let there = Has-from_list_any (λ k. pair_eq e k) xs t in
    count_there xs e (subst (λ (k : Pair). Has xs k) (sym (same_pair_by_eq e there.0 there.2)) there.1) h)

add_empty : (c : Winding) → c.mask ≡ 0 → add c empty ≡ c
add_empty c e = let x : c.subj +ℤ pos 0 ≡ c.subj = omega (arith, ints) in let y : c.clip +ℤ pos 0 ≡ c.clip = omega (arith, ints) in masked c x y e
  where
    masked : (c : Winding) → c.subj +ℤ pos 0 ≡ c.subj → c.clip +ℤ pos 0 ≡ c.clip → c.mask ≡ 0 → add c empty ≡ c
    masked c x y e = rw e (λ i. record { subj = x i; clip = y i; mask = 0 })

pub once_counts : (bag : List WholeSegment) (s : WholeSegment) → s.count.mask ≡ 0 → Has bag s → count_by (λ r. pair_eq r s.pair) (pairs bag) ≤ 1 → winding_at bag s.pair ≡ s.count
once_counts [] s e i few = absurd i
once_counts (x ∷ xs) s e (inl same) few =
    subst (λ (u : WholeSegment). winding_at (u ∷ xs) s.pair ≡ s.count) (sym same)
    (winding_at-here s xs ∙ ap (add s.count) (winding_at-absent xs s.pair (none_there (pairs xs) s.pair (count_here x.pair (pairs xs) s.pair (ap (λ (u : WholeSegment). pair_eq u.pair s.pair) same ∙ pair_eq_same s.pair) few))) ∙ add_empty s.count e)
once_counts (x ∷ xs) s e (inr i) few = elim (cases_Bool (pair_eq x.pair s.pair)) [
  | inl h ↦ absurd (count_there (pairs xs) s.pair (Has-map (λ (u : WholeSegment). u.pair) xs s i) (count_here x.pair (pairs xs) s.pair h few))
  | inr h ↦ winding_at-other x xs s.pair h ∙ once_counts xs s e i (count_other x.pair (pairs xs) s.pair h few)
]

-- ---- an overlay that is not empty has a segment

pub step_counts : (s : Pair) → ((step_segment Subject s).count.mask ≡ 0) × (is_not_empty (step_segment Subject s).count ≡ true)
step_counts s = by (point_lt s.a s.b)
  where
    by : (b : Bool) → ((let w : WholeSegment = if b then record { pair = s; count = direct_winding boolean_made Subject } else record { pair = turned s; count = inverted_winding boolean_made Subject } in w.count.mask) ≡ 0)
        × (is_not_empty (let w : WholeSegment = if b then record { pair = s; count = direct_winding boolean_made Subject } else record { pair = turned s; count = inverted_winding boolean_made Subject } in w.count) ≡ true)
    by true = (refl, refl)
    by false = (refl, refl)

first_step : (contour : List Point) → (contour ≡ [] → ⊥) → (s : Pair) × Has (steps_of contour) s
first_step [] some = absurd (some refl)
first_step (p ∷ []) some = (record { a = p; b = p }, inl refl)
first_step (p ∷ q ∷ points) some = (record { a = p; b = q }, inl refl)

some_step : (contours : List (List Point)) → AreProper contours → (contours ≡ [] → ⊥) → (s : Pair) × Has (steps contours) s
some_step [] proper some = absurd (some refl)
some_step (c ∷ contours) proper some =
    let step = first_step c (All-contains (λ (c : List Point). c ≡ [] → ⊥) (c ∷ contours) c proper.points (Contains-from_Has (c ∷ contours) c (inl refl))) in
    (step.0, Has-append_left (steps_of c) (steps contours) step.0 step.1)

-- ---- far from what is given, so far from the boundaries

pub has_either : (xs ys : List Pair) (s : Pair) → Has (xs ++ ys) s → Has xs s ⊎ Has ys s
has_either [] ys s m = inr m
has_either (x ∷ xs) ys s (inl e) = inl (inl e)
has_either (x ∷ xs) ys s (inr m) = elim (has_either xs ys s m) [ inl i ↦ inl (inr i) | inr i ↦ inr i ]

pub far_both : (p : RationalPoint) (xs ys : List Pair) → IsFar 0 p xs → IsFar 0 p ys → IsFar 0 p (xs ++ ys)
far_both p xs ys h k (s, m, near) = elim (has_either xs ys s (Has-from_Contains (xs ++ ys) s m)) [
  | inl i ↦ h (s, Contains-from_Has xs s i, near)
  | inr i ↦ k (s, Contains-from_Has ys s i, near)
]

pub far_boundary : (fill_rule : FillRule) (contours boundary : List (List Point)) → IsBoundaryOf fill_rule contours boundary → (p : RationalPoint) → IsFar 0 p (edges contours) → IsFar 0 p (edges boundary)
far_boundary fill_rule contours boundary is p far = IsFar-result 0 0 p (edges contours ++ edges []) (edges boundary) is.near (far_alone p contours far)

pub nonzero_truth : (b : Bool) → is_inside NonZero (truth b) ≡ b
nonzero_truth true = refl
nonzero_truth false = refl

none_is_false : (b : Bool) → pos 0 ≡ truth b → b ≡ false
none_is_false true e = absurd (omega (arith, ints, e))
none_is_false false e = refl

no_contours_wind : (p : RationalPoint) → winding_number [] p ≡ pos 0
unfolding winding_number
no_contours_wind p = refl

module _ (rule : OverlayRule) (subject_rule clip_rule : FillRule) (subject clip first second region : List (List Point)) (outside : holds rule false false ≡ false) (a : IsBoundaryOf subject_rule subject first) (b : IsBoundaryOf clip_rule clip second)
    (o : IsOverlayBeyond 0 rule NonZero first second region) where
  abbrev value : RationalPoint → Bool
  value p = holds rule (is_in subject_rule subject p) (is_in clip_rule clip p)

  same_value : (p : RationalPoint) → 0 < p.bottom → IsBeyond 0 subject clip p → is_in_overlay rule NonZero first second p ≡ value p
  same_value p some far =
      ap₂ (λ (m n : ℤ). holds rule (is_inside NonZero m) (is_inside NonZero n))
      (around_shape subject_rule subject first a p some (far_left p (edges subject) (edges clip) far))
      (around_shape clip_rule clip second b p some (far_right p (edges subject) (edges clip) far))
      ∙ ap₂ (holds rule) (nonzero_truth (is_in subject_rule subject p)) (nonzero_truth (is_in clip_rule clip p))

  far_boundaries : (p : RationalPoint) → IsBeyond 0 subject clip p → IsBeyond 0 first second p
  far_boundaries p far =
      far_both p (edges first) (edges second)
      (far_boundary subject_rule subject first a p (far_left p (edges subject) (edges clip) far))
      (far_boundary clip_rule clip second b p (far_right p (edges subject) (edges clip) far))

  around_region : (p : RationalPoint) → 0 < p.bottom → IsBeyond 0 subject clip p → winding_number region p ≡ truth (value p)
  around_region p some far =
      o.bound.winds p some (far_boundaries p far)
      ∙ ap₂ (λ (v w : Bool). truth v -ℤ truth w) (same_value p some far) outside
      ∙ less_none (truth (value p))

  nowhere : region ≡ [] → HoldsSomewhere rule subject_rule clip_rule subject clip → ⊥
  nowhere e h =
      both_ways (value h.point)
      (none_is_false (value h.point) (sym (no_contours_wind h.point) ∙ ap (λ (c : List (List Point)). winding_number c h.point) (sym e) ∙ around_region h.point h.some h.off_edges))
      h.here

  abbrev xs : List WholeSegment
  xs = arc Subject region o.apart value (λ p. IsBeyond 0 subject clip p) around_region

  abbrev lines : List Pair
  lines = edges subject ++ edges clip

  lines_ordered : (g : Pair) → Has lines g → Before g.a g.b
  lines_ordered g m = elim (has_either (edges subject) (edges clip) g m) [ inl i ↦ edges_ordered subject g i | inr i ↦ edges_ordered clip g i ]

  at_segment : (s : WholeSegment) → Has xs s → HoldsSomewhere rule subject_rule clip_rule subject clip
  at_segment s m =
      let on = arranged Subject region o.apart value (λ p. IsBeyond 0 subject clip p) around_region in
      let q = beside_one xs on s m lines lines_ordered true in
      let side = side_with Subject region o.apart value (λ p. IsBeyond 0 subject clip p) around_region s m q.place q.some q.side (far_off_lines lines q.place q.off_lines) true in
      let r = beside_one xs on s m lines lines_ordered side.left in
      let far = far_off_lines lines r.place r.off_lines in
      record { point = r.place; some = r.some; off_edges = far; here = side.all r.place r.some r.side far }

  of_step : (e : Pair) → Has (steps region) e → Has (contour_segments Subject region) (step_segment Subject e)
  unfolding contour_segments
  of_step e m = Has-map (step_segment Subject) (filter is_edge (steps region)) e (Has-filter is_edge (steps region) e m (list_all-at is_edge (steps region) e o.bound.proper.apart m))

  somewhere : (region ≡ [] → ⊥) → HoldsSomewhere rule subject_rule clip_rule subject clip
  somewhere some =
      let step = some_step region o.bound.proper some in
      let s = step_segment Subject step.0 in
      let few = subst (λ (l : List Pair). count_by (λ r. pair_eq r s.pair) l ≤ 1) (sym (contour_pairs Subject region)) (o.once s.pair) in
      let counts = once_counts (contour_segments Subject region) s (step_counts step.0).0 (of_step step.0 step.1) few in
      let there = Has-map_out (λ (u : WholeSegment). u.pair) xs s.pair (found (contour_segments Subject region) s.pair (ap is_not_empty counts ∙ (step_counts step.0).1)) in
      at_segment there.0 there.1

pub exact_boundaries_decide : ExactBoundariesDecide
exact_boundaries_decide rule subject_rule clip_rule subject clip first second region outside a b o =
    (nowhere rule subject_rule clip_rule subject clip first second region outside a b o, somewhere rule subject_rule clip_rule subject clip first second region outside a b o)
