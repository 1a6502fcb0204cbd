-- What is inside a shape is in the box around its points. So shapes whose boxes share no point share none.
use Rattle.std.proofs.Common.{◌≡◌, ap, refl, sym, subst, ◌∙◌, arith, ℕ, ◌<◌, inl, inr, suc, List, [], ◌∷◌}
use Rattle.std.specs.Prelude.{ℤ, pos, ◌*ℤ◌, ◌≤ℤ◌, ◌<ℤ◌, int_le, Bool, true, false, IsTrue, ◌&&◌, ◌⊎◌, ◌==◌, length, Option, Some, None, IfNone, IfSome}
use Rattle.std.specs.List.{list_all}
use Rattle.std.proofs.lemmas.Int.{ints}
use Rattle.std.proofs.lemmas.Bool.{and_parts, both_ways, cases_Bool}
use Rattle.std.proofs.lemmas.List.Elements.{All-contains}
use Rattle.overlay_geometry.specs.Points.{Point, Pair, is_ordered}
use Rattle.overlay_geometry.specs.RangeOf.{rect_of}
use Rattle.overlay_geometry.specs.Ranges.{Rect, do_rects_meet}
use Rattle.overlay_geometry.specs.declared.geom.rect.IntRect.{IntRect}
use Rattle.overlay_geometry.proofs.laws.geometry.Points.{from_before}
use Rattle.overlay_geometry.proofs.laws.integers.Tests.{le-test, le-tested, le-tested_false}
use Rattle.overlay_geometry.proofs.laws.lists.Elements.{Contains-from_Has}
use Rattle.overlay_geometry.proofs.laws.lists.Lists.{Has, Has-map, list_all-at, list_all-from_Has}
use Rattle.overlay_base.specs.Places.{RationalPoint, winding_below}
use Rattle.overlay_base.specs.Rays.{is_on_none}
use Rattle.overlay_base.specs.Segments.{WholeSegment, are_ordered}
use Rattle.overlay_base.specs.Windings.{empty}
use Rattle.overlay_base.specs.declared.overlay_core.fill_rule.FillRule.{FillRule}
use Rattle.overlay_base.specs.declared.overlay_core.fill_rule.FillRule.TheVariants.{EvenOdd, NonZero, Positive, Negative}
use Rattle.overlay_base.specs.declared.segm.shape_type.ShapeType.TheVariants.{Subject}
use Rattle.overlay_cuts.specs.Places.{IsFar}
use Rattle.overlay_split.proofs.laws.nearness.FarRays.{far_lies_on_none}
use Rattle.overlay_sweep.specs.Fill.{is_inside}
use Rattle.overlay_build.specs.Boundary.{truth}
use Rattle.overlay_contours.specs.Boxes.{all_points, LiesIn, IsBoundingBox}
use Rattle.overlay_contours.specs.Contours.{edges, winding_number}
use Rattle.overlay_contours.specs.ContourSegments.{contour_segments}
use Rattle.overlay_contours.specs.Polygons.{IsBeyond}
use Rattle.overlay_relations.specs.Boundaries.{IsBoundaryOf}
use Rattle.overlay_relations.specs.Boxes.{lies_in, are_held, do_boxes_meet}
use Rattle.overlay_relations.specs.Contacts.{HasCloser, SharePoint, AreDisjoint}
use Rattle.overlay_relations.specs.Relations.{is_in}
use Rattle.overlay_relations.proofs.laws.Boundaries.{part, far_left, edges_ordered, contour_pairs, shape_balances, shape_winds, around_shape}
use Rattle.overlay_relations.proofs.laws.ContourEnds.{end_is_point}
use Rattle.overlay_relations.proofs.laws.ExactRegions.{far_boundary}
use Rattle.overlay_relations.proofs.laws.Gaps.{none_between}
use Rattle.overlay_relations.proofs.laws.Halfplanes.{nothing_below, beyond_left, beyond_right, beyond_bottom, beyond_top}

-- A point lies in a box, its border included.
pub record IsInBox (box : Rect) (p : RationalPoint) : Type 0 where
  pub left : (box.min_x *ℤ pos p.bottom) ≤ℤ p.x
  pub right : p.x ≤ℤ (box.max_x *ℤ pos p.bottom)
  pub below : (box.min_y *ℤ pos p.bottom) ≤ℤ p.y
  pub above : p.y ≤ℤ (box.max_y *ℤ pos p.bottom)

by_order : (u v : ℤ) → (u ≤ℤ v) ⊎ (v <ℤ u)
by_order u v = elim (cases_Bool (int_le u v)) [ inl h ↦ inl (le-tested u v h) | inr h ↦ inr (le-tested_false u v h) ]

weaker : (u v : ℤ) → u <ℤ v → u ≤ℤ v
weaker u v h = omega (arith, ints, h)

module _ (contours : List (List Point)) (p : RationalPoint) (some : 0 < p.bottom) (far : IsFar 0 p (edges contours)) where
  abbrev bag : List WholeSegment
  bag = contour_segments Subject contours

  in_edges : (s : WholeSegment) → Has bag s → Has (edges contours) s.pair
  in_edges s m = subst (λ (l : List Pair). Has l s.pair) (contour_pairs Subject contours) (Has-map (λ (u : WholeSegment). u.pair) bag s m)

  start_there : (s : WholeSegment) → Has bag s → Has (all_points contours) s.pair.a
  start_there s m = end_is_point contours s.pair s.pair.a (in_edges s m) (inl refl)

  end_there : (s : WholeSegment) → Has bag s → Has (all_points contours) s.pair.b
  end_there s m = end_is_point contours s.pair s.pair.b (in_edges s m) (inr refl)

  ordered : IsTrue (are_ordered bag)
  ordered = list_all-from_Has (λ s. is_ordered s.pair) bag (λ s m. from_before s.pair.a s.pair.b (edges_ordered contours s.pair (in_edges s m)))

  on_none : IsTrue (is_on_none bag p)
  on_none = far_lies_on_none bag p ordered some (subst (λ (l : List Pair). IsFar 0 p l) (sym (contour_pairs Subject contours)) far)

  -- where no segment counts, nothing winds
  unwound : winding_below bag p ≡ empty → winding_number contours p ≡ pos 0
  unwound e = sym (shape_winds Subject contours p) ∙ ap (part Subject) e

  module _ (wound : winding_number contours p ≡ pos 0 → ⊥) where
    -- some segment is there, so some point
    pub some_point : all_points contours ≡ [] → ⊥
    some_point none = wound (unwound (nothing_below bag p (λ s m. absurd (subst (λ (l : List Point). Has l s.pair.b) none (end_there s m)))))

    module _ (box : Rect) (around : (e : Point) → Has (all_points contours) e → LiesIn box e) where
      pub in_box : IsInBox box p
      in_box = record {
        left = elim (by_order (box.min_x *ℤ pos p.bottom) p.x) [
          | inl h ↦ h
          | inr h ↦ absurd (wound (unwound (beyond_left bag p box.min_x (λ s m. (around s.pair.a (start_there s m)).left) h)))
        ];
        right = elim (by_order p.x (box.max_x *ℤ pos p.bottom)) [
          | inl h ↦ h
          | inr h ↦ absurd (wound (unwound (beyond_right bag p box.max_x (λ s m. (around s.pair.b (end_there s m)).right) (weaker _ _ h))))
        ];
        below = elim (by_order (box.min_y *ℤ pos p.bottom) p.y) [
          | inl h ↦ h
          | inr h ↦ absurd (wound (unwound (beyond_bottom bag p box.min_y (λ s m. ((around s.pair.a (start_there s m)).below, (around s.pair.b (end_there s m)).below)) (weaker _ _ h))))
        ];
        above = elim (by_order p.y (box.max_y *ℤ pos p.bottom)) [
          | inl h ↦ h
          | inr h ↦ absurd (wound (unwound (beyond_top bag p box.max_y ordered (shape_balances Subject contours) some on_none (λ s m. ((around s.pair.a (start_there s m)).above, (around s.pair.b (end_there s m)).above)) (weaker _ _ h))))
        ];
      }

-- ---- what is inside a shape

zero_is_outside : (rule : FillRule) → is_inside rule (pos 0) ≡ false
zero_is_outside EvenOdd = refl
zero_is_outside NonZero = refl
zero_is_outside Positive = refl
zero_is_outside Negative = refl

-- Each point inside a shape, on no edge of it, is in a box.
abbrev pub IsHeld : FillRule → List (List Point) → Rect → Type 0
IsHeld fill_rule contours box = (p : RationalPoint) → 0 < p.bottom → IsBeyond 0 contours [] p → is_in fill_rule contours p ≡ true → IsInBox box p

-- There is no such point.
abbrev pub IsNothing : FillRule → List (List Point) → Type 0
IsNothing fill_rule contours = (p : RationalPoint) → 0 < p.bottom → IsBeyond 0 contours [] p → is_in fill_rule contours p ≡ true → ⊥

module _ (fill_rule : FillRule) (contours : List (List Point)) (p : RationalPoint) (here : is_in fill_rule contours p ≡ true) where
  pub inside_winds : winding_number contours p ≡ pos 0 → ⊥
  inside_winds e = both_ways (is_in fill_rule contours p) (ap (is_inside fill_rule) e ∙ zero_is_outside fill_rule) here

  pub boundary_winds : (boundary : List (List Point)) → winding_number boundary p ≡ truth (is_in fill_rule contours p) → winding_number boundary p ≡ pos 0 → ⊥
  boundary_winds boundary is e = one_is_none (sym (is ∙ ap truth here) ∙ e)
    where
      one_is_none : truth true ≡ pos 0 → ⊥
      one_is_none e = omega (arith, ints, e)

lies_there : (box : Rect) (e : Point) → lies_in box e ≡ true → LiesIn box e
lies_there box e h =
    let outer = and_parts (int_le box.min_x e.x && int_le e.x box.max_x && int_le box.min_y e.y) (int_le e.y box.max_y) h in
    let middle = and_parts (int_le box.min_x e.x && int_le e.x box.max_x) (int_le box.min_y e.y) outer.0 in
    let inner = and_parts (int_le box.min_x e.x) (int_le e.x box.max_x) middle.0 in
    record { left = le-tested box.min_x e.x inner.0; right = le-tested e.x box.max_x inner.1; below = le-tested box.min_y e.y middle.1; above = le-tested e.y box.max_y outer.1 }

there_lies : (box : Rect) (e : Point) → LiesIn box e → lies_in box e ≡ true
there_lies box e l = all _ _ _ _ (le-test _ _ l.left) (le-test _ _ l.right) (le-test _ _ l.below) (le-test _ _ l.above)
  where
    all : (a b c d : Bool) → a ≡ true → b ≡ true → c ≡ true → d ≡ true → (a && b && c && d) ≡ true
    all a b c d e f g h = rw (e, f, g, h) refl

each_in : {I : Type 0} (whole : I → ℤ) (points : List Point) (bounds : IntRect I) → list_all (lies_in (rect_of whole bounds)) points ≡ true → (e : Point) → Has points e → LiesIn (rect_of whole bounds) e
each_in whole points bounds is e m = lies_there (rect_of whole bounds) e (list_all-at (lies_in (rect_of whole bounds)) points e is m)

not_none : (n : ℕ) → (suc n == 0) ≡ false
not_none n = grind arith

nothing_there : (points : List Point) → (length points == 0) ≡ true → points ≡ []
nothing_there [] h = refl
nothing_there (e ∷ points) h = absurd (both_ways (length (e ∷ points) == 0) (not_none (length points)) h)

none_is_zero : (points : List Point) → points ≡ [] → (length points == 0) ≡ true
none_is_zero points e = rw e refl

-- what the least box around points is
pub held_of : {I : Type 0} (whole : I → ℤ) (points : List Point) (found : Option (IntRect I)) → IfNone found (points ≡ []) → IfSome found (λ bounds. IsBoundingBox points (rect_of whole bounds)) → IsTrue (are_held whole points found)
held_of whole points None none least = none_is_zero points none
held_of whole points (Some bounds) none least =
    list_all-from_Has (lies_in (rect_of whole bounds)) points (λ e m. there_lies (rect_of whole bounds) e (All-contains (LiesIn (rect_of whole bounds)) points e least.around (Contains-from_Has points e m)))

module _ {I : Type 0} (whole : I → ℤ) (fill_rule : FillRule) (contours : List (List Point)) where
  pub held_by_contours : (bounds : IntRect I) → list_all (lies_in (rect_of whole bounds)) (all_points contours) ≡ true → IsHeld fill_rule contours (rect_of whole bounds)
  held_by_contours bounds is p some far here = in_box contours p some (far_left p (edges contours) (edges []) far) (inside_winds fill_rule contours p here) (rect_of whole bounds) (each_in whole (all_points contours) bounds is)

  pub nothing_by_contours : all_points contours ≡ [] → IsNothing fill_rule contours
  nothing_by_contours is p some far here = some_point contours p some (far_left p (edges contours) (edges []) far) (inside_winds fill_rule contours p here) is

  module _ (boundary : List (List Point)) (of : IsBoundaryOf fill_rule contours boundary) where
    pub held_by_boundary : (bounds : IntRect I) → list_all (lies_in (rect_of whole bounds)) (all_points boundary) ≡ true → IsHeld fill_rule contours (rect_of whole bounds)
    held_by_boundary bounds is p some far here =
        let off = far_left p (edges contours) (edges []) far in
        in_box boundary p some (far_boundary fill_rule contours boundary of p off) (boundary_winds fill_rule contours p here boundary (around_shape fill_rule contours boundary of p some off)) (rect_of whole bounds) (each_in whole (all_points boundary) bounds is)

    pub nothing_by_boundary : all_points boundary ≡ [] → IsNothing fill_rule contours
    nothing_by_boundary is p some far here =
        let off = far_left p (edges contours) (edges []) far in
        some_point boundary p some (far_boundary fill_rule contours boundary of p off) (boundary_winds fill_rule contours p here boundary (around_shape fill_rule contours boundary of p some off)) is

-- ---- boxes that share no point

-- one of them is on one side of the other
pub data LieApart (r s : Rect) : Type 0 where
  before : r.max_x <ℤ s.min_x → LieApart r s
  behind : s.max_x <ℤ r.min_x → LieApart r s
  under : r.max_y <ℤ s.min_y → LieApart r s
  over : s.max_y <ℤ r.min_y → LieApart r s

pub lie_apart : (r s : Rect) → do_rects_meet r s ≡ false → LieApart r s
lie_apart r s e = elim (by_order r.min_x s.max_x) [
  | inr h ↦ behind h
  | inl h ↦ elim (by_order s.min_x r.max_x) [
    | inr k ↦ before k
    | inl k ↦ elim (by_order r.min_y s.max_y) [
      | inr l ↦ over l
      | inl l ↦ elim (by_order s.min_y r.max_y) [
        | inr m ↦ under m
        | inl m ↦ absurd (both_ways (do_rects_meet r s) e (all _ _ _ _ (le-test _ _ h) (le-test _ _ k) (le-test _ _ l) (le-test _ _ m)))
      ]
    ]
  ]
]
  where
    all : (a b c d : Bool) → a ≡ true → b ≡ true → c ≡ true → d ≡ true → (a && b && c && d) ≡ true
    all a b c d e f g h = rw (e, f, g, h) refl

module _ (subject_rule clip_rule : FillRule) (subject clip : List (List Point)) where
  pub nothing_shares : IsNothing subject_rule subject → AreDisjoint subject_rule clip_rule subject clip
  nothing_shares none share = let q = share.of_subject 1 in none q.point q.some q.off_edges q.here

  pub shares_nothing : IsNothing clip_rule clip → AreDisjoint subject_rule clip_rule subject clip
  shares_nothing none share = let q = share.of_clip 1 in none q.point q.some q.off_edges q.here

  module _ (r s : Rect) (of_subject : IsHeld subject_rule subject r) (of_clip : IsHeld clip_rule clip s) (share : SharePoint subject_rule clip_rule subject clip) where
    abbrev p : RationalPoint
    p = share.point

    abbrev q : HasCloser subject_rule subject true p 2
    q = share.of_subject 2

    abbrev t : HasCloser clip_rule clip true p 2
    t = share.of_clip 2

    q_in : IsInBox r q.point
    q_in = of_subject q.point q.some q.off_edges q.here

    t_in : IsInBox s t.point
    t_in = of_clip t.point t.some t.off_edges t.here

    not_apart : LieApart r s → ⊥
    not_apart (before h) = none_between r.max_x s.min_x q.point.x t.point.x p.x q.point.bottom t.point.bottom p.bottom q.some t.some h q_in.right t_in.left q.closer.in_x t.closer.in_x
    not_apart (behind h) = none_between s.max_x r.min_x t.point.x q.point.x p.x t.point.bottom q.point.bottom p.bottom t.some q.some h t_in.right q_in.left t.closer.in_x q.closer.in_x
    not_apart (under h) = none_between r.max_y s.min_y q.point.y t.point.y p.y q.point.bottom t.point.bottom p.bottom q.some t.some h q_in.above t_in.below q.closer.in_y t.closer.in_y
    not_apart (over h) = none_between s.max_y r.min_y t.point.y q.point.y p.y t.point.bottom q.point.bottom p.bottom t.some q.some h t_in.above q_in.below t.closer.in_y q.closer.in_y

  pub apart_disjoint : (r s : Rect) → LieApart r s → IsHeld subject_rule subject r → IsHeld clip_rule clip s → AreDisjoint subject_rule clip_rule subject clip
  apart_disjoint r s apart of_subject of_clip share = not_apart r s of_subject of_clip share apart

-- ---- shapes by their boxes

module _ {I : Type 0} (whole : I → ℤ) (subject_rule clip_rule : FillRule) (subject clip : List (List Point)) where
  pub disjoint_contours : (one other : Option (IntRect I)) → IsTrue (are_held whole (all_points subject) one) → IsTrue (are_held whole (all_points clip) other) → do_boxes_meet whole one other ≡ false → AreDisjoint subject_rule clip_rule subject clip
  disjoint_contours None other a b e = nothing_shares subject_rule clip_rule subject clip (nothing_by_contours whole subject_rule subject (nothing_there (all_points subject) a))
  disjoint_contours (Some one) None a b e = shares_nothing subject_rule clip_rule subject clip (nothing_by_contours whole clip_rule clip (nothing_there (all_points clip) b))
  disjoint_contours (Some one) (Some other) a b e =
      apart_disjoint subject_rule clip_rule subject clip (rect_of whole one) (rect_of whole other) (lie_apart (rect_of whole one) (rect_of whole other) e)
      (held_by_contours whole subject_rule subject one a) (held_by_contours whole clip_rule clip other b)

  module _ (first second : List (List Point)) (of_first : IsBoundaryOf subject_rule subject first) (of_second : IsBoundaryOf clip_rule clip second) where
    pub disjoint_boundaries : (one other : Option (IntRect I)) → IsTrue (are_held whole (all_points first) one) → IsTrue (are_held whole (all_points second) other) → do_boxes_meet whole one other ≡ false → AreDisjoint subject_rule clip_rule subject clip
    disjoint_boundaries None other a b e = nothing_shares subject_rule clip_rule subject clip (nothing_by_boundary whole subject_rule subject first of_first (nothing_there (all_points first) a))
    disjoint_boundaries (Some one) None a b e = shares_nothing subject_rule clip_rule subject clip (nothing_by_boundary whole clip_rule clip second of_second (nothing_there (all_points second) b))
    disjoint_boundaries (Some one) (Some other) a b e =
        apart_disjoint subject_rule clip_rule subject clip (rect_of whole one) (rect_of whole other) (lie_apart (rect_of whole one) (rect_of whole other) e)
        (held_by_boundary whole subject_rule subject first of_first one a) (held_by_boundary whole clip_rule clip second of_second other b)
