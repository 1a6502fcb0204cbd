-- Contours that wind in a tile as given ones and lie near them wind so when they are split by snap rounding, around far points.
use Rattle.std.proofs.Common.{◌≡◌, ◌⊎◌, inl, inr, refl, sym, ap₂, subst, ◌∙◌, Bool, true, false, arith, List, ◌++◌}
use Rattle.std.specs.Prelude.{ℤ, IsTrue, filter, All}
use Rattle.std.proofs.lemmas.Bool.{both_ways, or_from, cases_Bool, not-true, not_from_false}
use Rattle.std.proofs.lemmas.List.{map-append}
use Rattle.std.proofs.lemmas.List.Elements.{All-from_recursion, All-contains}
use Rattle.overlay_geometry.specs.Points.{Point, Pair, point_lt, point_eq, is_ordered, is_vertical, is_horizontal}
use Rattle.overlay_geometry.proofs.laws.geometry.Points.{from_before, not_before, by_UpTo, point_eq_same}
use Rattle.overlay_geometry.proofs.laws.integers.Tests.{eq-tested}
use Rattle.overlay_geometry.proofs.laws.lists.Lists.{Has, Has-map_out, Has-filter_out, AllByRecursion-from_Has, list_all-from_Has}
use Rattle.overlay_geometry.proofs.laws.lists.Elements.{Contains-from_Has, Has-from_Contains, Has-append_out}
use Rattle.overlay_base.specs.BooleanWinding.{boolean_made}
use Rattle.overlay_base.specs.Places.{RationalPoint}
use Rattle.overlay_base.specs.Segments.{WholeSegment, pairs, are_ordered}
use Rattle.overlay_base.specs.declared.segm.shape_type.ShapeType.{ShapeType}
use Rattle.overlay_base.specs.declared.segm.shape_type.ShapeType.TheVariants.{Subject, Clip}
use Rattle.overlay_cuts.specs.Nearness.{point_along, IsNear, LiesNear}
use Rattle.overlay_cuts.specs.Places.{IsFar}
use Rattle.overlay_cuts.proofs.laws.nearness.Distances.{IsNear-weaker, IsNear-from_point}
use Rattle.overlay_snapping.specs.SnapOf.{reach_of_snap}
use Rattle.overlay_contours.specs.Contours.{steps, is_edge, turned}
use Rattle.overlay_contours.specs.ContourSegments.{step_segment, contour_segments, overlay_segments}
use Rattle.overlay_contours.proofs.laws.Splittings.{at_most_one}
use Rattle.overlay_contours.proofs.laws.Windings.{overlay_winds}
use Rattle.overlay_tiles.specs.Tiles.{is_slanted}
use Rattle.overlay_tiles.specs.Laws.{IsOff, HasNear, LieNearGiven, IsFarOffAxes, TilesWindAlike}
use Rattle.overlay_tiles.proofs.laws.Near.{upright_not, level_not}
use Rattle.overlay_tiles.proofs.laws.OffAxes.{snap_keeps_winding_off_axes}

-- what is farther than a whole unit is farther than half of it
off_from : (p : RationalPoint) (contours : List (List Point)) → IsFarOffAxes 2 p contours → All (IsOff p) (steps contours)
off_from p contours far =
    All-from_recursion (IsOff p) (steps contours)
    (AllByRecursion-from_Has (IsOff p) (steps contours) (λ s i slanted near. far s (Contains-from_Has (steps contours) s i) slanted (IsNear-weaker 1 2 p s (omega arith) near)))

slanted_turned : (r : Pair) → IsTrue (is_slanted (turned r)) → IsTrue (is_slanted r)
slanted_turned r h = by (cases_Bool (is_vertical r)) (cases_Bool (is_horizontal r))
  where
    by : (is_vertical r ≡ true) ⊎ (is_vertical r ≡ false) → (is_horizontal r ≡ true) ⊎ (is_horizontal r ≡ false) → IsTrue (is_slanted r)
    by (inl e) k = absurd (upright_not (turned r) (sym (eq-tested r.a.x r.b.x e)) h)
    by (inr e) (inl k) = absurd (level_not (turned r) (sym (eq-tested r.a.y r.b.y k)) h)
    by (inr e) (inr k) = not_from_false _ (or_from _ _ e k)

-- what is near a pair that lies near another
near_through : (p : RationalPoint) (r s : Pair) → LiesNear 1 r s → IsNear 1 p r → IsNear 2 p s
near_through p r s lies (f, within) = IsNear-from_point 1 1 p (point_along r f) s f.positive within (lies f)

module _ (p : RationalPoint) (contours found : List (List Point)) (lie : LieNearGiven contours found) (far : IsFarOffAxes 2 p contours) where
  -- p is not near a slanted step of contours that lie near the given ones
  off_step : (r : Pair) → Has (steps found) r → IsTrue (is_slanted r) → IsNear 1 p r → ⊥
  off_step r i slanted near =
      let of = All-contains (λ (r : Pair). IsTrue (is_slanted r) → HasNear contours r) (steps found) r lie (Contains-from_Has (steps found) r i) slanted in
      far of.step of.is_given of.slanted (near_through p r of.step of.near near)

  off_turned : (r : Pair) → Has (steps found) r → IsTrue (is_slanted r) → IsNear 1 p (turned r) → ⊥
  off_turned r i slanted near =
      let of = All-contains (λ (r : Pair). IsTrue (is_slanted r) → HasNear contours r) (steps found) r lie (Contains-from_Has (steps found) r i) slanted in
      far of.step of.is_given of.slanted (near_through p (turned r) of.step of.near_turned near)

  -- nor near a slanted segment of them
  off_shape : (shape_type : ShapeType) (r : Pair) → Has (pairs (contour_segments shape_type found)) r → IsTrue (is_slanted r) → IsNear 1 p r → ⊥
  unfolding contour_segments
  off_shape shape_type r i slanted near =
      let segment = Has-map_out (λ (t : WholeSegment). t.pair) (contour_segments shape_type found) r i in
      let step = Has-map_out (step_segment shape_type) (filter is_edge (steps found)) segment.0 segment.1 in
      let given = Has-filter_out is_edge (steps found) step.0 step.1 in
      of_step step.0 given.0 (point_lt step.0.a step.0.b) refl (subst (λ (t : WholeSegment). t.pair ≡ r) (sym step.2) segment.2)
    where
      of_step : (r0 : Pair) → Has (steps found) r0 → (b : Bool) → point_lt r0.a r0.b ≡ b → (step_segment shape_type r0).pair ≡ r → ⊥
      of_step r0 j true e same =
          let here : r0 ≡ r = sym (forward e) ∙ same in
          off_step r0 j (subst (λ (t : Pair). IsTrue (is_slanted t)) (sym here) slanted) (subst (λ (t : Pair). IsNear 1 p t) (sym here) near)
        where
          forward : point_lt r0.a r0.b ≡ true → (step_segment shape_type r0).pair ≡ r0
          forward e = rw e refl
      of_step r0 j false e same =
          let here : turned r0 ≡ r = sym (backward e) ∙ same in
          off_turned r0 j (slanted_turned r0 (subst (λ (t : Pair). IsTrue (is_slanted t)) (sym here) slanted)) (subst (λ (t : Pair). IsNear 1 p t) (sym here) near)
        where
          backward : point_lt r0.a r0.b ≡ false → (step_segment shape_type r0).pair ≡ turned r0
          backward e = rw e refl

-- the segments of contours have their ends in order
step_ordered : (shape_type : ShapeType) (s : Pair) → is_edge s ≡ true → is_ordered (step_segment shape_type s).pair ≡ true
step_ordered shape_type s edge = by (point_lt s.a s.b) refl
  where
    by : (b : Bool) → point_lt s.a s.b ≡ b → is_ordered (step_segment shape_type s).pair ≡ true
    by true e = rw e e
    by false e =
        rw e (by_UpTo s.b s.a (not_before s.a s.b e) (λ before. from_before s.b s.a before)
        (λ same. absurd (both_ways (point_eq s.a s.b) (not-true _ edge) (subst (λ (q : Point). point_eq s.a q ≡ true) (sym same) (point_eq_same s.a)))))

shape_ordered : (shape_type : ShapeType) (contours : List (List Point)) (t : WholeSegment) → Has (contour_segments shape_type contours) t → is_ordered t.pair ≡ true
unfolding contour_segments
shape_ordered shape_type contours t i =
    let step = Has-map_out (step_segment shape_type) (filter is_edge (steps contours)) t i in
    subst (λ (w : WholeSegment). is_ordered w.pair ≡ true) step.2 (step_ordered shape_type step.0 (Has-filter_out is_edge (steps contours) step.0 step.1).1)

pub overlay_ordered : (subject clip : List (List Point)) → IsTrue (are_ordered (overlay_segments subject clip))
unfolding overlay_segments
overlay_ordered subject clip =
    list_all-from_Has (λ s. is_ordered s.pair) (contour_segments Subject subject ++ contour_segments Clip clip)
    (λ t i. elim (Has-append_out (contour_segments Subject subject) (contour_segments Clip clip) t i) [
      | inl j ↦ shape_ordered Subject subject t j
      | inr j ↦ shape_ordered Clip clip t j
    ])

pub tiles_wind_alike : TilesWindAlike
unfolding overlay_segments
tiles_wind_alike tile subject clip in_subject in_clip on p subject_winds subject_near clip_winds clip_near at some far_subject far_clip decided cuts =
    let given = contour_segments Subject in_subject ++ contour_segments Clip in_clip in
    snap_keeps_winding_off_axes given on p (overlay_ordered in_subject in_clip) decided cuts far
    ∙ overlay_winds in_subject in_clip p
    ∙ ap₂ (λ (u v : ℤ). boolean_made u v) (subject_winds p at some (off_from p subject far_subject)) (clip_winds p at some (off_from p clip far_clip))
  where
    far : IsFar (reach_of_snap (contour_segments Subject in_subject ++ contour_segments Clip in_clip)) p (filter is_slanted (pairs (contour_segments Subject in_subject ++ contour_segments Clip in_clip)))
    far (r, i, near) =
        let kept = Has-filter_out is_slanted (pairs (contour_segments Subject in_subject ++ contour_segments Clip in_clip)) r (Has-from_Contains _ r i) in
        let half = IsNear-weaker (reach_of_snap (contour_segments Subject in_subject ++ contour_segments Clip in_clip)) 1 p r (at_most_one (contour_segments Subject in_subject ++ contour_segments Clip in_clip)) near in
        elim (Has-append_out (pairs (contour_segments Subject in_subject)) (pairs (contour_segments Clip in_clip)) r (subst (λ (l : List Pair). Has l r) (map-append (λ (t : WholeSegment). t.pair) (contour_segments Subject in_subject) (contour_segments Clip in_clip)) kept.0)) [
          | inl j ↦ off_shape p subject in_subject subject_near far_subject Subject r j kept.1 half
          | inr j ↦ off_shape p clip in_clip clip_near far_clip Clip r j kept.1 half
        ]
