-- The overlay of clipped contours is the part of the overlay that belongs to the tile.
use Rattle.std.proofs.Common.{◌≡◌, ◌⊎◌, ⊎_elim, inl, inr, refl, sym, ap, subst, ◌∙◌, ◌<◌, ◌==◌, Bool, true, false, ◌||◌, cond, IsTrue, List, [], ◌∷◌, ◌++◌, map, filter, arith}
use Rattle.std.specs.Prelude.{ℕ, ℤ, pos, ◌-ℤ◌, ◌≤ℤ◌, ◌<ℤ◌, int_le, All, Contains}
use Rattle.std.specs.List.{list_all, AllByRecursion}
use Rattle.std.proofs.lemmas.Bool.{and_from, and_parts, both_ways}
use Rattle.std.proofs.lemmas.Int.{ints}
use Rattle.std.proofs.lemmas.List.Folds.{list_all-append}
use Rattle.overlay_geometry.specs.Points.{Point, Pair, point_lt, is_within_box_of}
use Rattle.overlay_geometry.specs.Ranges.{Rect}
use Rattle.overlay_base.specs.Balance.{IsBalanced}
use Rattle.overlay_base.specs.Join.{join}
use Rattle.overlay_base.specs.Places.{RationalPoint, winding_below}
use Rattle.overlay_base.specs.Planar.{is_planar}
use Rattle.overlay_base.specs.Rules.{holds}
use Rattle.overlay_base.specs.Segments.{WholeSegment, pairs, ends, is_map, are_ordered, are_polygons}
use Rattle.overlay_base.specs.Windings.{Winding}
use Rattle.overlay_base.specs.declared.overlay_core.fill_rule.FillRule.{FillRule}
use Rattle.overlay_base.specs.declared.overlay_core.overlay_rule.OverlayRule.{OverlayRule}
use Rattle.overlay_base.specs.declared.segm.shape_type.ShapeType.{ShapeType}
use Rattle.overlay_base.specs.declared.segm.shape_type.ShapeType.TheVariants.{Subject, Clip}
use Rattle.overlay_base.proofs.laws.joins.Members.{are_polygons-join}
use Rattle.overlay_base.proofs.laws.joins.Maps.{are_ordered-join}
use Rattle.overlay_cuts.specs.Pass.{pass_by}
use Rattle.overlay_split.proofs.laws.paths.Masks.{cut_keeps_polygons}
use Rattle.overlay_snapping.specs.Chains.{AreSnapCuts, AreDecided}
use Rattle.overlay_snapping.proofs.laws.chains.SnapRuns.{keeps_balance}
use Rattle.overlay_snapping.proofs.laws.planarity.Planar.{snapped_is_planar}
use Rattle.overlay_build.specs.Boundary.{truth, times_round}
use Rattle.overlay_build.specs.Values.{value_at}
use Rattle.overlay_build.proofs.laws.graphs.BuiltGraphs.{polygons_from}
use Rattle.overlay_contours.specs.Contours.{steps_from, steps_of, steps, turned, in_order, is_edge, directed_edges, edges, winding_number}
use Rattle.overlay_contours.specs.ContourSegments.{step_segment, contour_segments, overlay_segments}
use Rattle.overlay_contours.specs.Polygons.{IsPolygonOverlay, is_in_overlay}
use Rattle.overlay_contours.specs.Splittings.{by_snapping}
use Rattle.overlay_contours.proofs.laws.Balances.{overlay_balances}
use Rattle.overlay_geometry.specs.Coordinates.{is_point_in_range}
use Rattle.overlay_contours.specs.ContourSegments.{are_in_range, IsFirstOutside}
use Rattle.overlay_contours.specs.Refusals.{IsRefusal}
use Rattle.overlay_contours.specs.declared.fault.ContourFault.{ContourFault}
use Rattle.overlay_contours.specs.declared.fault.ContourFault.TheVariants.{OutOfRange, Refused}
use Rattle.overlay_tiles.specs.TileOverlays.{IsTilePart, IsTileRefusal}
use Rattle.overlay_tiles.specs.Tiles.{IsTile, BelongsToTile, LiesInTile, all_clipped, reaching, in_tile}
use Rattle.overlay_cuts.proofs.laws.paths.Boxes.{boxes_are_meant, cut_stays_in_box}
use Rattle.overlay_cuts.proofs.laws.planar.ExactInputs.{In-join}
use Rattle.overlay_snapping.proofs.laws.chains.MarkLists.{each_cut}
use Rattle.overlay_snapping.proofs.laws.chains.Paths.{cut_in_box}
use Rattle.overlay_contours.proofs.laws.Extracts.{all_pass}
use Rattle.overlay_tiles.proofs.laws.Contours.{clipped_lie_in_tile}
use Rattle.overlay_tiles.proofs.laws.Besides.{reaching_wind_alike, reaching_lie_near}
use Rattle.overlay_tiles.proofs.laws.Thins.{thinned_wind_alike, thinned_lie_in_tile, thinned_lie_near}
use Rattle.overlay_geometry.proofs.laws.lists.Lists.{Has, Has-map, Has-map_out, Has-filter_out, Has-flat_map, Has-append_left, Has-append_right, AllByRecursion-from_Has, AllByRecursion-at, AllByRecursion-append, AllByRecursion-weaker, AllByRecursion-flat_map, list_all-at, list_all-from_AllByRecursion}
use Rattle.overlay_geometry.proofs.laws.lists.Elements.{Contains-from_Has, Has-from_Contains, Has-append_out}
use Rattle.std.proofs.lemmas.List.Elements.{All-from_recursion, recursion_from_All, All-contains}
use Rattle.overlay_tiles.specs.Laws.{WindAlikeInTile, LieInTile, LieNearGiven, IsFarOffAxes}
use Rattle.overlay_tiles.proofs.laws.ArrangementWindings.{runs_wind}
use Rattle.overlay_tiles.proofs.laws.SnapCuts.{snapped_by_cuts}
use Rattle.overlay_tiles.proofs.laws.TileWindings.{overlay_ordered, tiles_wind_alike}

-- ---- the segments of contours are those of polygons

no_mask : (shape_type : ShapeType) (s : Pair) → (step_segment shape_type s).count.mask ≡ 0
no_mask shape_type s = by (point_lt s.a s.b) refl shape_type
  where
    by : (b : Bool) → point_lt s.a s.b ≡ b → (t : ShapeType) → (step_segment t s).count.mask ≡ 0
    by true e Subject = rw e refl
    by true e Clip = rw e refl
    by false e Subject = rw e refl
    by false e Clip = rw e refl

overlay_polygons : (subject clip : List (List Point)) → IsTrue (are_polygons (overlay_segments subject clip))
unfolding overlay_segments contour_segments
overlay_polygons subject clip =
    list_all-append (λ s. s.count.mask == 0) (map (step_segment Subject) (filter is_edge (steps subject))) (map (step_segment Clip) (filter is_edge (steps clip)))
    ∙ and_from _ _ (polygons_from (step_segment Subject) (no_mask Subject) (filter is_edge (steps subject))) (polygons_from (step_segment Clip) (no_mask Clip) (filter is_edge (steps clip)))

-- ---- the arrangement of an overlay by snap rounding

module _ (rule : OverlayRule) (fill_rule : FillRule) (subject clip answer : List (List Point)) (overlay : IsPolygonOverlay by_snapping rule fill_rule subject clip answer) where
  abbrev given : List WholeSegment
  given = overlay_segments subject clip

  abbrev found : List WholeSegment
  found = overlay.arrangement

  joined_ordered : IsTrue (are_ordered (join given))
  joined_ordered = are_ordered-join given (overlay_ordered subject clip)

  pub cuts_of : (on : Pair → List Point) × AreDecided (join given) × AreSnapCuts (join given) on × (found ≡ pass_by on (join given))
  cuts_of = snapped_by_cuts (join given) found joined_ordered overlay.left.snapped

  planar : IsTrue (is_map found) × IsTrue (is_planar found)
  planar = snapped_is_planar (join given) found joined_ordered overlay.left.snapped

  polygons : IsTrue (are_polygons found)
  polygons = subst (λ (l : List WholeSegment). IsTrue (are_polygons l)) (sym cuts_of.3) (cut_keeps_polygons cuts_of.0 (join given) (are_polygons-join given (overlay_polygons subject clip)))

  balanced : IsBalanced found
  balanced = subst IsBalanced (sym cuts_of.3) (λ p. keeps_balance given (overlay_ordered subject clip) cuts_of.0 cuts_of.1 cuts_of.2 p ∙ overlay_balances subject clip p)

  -- the result winds around every point as the rule says of the arrangement
  pub winds_by_rule : (p : RationalPoint) → 0 < p.bottom → winding_number answer p ≡ times_round (holds rule) fill_rule (winding_below found p)
  winds_by_rule p some = runs_wind rule fill_rule found answer p planar.0 polygons planar.1 balanced overlay.directed overlay.proper some

  pub once_or_not : (p : RationalPoint) → 0 < p.bottom → (winding_number answer p ≡ pos 1 -ℤ truth (holds rule false false)) ⊎ (winding_number answer p ≡ pos 0 -ℤ truth (holds rule false false))
  unfolding times_round
  once_or_not p some = by (value_at (holds rule) fill_rule (winding_below found p)) refl
    where
      by : (b : Bool) → value_at (holds rule) fill_rule (winding_below found p) ≡ b → (winding_number answer p ≡ pos 1 -ℤ truth (holds rule false false)) ⊎ (winding_number answer p ≡ pos 0 -ℤ truth (holds rule false false))
      by true e = inl (winds_by_rule p some ∙ ap (λ (b : Bool). truth b -ℤ truth (holds rule false false)) e)
      by false e = inr (winds_by_rule p some ∙ ap (λ (b : Bool). truth b -ℤ truth (holds rule false false)) e)

  -- contours that were given where these ones wind alike in a tile and lie near them
  pub winds_in_tile : (tile : Rect) (subject_given clip_given : List (List Point)) → WindAlikeInTile tile subject_given subject → LieNearGiven subject_given subject → WindAlikeInTile tile clip_given clip → LieNearGiven clip_given clip
      → (p : RationalPoint) → 0 < p.bottom → BelongsToTile tile p → IsFarOffAxes 2 p subject_given → IsFarOffAxes 2 p clip_given
      → winding_number answer p ≡ truth (is_in_overlay rule fill_rule subject_given clip_given p) -ℤ truth (holds rule false false)
  unfolding times_round value_at
  winds_in_tile tile subject_given clip_given subject_winds subject_near clip_winds clip_near p some at far_subject far_clip =
      winds_by_rule p some
      ∙ ap (λ (w : Winding). times_round (holds rule) fill_rule w)
      (ap (λ (l : List WholeSegment). winding_below l p) cuts_of.3
      ∙ tiles_wind_alike tile subject_given clip_given subject clip cuts_of.0 p subject_winds subject_near clip_winds clip_near at some far_subject far_clip cuts_of.1 cuts_of.2)

-- ---- points in a tile

abbrev tile_corners : Rect → List Point
tile_corners tile = record { x = tile.min_x; y = tile.min_y } ∷ record { x = tile.max_x; y = tile.max_y } ∷ []

low : (a b z : ℤ) → a <ℤ b → IsTrue (int_le a z || (int_le b z || false)) → a ≤ℤ z
low a b z l h = grind (arith, ints)

high : (a b z : ℤ) → a <ℤ b → IsTrue (int_le z a || (int_le z b || false)) → z ≤ℤ b
high a b z l h = grind (arith, ints)

low_to : (a b z : ℤ) → a ≤ℤ z → IsTrue (int_le a z || (int_le b z || false))
low_to a b z l = grind (arith, ints)

high_to : (a b z : ℤ) → z ≤ℤ b → IsTrue (int_le z a || (int_le z b || false))
high_to a b z l = grind (arith, ints)

module _ (tile : Rect) (is : IsTile tile) where
  abbrev within : Point → Bool
  within q = is_within_box_of (tile_corners tile) q

  from_box : (q : Point) → IsTrue (within q) → LiesInTile tile q
  unfolding is_within_box_of
  from_box q h =
      let top = and_parts _ _ h in
      let below = and_parts _ _ top.0 in
      let sides = and_parts _ _ below.0 in
      record {
        from_left = low tile.min_x tile.max_x q.x is.wide sides.0;
        to_right = high tile.min_x tile.max_x q.x is.wide sides.1;
        from_below = low tile.min_y tile.max_y q.y is.high below.1;
        to_top = high tile.min_y tile.max_y q.y is.high top.1;
      }

  to_box : (q : Point) → LiesInTile tile q → IsTrue (within q)
  unfolding is_within_box_of
  to_box q l =
      and_from _ _
      (and_from _ _ (and_from _ _ (low_to tile.min_x tile.max_x q.x l.from_left) (high_to tile.min_x tile.max_x q.x l.to_right)) (low_to tile.min_y tile.max_y q.y l.from_below))
      (high_to tile.min_y tile.max_y q.y l.to_top)

-- both ends of a pair lie in a tile
abbrev EndsIn : Rect → Pair → Type 0
EndsIn tile s = LiesInTile tile s.a × LiesInTile tile s.b

along : (tile : Rect) (p : Point) (points : List Point) → LiesInTile tile p → AllByRecursion (LiesInTile tile) points → AllByRecursion (EndsIn tile) (steps_from p points)
along tile p [] h k = tt
along tile p (q ∷ points) h k = ((h, k.0), along tile q points k.0 k.1)

of_contour : (tile : Rect) (c : List Point) → AllByRecursion (LiesInTile tile) c → AllByRecursion (EndsIn tile) (steps_of c)
of_contour tile [] h = tt
of_contour tile (p ∷ points) h = along tile p (points ++ p ∷ []) h.0 (AllByRecursion-append (LiesInTile tile) points (p ∷ []) h.1 (h.0, tt))

of_steps : (tile : Rect) (contours : List (List Point)) → LieInTile tile contours → AllByRecursion (EndsIn tile) (steps contours)
of_steps tile contours all =
    AllByRecursion-flat_map steps_of (EndsIn tile) contours
    (AllByRecursion-weaker (All (LiesInTile tile)) (λ c. AllByRecursion (EndsIn tile) (steps_of c)) (λ c l. of_contour tile c (recursion_from_All (LiesInTile tile) c l)) contours (recursion_from_All (All (LiesInTile tile)) contours all))

of_segment : (tile : Rect) (shape_type : ShapeType) (s : Pair) → EndsIn tile s → EndsIn tile (step_segment shape_type s).pair
of_segment tile shape_type s h = by (point_lt s.a s.b) refl
  where
    by : (b : Bool) → point_lt s.a s.b ≡ b → EndsIn tile (step_segment shape_type s).pair
    by true e = rw e h
    by false e = rw e (h.1, h.0)

of_shape_segments : (tile : Rect) (shape_type : ShapeType) (contours : List (List Point)) → LieInTile tile contours → (t : WholeSegment) → Has (contour_segments shape_type contours) t → EndsIn tile t.pair
unfolding contour_segments
of_shape_segments tile shape_type contours all t i =
    let step = Has-map_out (step_segment shape_type) (filter is_edge (steps contours)) t i in
    subst (λ (w : WholeSegment). EndsIn tile w.pair) step.2
    (of_segment tile shape_type step.0 (AllByRecursion-at (EndsIn tile) (steps contours) step.0 (of_steps tile contours all) (Has-filter_out is_edge (steps contours) step.0 step.1).0))

of_overlay_segments : (tile : Rect) (subject clip : List (List Point)) → LieInTile tile subject → LieInTile tile clip → (t : WholeSegment) → Has (overlay_segments subject clip) t → EndsIn tile t.pair
unfolding overlay_segments
of_overlay_segments tile subject clip in_subject in_clip t i =
    ⊎_elim (of_shape_segments tile Subject subject in_subject t) (of_shape_segments tile Clip clip in_clip t) (Has-append_out (contour_segments Subject subject) (contour_segments Clip clip) t i)

-- contours all of whose steps start in a tile lie in it
points_from : (tile : Rect) (p z : Point) (points : List Point) → AllByRecursion (λ s. LiesInTile tile s.a) (steps_from p (points ++ z ∷ [])) → AllByRecursion (LiesInTile tile) (p ∷ points)
points_from tile p z [] h = (h.0, tt)
points_from tile p z (q ∷ points) h = (h.0, points_from tile q z points h.1)

points_of_steps : (tile : Rect) (c : List Point) → AllByRecursion (λ s. LiesInTile tile s.a) (steps_of c) → AllByRecursion (LiesInTile tile) c
points_of_steps tile [] h = tt
points_of_steps tile (p ∷ points) h = points_from tile p p points h

by_starts : (tile : Rect) (contours : List (List Point)) → ((s : Pair) → Has (steps contours) s → LiesInTile tile s.a) → AllByRecursion (All (LiesInTile tile)) contours
by_starts tile [] h = tt
by_starts tile (c ∷ contours) h = (
  All-from_recursion (LiesInTile tile) c (points_of_steps tile c (AllByRecursion-from_Has (λ s. LiesInTile tile s.a) (steps_of c) (λ s i. h s (Has-append_left (steps_of c) (steps contours) s i)))),
  by_starts tile contours (λ s i. h s (Has-append_right (steps_of c) (steps contours) s i)),
)

-- ---- the result lies in the tile in which the given contours lie

module _ (tile : Rect) (is : IsTile tile) (rule : OverlayRule) (fill_rule : FillRule) (subject clip answer : List (List Point)) (in_subject : LieInTile tile subject) (in_clip : LieInTile tile clip)
    (overlay : IsPolygonOverlay by_snapping rule fill_rule subject clip answer) where
  abbrev joined : List WholeSegment
  joined = join (overlay_segments subject clip)

  joined_ends : (s : Pair) → Has (pairs joined) s → EndsIn tile s
  joined_ends s i =
      let segment = Has-map_out (λ (t : WholeSegment). t.pair) (overlay_segments subject clip) s (In-join (overlay_segments subject clip) s i) in
      subst (EndsIn tile) segment.2 (of_overlay_segments tile subject clip in_subject in_clip segment.0 segment.1)

  abbrev ends_of : Pair → List Point
  ends_of u = u.a ∷ u.b ∷ []

  found_ends : IsTrue (list_all (within tile is) (ends (pairs overlay.arrangement)))
  found_ends =
      let of = cuts_of rule fill_rule subject clip answer overlay in
      subst (λ (l : List WholeSegment). IsTrue (list_all (within tile is) (ends (pairs l)))) (sym of.3)
      (cut_stays_in_box (tile_corners tile) of.0 joined
      (list_all-from_AllByRecursion (within tile is) (ends (pairs joined))
      (AllByRecursion-flat_map ends_of (λ q. within tile is q ≡ true) (pairs joined)
      (AllByRecursion-from_Has (λ u. AllByRecursion (λ q. within tile is q ≡ true) (ends_of u)) (pairs joined) (λ u i. (to_box tile is u.a (joined_ends u i).0, (to_box tile is u.b (joined_ends u i).1, tt))))))
      (each_cut (λ s m. IsTrue (within tile is m)) joined of.0 of.2
      (λ s m i cut free. boxes_are_meant.1 (tile_corners tile) s m (to_box tile is s.a (joined_ends s i).0) (to_box tile is s.b (joined_ends s i).1) (cut_in_box (pairs joined) s m cut))))

  edge_ends : (e : Pair) → Has (edges answer) e → EndsIn tile e
  edge_ends e i =
      let there = Has-from_Contains (pairs overlay.arrangement) e (All-contains (Contains (pairs overlay.arrangement)) (edges answer) e overlay.arranged (Contains-from_Has (edges answer) e i)) in (
        from_box tile is e.a (list_all-at (within tile is) (ends (pairs overlay.arrangement)) e.a found_ends (Has-flat_map ends_of (pairs overlay.arrangement) e e.a there (inl refl))),
        from_box tile is e.b (list_all-at (within tile is) (ends (pairs overlay.arrangement)) e.b found_ends (Has-flat_map ends_of (pairs overlay.arrangement) e e.b there (inr (inl refl)))),
      )

  start_in : (s : Pair) → EndsIn tile (in_order s) → LiesInTile tile s.a
  start_in s h = by (point_lt s.a s.b) refl h
    where
      by : (b : Bool) → point_lt s.a s.b ≡ b → EndsIn tile (cond b s (turned s)) → LiesInTile tile s.a
      by true e k = k.0
      by false e k = k.1

  pub lies_in_tile : LieInTile tile answer
  lies_in_tile =
      All-from_recursion (All (LiesInTile tile)) answer
      (by_starts tile answer
      (λ s i. start_in s (edge_ends (in_order s) (Has-map in_order (directed_edges answer) s (subst (λ (l : List Pair). Has l s) (sym (all_pass is_edge (steps answer) overlay.proper.apart)) i)))))

-- ---- the part of a tile, and why it is refused

pub lie_inside : (tile : Rect) → IsTile tile → (contours : List (List Point)) → LieInTile tile (in_tile tile contours)
lie_inside tile is contours = thinned_lie_in_tile tile (all_clipped tile (reaching tile contours)) (clipped_lie_in_tile tile (reaching tile contours) is)

pub tile_part : (tile : Rect) → IsTile tile → (rule : OverlayRule) (fill_rule : FillRule) (subject clip answer : List (List Point)) → IsPolygonOverlay by_snapping rule fill_rule (in_tile tile subject) (in_tile tile clip) answer
    → IsTilePart tile rule fill_rule subject clip answer
tile_part tile is rule fill_rule subject clip answer overlay = record {
  winds =
      winds_in_tile rule fill_rule (in_tile tile subject) (in_tile tile clip) answer overlay tile subject clip
      (winds_alike subject) (near subject) (winds_alike clip) (near clip);
  once_or_not = once_or_not rule fill_rule (in_tile tile subject) (in_tile tile clip) answer overlay;
  inside = lies_in_tile tile is rule fill_rule (in_tile tile subject) (in_tile tile clip) answer (lie_inside tile is subject) (lie_inside tile is clip) overlay;
  proper = overlay.proper;
  apart = overlay.apart;
  once = overlay.once;
}
  where
    winds_alike : (contours : List (List Point)) → WindAlikeInTile tile contours (in_tile tile contours)
    winds_alike contours = thinned_wind_alike tile contours (all_clipped tile (reaching tile contours)) (reaching_wind_alike tile contours is)

    near : (contours : List (List Point)) → LieNearGiven contours (in_tile tile contours)
    near contours = thinned_lie_near tile contours (all_clipped tile (reaching tile contours)) (clipped_lie_in_tile tile (reaching tile contours) is) (reaching_lie_near tile contours is)

-- of contours in range no point is the first one out of range
none_outside : (least greatest : ℤ) (contours : List (List Point)) (index point_index : ℕ) → IsTrue (are_in_range least greatest contours) → IsFirstOutside least greatest contours index point_index → ⊥
none_outside least greatest contours index point_index h first =
    let test = is_point_in_range least greatest in
    let contour = list_all-at (λ c. list_all test c) contours first.contour h (subst (λ (l : List (List Point)). Has l first.contour) (sym first.contours_are) (Has-append_right first.earlier (first.contour ∷ first.later) first.contour (inl refl))) in
    let at = first.outside in
    both_ways (test at.point) at.out_of_range
    (list_all-at test first.contour at.point contour (subst (λ (l : List Point). Has l at.point) (sym at.points_are) (Has-append_right at.earlier (at.point ∷ at.later) at.point (inl refl))))

pub tile_refusal : (least greatest : ℤ) (tile : Rect) (subject clip : List (List Point)) → IsTrue (are_in_range least greatest subject) → IsTrue (are_in_range least greatest clip)
    → IsTrue (are_in_range least greatest (in_tile tile subject)) → IsTrue (are_in_range least greatest (in_tile tile clip)) → (fault : ContourFault)
    → IsRefusal least greatest by_snapping (in_tile tile subject) (in_tile tile clip) fault → IsTileRefusal least greatest tile subject clip fault
tile_refusal least greatest tile subject clip s c in_s in_c (OutOfRange Subject contour point) h = absurd (none_outside least greatest (in_tile tile subject) contour point in_s h)
tile_refusal least greatest tile subject clip s c in_s in_c (OutOfRange Clip contour point) h = absurd (none_outside least greatest (in_tile tile clip) contour point in_c h)
tile_refusal least greatest tile subject clip s c in_s in_c (Refused fault) h = (s, c, h.2)
