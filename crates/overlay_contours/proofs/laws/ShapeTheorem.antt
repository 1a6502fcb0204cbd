-- The contours of walks in shapes are the shapes of an overlay.
use Rattle.std.proofs.Common.{◌≡◌, refl, sym, ap, subst, ◌∙◌, ℕ, ◌<◌, ◌%◌, ◌==◌, ◌⊎◌, inl, inr, Bool, true, false, cond, if◌then◌else◌, IsTrue, List, [], map, length, arith}
use Rattle.std.specs.Prelude.{ℤ, pos, ◌-ℤ◌, count_by, All, Contains}
use Rattle.std.specs.List.{AllByRecursion, list_all}
use Rattle.std.specs.Ordering.{int_eq}
use Rattle.std.proofs.lemmas.List.{length-map}
use Rattle.std.proofs.lemmas.List.Elements.{All-from_recursion, recursion_from_All}
use Rattle.std.proofs.lemmas.List.Sums.{length-filter}
use Rattle.overlay_geometry.specs.Points.{Point, Pair, is_ordered}
use Rattle.overlay_geometry.proofs.laws.lists.Lists.{Has, AllByRecursion-map, AllByRecursion-from_Has, AllByRecursion-at, AllByRecursion-weaker, sum_by-map}
use Rattle.overlay_base.specs.Places.{RationalPoint, lies_below, winding_below}
use Rattle.overlay_base.specs.Planar.{is_planar, is_arranged}
use Rattle.overlay_base.specs.Rules.{holds, keeps_fill}
use Rattle.overlay_base.specs.Segments.{WholeSegment, is_map}
use Rattle.overlay_base.specs.Windings.{Winding}
use Rattle.overlay_base.specs.declared.overlay_core.fill_rule.FillRule.{FillRule}
use Rattle.overlay_base.specs.declared.overlay_core.overlay_rule.OverlayRule.{OverlayRule}
use Rattle.overlay_sweep.proofs.laws.columns.Members.{is_arranged as arranged_from}
use Rattle.overlay_build.specs.Boundary.{directed_links, truth, boundary, times_round}
use Rattle.overlay_build.specs.DirectedWalks.{arcs, in_direction, contour, IsDirectedWalk}
use Rattle.overlay_build.specs.Graph.{Link, Filled, graph_of, graph_by}
use Rattle.overlay_build.specs.Regions.{encloses}
use Rattle.overlay_build.specs.Sides.{IsBalancedOverlay}
use Rattle.overlay_build.specs.Values.{value_at}
use Rattle.overlay_shapes.specs.Classes.{AreLinked}
use Rattle.overlay_shapes.specs.Gathered.{all_walks, all_links, group_at}
use Rattle.overlay_shapes.specs.Sectors.{HaveRegionOnLeft}
use Rattle.overlay_shapes.specs.ShapeWalks.{AreShapeWalks}
use Rattle.overlay_shapes.specs.SimpleWalks.{PassesOnce}
use Rattle.overlay_contours.specs.Contours.{steps, directed_edges, edges, AreProper, winding_number, is_painted}
use Rattle.overlay_contours.specs.ContourSegments.{overlay_segments, overlay_winding, are_in_range}
use Rattle.overlay_contours.specs.Polygons.{IsPolygonOverlay, IsBeyond, is_in_overlay}
use Rattle.overlay_contours.specs.Shapes.{all_contours, IsSimple, shapes_round, WindApart, IsStep, IsLed, IsBoundaryWithHoles, IsShapeOverlay}
use Rattle.overlay_contours.specs.Splittings.{Splitting, IsArrangement}
use Rattle.overlay_contours.proofs.laws.DirectedWindings.{winds_as_links}
use Rattle.overlay_contours.proofs.laws.Extracts.{ways_of, directed_count, edges_count, contours_are_proper}
use Rattle.overlay_contours.proofs.laws.Overlays.{polygon_overlay, polygon_arrangement, answer_in_range, less_nothing}
use Rattle.overlay_contours.proofs.laws.ShapeLists.{all_mapped_walks, walk_at, Has-counted}
use Rattle.overlay_contours.proofs.laws.ShapeOverlays.{between, shapes_wind_apart}
use Rattle.overlay_contours.proofs.laws.RegionSides.{region_on_left}
use Rattle.overlay_contours.proofs.laws.ShapeBounds.{boundary_with_holes}
use Rattle.overlay_contours.proofs.laws.ShapeWholes.{in_one_shape}
use Rattle.overlay_contours.proofs.laws.ShapeParts.{all_from_at, is_simple, is_led, are_linked}

zero_or_one : (b : Bool) → (truth b ≡ pos 0) ⊎ (truth b ≡ pos 1)
zero_or_one true = inr refl
zero_or_one false = inl refl

one_where : (b : Bool) → ◌≡◌ {A = ℕ} (if int_eq (truth b) (pos 0) then 0 else 1) (if b then 1 else 0)
one_where true = refl
one_where false = refl

module _ (splitting : Splitting) (rule : OverlayRule) (fill_rule : FillRule) (subject clip : List (List Point)) (segments : List WholeSegment) (passes halves : ℕ) (kept : List Filled) (groups : List (List (List ℕ)))
    (ordered : list_all (λ f. is_ordered f.pair) kept ≡ true) (a : IsArrangement splitting (overlay_segments subject clip) segments passes halves)
    (links : graph_of kept ≡ graph_by (keeps_fill (holds rule)) fill_rule segments) (sides : IsBalancedOverlay (holds rule) fill_rule segments (graph_of kept))
    (mapped : IsTrue (is_map (directed_links (holds rule) (graph_of kept)))) (planar : IsTrue (is_planar (directed_links (holds rule) (graph_of kept))))
    (are : AreShapeWalks (holds rule) (graph_of kept) (arcs (holds rule) (graph_of kept).links) groups) where
  abbrev ways : List Link
  ways = arcs (holds rule) (graph_of kept).links

  abbrev walks : List (List ℕ)
  walks = all_walks groups

  abbrev shapes : List (List (List Point))
  shapes = map (map (contour (arcs (holds rule) (graph_of kept).links))) groups

  all_are : all_contours shapes ≡ map (contour ways) walks
  all_are = all_mapped_walks (contour ways) groups

  runs : (test : Pair → Bool) → count_by test (directed_edges (all_contours shapes)) ≡ count_by test (ways_of ways)
  runs test = ap (λ (l : List (List Point)). count_by test (directed_edges l)) all_are ∙ directed_count (holds rule) kept ordered walks are.walks test

  count : (test : Pair → Bool) → count_by test (edges (all_contours shapes)) ≡ count_by test (ways_of (graph_of kept).links)
  count test = ap (λ (l : List (List Point)). count_by test (edges l)) all_are ∙ edges_count (holds rule) kept ordered walks are.walks test

  winds : (p : RationalPoint) → overlay_winding (all_contours shapes) [] p ≡ winding_below (directed_links (holds rule) (graph_of kept)) p
  winds p = ap (λ (l : List (List Point)). overlay_winding l [] p) all_are ∙ winds_as_links p (holds rule) kept ordered walks are.walks

  paints : (p : RationalPoint) → is_painted (all_contours shapes) p ≡ encloses (graph_of kept) p
  unfolding is_painted encloses
  paints p =
      ap (λ (n : ℕ). n % 2 == 1)
      (count (λ e. lies_below e p)
      ∙ sum_by-map (λ (e : Pair). cond (lies_below e p) 1 0) (λ (l : Link). l.pair) (graph_of kept).links
      ∙ sym (length-filter (λ (l : Link). lies_below l.pair p) (graph_of kept).links))

  proper : AreProper (all_contours shapes)
  proper = subst AreProper (sym all_are) (contours_are_proper (holds rule) kept ordered walks are.walks)

  polygons : IsPolygonOverlay splitting rule fill_rule subject clip (all_contours shapes)
  polygons = polygon_overlay splitting rule fill_rule subject clip (all_contours shapes) segments passes halves (graph_of kept) a links sides count paints runs winds proper

  arrangement_is : polygons.arrangement ≡ segments
  unfolding polygons
  arrangement_is = polygon_arrangement splitting rule fill_rule subject clip (all_contours shapes) segments passes halves (graph_of kept) a links sides count paints runs winds proper

  value : RationalPoint → Bool
  value p = value_at (holds rule) fill_rule (winding_below segments p)

  winds_so : (p : RationalPoint) → 0 < p.bottom → (winding_below (directed_links (holds rule) (graph_of kept)) p).subj ≡ truth (value p) -ℤ truth (holds rule false false)
  unfolding times_round value
  winds_so p some = ap (λ (w : Winding). w.subj) (sides.boundary.winds p some)

  all_wind : (p : RationalPoint) → 0 < p.bottom → winding_number (all_contours shapes) p ≡ truth (value p) -ℤ truth (holds rule false false)
  all_wind p some = ap (λ (w : Winding). w.subj) (winds p) ∙ winds_so p some

  apart : (p : RationalPoint) → 0 < p.bottom → WindApart shapes p
  apart p some = shapes_wind_apart (holds rule) kept ordered mapped planar sides.boundary.closed value winds_so groups are p some

  named : holds rule false false ≡ false → (p : RationalPoint) → 0 < p.bottom → All (λ shape. (winding_number shape p ≡ pos 0) ⊎ (winding_number shape p ≡ pos 1)) shapes
  named outside p some =
      let whole : winding_number (all_contours shapes) p ≡ truth (value p) = all_wind p some ∙ ap (λ (b : Bool). truth (value p) -ℤ truth b) outside ∙ less_nothing (value p) in
      All-from_recursion (λ shape. (winding_number shape p ≡ pos 0) ⊎ (winding_number shape p ≡ pos 1)) shapes
      (AllByRecursion-weaker (λ shape. (winding_number shape p ≡ pos 0) ⊎ (winding_number shape p ≡ winding_number (all_contours shapes) p)) (λ shape. (winding_number shape p ≡ pos 0) ⊎ (winding_number shape p ≡ pos 1))
      (λ shape h. elim h [ inl e ↦ inl e | inr e ↦ elim (zero_or_one (value p)) [ inl z ↦ inl (e ∙ whole ∙ z) | inr z ↦ inr (e ∙ whole ∙ z) ] ])
      shapes (recursion_from_All (λ shape. (winding_number shape p ≡ pos 0) ⊎ (winding_number shape p ≡ winding_number (all_contours shapes) p)) shapes (apart p some).each))

  inside : holds rule false false ≡ false → (p : RationalPoint) → 0 < p.bottom → IsBeyond polygons.halves subject clip p → shapes_round shapes p ≡ (if is_in_overlay rule fill_rule subject clip p then 1 else 0)
  inside outside p some far =
      (apart p some).one ∙ ap (λ (z : ℤ). if int_eq z (pos 0) then 0 else 1) (polygons.named_winds outside p some far) ∙ one_where (is_in_overlay rule fill_rule subject clip p)

  each_walk : AllByRecursion (IsDirectedWalk ways) walks
  each_walk = recursion_from_All (IsDirectedWalk ways) walks are.walks.closed

  simple : All IsSimple (all_contours shapes)
  simple =
      subst (All IsSimple) (sym all_are)
      (All-from_recursion IsSimple (map (contour ways) walks)
      (AllByRecursion-map IsSimple (contour ways) walks
      (AllByRecursion-from_Has (λ w. IsSimple (contour ways w)) walks (λ w m.
      is_simple (holds rule) kept ordered w (AllByRecursion-at (IsDirectedWalk ways) walks w each_walk m) (AllByRecursion-at (PassesOnce ways) walks w (recursion_from_All (PassesOnce ways) walks are.simple) m)))))

  group_closed : (k : ℕ) → k < length groups → AllByRecursion (IsDirectedWalk ways) (group_at groups k)
  group_closed k h = AllByRecursion-from_Has (IsDirectedWalk ways) (group_at groups k) (λ w m. AllByRecursion-at (IsDirectedWalk ways) walks w each_walk (walk_at groups k w h m))

  led : All IsLed shapes
  led =
      All-from_recursion IsLed shapes
      (AllByRecursion-map IsLed (map (contour ways)) groups
      (all_from_at (λ g. IsLed (map (contour ways) g)) groups [] (λ k h. is_led (holds rule) kept ordered (group_at groups k) (group_closed k h) (are.led k h))))

  runs_are : directed_links (holds rule) (graph_of kept) ≡ boundary (holds rule) fill_rule polygons.arrangement
  runs_are = sides.boundary.sides ∙ ap (boundary (holds rule) fill_rule) (sym arrangement_is)

  every_link : (i : ℕ) → i < length (graph_of kept).links → Has (all_links walks) i
  every_link i h = Has-counted (all_links walks) i (let many = length-map (graph_of kept).links (in_direction (holds rule)) in let one = are.walks.once i (omega (arith, h, many)) in omega (arith, one))

  abbrev Linked : List WholeSegment → List (List Point) → List (List Point) → Type 0
  Linked segments contours shape = (e f : Pair) → Contains (steps shape) e → Contains (steps shape) f → AreLinked (IsStep segments contours) e f

  linked : All (Linked (boundary (holds rule) fill_rule polygons.arrangement) (all_contours shapes)) shapes
  linked =
      subst (λ (l : List WholeSegment). All (Linked l (all_contours shapes)) shapes) runs_are
      (subst (λ (cs : List (List Point)). All (Linked (directed_links (holds rule) (graph_of kept)) cs) shapes) (sym all_are)
      (All-from_recursion (Linked (directed_links (holds rule) (graph_of kept)) (map (contour ways) walks)) shapes
      (AllByRecursion-map (Linked (directed_links (holds rule) (graph_of kept)) (map (contour ways) walks)) (map (contour ways)) groups
      (all_from_at (λ g. Linked (directed_links (holds rule) (graph_of kept)) (map (contour ways) walks) (map (contour ways) g)) groups [] (λ k h.
      are_linked (holds rule) kept ordered walks each_walk every_link (λ i l. (between (holds rule) kept ordered mapped planar sides.boundary.closed value winds_so groups are i l).0) (group_at groups k) (group_closed k h) (λ i j. are.linked k i j h))))))

  whole : (e f : Pair) → IsStep (boundary (holds rule) fill_rule polygons.arrangement) (all_contours shapes) e f → (shape : List (List Point)) × Contains shapes shape × Contains (steps shape) e × Contains (steps shape) f
  whole e f m =
      in_one_shape (holds rule) kept ordered (arranged_from (directed_links (holds rule) (graph_of kept)) mapped planar) groups are
      (λ i l n. (between (holds rule) kept ordered mapped planar sides.boundary.closed value winds_so groups are i l).1 n) e f
      (subst (λ (cs : List (List Point)). IsStep (directed_links (holds rule) (graph_of kept)) cs e f) all_are (subst (λ (l : List WholeSegment). IsStep l (all_contours shapes) e f) (sym runs_are) m))

  region_there : HaveRegionOnLeft (holds rule false false) (directed_links (holds rule) (graph_of kept))
  region_there = region_on_left (holds rule) (graph_of kept) mapped planar sides.boundary.closed value winds_so

  bounded : holds rule false false ≡ false → All IsBoundaryWithHoles shapes
  bounded outside =
      All-from_recursion IsBoundaryWithHoles shapes
      (AllByRecursion-map IsBoundaryWithHoles (map (contour ways)) groups
      (all_from_at (λ g. IsBoundaryWithHoles (map (contour ways) g)) groups [] (λ k h.
      boundary_with_holes (holds rule) kept ordered (arranged_from (directed_links (holds rule) (graph_of kept)) mapped planar) outside sides.boundary.closed
      (subst (λ (b : Bool). HaveRegionOnLeft b (directed_links (holds rule) (graph_of kept))) outside region_there) groups are k h)))

  pub shape_overlay : IsShapeOverlay splitting rule fill_rule subject clip (map (map (contour (arcs (holds rule) (graph_of kept).links))) groups)
  shape_overlay = record {
    overlay = polygons;
    simple = simple;
    apart = apart;
    named = named;
    inside = inside;
    linked = linked;
    whole = whole;
    led = led;
    bounded = bounded;
  }

  pub shapes_in_range : (least greatest : ℤ) → is_arranged least greatest segments ≡ true → are_in_range least greatest (all_contours shapes) ≡ true
  shapes_in_range least greatest h =
      answer_in_range splitting rule fill_rule subject clip (all_contours shapes) segments passes halves (graph_of kept) a links sides count paints runs winds proper least greatest h
