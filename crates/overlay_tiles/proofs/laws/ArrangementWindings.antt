-- Contours that run along the boundary of a region in a balanced, planar arrangement wind around every point as often as the rule says of
-- the arrangement's winding there. The lemmas on counts are those of overlay_contours, proofs/laws/DirectedWindings, of any contours.
use Rattle.std.proofs.Common.{◌≡◌, refl, sym, ap, ap₂, ◌∙◌, ◌+◌, ◌<◌, Bool, true, false, cond, ◌&&◌, not, List, [], ◌∷◌, map, filter, arith, ℕ, IsTrue}
use Rattle.std.specs.Prelude.{ℤ, pos, negsuc, ◌+ℤ◌, ◌-ℤ◌, count_by}
use Rattle.std.specs.List.{list_all}
use Rattle.std.proofs.lemmas.Int.{ints}
use Rattle.std.proofs.lemmas.Bool.{and_parts}
use Rattle.std.proofs.lemmas.List.Folds.{list_all-map}
use Rattle.std.proofs.lemmas.List.Sums.{sum_by-cons}
use Rattle.overlay_geometry.specs.Points.{Point, Pair, is_ordered}
use Rattle.overlay_geometry.proofs.laws.lists.Lists.{Has-filter_out, list_all-at, list_all-from_Has, list_all-and_parts}
use Rattle.overlay_base.specs.Balance.{IsBalanced}
use Rattle.overlay_base.specs.Places.{RationalPoint, lies_below, winding_below}
use Rattle.overlay_base.specs.Planar.{is_planar}
use Rattle.overlay_base.specs.Rules.{holds, keeps_fill, top_value}
use Rattle.overlay_base.specs.Segments.{WholeSegment, is_map, are_polygons}
use Rattle.overlay_base.specs.Sums.{gathered}
use Rattle.overlay_base.specs.Windings.{Winding, is_not_empty}
use Rattle.overlay_base.specs.declared.overlay_core.fill_rule.FillRule.{FillRule}
use Rattle.overlay_base.specs.declared.overlay_core.overlay_rule.OverlayRule.{OverlayRule}
use Rattle.overlay_sweep.specs.ColumnWindings.{side_bottom, side_top}
use Rattle.overlay_sweep.proofs.laws.columns.WeightSums.{when, sum_of}
use Rattle.overlay_sweep.proofs.laws.columns.ColumnLines.{filter_weights_are}
use Rattle.overlay_build.specs.Boundary.{of_subject, direction, directed_links, boundary, times_round, BoundsRegion}
use Rattle.overlay_build.specs.DirectedWalks.{arcs}
use Rattle.overlay_build.specs.Graph.{Graph, Link, graph_by}
use Rattle.overlay_build.specs.Values.{tells_apart}
use Rattle.overlay_build.proofs.laws.regions.Boundaries.{graphs_bound_regions}
use Rattle.overlay_contours.specs.Contours.{turned, is_edge, steps, directed_edges, AreProper, step_winding, winding_number}
use Rattle.overlay_contours.specs.Polygons.{run_of, RunsAlongBoundary}
use Rattle.overlay_contours.proofs.laws.DirectedWindings.{one_link}
use Rattle.overlay_contours.proofs.laws.Extracts.{ways_of, all_pass}
use Rattle.overlay_contours.proofs.laws.Overlays.{runs_of_links}

-- ---- what steps count, by their numbers on both sides

module _ (p : RationalPoint) where
  abbrev wound : List Pair → ℤ
  wound list = gathered ◌+ℤ◌ (pos 0) (step_winding p) list

  abbrev is_back : Pair → Bool
  is_back s = not (lies_below s p) && lies_below (turned s) p

  one_way : (u v : Bool) (m n : ℕ) (z : ℤ) → z ≡ pos m -ℤ pos n → cond u (pos 1) (cond v (negsuc 0) (pos 0)) +ℤ z ≡ pos (cond u 1 0 + m) -ℤ pos (cond (not u && v) 1 0 + n)
  one_way true true m n z e = omega (arith, ints, e)
  one_way true false m n z e = omega (arith, ints, e)
  one_way false true m n z e = omega (arith, ints, e)
  one_way false false m n z e = omega (arith, ints, e)

  wound_by_counts : (list : List Pair) → wound list ≡ pos (count_by (λ s. lies_below s p) list) -ℤ pos (count_by is_back list)
  wound_by_counts [] = refl
  wound_by_counts (s ∷ list) =
      one_way (lies_below s p) (lies_below (turned s) p) (count_by (λ s. lies_below s p) list) (count_by is_back list) (wound list) (wound_by_counts list)
      ∙ sym (ap₂ (λ (m n : ℕ). pos m -ℤ pos n) (sum_by-cons (λ s. cond (lies_below s p) 1 0) s list) (sum_by-cons (λ s. cond (is_back s) 1 0) s list))

  same_counts : (xs ys : List Pair) → ((test : Pair → Bool) → count_by test xs ≡ count_by test ys) → wound xs ≡ wound ys
  same_counts xs ys same = wound_by_counts xs ∙ ap₂ (λ (m n : ℕ). pos m -ℤ pos n) (same (λ s. lies_below s p)) (same is_back) ∙ sym (wound_by_counts ys)

  abbrev counted : (Bool → Bool → Bool) → Link → WholeSegment
  counted rule l = record { pair = l.pair; count = of_subject (direction rule l.fill) }

  links_wind : (rule : Bool → Bool → Bool) (links : List Link) → list_all (λ l. is_ordered l.pair) links ≡ true → wound (ways_of (arcs rule links)) ≡ sum_of (λ s. when (lies_below s.pair p) s.count.subj) (map (counted rule) links)
  unfolding direction
  links_wind rule [] h = refl
  links_wind rule (l ∷ links) h =
      let parts = and_parts (is_ordered l.pair) (list_all (λ l. is_ordered l.pair) links) h in
      ap₂ ◌+ℤ◌ (one_link p (top_value rule l.fill) l parts.0) (links_wind rule links parts.1)

  -- what links in their directions wind is the number of the subject
  links_below : (rule : Bool → Bool → Bool) (graph : Graph) → list_all (λ l. is_ordered l.pair) graph.links ≡ true → wound (ways_of (arcs rule graph.links)) ≡ (winding_below (directed_links rule graph) p).subj
  unfolding winding_below directed_links
  links_below rule graph ordered = links_wind rule graph.links ordered ∙ sym (ap (λ (w : Winding). w.subj) (filter_weights_are (λ s. lies_below s p) (map (counted rule) graph.links)))

-- ---- the boundary of a region

module _ (rule : Bool → Bool → Bool) (fill_rule : FillRule) (segments : List WholeSegment) (graph : Graph) (bounds : BoundsRegion rule fill_rule segments graph) where
  kept_ordered : IsTrue (is_map segments) → list_all (λ s. is_ordered s.pair) (boundary rule fill_rule segments) ≡ true
  unfolding boundary is_map
  kept_ordered mapped =
      list_all-map (λ (s : WholeSegment). is_ordered s.pair) _ (filter (λ s. tells_apart rule fill_rule (side_bottom segments s) (side_top segments s)) segments)
      ∙ list_all-from_Has (λ s. is_ordered s.pair) (filter (λ s. tells_apart rule fill_rule (side_bottom segments s) (side_top segments s)) segments)
      (λ s i. list_all-at (λ (s : WholeSegment). is_ordered s.pair) segments s
      (list_all-and_parts (λ (s : WholeSegment). is_ordered s.pair) (λ s. is_not_empty s.count) segments (and_parts _ _ mapped).1).0
      (Has-filter_out (λ s. tells_apart rule fill_rule (side_bottom segments s) (side_top segments s)) segments s i).0)

  links_ordered : IsTrue (is_map segments) → list_all (λ l. is_ordered l.pair) graph.links ≡ true
  unfolding directed_links
  links_ordered mapped =
      sym (list_all-map (λ (s : WholeSegment). is_ordered s.pair) (λ (l : Link). record { pair = l.pair; count = of_subject (direction rule l.fill) }) graph.links)
      ∙ ap (list_all (λ s. is_ordered s.pair)) bounds.sides
      ∙ kept_ordered mapped

-- contours that run along the boundary of a rule's region wind as the rule says, around every point
pub runs_wind : (rule : OverlayRule) (fill_rule : FillRule) (segments : List WholeSegment) (answer : List (List Point)) (p : RationalPoint)
    → IsTrue (is_map segments) → IsTrue (are_polygons segments) → IsTrue (is_planar segments) → IsBalanced segments → RunsAlongBoundary rule fill_rule segments answer → AreProper answer → 0 < p.bottom
    → winding_number answer p ≡ times_round (holds rule) fill_rule (winding_below segments p)
unfolding winding_number
runs_wind rule fill_rule segments answer p mapped polygons planar balanced runs proper some =
    let graph : Graph = graph_by (keeps_fill (holds rule)) fill_rule segments in
    let bounds = graphs_bound_regions fill_rule (holds rule) segments mapped polygons planar balanced in
    ap (wound p) (sym (all_pass is_edge (steps answer) proper.apart))
    ∙ same_counts p (directed_edges answer) (map run_of (boundary (holds rule) fill_rule segments)) runs
    ∙ ap (wound p) (ap (map run_of) (sym bounds.sides) ∙ runs_of_links (holds rule) graph)
    ∙ links_below p (holds rule) graph (links_ordered (holds rule) fill_rule segments graph bounds mapped)
    ∙ ap (λ (w : Winding). w.subj) (bounds.winds p some)
