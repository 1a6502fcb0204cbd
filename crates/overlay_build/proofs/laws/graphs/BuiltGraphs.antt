-- Graphs as they are kept, and those of the kept segments.
use Rattle.std.proofs.Common.{◌≡◌, refl, sym, ap, ◌∙◌, subst, ℕ, Bool, true, ◌&&◌, IsTrue, List, [], ◌∷◌, map, filter, length, get_or, ◌<◌}
use Rattle.std.specs.Prelude.{ℤ}
use Rattle.std.specs.List.{list_all}
use Rattle.std.proofs.lemmas.Bool.{and_parts}
use Rattle.std.proofs.lemmas.List.{length-map}
use Rattle.std.proofs.lemmas.List.Sums.{AllPass-from_list_all}
use Rattle.std.proofs.lemmas.List.Folds.{list_all-map}
use Rattle.std.proofs.lemmas.Simd.{map-map}
use Rattle.std.specs.List.Sorted.{IsStrictlySortedBy}
use Rattle.overlay_geometry.specs.Coordinates.{is_pair_in_range}
use Rattle.overlay_geometry.specs.Points.{point_lt, is_ordered, pair_cmp}
use Rattle.overlay_geometry.specs.Sorting.{is_strictly_sorted}
use Rattle.overlay_geometry.proofs.laws.geometry.Points.{pair_cmp_total}
use Rattle.overlay_geometry.proofs.laws.lists.Keys.{IsStrictlySortedBy-from_test, IsStrictlySortedBy-map_filter, is_strictly_sorted-from}
use Rattle.overlay_geometry.specs.PointOf.{point_of}
use Rattle.overlay_base.specs.Windings.{is_not_empty, is_valid}
use Rattle.overlay_geometry.proofs.laws.lists.Lists.{list_all-and_parts, list_all-filter}
use Rattle.overlay_base.specs.Segments.{WholeSegment, pairs, is_map, are_polygons}
use Rattle.overlay_base.specs.Planar.{is_arranged, is_splittable}
use Rattle.overlay_base.specs.Balance.{IsBalanced}
use Rattle.overlay_base.specs.Rules.{keeps_fill}
use Rattle.overlay_base.specs.declared.overlay_core.fill_rule.FillRule.{FillRule}
use Rattle.overlay_base.specs.declared.overlay_core.link.OverlayLink.{OverlayLink}
use Rattle.overlay_build.specs.Graph.{Filled, Graph, filled, graph_of, graph_by}
use Rattle.overlay_build.specs.GraphOf.{link_of, kept_of, pairs_of_links, graph_with, HoldGraph, HoldLists}
use Rattle.overlay_build.specs.Graph.{without_nodes}
use Rattle.overlay_build.specs.Sides.{IsBalancedOverlay}
use Rattle.overlay_build.proofs.laws.graphs.GraphLaws.{links-back, graph_by-is}
use Rattle.overlay_build.proofs.laws.regions.Boundaries.{is_balanced_overlay}

module _ {N I D : Type 0} (indexes : N → List ℕ) (is_canonical : N → Bool) (whole : I → ℤ) (nodes : List N) (links : List (OverlayLink I D)) (keeps : ℕ → Bool) (rule : FillRule) (segments : List WholeSegment) where
  -- the links of such a graph stand for the kept segments
  pub same_kept : HoldGraph indexes is_canonical whole nodes links (graph_by keeps rule segments) → kept_of whole links ≡ filter (λ f. keeps f.fill) (filled rule segments)
  same_kept h = sym (map-map without_nodes (link_of whole) links) ∙ ap (map without_nodes) h.same_links ∙ ap (λ (g : Graph). map without_nodes g.links) (graph_by-is keeps rule segments) ∙ links-back (filter (λ f. keeps f.fill) (filled rule segments))

  -- the graph of the links that stand for kept segments is that of these segments
  pub graph_with_kept : HoldGraph indexes is_canonical whole nodes links (graph_by keeps rule segments) → graph_with whole links ≡ graph_by keeps rule segments
  graph_with_kept h =
      ap graph_of (same_kept h) ∙ sym (graph_by-is keeps rule segments)

  -- so nodes and links that hold the one hold the other
  pub hold_own_graph : HoldGraph indexes is_canonical whole nodes links (graph_by keeps rule segments) → HoldGraph indexes is_canonical whole nodes links (graph_with whole links)
  hold_own_graph h = subst (HoldGraph indexes is_canonical whole nodes links) (sym (graph_with_kept h)) h

-- and the graph of links that stand for the kept segments is theirs
pub kept_graph : {I D : Type 0} (whole : I → ℤ) (given : List (OverlayLink I D)) (keeps : ℕ → Bool) (rule : FillRule) (segments : List WholeSegment) → kept_of whole given ≡ filter (λ f. keeps f.fill) (filled rule segments) → graph_with whole given ≡ graph_by keeps rule segments
kept_graph whole given keeps rule segments e = ap graph_of e ∙ sym (graph_by-is keeps rule segments)

-- an arrangement of polygons with balanced counts has a balanced overlay for each rule
pub arranged_overlay : (least greatest : ℤ) (rule : Bool → Bool → Bool) (fill_rule : FillRule) (segments : List WholeSegment) → IsTrue (is_arranged least greatest segments) → IsTrue (are_polygons segments) → IsBalanced segments →
    IsBalancedOverlay rule fill_rule segments (graph_by (keeps_fill rule) fill_rule segments)
unfolding is_arranged
arranged_overlay least greatest rule fill_rule segments arranged polygons balanced =
    let outer = and_parts _ _ arranged in
    let inner = and_parts _ _ outer.0 in
    is_balanced_overlay rule fill_rule segments inner.0 polygons outer.1 balanced

-- where each element stands for a segment without a mask, the segments are those of polygons
pub polygons_from : {X : Type 0} (whole : X → WholeSegment) → ((x : X) → (whole x).count.mask ≡ 0) → (xs : List X) → IsTrue (are_polygons (map whole xs))
polygons_from whole none [] = refl
polygons_from whole none (x ∷ xs) = rw (none x) (polygons_from whole none xs)

-- links that stand for kept segments run from their lesser end to the greater one
pub kept_links_are_ordered : {I D : Type 0} (whole : I → ℤ) (links : List (OverlayLink I D)) (keeps : ℕ → Bool) (rule : FillRule) (least greatest : ℤ) (segments : List WholeSegment) → IsTrue (is_arranged least greatest segments) →
    kept_of whole links ≡ filter (λ f. keeps f.fill) (filled rule segments) → IsTrue (list_all (λ l. is_ordered (link_of whole l).pair) links)
unfolding is_arranged is_map filled
kept_links_are_ordered whole links keeps rule least greatest segments arranged e =
    let outer = and_parts _ _ arranged in
    let inner = and_parts _ _ outer.0 in
    let parts = and_parts _ _ inner.0 in
    let each = list_all-and_parts (λ (s : WholeSegment). is_ordered s.pair) (λ (s : WholeSegment). is_not_empty s.count) segments parts.1 in
    let all : list_all (λ (f : Filled). is_ordered f.pair) (filled rule segments) ≡ true = list_all-map (λ (f : Filled). is_ordered f.pair) _ segments ∙ each.0 in
    let kept : list_all (λ (f : Filled). is_ordered f.pair) (kept_of whole links) ≡ true = ap (list_all (λ (f : Filled). is_ordered f.pair)) e ∙ list_all-filter (λ (f : Filled). is_ordered f.pair) (λ f. keeps f.fill) (filled rule segments) all in
    sym (list_all-map (λ (f : Filled). is_ordered f.pair) (λ l. without_nodes (link_of whole l)) links) ∙ kept

-- so do those of a graph that is held
pub held_links_are_ordered : {N I D : Type 0} (indexes : N → List ℕ) (is_canonical : N → Bool) (whole : I → ℤ) (nodes : List N) (links : List (OverlayLink I D)) (keeps : ℕ → Bool) (rule : FillRule) (least greatest : ℤ) (segments : List WholeSegment) → IsTrue (is_arranged least greatest segments) →
    HoldGraph indexes is_canonical whole nodes links (graph_by keeps rule segments) → IsTrue (list_all (λ l. is_ordered (link_of whole l).pair) links)
held_links_are_ordered indexes is_canonical whole nodes links keeps rule least greatest segments arranged h =
    kept_links_are_ordered whole links keeps rule least greatest segments arranged (same_kept indexes is_canonical whole nodes links keeps rule segments h)

-- and one by one
pub links_are_ordered : {I D : Type 0} (whole : I → ℤ) (links : List (OverlayLink I D)) (keeps : ℕ → Bool) (rule : FillRule) (least greatest : ℤ) (segments : List WholeSegment) → IsTrue (is_arranged least greatest segments) →
    kept_of whole links ≡ filter (λ f. keeps f.fill) (filled rule segments) → (k : ℕ) (d : OverlayLink I D) → k < length links → IsTrue (point_lt (point_of whole (get_or links k d).a.point) (point_of whole (get_or links k d).b.point))
links_are_ordered whole links keeps rule least greatest segments arranged e =
    AllPass-from_list_all (λ l. point_lt (point_of whole l.a.point) (point_of whole l.b.point)) links (kept_links_are_ordered whole links keeps rule least greatest segments arranged e)

-- and are in strict order, as the segments are
pub links_are_sorted : {I D : Type 0} (whole : I → ℤ) (links : List (OverlayLink I D)) (keeps : ℕ → Bool) (rule : FillRule) (least greatest : ℤ) (segments : List WholeSegment) → IsTrue (is_arranged least greatest segments) →
    kept_of whole links ≡ filter (λ f. keeps f.fill) (filled rule segments) → IsTrue (is_strictly_sorted pair_cmp (pairs_of_links whole links))
unfolding is_arranged is_map filled
links_are_sorted whole links keeps rule least greatest segments arranged e =
    let outer = and_parts _ _ arranged in
    let inner = and_parts _ _ outer.0 in
    let parts = and_parts _ _ inner.0 in
    let same : map (λ (f : Filled). f.pair) (filled rule segments) ≡ pairs segments = map-map (λ (f : Filled). f.pair) _ segments in
    let all : IsStrictlySortedBy pair_cmp (map (λ (f : Filled). f.pair) (filled rule segments)) = subst (IsStrictlySortedBy pair_cmp) (sym same) (IsStrictlySortedBy-from_test pair_cmp_total (pairs segments) parts.0) in
    let kept = IsStrictlySortedBy-map_filter (λ (f : Filled). f.pair) pair_cmp (λ f. keeps f.fill) (filled rule segments) all in
    let their : map (λ (f : Filled). f.pair) (filter (λ f. keeps f.fill) (filled rule segments)) ≡ pairs_of_links whole links = ap (map (λ (f : Filled). f.pair)) (sym e) ∙ map-map (λ (f : Filled). f.pair) (λ (l : OverlayLink _ _). without_nodes (link_of whole l)) links in
    is_strictly_sorted-from pair_cmp_total (pairs_of_links whole links) (subst (IsStrictlySortedBy pair_cmp) their kept)

-- and lie in range, as the segments do
pub links_are_in_range : {I D : Type 0} (whole : I → ℤ) (links : List (OverlayLink I D)) (keeps : ℕ → Bool) (rule : FillRule) (least greatest : ℤ) (segments : List WholeSegment) → IsTrue (is_arranged least greatest segments) →
    kept_of whole links ≡ filter (λ f. keeps f.fill) (filled rule segments) → IsTrue (list_all (is_pair_in_range least greatest) (pairs_of_links whole links))
unfolding is_arranged is_splittable filled
links_are_in_range whole links keeps rule least greatest segments arranged e =
    let inside : Filled → Bool = λ f. is_pair_in_range least greatest f.pair in
    let outer = and_parts _ _ arranged in
    let inner = and_parts _ _ outer.0 in
    let valid = list_all-and_parts (λ (s : WholeSegment). is_pair_in_range least greatest s.pair && is_valid s.count) (λ (s : WholeSegment). is_not_empty s.count) segments inner.1 in
    let each = list_all-and_parts (λ (s : WholeSegment). is_pair_in_range least greatest s.pair) (λ (s : WholeSegment). is_valid s.count) segments valid.0 in
    let all : list_all inside (filled rule segments) ≡ true = list_all-map inside _ segments ∙ each.0 in
    let kept : list_all inside (kept_of whole links) ≡ true = ap (list_all inside) e ∙ list_all-filter inside (λ f. keeps f.fill) (filled rule segments) all in
    list_all-map (is_pair_in_range least greatest) (λ (l : OverlayLink _ _). (link_of whole l).pair) links ∙ sym (list_all-map inside (λ l. without_nodes (link_of whole l)) links) ∙ kept

-- links that hold the graph of others are as many
pub held_length : {I D : Type 0} (whole : I → ℤ) (links given : List (OverlayLink I D)) (degrees indexes : List ℕ) → HoldLists whole links degrees indexes (graph_with whole given) → length links ≡ length given
unfolding graph_of
held_length whole links given degrees indexes held =
    sym (length-map links (link_of whole)) ∙ ap length held.same_links ∙ length-map (kept_of whole given) _ ∙ length-map given _
