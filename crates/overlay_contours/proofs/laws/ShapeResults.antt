-- The shapes that are made of a graph of code.
use Rattle.std.proofs.Common.{◌≡◌, ℕ, zero, suc, ◌<◌, sym, ap, subst, ◌∙◌, Bool, true, false, IsTrue, List, [], ◌∷◌, map, length, arith}
use Rattle.std.specs.Prelude.{ℤ, Vec, slice_index_or}
use Rattle.std.specs.Global.{Global}
use Rattle.std.specs.List.{list_all}
use Rattle.std.proofs.lemmas.Bool.{and_parts}
use Rattle.std.proofs.lemmas.List.{length-map, get_or-map}
use Rattle.std.proofs.lemmas.List.Folds.{list_all-map, list_all-append}
use Rattle.overlay_geometry.specs.Points.{Point, is_ordered}
use Rattle.overlay_geometry.specs.declared.geom.point.IntPoint.{IntPoint}
use Rattle.overlay_base.specs.Balance.{IsBalanced}
use Rattle.overlay_base.specs.Planar.{is_planar, is_arranged}
use Rattle.overlay_base.specs.Rules.{holds, keeps_fill}
use Rattle.overlay_base.specs.Segments.{WholeSegment, is_map, are_polygons}
use Rattle.overlay_base.specs.declared.overlay_core.fill_rule.FillRule.{FillRule}
use Rattle.overlay_base.specs.declared.overlay_core.link.OverlayLink.{OverlayLink}
use Rattle.overlay_base.specs.declared.overlay_core.overlay_rule.OverlayRule.{OverlayRule}
use Rattle.overlay_base.specs.declared.segm.shape_type.ShapeType.TheVariants.{Subject}
use Rattle.overlay_base.specs.Places.{winding_below}
use Rattle.overlay_base.specs.Windings.{Winding}
use Rattle.overlay_build.specs.Boundary.{directed_links, times_round}
use Rattle.overlay_build.specs.Sides.{IsBalancedOverlay}
use Rattle.overlay_build.specs.Values.{value_at}
use Rattle.overlay_build.specs.DirectedWalks.{arcs, contour}
use Rattle.overlay_build.specs.Graph.{Graph, Link, Filled, graph_by}
use Rattle.overlay_build.specs.GraphOf.{link_of, kept_of, graph_with}
use Rattle.overlay_build.specs.ShapedBoundary.{in_shape}
use Rattle.overlay_build.proofs.laws.regions.Again.{boundaries_are_shapes}
use Rattle.overlay_shapes.specs.Sectors.{HaveRegionOnLeft}
use Rattle.overlay_shapes.specs.ShapeWalks.{AreShapeWalks}
use Rattle.overlay_shapes.proofs.laws.ShapeWalks.{links_as_subject}
use Rattle.overlay_contours.specs.ContourSegments.{overlay_segments, are_in_range}
use Rattle.overlay_contours.specs.ContoursOf.{contours_of}
use Rattle.overlay_contours.specs.Shapes.{all_contours, IsShapeOverlay}
use Rattle.overlay_contours.specs.ShapesOf.{shapes_of}
use Rattle.overlay_contours.specs.Splittings.{Splitting, IsArrangement}
use Rattle.overlay_contours.proofs.laws.RegionSides.{region_on_left}
use Rattle.overlay_contours.proofs.laws.ShapeTheorem.{shape_overlay, shapes_in_range}

-- the links of an overlay in their directions are an arrangement
pub links_arranged : (least greatest : ℤ) (fill_rule : FillRule) (rule : Bool → Bool → Bool) (segments : List WholeSegment) (graph : Graph) → graph ≡ graph_by (keeps_fill rule) fill_rule segments
    → IsTrue (is_arranged least greatest segments) → IsTrue (are_polygons segments) → IsBalanced segments → IsTrue (is_arranged least greatest (in_shape Subject (directed_links rule graph)))
links_arranged least greatest fill_rule rule segments graph links arranged polygons balanced =
    subst (λ (k : Graph). IsTrue (is_arranged least greatest (in_shape Subject (directed_links rule k)))) (sym links)
    (boundaries_are_shapes least greatest Subject fill_rule rule segments arranged polygons balanced).arranged

arrangement_parts : (least greatest : ℤ) (xs : List WholeSegment) → IsTrue (is_arranged least greatest xs) → IsTrue (is_map xs) × IsTrue (is_planar xs)
unfolding is_arranged
arrangement_parts least greatest xs h = let outer = and_parts _ (is_planar xs) h in ((and_parts (is_map xs) _ outer.0).0, outer.1)

-- and have the region on their left
pub links_have_region : (least greatest : ℤ) (fill_rule : FillRule) (rule : Bool → Bool → Bool) (segments : List WholeSegment) (graph : Graph)
    → IsBalancedOverlay rule fill_rule segments graph → IsTrue (is_arranged least greatest (in_shape Subject (directed_links rule graph))) → HaveRegionOnLeft (rule false false) (directed_links rule graph)
unfolding times_round
links_have_region least greatest fill_rule rule segments graph sides arranged =
    let parts = arrangement_parts least greatest (directed_links rule graph) (subst (λ xs. IsTrue (is_arranged least greatest xs)) (links_as_subject rule graph) arranged) in
    region_on_left rule graph parts.0 parts.1 sides.boundary.closed (λ p. value_at rule fill_rule (winding_below segments p)) (λ p some. ap (λ (w : Winding). w.subj) (sides.boundary.winds p some))

parts_in_range : (least greatest : ℤ) (shapes : List (List (List Point))) → are_in_range least greatest (all_contours shapes) ≡ true → (k : ℕ) → k < length shapes → are_in_range least greatest (slice_index_or shapes k []) ≡ true
parts_in_range least greatest [] h k l = absurd (omega (arith, l))
parts_in_range least greatest (s ∷ shapes) h zero l = (and_parts (are_in_range least greatest s) (are_in_range least greatest (all_contours shapes)) (sym (list_all-append _ s (all_contours shapes)) ∙ h)).0
parts_in_range least greatest (s ∷ shapes) h (suc k) l = parts_in_range least greatest shapes (and_parts (are_in_range least greatest s) (are_in_range least greatest (all_contours shapes)) (sym (list_all-append _ s (all_contours shapes)) ∙ h)).1 k (omega (arith, l))

module _ {I D : Type 0} (least greatest : ℤ) (splitting : Splitting) (rule : OverlayRule) (fill_rule : FillRule) (subject clip : List (List Point)) (segments : List WholeSegment) (passes halves : ℕ) (whole : I → ℤ) (links : List (OverlayLink I D)) (groups : List (List (List ℕ)))
    (same : map (link_of whole) links ≡ (graph_with whole links).links) (ordered : list_all (λ l. is_ordered (link_of whole l).pair) links ≡ true)
    (a : IsArrangement splitting (overlay_segments subject clip) segments passes halves) (same_graph : graph_with whole links ≡ graph_by (keeps_fill (holds rule)) fill_rule segments) (sides : IsBalancedOverlay (holds rule) fill_rule segments (graph_with whole links))
    (arranged : IsTrue (is_arranged least greatest (in_shape Subject (directed_links (holds rule) (graph_with whole links))))) (are : AreShapeWalks (holds rule) (graph_with whole links) (arcs (holds rule) (map (link_of whole) links)) groups) where
  in_order : list_all (λ f. is_ordered f.pair) (kept_of whole links) ≡ true
  in_order = list_all-map (λ (f : Filled). is_ordered f.pair) _ links ∙ ordered

  are_walks : AreShapeWalks (holds rule) (graph_with whole links) (arcs (holds rule) (graph_with whole links).links) groups
  are_walks = subst (λ (ls : List Link). AreShapeWalks (holds rule) (graph_with whole links) (arcs (holds rule) ls) groups) same are

  here : IsTrue (is_map (directed_links (holds rule) (graph_with whole links))) × IsTrue (is_planar (directed_links (holds rule) (graph_with whole links)))
  here = arrangement_parts least greatest (directed_links (holds rule) (graph_with whole links)) (subst (λ xs. IsTrue (is_arranged least greatest xs)) (links_as_subject (holds rule) (graph_with whole links)) arranged)

  pub shape_overlay_of : IsShapeOverlay splitting rule fill_rule subject clip (map (map (contour (arcs (holds rule) (map (link_of whole) links)))) groups)
  shape_overlay_of =
      subst (λ (ls : List Link). IsShapeOverlay splitting rule fill_rule subject clip (map (map (contour (arcs (holds rule) ls))) groups)) (sym same)
      (shape_overlay splitting rule fill_rule subject clip segments passes halves (kept_of whole links) groups in_order a same_graph sides here.0 here.1 are_walks)

  module _ (inside : IsTrue (is_arranged least greatest segments)) where
    pub all_in_range : are_in_range least greatest (all_contours (map (map (contour (arcs (holds rule) (map (link_of whole) links)))) groups)) ≡ true
    all_in_range =
        subst (λ (ls : List Link). are_in_range least greatest (all_contours (map (map (contour (arcs (holds rule) ls))) groups)) ≡ true) (sym same)
        (shapes_in_range splitting rule fill_rule subject clip segments passes halves (kept_of whole links) groups in_order a same_graph sides here.0 here.1 are_walks least greatest inside)

    pub in_range_of : (shapes : List (Vec (Vec (IntPoint I) Global) Global)) → shapes_of whole shapes ≡ map (map (contour (arcs (holds rule) (map (link_of whole) links)))) groups →
        (k : ℕ) (d : Vec (Vec (IntPoint I) Global) Global) → k < length shapes → IsTrue (are_in_range least greatest (contours_of whole (slice_index_or shapes k d).items))
    in_range_of shapes e k d l =
        ap (are_in_range least greatest) (sym (get_or-map (λ (s : Vec (Vec (IntPoint I) Global) Global). contours_of whole s.items) shapes k d [] l))
        ∙ parts_in_range least greatest (shapes_of whole shapes) (ap (λ ss. are_in_range least greatest (all_contours ss)) e ∙ all_in_range) k (subst (λ n. k < n) (sym (length-map shapes (λ (s : Vec (Vec (IntPoint I) Global) Global). contours_of whole s.items))) l)
