-- The contours that are made of a graph of code: those of its directed walks.
use Rattle.std.proofs.Common.{◌≡◌, sym, ap, subst, ◌∙◌, ℕ, ◌<◌, ◌%◌, ◌==◌, get_or, length, Bool, true, cond, List, [], map, arith}
use Rattle.std.specs.Prelude.{ℤ, All, count_by}
use Rattle.std.specs.List.{list_all}
use Rattle.std.proofs.lemmas.List.{length-map}
use Rattle.std.proofs.lemmas.List.Folds.{list_all-map}
use Rattle.std.proofs.lemmas.List.Sums.{length-filter}
use Rattle.std.proofs.lemmas.Simd.{map-map}
use Rattle.overlay_geometry.specs.Points.{Pair, is_ordered}
use Rattle.overlay_geometry.proofs.laws.lists.Lists.{sum_by-map}
use Rattle.overlay_base.specs.Places.{RationalPoint, lies_below, winding_below}
use Rattle.overlay_base.specs.declared.overlay_core.link.OverlayLink.{OverlayLink}
use Rattle.overlay_build.specs.Boundary.{directed_links}
use Rattle.overlay_build.specs.DirectedWalks.{in_direction, arcs, no_link, IsDirectedWalk, AreDirectedWalks, contour}
use Rattle.overlay_build.specs.Graph.{Filled, Link}
use Rattle.overlay_build.specs.GraphOf.{link_of, kept_of, graph_with, pairs_of_links}
use Rattle.overlay_build.specs.Regions.{encloses}
use Rattle.overlay_contours.specs.Contours.{steps_of, directed_edges, edges, AreProper, is_painted}
use Rattle.overlay_contours.specs.ContourSegments.{overlay_winding}
use Rattle.overlay_contours.proofs.laws.Extracts.{mapped_at, ways_of, steps_of_walk, directed_count, edges_count, contours_are_proper}
use Rattle.overlay_contours.proofs.laws.DirectedWindings.{winds_as_links}

-- the links of a graph of code, without directions
pub graph_pairs : {I D : Type 0} (whole : I → ℤ) (links : List (OverlayLink I D)) → map (link_of whole) links ≡ (graph_with whole links).links → ways_of (graph_with whole links).links ≡ pairs_of_links whole links
graph_pairs whole links same = ap ways_of (sym same) ∙ map-map (λ (l : Link). l.pair) (link_of whole) links

module _ {I D : Type 0} (whole : I → ℤ) (rule : Bool → Bool → Bool) (links : List (OverlayLink I D)) where
  abbrev ways : List Link
  ways = arcs rule (map (link_of whole) links)

  as_many : length ways ≡ length links
  as_many = length-map (map (link_of whole) links) (in_direction rule) ∙ length-map links (link_of whole)

  -- where the link at an index starts
  pub starts_at : (i : ℕ) (l : OverlayLink I D) → i < length links → l ≡ get_or links i l → (in_direction rule (link_of whole l)).pair.a ≡ (get_or ways i no_link).pair.a
  starts_at i l low is =
      let same : length (map (link_of whole) links) ≡ length links = length-map links (link_of whole) in
      sym (ap (λ (m : Link). m.pair.a) (mapped_at (in_direction rule) (map (link_of whole) links) i (link_of whole l) no_link (omega arith) (sym (mapped_at (link_of whole) links i l (link_of whole l) low is))))

  pub walks_within : (walk : List ℕ) → IsDirectedWalk ways walk → All (λ i. i < length links) walk
  walks_within walk w = subst (λ (n : ℕ). All (λ i. i < n) walk) as_many w.1.1.within

  -- the steps of the contour of a walk are its links
  pub steps_of_directed_walk : map (link_of whole) links ≡ (graph_with whole links).links → list_all (λ l. is_ordered (link_of whole l).pair) links ≡ true → (walk : List ℕ) → IsDirectedWalk ways walk →
      steps_of (contour ways walk) ≡ map (λ i. (get_or ways i no_link).pair) walk
  steps_of_directed_walk same ordered walk w =
      subst (λ (ls : List Link). steps_of (contour (arcs rule ls) walk) ≡ map (λ i. (get_or (arcs rule ls) i no_link).pair) walk) (sym same)
      (steps_of_walk rule (kept_of whole links) (list_all-map (λ (f : Filled). is_ordered f.pair) _ links ∙ ordered) walk (subst (λ (ls : List Link). IsDirectedWalk (arcs rule ls) walk) same w))

  module _ (same : map (link_of whole) links ≡ (graph_with whole links).links) (ordered : list_all (λ l. is_ordered (link_of whole l).pair) links ≡ true) (walks : List (List ℕ)) (are : AreDirectedWalks ways walks) where
    in_order : list_all (λ f. is_ordered f.pair) (kept_of whole links) ≡ true
    in_order = list_all-map (λ (f : Filled). is_ordered f.pair) _ links ∙ ordered

    are_walks : AreDirectedWalks (arcs rule (graph_with whole links).links) walks
    are_walks = subst (λ (ls : List Link). AreDirectedWalks (arcs rule ls) walks) same are

    pub directed_as_links : (test : Pair → Bool) → count_by test (directed_edges (map (contour ways) walks)) ≡ count_by test (ways_of ways)
    directed_as_links test =
        subst (λ (ls : List Link). count_by test (directed_edges (map (contour (arcs rule ls)) walks)) ≡ count_by test (ways_of (arcs rule ls))) (sym same)
        (directed_count rule (kept_of whole links) in_order walks are_walks test)

    pub winds : (p : RationalPoint) → overlay_winding (map (contour ways) walks) [] p ≡ winding_below (directed_links rule (graph_with whole links)) p
    winds p =
        subst (λ (ls : List Link). overlay_winding (map (contour (arcs rule ls)) walks) [] p ≡ winding_below (directed_links rule (graph_with whole links)) p) (sym same)
        (winds_as_links p rule (kept_of whole links) in_order walks are_walks)

    pub edges_as_links : (test : Pair → Bool) → count_by test (edges (map (contour ways) walks)) ≡ count_by test (pairs_of_links whole links)
    edges_as_links test =
        subst (λ (ls : List Link). count_by test (edges (map (contour (arcs rule ls)) walks)) ≡ count_by test (ways_of (graph_with whole links).links)) (sym same)
        (edges_count rule (kept_of whole links) in_order walks are_walks test)
        ∙ ap (count_by test) (graph_pairs whole links same)

    pub are_proper : AreProper (map (contour ways) walks)
    are_proper =
        subst (λ (ls : List Link). AreProper (map (contour (arcs rule ls)) walks)) (sym same)
        (contours_are_proper rule (kept_of whole links) in_order walks are_walks)

    -- so the contours paint what the links enclose
    pub paints : (p : RationalPoint) → is_painted (map (contour ways) walks) p ≡ encloses (graph_with whole links) p
    unfolding is_painted encloses
    paints p =
        ap (λ (n : ℕ). n % 2 == 1)
        (edges_as_links (λ e. lies_below e p)
        ∙ sym (ap (count_by (λ (e : Pair). lies_below e p)) (graph_pairs whole links same))
        ∙ sum_by-map (λ (e : Pair). cond (lies_below e p) 1 0) (λ (l : Link). l.pair) (graph_with whole links).links
        ∙ sym (length-filter (λ (l : Link). lies_below l.pair p) (graph_with whole links).links))
