-- The points of nodes: a node keeps none, and its point is that of an end of the first link that it lists.
use Rattle.std.proofs.Common.{◌≡◌, ◌≢◌, ◌<◌, ◌==◌, ◌||◌, ◌+◌, ◌∷◌, ◌++◌, ℕ, ℤ, Bool, true, false, List, [], length, get_or, take, refl, sym, ap, ◌∙◌}
use Rattle.std.specs.Prelude.{pos, nat_le}
use Rattle.std.proofs.lemmas.Bool.{and_parts, eq-eqb, eqb-true, ne_eqb, ltb-true, leb-true}
use Rattle.std.proofs.lemmas.List.{get_or-map, length-map, take_more}
use Rattle.std.proofs.lemmas.List.Folds.{list_any_at}
use Rattle.std.proofs.lemmas.List.Sums.{AllPass-from_list_all}
use Rattle.overlay_geometry.specs.Points.{Point, Pair}
use Rattle.overlay_geometry.specs.PointOf.{point_of}
use Rattle.overlay_geometry.specs.declared.geom.point.IntPoint.{IntPoint}
use Rattle.overlay_base.specs.declared.overlay_core.link.OverlayLink.{OverlayLink}
use Rattle.overlay_build.specs.Graph.{Filled, Link, Node, Graph, node_points, links_at}
use Rattle.overlay_build.specs.GraphOf.{HoldGraph, kept_of, graph_with, link_of as whole_link}
use Rattle.overlay_build.specs.Graph.{without_nodes}
use Rattle.overlay_build.proofs.laws.graphs.GraphLaws.{pairs_of, length-nodes, length-links_at, links_at-exactly, node_at, degree, NamesItsNodes, names_its_nodes, stands_at_its_nodes}
use Rattle.overlay_build.proofs.laws.graphs.Indexes.{has_number}
use Rattle.overlay_build.proofs.laws.graphs.GraphValid.{node_points-positive}

abbrev pub no_node : Node
no_node = record { point = record { x = pos 0; y = pos 0 }; links = [] }

module _ {N I D : Type 0} (indexes : N → List ℕ) (is_canonical : N → Bool) (whole : I → ℤ) (nodes : List N) (links : List (OverlayLink I D)) (h : HoldGraph indexes is_canonical whole nodes links (graph_with whole links)) where
  abbrev graph : Graph
  graph = graph_with whole links

  abbrev kept : List Filled
  kept = kept_of whole links

  as_many_nodes : length nodes ≡ length graph.nodes
  as_many_nodes = sym (length-map nodes indexes) ∙ ap length h.same_nodes ∙ length-map graph.nodes (λ (n : Node). n.links)

  indexes_at : (m : ℕ) (n : N) (d : Node) → m < length nodes → indexes (get_or nodes m n) ≡ (get_or graph.nodes m d).links
  indexes_at m n d below =
      let within : m < length graph.nodes = rw as_many_nodes at below in
      sym (get_or-map indexes nodes m n (indexes n) below)
      ∙ ap (λ (l : List (List ℕ)). get_or l m (indexes n)) h.same_nodes
      ∙ get_or-map (λ (n : Node). n.links) graph.nodes m d (indexes n) within

  module _ (m : ℕ) (d : Node) (below : m < length nodes) where
    abbrev node : Node
    node = get_or graph.nodes m d

    -- the first link that the node lists
    abbrev first : ℕ
    first = get_or node.links 0 0

    abbrev point : Point
    point = get_or (node_points (pairs_of kept)) m d.point

    within_nodes : m < length graph.nodes
    within_nodes = rw as_many_nodes at below

    within_points : m < length (node_points (pairs_of kept))
    within_points = rw (length-nodes kept) at within_nodes

    lists : node.links ≡ links_at (pairs_of kept) point
    lists = ap (λ (n : Node). n.links) (node_at kept m d d.point within_points)

    some_listed : 0 < length node.links
    some_listed =
        let positive : nat_le 1 (degree (pairs_of kept) point) ≡ true = AllPass-from_list_all (λ p. nat_le 1 (degree (pairs_of kept) p)) (node_points (pairs_of kept)) (node_points-positive (pairs_of kept)) m d.point within_points in
        rw (ap length lists ∙ length-links_at (pairs_of kept) point) (leb-true 1 (degree (pairs_of kept) point) positive)

    first_is_listed : has_number first node.links ≡ true
    first_is_listed = list_any_at (λ k. k == first) node.links 0 0 some_listed (eq-eqb first first refl)

    within_kept : first < length kept
    within_kept =
        let d : Pair = record { a = point; b = point } in
        let meets = sym (links_at-exactly (pairs_of kept) point first d) ∙ ap (has_number first) (sym lists) ∙ first_is_listed in
        rw (length-map kept (λ (f : Filled). f.pair)) at (ltb-true first (length (pairs_of kept)) (and_parts _ _ meets).0)

    first_within : first < length links
    first_within = rw (length-map links (λ l. without_nodes (whole_link whole l))) at within_kept

    module _ (l : OverlayLink I D) where
      -- that link
      abbrev link : OverlayLink I D
      link = get_or links first l

      abbrev numbered : Link
      numbered = get_or graph.links first (whole_link whole l)

      same_link : whole_link whole link ≡ numbered
      same_link = sym (get_or-map (whole_link whole) links first l (whole_link whole l) first_within) ∙ ap (λ (ls : List Link). get_or ls first (whole_link whole l)) h.same_links

      named : NamesItsNodes graph numbered
      named = names_its_nodes kept first (whole_link whole l) within_kept

      point_at_start : link.a.id ≡ m → point_of whole link.a.point ≡ node.point
      point_at_start same =
          let number : numbered.a_node ≡ m = ap (λ (k : Link). k.a_node) (sym same_link) ∙ same in
          ap (λ (k : Link). k.pair.a) same_link ∙ sym (named.a_point d) ∙ ap (λ n. (get_or graph.nodes n d).point) number

      point_at_end : link.a.id ≢ m → point_of whole link.b.point ≡ node.point
      point_at_end other =
          let stands = stands_at_its_nodes kept first m (whole_link whole l) d within_kept within_nodes in
          let starts_off : (numbered.a_node == m) ≡ false = ne_eqb numbered.a_node m (λ e. other (ap (λ (k : Link). k.a_node) same_link ∙ e)) in
          let ends_here : (numbered.b_node == m) ≡ true = ap (λ b. b || (numbered.b_node == m)) (sym starts_off) ∙ sym stands ∙ first_is_listed in
          ap (λ (k : Link). k.pair.b) same_link ∙ sym (named.b_point d) ∙ ap (λ n. (get_or graph.nodes n d).point) (eqb-true numbered.b_node m ends_here)

    -- the same as it is looked up
    module _ (given : List N) (n : N) (listed : List ℕ) (all : List (OverlayLink I D)) (are_nodes : given ≡ nodes) (found : n ≡ get_or given m n) (its : listed ≡ indexes n) (are_links : all ≡ links) where
      its_links : listed ≡ node.links
      its_links = its ∙ ap indexes (found ∙ ap (λ (ns : List N). get_or ns m n) are_nodes) ∙ indexes_at m n d below

      pub lists_some : 0 < length listed
      lists_some = rw its_links some_listed

      pub lists_link : get_or listed 0 0 < length all
      lists_link = rw (its_links, are_links) first_within

      found_link : (l : OverlayLink I D) → l ≡ get_or all (get_or listed 0 0) l → l ≡ get_or links first l
      found_link l at = at ∙ ap (λ (ls : List (OverlayLink I D)). get_or ls (get_or listed 0 0) l) are_links ∙ ap (λ (is : List ℕ). get_or links (get_or is 0 0) l) its_links

      pub starts_there : (l : OverlayLink I D) → l ≡ get_or all (get_or listed 0 0) l → l.a.id ≡ m → point_of whole l.a.point ≡ node.point
      starts_there l at same =
          let is = found_link l at in
          ap (λ (k : OverlayLink I D). point_of whole k.a.point) is ∙ point_at_start l (ap (λ (k : OverlayLink I D). k.a.id) (sym is) ∙ same)

      pub ends_there : (l : OverlayLink I D) → l ≡ get_or all (get_or listed 0 0) l → l.a.id ≢ m → point_of whole l.b.point ≡ node.point
      ends_there l at other =
          let is = found_link l at in
          ap (λ (k : OverlayLink I D). point_of whole k.b.point) is ∙ point_at_end l (λ e. other (ap (λ (k : OverlayLink I D). k.a.id) is ∙ e))

  -- one node more
  pub node_is : (m : ℕ) (given : List N) (n : N) (p : IntPoint I) → given ≡ nodes → m < length given → n ≡ get_or given m n → point_of whole p ≡ (get_or graph.nodes m no_node).point
      → take (m + 1) graph.nodes ≡ take m graph.nodes ++ record { point = point_of whole p; links = indexes n } ∷ []
  node_is m given n p are_nodes below found at =
      let within : m < length nodes = rw (ap length are_nodes) at below in
      let listed : indexes n ≡ (get_or graph.nodes m no_node).links = ap indexes (found ∙ ap (λ (ns : List N). get_or ns m n) are_nodes) ∙ indexes_at m n no_node within in
      let same : get_or graph.nodes m no_node ≡ record { point = point_of whole p; links = indexes n } = λ i. record { point = sym at i; links = sym listed i } in
      take_more graph.nodes m no_node (rw as_many_nodes at within) ∙ ap (λ (k : Node). take m graph.nodes ++ k ∷ []) same
