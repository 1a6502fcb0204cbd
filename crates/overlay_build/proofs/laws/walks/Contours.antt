-- The contour of a directed walk through a graph has the walk's links as its edges.
use Rattle.std.proofs.Common.{◌≡◌, ℕ, ◌<◌, Bool, true, false, List, [], ◌∷◌, ◌++◌, map, length, get_or, refl, sym, ap, ap₂, subst, ◌∙◌, if◌then◌else◌}
use Rattle.std.specs.List.{zip, AllByRecursion}
use Rattle.std.proofs.lemmas.List.{length-map, map-append, get_or-map}
use Rattle.std.proofs.lemmas.List.Elements.{recursion_from_All}
use Rattle.overlay_geometry.specs.Points.{Point, Pair}
use Rattle.overlay_base.specs.Rules.{top_value}
use Rattle.overlay_build.specs.Graph.{Filled, Link, Node, graph_of}
use Rattle.overlay_build.specs.DirectedWalks.{turned, in_direction, arcs, no_link, along, GoesRound, contour, rotated, edges}
use Rattle.overlay_build.specs.Laws.{ContoursFollowLinks}
use Rattle.overlay_build.proofs.laws.graphs.GraphLaws.{NamesItsNodes, length-links, names_its_nodes}

zipped : (ls : List Link) → map (λ e. record { a = e.0; b = e.1 }) (zip (map (λ l. l.pair.a) ls) (map (λ l. l.pair.b) ls)) ≡ map (λ l. l.pair) ls
zipped [] = refl
zipped (l ∷ ls) = ap (λ (ps : List Pair). l.pair ∷ ps) (zipped ls)

module _ (rule : Bool → Bool → Bool) (kept : List Filled) where
  abbrev links : List Link
  links = (graph_of kept).links

  abbrev no_node : Node
  no_node = record { point = no_link.pair.a; links = [] }

  -- the point of a node
  abbrev point_of_node : ℕ → Point
  point_of_node u = (get_or (graph_of kept).nodes u no_node).point

  start_point : (t : Bool) (l : Link) → NamesItsNodes (graph_of kept) l → (if t then l else turned l).pair.a ≡ point_of_node (if t then l else turned l).a_node
  start_point true l n = sym (n.a_point no_node)
  start_point false l n = sym (n.b_point no_node)

  end_point : (t : Bool) (l : Link) → NamesItsNodes (graph_of kept) l → (if t then l else turned l).pair.b ≡ point_of_node (if t then l else turned l).b_node
  end_point true l n = sym (n.b_point no_node)
  end_point false l n = sym (n.a_point no_node)

  module _ (i : ℕ) (h : i < length (arcs rule links)) where
    low : i < length links
    low = rw (length-map links (in_direction rule)) at h

    arc_at : get_or (arcs rule links) i no_link ≡ in_direction rule (get_or links i no_link)
    arc_at = get_or-map (in_direction rule) links i no_link no_link low

    names : NamesItsNodes (graph_of kept) (get_or links i no_link)
    names = let few : i < length kept = rw (length-links kept) at low in names_its_nodes kept i no_link few

    starts_at : (get_or (arcs rule links) i no_link).pair.a ≡ point_of_node (get_or (arcs rule links) i no_link).a_node
    starts_at = let l : Link = get_or links i no_link in subst (λ (k : Link). k.pair.a ≡ point_of_node k.a_node) (sym arc_at) (start_point (top_value rule l.fill) l names)

    ends_at : (get_or (arcs rule links) i no_link).pair.b ≡ point_of_node (get_or (arcs rule links) i no_link).b_node
    ends_at = let l : Link = get_or links i no_link in subst (λ (k : Link). k.pair.b ≡ point_of_node k.b_node) (sym arc_at) (end_point (top_value rule l.fill) l names)

  start_points : (walk : List ℕ) → AllByRecursion (λ i. i < length (arcs rule links)) walk → map (λ l. l.pair.a) (along (arcs rule links) walk) ≡ map point_of_node (map (λ l. l.a_node) (along (arcs rule links) walk))
  start_points [] h = refl
  start_points (i ∷ walk) h = ap₂ (λ (p : Point) (ps : List Point). p ∷ ps) (starts_at i h.0) (start_points walk h.1)

  end_points : (walk : List ℕ) → AllByRecursion (λ i. i < length (arcs rule links)) walk → map (λ l. l.pair.b) (along (arcs rule links) walk) ≡ map point_of_node (map (λ l. l.b_node) (along (arcs rule links) walk))
  end_points [] h = refl
  end_points (i ∷ walk) h = ap₂ (λ (p : Point) (ps : List Point). p ∷ ps) (ends_at i h.0) (end_points walk h.1)

  pub edges_are_links : (walk : List ℕ) (start : ℕ) (rest : List ℕ) → GoesRound (arcs rule links) walk start rest → edges (contour (arcs rule links) walk) ≡ map (λ l. l.pair) (along (arcs rule links) walk)
  edges_are_links walk start rest w =
      let all = recursion_from_All (λ i. i < length (arcs rule links)) walk w.within in
      let starts : contour (arcs rule links) walk ≡ map point_of_node (start ∷ rest) = start_points walk all ∙ ap (map point_of_node) w.starts in
      let ends : map (λ l. l.pair.b) (along (arcs rule links) walk) ≡ map point_of_node (rest ++ (start ∷ [])) = end_points walk all ∙ ap (map point_of_node) w.ends in
      let turn : rotated (contour (arcs rule links) walk) ≡ map (λ l. l.pair.b) (along (arcs rule links) walk) = ap (λ (ps : List Point). rotated ps) starts ∙ sym (map-append point_of_node rest (start ∷ [])) ∙ sym ends in
      ap (λ (ps : List Point). map (λ e. record { a = e.0; b = e.1 }) (zip (contour (arcs rule links) walk) ps)) turn ∙ zipped (along (arcs rule links) walk)

pub contours_follow_links : ContoursFollowLinks
contours_follow_links rule kept walk w = edges_are_links rule kept walk w.0 w.1.0 w.1.1
