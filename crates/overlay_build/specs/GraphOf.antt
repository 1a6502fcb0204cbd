-- A graph as it is kept: links with numbered ends, and nodes that list indexes of links.
use Rattle.std.specs.Prelude.{◌≡◌, ◌==◌, ℕ, ℤ, Bool, true, List, map}
use Rattle.std.specs.List.{list_all, list_any}
use Rattle.overlay_geometry.specs.Points.{Pair}
use Rattle.overlay_geometry.specs.PointOf.{point_of}
use Rattle.overlay_base.specs.declared.overlay_core.link.OverlayLink.{OverlayLink}
use Rattle.overlay_build.specs.Graph.{Filled, Link, Graph, graph_of}
use Rattle.overlay_build.specs.Graph.{without_nodes}
use Rattle.overlay_build.specs.Laid.{AreLaid}

-- a link in whole numbers
abbrev pub link_of : {I D : Type 0} → (I → ℤ) → OverlayLink I D → Link
link_of whole l = record { pair = record { a = point_of whole l.a.point; b = point_of whole l.b.point }; fill = l.fill; a_node = l.a.id; b_node = l.b.id }

-- the kept segments that links stand for
abbrev pub kept_of : {I D : Type 0} → (I → ℤ) → List (OverlayLink I D) → List Filled
kept_of whole links = map (λ l. without_nodes (link_of whole l)) links

-- the graph of the segments that links stand for
abbrev pub graph_with : {I D : Type 0} → (I → ℤ) → List (OverlayLink I D) → Graph
graph_with whole links = graph_of (kept_of whole links)

-- These nodes and links are those of a graph. A node keeps no point: it is that of the ends which its links have there.
pub record HoldGraph {N I D : Type 0} (indexes : N → List ℕ) (is_canonical : N → Bool) (whole : I → ℤ) (nodes : List N) (links : List (OverlayLink I D)) (graph : Graph) : Type 0 where
  pub same_links : map (link_of whole) links ≡ graph.links
  pub same_nodes : map indexes nodes ≡ map (λ n. n.links) graph.nodes
  pub form : list_all is_canonical nodes ≡ true

-- These links and lists are those of a graph: the lists have how many links meet at each node, and the indexes of these links, node by node.
pub record HoldLists {I D : Type 0} (whole : I → ℤ) (links : List (OverlayLink I D)) (degrees indexes : List ℕ) (graph : Graph) : Type 0 where
  pub same_links : map (link_of whole) links ≡ graph.links
  pub same_nodes : AreLaid (map (λ n. n.links) graph.nodes) degrees indexes

-- the ends of links
abbrev pub pairs_of_links : {I D : Type 0} → (I → ℤ) → List (OverlayLink I D) → List Pair
pairs_of_links whole links = map (λ l. (link_of whole l).pair) links

-- whether a number is among the indexes
abbrev pub names_node : ℕ → List ℕ → Bool
names_node k indexes = list_any (λ i. i == k) indexes

-- a link whose first end has the number of a node
abbrev pub with_start : {I D : Type 0} → ℕ → OverlayLink I D → OverlayLink I D
with_start id l = record l { a = record { id = id; point = l.a.point } }

-- a link whose second end has it
abbrev pub with_end : {I D : Type 0} → ℕ → OverlayLink I D → OverlayLink I D
with_end id l = record l { b = record { id = id; point = l.b.point } }
