-- The graph of the kept segments: a link for each, a node for each of their ends.
use Rattle.std.specs.Prelude.{ℕ, ◌==◌, ◌%◌, nat_le, Bool, ◌&&◌, ◌||◌, List, ◌++◌, filter, map, length, position, unwrap_or}
use Rattle.std.specs.List.{enumerate_from, list_all}
use Rattle.overlay_geometry.specs.Points.{Point, Pair, point_cmp, point_eq}
use Rattle.overlay_geometry.specs.Sorting.{distinct_in_order}
use Rattle.overlay_base.specs.Segments.{WholeSegment, ends}
use Rattle.overlay_base.specs.EdgeData.{DataSegment, without_data}
use Rattle.overlay_base.specs.declared.overlay_core.fill_rule.FillRule.{FillRule}
use Rattle.overlay_sweep.specs.Sweep.{whole_of, fill_of}

-- a segment of an arrangement with its fill
pub record Filled : Type 0 where
  pub pair : Pair
  pub fill : ℕ

-- a link with the numbers of the nodes at its ends
pub record Link : Type 0 where
  pub pair : Pair
  pub fill : ℕ
  pub a_node : ℕ
  pub b_node : ℕ

-- a node with the indexes of the links that meet there
pub record Node : Type 0 where
  pub point : Point
  pub links : List ℕ

pub record Graph : Type 0 where
  pub links : List Link
  pub nodes : List Node

-- every segment with its fill
unfoldable pub filled : FillRule → List WholeSegment → List Filled
filled rule segments = map (λ s. record { pair = s.pair; fill = fill_of rule segments s }) segments

-- the fills alone
abbrev pub fills_of : FillRule → List WholeSegment → List ℕ
fills_of rule segments = map (λ s. fill_of rule segments s) segments

-- the distinct ends of links, in order
unfoldable pub node_points : List Pair → List Point
node_points links = distinct_in_order point_cmp (ends links)

-- the indexes of the elements that pass
unfoldable pub indexes_where : {X : Type 0} → (X → Bool) → List X → List ℕ
indexes_where test xs = map (λ e. e.0) (filter (λ e. test e.1) (enumerate_from 0 xs))

-- the links that start at p, then those that end there, both by rising index
unfoldable pub links_at : List Pair → Point → List ℕ
links_at links p = indexes_where (λ l. point_eq l.a p) links ++ indexes_where (λ l. point_eq l.b p) links

unfoldable pub nodes_of_pairs : List Pair → List Node
nodes_of_pairs links = map (λ p. record { point = p; links = links_at links p }) (node_points links)

-- the number of the node at p
unfoldable pub node_number : List Pair → Point → ℕ
node_number links p = unwrap_or (position (λ q. point_eq q p) (node_points links)) 0

-- the graph whose links are the given segments, in their order
unfoldable pub graph_of : List Filled → Graph
graph_of kept =
    let links : List Pair = map (λ f. f.pair) kept in
    record {
      links = map (λ f. record { pair = f.pair; fill = f.fill; a_node = node_number links f.pair.a; b_node = node_number links f.pair.b }) kept;
      nodes = nodes_of_pairs links;
    }

-- the graph of the segments of an arrangement whose fill passes the test
unfoldable pub graph_by : (ℕ → Bool) → FillRule → List WholeSegment → Graph
graph_by keeps rule segments = graph_of (filter (λ f. keeps f.fill) (filled rule segments))

-- the data of these segments, in the order of the links
unfoldable pub data_by : {D : Type 0} → (ℕ → Bool) → FillRule → List (DataSegment D) → List D
data_by keeps rule segments = map (λ s. s.edge_data) (filter (λ s. keeps (fill_of rule (without_data segments) (whole_of s))) segments)

-- a node of two links is a bridge, any other is a cross
abbrev pub is_bridge : Node → Bool
is_bridge node = length node.links == 2

-- No cross has fewer than two links; where there is a cross, there are no more nodes than links.
unfoldable pub is_valid_graph : Graph → Bool
is_valid_graph graph =
    list_all (λ n. is_bridge n || nat_le 2 (length n.links)) graph.nodes
    && (list_all is_bridge graph.nodes || nat_le (length graph.nodes) (length graph.links))

unfoldable pub has_even_nodes : Graph → Bool
has_even_nodes graph = list_all (λ n. length n.links % 2 == 0) graph.nodes

-- a link without the numbers of its nodes
abbrev pub without_nodes : Link → Filled
without_nodes l = record { pair = l.pair; fill = l.fill }
