-- The text of a graph and of walks through it: one link, node or walk a line.
use Rattle.std.specs.Prelude.{◌≡◌, ◌⊎◌, ℕ, IsTrue, IsFalse, codes, if◌then◌else◌, List, [], ◌∷◌, ◌++◌, flat_map, ◌==◌, length}
use Rattle.overlay_text.specs.Output.{pair_text, numbers_text, bool_text}
use Rattle.overlay_build.specs.Graph.{Link, Node, Graph, is_valid_graph, has_even_nodes}
use Rattle.overlay_build.specs.Walks.{AreClosedWalks}

-- `link AX AY BX BY FILL AID BID`
unfoldable pub link_line : Link → List ℕ
link_line l = codes "link" ++ pair_text l.pair.a.x l.pair.a.y ++ pair_text l.pair.b.x l.pair.b.y ++ numbers_text (l.fill ∷ l.a_node ∷ l.b_node ∷ []) ++ codes "\n"

-- a node of two links is a bridge, any other a cross
abbrev pub kind_text : List ℕ → List ℕ
kind_text links = if length links == 2 then codes " bridge" else codes " cross"

-- `node X Y bridge I J` or `node X Y cross I ..`
unfoldable pub node_line : Node → List ℕ
node_line n = codes "node" ++ pair_text n.point.x n.point.y ++ kind_text n.links ++ numbers_text n.links ++ codes "\n"

-- the links, then the nodes, then `valid true` or `valid false`
unfoldable pub graph_text : Graph → List ℕ
graph_text graph = flat_map link_line graph.links ++ flat_map node_line graph.nodes ++ codes "valid " ++ bool_text (is_valid_graph graph) ++ codes "\n"

-- `walk I ..`
unfoldable pub walk_line : List ℕ → List ℕ
walk_line walk = codes "walk" ++ numbers_text walk ++ codes "\n"

-- closed walks in which every link of the graph is once, or `uneven nodes`
abbrev pub IsWalksText : Graph → List ℕ → Type 0
IsWalksText graph text =
    (IsFalse (has_even_nodes graph) × (text ≡ codes "uneven nodes\n"))
    ⊎ (IsTrue (has_even_nodes graph) × (walks : List (List ℕ)) × AreClosedWalks graph.links walks × (text ≡ flat_map walk_line walks))
