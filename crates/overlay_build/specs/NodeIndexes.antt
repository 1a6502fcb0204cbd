-- What the nodes of graphs keep.
use Rattle.std.specs.Prelude.{ℕ, ◌==◌, Bool, true, not, List, length, Vec}
use Rattle.std.specs.Global.{Global}
use Rattle.overlay_build.specs.declared.build.graph_node.OverlayNode.{OverlayNode}
use Rattle.overlay_build.specs.declared.build.graph_node.OverlayNode.TheVariants.{Bridge, Cross}

-- the indexes of the links that meet there
abbrev pub indexes_of : OverlayNode → List ℕ
indexes_of (Bridge two) = two
indexes_of (Cross several) = several.items

-- a bridge keeps two indexes, a cross any other number
abbrev pub is_canonical_node : OverlayNode → Bool
is_canonical_node (Bridge two) = length two == 2
is_canonical_node (Cross several) = not (length several.items == 2)

-- a node of lines is the list of these indexes, whatever their number
abbrev pub items_of : Vec ℕ Global → List ℕ
items_of node = node.items

abbrev pub is_any_node : Vec ℕ Global → Bool
is_any_node node = true
