-- Nodes and look-ups as whole numbers.
use Rattle.std.specs.Prelude.{ℤ, Option, None, Some, List, map, ℕ, Bool}
use Rattle.overlay_tree.specs.steps.IntervalTree.{Entry, WholeQuery, TreeNode, entries, left_by, found, is_dropped, HasLooked}
use Rattle.overlay_tree.specs.declared.split.interval_tree.Node.{Node}
use Rattle.overlay_tree.specs.declared.split.interval_tree.Query.{Query}
use Rattle.std.specs.List.{list_any}

abbrev pub query_of : {I : Type 0} → (I → ℤ) → Query I → WholeQuery
query_of whole q = record { low = whole q.heights.min; high = whole q.heights.max; x = whole q.x }

abbrev pub highest_of : {I : Type 0} → (I → ℤ) → Option I → Option ℤ
highest_of whole None = None
highest_of whole (Some y) = Some (whole y)

abbrev pub node_entry : {I : Type 0} → (I → ℤ) → Node I → Entry
node_entry whole n = record { low = whole n.low; high = whole n.high; end_x = whole n.end_x; index = n.index; is_live = n.is_live }

abbrev pub node_of : {I : Type 0} → (I → ℤ) → Node I → TreeNode
node_of whole n = record { entry = node_entry whole n; greatest = highest_of whole n.greatest }

abbrev pub tree_nodes : {I : Type 0} → (I → ℤ) → List (Node I) → List TreeNode
tree_nodes whole nodes = map (node_of whole) nodes

-- the entries of nodes
abbrev pub node_entries : {I : Type 0} → (I → ℤ) → List (Node I) → List Entry
node_entries whole nodes = entries (tree_nodes whole nodes)

-- what a look-up leaves of them
abbrev pub entries_left : {I : Type 0} → (I → ℤ) → Query I → List (Node I) → List Entry
entries_left whole query nodes = map (left_by (query_of whole query)) (node_entries whole nodes)

-- the indexes that it finds among them
abbrev pub found_in : {I : Type 0} → (I → ℤ) → Query I → List (Node I) → List ℕ
found_in whole query nodes = found (query_of whole query) (node_entries whole nodes)

-- how many of them it compares
abbrev pub HasLookedIn : {I : Type 0} → (I → ℤ) → Query I → List (Node I) → ℕ → ℕ → Type 0
HasLookedIn whole query nodes old now = HasLooked (query_of whole query) (node_entries whole nodes) old now

-- whether it drops one of them
abbrev pub drops_some : {I : Type 0} → (I → ℤ) → Query I → List (Node I) → Bool
drops_some whole query nodes = list_any (is_dropped (query_of whole query)) (node_entries whole nodes)
