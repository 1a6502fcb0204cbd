-- The shape of a balanced tree over nodes in a list.
use Rattle.std.specs.Prelude.{◌≡◌, ◌≢◌, ℕ, Bool, false, ◌+◌, ◌-◌, ◌^◌, ◌<◌, ◌≤◌, ◌⊎◌, max, List, [], ◌∷◌, ◌++◌, length, slice_index_or, if◌then◌else◌, ◌==◌, ⊤}
use Rattle.overlay_upstream.specs.declared.build.tree_shape.TreeNode.{TreeNode}
use Rattle.overlay_sweep.specs.LiveRows.{Has, HasFirst, HasLast, none}

-- a tree of indexes
pub data Tree : Type 0 where
  leaf : Tree
  fork : Tree → ℕ → Tree → Tree

abbrev pub in_order : Tree → List ℕ
in_order leaf = []
in_order (fork l i r) = in_order l ++ i ∷ in_order r

abbrev pub height : Tree → ℕ
height leaf = 0
height (fork l i r) = 1 + max (height l) (height r)

-- of the two sides of a node none is higher than the other by two or more
abbrev pub IsHeightBalanced : Tree → Type 0
IsHeightBalanced leaf = ⊤
IsHeightBalanced (fork l i r) = IsHeightBalanced l × IsHeightBalanced r × (height l ≤ height r + 1) × (height r ≤ height l + 1)

abbrev pub IsDistinct : List ℕ → Type 0
IsDistinct [] = ⊤
IsDistinct (i ∷ is) = (Has is i → ⊥) × IsDistinct is

abbrev pub node_at : List TreeNode → ℕ → TreeNode
node_at nodes i = slice_index_or nodes i (record { left = 0; right = 0; height = 0 })

abbrev pub subtree_height : List TreeNode → ℕ → ℕ
subtree_height nodes i = if i == none then 0 else (node_at nodes i).height

abbrev pub parent_of : List TreeNode → ℕ → ℕ → TreeNode
parent_of nodes left right = record { left = left; right = right; height = 1 + max (subtree_height nodes left) (subtree_height nodes right) }

-- what a node needs to become the parent of two
pub record MayHaveSides (nodes : List TreeNode) (at left right : ℕ) : Type 0 where
  pub at_within : at < length nodes
  pub left_within : left ≢ none → left < length nodes
  pub right_within : right ≢ none → right < length nodes
  pub left_low : subtree_height nodes left < none
  pub right_low : subtree_height nodes right < none

-- the nodes below `at`, and itself, are linked as the tree is
abbrev pub Stands : List TreeNode → Tree → ℕ → Type 0
Stands nodes leaf at = at ≡ none
Stands nodes (fork l i r) at = (at ≡ i) × (i < length nodes) × (i < none) × ((node_at nodes i).height ≡ 1 + max (height l) (height r)) × Stands nodes l (node_at nodes i).left × Stands nodes r (node_at nodes i).right

-- a balanced tree with its nodes in this order
pub record IsTree (nodes : List TreeNode) (at : ℕ) (order : List ℕ) (high : ℕ) : Type 0 where
  pub tree : Tree
  pub stands : Stands nodes tree at
  pub balanced : IsHeightBalanced tree
  pub order_is : in_order tree ≡ order
  pub height_is : height tree ≡ high

-- the other nodes are as they were
pub record KeepsOthers (order : List ℕ) (old new : List TreeNode) : Type 0 where
  pub same_length : length new ≡ length old
  pub others : (i : ℕ) → (Has order i → ⊥) → node_at new i ≡ node_at old i

-- two trees that `at` may join, where one of them has grown or shrunk by one node
pub record AreJoinable (nodes : List TreeNode) (left at right : ℕ) : Type 0 where
  pub before : List ℕ
  pub after : List ℕ
  pub left_height : ℕ
  pub right_height : ℕ
  pub left_tree : IsTree nodes left before left_height
  pub right_tree : IsTree nodes right after right_height
  pub at_within : at < length nodes
  pub at_some : at < none
  pub distinct : IsDistinct (before ++ at ∷ after)
  pub left_near : left_height ≤ right_height + 2
  pub right_near : right_height ≤ left_height + 2
  pub left_low : left_height < 2 ^ 63
  pub right_low : right_height < 2 ^ 63

-- the tree of both, with `at` between them
pub record IsJoined (old new : List TreeNode) (at : ℕ) (order : List ℕ) (left right : ℕ) : Type 0 where
  pub high : ℕ
  pub tree : IsTree new at order high
  pub keeps : KeepsOthers order old new
  pub at_least_left : left ≤ high
  pub at_least_right : right ≤ high
  pub at_most : (high ≤ 1 + left) ⊎ (high ≤ 1 + right)
  pub exact : left ≤ right + 1 → right ≤ left + 1 → high ≡ 1 + max left right

-- `at` is the parent of both as it is
pub record IsParent (nodes : List TreeNode) (left at right : ℕ) : Type 0 where
  pub node_is : node_at nodes at ≡ parent_of nodes left right
  pub left_near : subtree_height nodes left ≤ subtree_height nodes right + 1
  pub right_near : subtree_height nodes right ≤ subtree_height nodes left + 1

-- a tree of nodes that are all different
pub record IsSound (nodes : List TreeNode) (at : ℕ) : Type 0 where
  pub order : List ℕ
  pub high : ℕ
  pub tree : IsTree nodes at order high
  pub distinct : IsDistinct order
  pub low : high < 2 ^ 63

-- the first node is taken out of a tree
pub record IsFirstRemoved (old new : List TreeNode) (first rest : ℕ) (order : List ℕ) (was : ℕ) : Type 0 where
  pub later : List ℕ
  pub order_is : order ≡ first ∷ later
  pub high : ℕ
  pub tree : IsTree new rest later high
  pub keeps : KeepsOthers order old new
  pub at_most : high ≤ was
  pub at_least : was ≤ high + 1

-- the top is taken out of a tree
pub record IsTopRemoved (old new : List TreeNode) (at rest : ℕ) (order : List ℕ) (was : ℕ) : Type 0 where
  pub before : List ℕ
  pub after : List ℕ
  pub order_is : order ≡ before ++ at ∷ after
  pub high : ℕ
  pub tree : IsTree new rest (before ++ after) high
  pub keeps : KeepsOthers order old new
  pub at_most : high ≤ was
  pub at_least : was ≤ high + 1

-- ---- a way down, to the place of what is new

-- a tree, and another of one node or none, to be placed in it
pub record MayGoDown (nodes : List TreeNode) (at new : ℕ) : Type 0 where
  pub sound : IsSound nodes at
  pub placed : List ℕ
  pub placed_high : ℕ
  pub placed_tree : IsTree nodes new placed placed_high
  pub placed_low : placed_high ≤ 1
  pub placed_distinct : IsDistinct placed
  pub disjoint : (j : ℕ) → Has sound.order j → Has placed j → ⊥

-- the way met a node that no longer lasts, and took it out
pub record IsStopped (lasts : ℕ → Bool) (old new : List TreeNode) (top : ℕ) (order : List ℕ) (was : ℕ) : Type 0 where
  pub earlier : List ℕ
  pub ended : ℕ
  pub later : List ℕ
  pub order_is : order ≡ earlier ++ ended ∷ later
  pub has_ended : lasts ended ≡ false
  pub high : ℕ
  pub tree : IsTree new top (earlier ++ later) high
  pub keeps : KeepsOthers order old new
  pub at_most : high ≤ was
  pub at_least : was ≤ high + 1

-- the way came to a place, and what is new was put there
pub record IsPlaced (lasts before : ℕ → Bool) (old new : List TreeNode) (given last top : ℕ) (order placed : List ℕ) (was : ℕ) : Type 0 where
  pub earlier : List ℕ
  pub later : List ℕ
  pub order_is : order ≡ earlier ++ later
  pub high : ℕ
  pub tree : IsTree new top (earlier ++ (placed ++ later)) high
  pub keeps : KeepsOthers (order ++ placed) old new
  pub at_least : was ≤ high
  pub at_most : high ≤ was + 1
  pub last_is : ((earlier ≡ []) × (last ≡ given)) ⊎ HasLast lasts before earlier last
  pub first_is : (later ≡ []) ⊎ HasFirst lasts before later

-- ---- what calls do with a tree

-- a node with none below it
abbrev pub lone_node : TreeNode
lone_node = record { left = none; right = none; height = 1 }

-- Two trees that `at` may join are joined, with `at` between them.
abbrev pub JoinsTrees : List TreeNode → List TreeNode → ℕ → ℕ → ℕ → ℕ → Type 0
JoinsTrees old new left at right top = (j : AreJoinable old left at right) → IsJoined old new top (j.before ++ at ∷ j.after) j.left_height j.right_height

-- The top of a tree that is sound is taken out.
abbrev pub RemovesTop : List TreeNode → List TreeNode → ℕ → ℕ → Type 0
RemovesTop old new at rest = (t : IsSound old at) → IsTopRemoved old new at rest t.order t.high
