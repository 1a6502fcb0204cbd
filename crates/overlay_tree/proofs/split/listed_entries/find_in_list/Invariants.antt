use Rattle.std.proofs.Common.{drop}
use Rattle.overlay_tree.specs.steps.IntervalTree.{entries}
use Rattle.overlay_tree.specs.steps.NodeOf.{tree_nodes, query_of}
use Rattle.overlay_tree.proofs.laws.tree.TreeCuts.{IsLookedThrough}
use Rattle.overlay_tree.proofs.split.listed_entries.find_in_list.Given as goal

abbrev pub invariant-loop-place : goal.invariant-loop-place
invariant-loop-place g l =
    IsLookedThrough (query_of g.I.OverlayInt.whole l.query) (entries (tree_nodes g.I.OverlayInt.whole l.nodes)) l.fn.indexes.items l.indexes.items l.fn.looked l.count (drop l.place (entries (tree_nodes g.I.OverlayInt.whole l.nodes)))
