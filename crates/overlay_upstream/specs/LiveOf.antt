-- What a list, a tree and a runner keep, as the clauses of their calls name it.
use Rattle.std.specs.Prelude.{ℕ, ℤ, List, length}
use Rattle.overlay_base.specs.Segments.{WholeSegment}
use Rattle.overlay_sweep.specs.EntryOf.{entries_of}
use Rattle.overlay_sweep.specs.LiveRows.{IsScanList}
use Rattle.overlay_upstream.specs.ScanTrees.{IsScanTree}
use Rattle.overlay_sweep.specs.declared.build.entry.Entry.{Entry}
use Rattle.overlay_upstream.specs.declared.build.scan_list.ScanList.{ScanList}
use Rattle.overlay_upstream.specs.declared.build.scan_tree.ScanTree.{ScanTree}

-- the entries of a list, and their segments with the sums as counts
abbrev pub list_entries : {C I : Type 0} {m : _} {w : _} {o : _} {e : _} {p : _} → ScanList C I m w o e p → List (Entry C I m w o e p)
list_entries list = list.entries.items

abbrev pub list_sums : {C I : Type 0} {m : _} {w : _} {o : _} {e : _} {p : _} → ScanList C I m w o e p → List WholeSegment
list_sums list = entries_of (list_entries list)

-- how many entries it holds
abbrev pub list_held : {C I : Type 0} {m : _} {w : _} {o : _} {e : _} {p : _} → ScanList C I m w o e p → ℕ
list_held list = length (list_entries list)

-- the list is in order at x
abbrev pub IsInOrderAt : {C I : Type 0} {m : _} {w : _} {o : _} {e : _} {p : _} → ℤ → ScanList C I m w o e p → Type 0
IsInOrderAt {w = w} x list = IsScanList x (list_sums list) (w.whole list.least_end)

-- the entries of a tree since it was cleared, those that were taken out too; their segments with the sums as counts; and how many of them are in the tree
abbrev pub tree_entries : {C I : Type 0} {m : _} {w : _} {o : _} {e : _} {p : _} → ScanTree C I m w o e p → List (Entry C I m w o e p)
tree_entries tree = tree.entries.items

abbrev pub tree_sums : {C I : Type 0} {m : _} {w : _} {o : _} {e : _} {p : _} → ScanTree C I m w o e p → List WholeSegment
tree_sums tree = entries_of (tree_entries tree)

abbrev pub tree_held : {C I : Type 0} {m : _} {w : _} {o : _} {e : _} {p : _} → ScanTree C I m w o e p → ℕ
tree_held tree = tree.kept

-- the tree is sound at x
abbrev pub IsSoundAt : {C I : Type 0} {m : _} {w : _} {o : _} {e : _} {p : _} → ℤ → ScanTree C I m w o e p → Type 0
IsSoundAt x tree = IsScanTree x (tree_sums tree) tree.shape.nodes.items tree.root tree.kept

-- how many orders the last call has compared, and the last run that succeeded
abbrev pub list_asked : {C I : Type 0} {m : _} {w : _} {o : _} {e : _} {p : _} → ScanList C I m w o e p → ℕ
list_asked list = list.compared

abbrev pub tree_asked : {C I : Type 0} {m : _} {w : _} {o : _} {e : _} {p : _} → ScanTree C I m w o e p → ℕ
tree_asked tree = tree.compared
