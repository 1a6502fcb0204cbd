use Rattle.std.proofs.Common.{◌∙◌}
use Rattle.overlay_upstream.proofs.laws.tree.TreeTurns.{tree_height}
use Rattle.overlay_upstream.proofs.laws.tree.ScanGrowth.{scan_depth}
use Rattle.overlay_upstream.proofs.build.scan_tree.ScanTree.depth.Goals as goal

pub returns-clause-longest : goal.returns-clause-longest
returns-clause-longest g c = λ x t. c.height.ensures ∙ tree_height _ _ _ _ t.tree

pub returns-clause-low : goal.returns-clause-low
returns-clause-low g c = λ x t. scan_depth _ _ _ _ _ t _ (c.height.ensures ∙ tree_height _ _ _ _ t.tree)
