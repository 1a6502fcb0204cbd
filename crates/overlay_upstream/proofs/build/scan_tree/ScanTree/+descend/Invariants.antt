use Rattle.overlay_upstream.specs.TreeShapes.{subtree_height}
use Rattle.overlay_upstream.proofs.build.scan_tree.ScanTree.+descend.Given as goal

abbrev pub decreases-descend : goal.decreases-descend
decreases-descend g l = subtree_height l.self.now.shape.nodes.items l.at
