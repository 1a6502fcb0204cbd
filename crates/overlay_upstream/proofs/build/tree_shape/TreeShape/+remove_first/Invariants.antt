use Rattle.overlay_upstream.specs.TreeShapes.{subtree_height}
use Rattle.overlay_upstream.proofs.build.tree_shape.TreeShape.+remove_first.Given as goal

abbrev pub decreases-remove_first : goal.decreases-remove_first
decreases-remove_first l = subtree_height l.self.now.nodes.items l.at
