use Rattle.overlay_upstream.proofs.laws.tree.NearSides.{parent_joined}
use Rattle.overlay_upstream.proofs.build.tree_shape.TreeShape.rejoin.Goals as goal

pub returns-then-is_parent-clause-joined : goal.returns-then-is_parent-clause-joined
returns-then-is_parent-clause-joined c j = parent_joined _ _ _ _ j (c.requires.parent c.if-is_parent.true)
