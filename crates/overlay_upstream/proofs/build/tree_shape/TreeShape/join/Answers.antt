use Rattle.std.proofs.Common.{arith}
use Rattle.overlay_upstream.proofs.laws.tree.NearSides.{left_fits, right_fits, left_too_high, right_too_high, near_ready, near_joined}
use Rattle.overlay_upstream.proofs.build.tree_shape.TreeShape.join.Goals as goal

pub overflow_add-right_height : goal.overflow_add-right_height
overflow_add-right_height c = record { fits = right_fits _ _ _ _ c.requires _ _ c.height-left_height.ensures c.height-right_height.ensures }

pub overflow_add-left_height : goal.overflow_add-left_height
overflow_add-left_height c = record { fits = left_fits _ _ _ _ c.requires _ _ c.height-left_height.ensures c.height-right_height.ensures }

pub join_to_high_left-requires-clause-high : goal.join_to_high_left-requires-clause-high
join_to_high_left-requires-clause-high c = left_too_high _ _ _ _ c.requires _ _ c.height-left_height.ensures c.height-right_height.ensures c.if-right_height-left_height.true

pub join_to_high_right-requires-clause-high : goal.join_to_high_right-requires-clause-high
join_to_high_right-requires-clause-high c = right_too_high _ _ _ _ c.requires _ _ c.height-left_height.ensures c.height-right_height.ensures c.if-left_height-right_height.true

pub set_sides-requires : goal.set_sides-requires
set_sides-requires c = near_ready _ _ _ _ c.requires _ _ c.height-left_height.ensures c.height-right_height.ensures

pub returns : goal.returns
returns c j = near_joined _ _ _ _ j _ _ c.height-left_height.ensures c.height-right_height.ensures (omega (arith, c.if-right_height-left_height.false)) (omega (arith, c.if-left_height-right_height.false)) _ c.set_sides.ensures
