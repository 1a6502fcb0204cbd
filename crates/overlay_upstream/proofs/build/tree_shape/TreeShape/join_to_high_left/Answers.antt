use Rattle.std.proofs.Common.{refl}
use Rattle.overlay_upstream.proofs.laws.tree.HighSides.{left_inner_ready, left_outer_ready, left_turned, left_first_ready, left_second_ready, left_third_ready, left_turned_twice}
use Rattle.overlay_upstream.proofs.build.tree_shape.TreeShape.join_to_high_left.Goals as goal

pub set_sides-requires : goal.set_sides-requires
set_sides-requires c = left_inner_ready _ _ _ _ c.requires.joinable c.requires.high _ c.index-top.ensures (rw (c.height.ensures, c.height-2.ensures) at c.if-height.true)

pub set_sides-requires-then-height : goal.set_sides-requires-then-height
set_sides-requires-then-height c = left_outer_ready _ _ _ _ c.requires.joinable c.requires.high _ c.index-top.ensures (rw (c.height.ensures, c.height-2.ensures) at c.if-height.true) _ _ c.set_sides.ensures refl

pub returns-then-height : goal.returns-then-height
returns-then-height c j = left_turned _ _ _ _ j c.requires.high _ c.index-top.ensures (rw (c.height.ensures, c.height-2.ensures) at c.if-height.true) _ _ c.set_sides.ensures c.set_sides-then-height.ensures

pub set_sides-requires-2 : goal.set_sides-requires-2
set_sides-requires-2 c = left_first_ready _ _ _ _ c.requires.joinable c.requires.high _ c.index-top.ensures (rw (c.height.ensures, c.height-2.ensures) at c.if-height.false) _ c.index-middle.ensures

pub set_sides-requires-3 : goal.set_sides-requires-3
set_sides-requires-3 c = left_second_ready _ _ _ _ c.requires.joinable c.requires.high _ c.index-top.ensures (rw (c.height.ensures, c.height-2.ensures) at c.if-height.false) _ c.index-middle.ensures _ _ _ c.set_sides-2.ensures refl refl

pub set_sides-requires-4 : goal.set_sides-requires-4
set_sides-requires-4 c = left_third_ready _ _ _ _ c.requires.joinable c.requires.high _ c.index-top.ensures (rw (c.height.ensures, c.height-2.ensures) at c.if-height.false) _ c.index-middle.ensures _ _ _ c.set_sides-2.ensures c.set_sides-3.ensures refl

pub returns : goal.returns
returns c j = left_turned_twice _ _ _ _ j c.requires.high _ c.index-top.ensures (rw (c.height.ensures, c.height-2.ensures) at c.if-height.false) _ c.index-middle.ensures _ _ _ c.set_sides-2.ensures c.set_sides-3.ensures c.set_sides-4.ensures
