use Rattle.std.proofs.Common.{refl}
use Rattle.overlay_upstream.proofs.laws.tree.HighSides.{right_inner_ready, right_outer_ready, right_turned, right_first_ready, right_second_ready, right_third_ready, right_turned_twice}
use Rattle.overlay_upstream.proofs.build.tree_shape.TreeShape.join_to_high_right.Goals as goal

pub set_sides-requires : goal.set_sides-requires
set_sides-requires c = right_inner_ready _ _ _ _ c.requires.joinable c.requires.high _ c.index-top.ensures (rw (c.height.ensures, c.height-2.ensures) at c.if-height.true)

pub set_sides-requires-then-height : goal.set_sides-requires-then-height
set_sides-requires-then-height c = right_outer_ready _ _ _ _ c.requires.joinable c.requires.high _ c.index-top.ensures (rw (c.height.ensures, c.height-2.ensures) at c.if-height.true) _ _ c.set_sides.ensures refl

pub returns-then-height : goal.returns-then-height
returns-then-height c j = right_turned _ _ _ _ j c.requires.high _ c.index-top.ensures (rw (c.height.ensures, c.height-2.ensures) at c.if-height.true) _ _ c.set_sides.ensures c.set_sides-then-height.ensures

pub set_sides-requires-2 : goal.set_sides-requires-2
set_sides-requires-2 c = right_first_ready _ _ _ _ c.requires.joinable c.requires.high _ c.index-top.ensures (rw (c.height.ensures, c.height-2.ensures) at c.if-height.false) _ c.index-middle.ensures

pub set_sides-requires-3 : goal.set_sides-requires-3
set_sides-requires-3 c = right_second_ready _ _ _ _ c.requires.joinable c.requires.high _ c.index-top.ensures (rw (c.height.ensures, c.height-2.ensures) at c.if-height.false) _ c.index-middle.ensures _ _ _ c.set_sides-2.ensures refl refl

pub set_sides-requires-4 : goal.set_sides-requires-4
set_sides-requires-4 c = right_third_ready _ _ _ _ c.requires.joinable c.requires.high _ c.index-top.ensures (rw (c.height.ensures, c.height-2.ensures) at c.if-height.false) _ c.index-middle.ensures _ _ _ c.set_sides-2.ensures c.set_sides-3.ensures refl

pub returns : goal.returns
returns c j = right_turned_twice _ _ _ _ j c.requires.high _ c.index-top.ensures (rw (c.height.ensures, c.height-2.ensures) at c.if-height.false) _ c.index-middle.ensures _ _ _ c.set_sides-2.ensures c.set_sides-3.ensures c.set_sides-4.ensures
