use Rattle.std.proofs.Common.{sym, ◌∙◌}
use Rattle.overlay_geometry.specs.Meeting.{are_collinear}
use Rattle.overlay_intersections_tests.proofs.cross_solver.are_collinear.Goals as goal

pub returns-then-is_line : goal.returns-then-is_line
unfolding are_collinear
returns-then-is_line g c = rw (sym c.is_line.ensures ∙ c.if-is_line.true) c.is_line-then-is_line.ensures

pub returns-else-is_line : goal.returns-else-is_line
unfolding are_collinear
returns-else-is_line g c = rw (sym c.is_line.ensures ∙ c.if-is_line.false) c.if-is_line.false
