use Rattle.std.proofs.Common.{sym, ◌∙◌}
use Rattle.overlay_c.proofs.Ranges.{tests_records, tests_loaded}
use Rattle.overlay_c.proofs.engine.Engine.add_contour_in_tile.Goals as goal

pub returns-then-not-are_in_range-clause-refused : goal.returns-then-not-are_in_range-clause-refused
returns-then-not-are_in_range-clause-refused c =
    sym (tests_records _ _ _ c.are_in_range.ensures c.deref.ensures.value _ c.in_ok-load_points.ensures) ∙ c.if-not-are_in_range.true

pub contour_in_tile-requires : goal.contour_in_tile-requires
contour_in_tile-requires c = tests_loaded _ _ _ c.are_in_range.ensures c.deref.ensures.value _ c.deref-2.ensures.value c.if-not-are_in_range.false

pub returns-in_default-clause-in_range : goal.returns-in_default-clause-in_range
returns-in_default-clause-in_range c =
    sym (tests_records _ _ _ c.are_in_range.ensures c.deref.ensures.value _ c.in_ok-load_points.ensures) ∙ c.if-not-are_in_range.false

pub returns-clause-in_range : goal.returns-clause-in_range
returns-clause-in_range c =
    sym (tests_records _ _ _ c.are_in_range.ensures c.deref.ensures.value _ c.in_ok-load_points.ensures) ∙ c.if-not-are_in_range.false
