-- Opens every definition: a proof under the line `unfolding computing` computes with all of them.
use Rattle.std.specs.Prelude.{⊤}
use Rattle.overlay_intersections.specs.Crossing.{quotient, is_whole, truncated, nearest, nearest_upward, offset_x, offset_y, placed_by, is_exact, snapping_point, settling_point}
use Rattle.overlay_intersections.specs.Marks.{nearer_end, nearest_end, snapped_to, crossing_mark, ordered_mark, marks_by, cross_inexactly}
use Rattle.overlay_intersections.specs.CrossAnswer.{kind_of_point, crossing_answer, touch_answer, cross_answer, ends_mask, target_marks, other_marks}
use Rattle.overlay_intersections.specs.PassMarks.{marks_on, is_rounded, mark_count}
use Rattle.overlay_base.proofs.examples.Computing.{computing as base_computing}

unfoldable pub computing : Type 0
unfolding base_computing quotient is_whole truncated nearest nearest_upward offset_x offset_y placed_by is_exact snapping_point settling_point nearer_end nearest_end snapped_to crossing_mark ordered_mark marks_by cross_inexactly kind_of_point crossing_answer touch_answer cross_answer ends_mask target_marks other_marks marks_on is_rounded mark_count
computing = ⊤
