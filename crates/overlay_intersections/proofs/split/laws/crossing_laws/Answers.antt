use Rattle.overlay_intersections.proofs.laws.crossings.CrossingLaws.{never_three_zeros, exact_is_on_both_lines, target_does_not_matter, points_lie_in_both_boxes, snapped_ends_are_off_the_line, no_end_of_both}
use Rattle.overlay_intersections.proofs.split.laws.crossing_laws.Goals as goal

pub returns-clause-turns : goal.returns-clause-turns
returns-clause-turns c = never_three_zeros

pub returns-clause-exact : goal.returns-clause-exact
returns-clause-exact c = exact_is_on_both_lines

pub returns-clause-target : goal.returns-clause-target
returns-clause-target c = target_does_not_matter

pub returns-clause-boxes : goal.returns-clause-boxes
returns-clause-boxes c = points_lie_in_both_boxes

pub returns-clause-snapped_ends : goal.returns-clause-snapped_ends
returns-clause-snapped_ends c = snapped_ends_are_off_the_line

pub returns-clause-settled_ends : goal.returns-clause-settled_ends
returns-clause-settled_ends c = no_end_of_both
