use Rattle.overlay_cuts.proofs.laws.nearness.Distances.{LiesNear-from_ends, LiesNear-trans}
use Rattle.overlay_cuts.proofs.laws.nearness.NearMarks.{root_is_meant, root_of_power, crossing_lies_on_both, mark_is_near}
use Rattle.overlay_split.proofs.laws.nearness.Nearness.{pass_stays_near, reach_is_bounded, last_pass_reaches_nothing, exact_input_reaches_nothing}
use Rattle.overlay_split.proofs.laws.nearness.Coverings.{pieces_stay_near, run_stays_near}
use Rattle.overlay_split.proofs.laws.nearness.LineCounts.{lines_are_kept}
use Rattle.overlay_split.proofs.laws.nearness.NearMasks.{run_keeps_lines}
use Rattle.overlay_split.proofs.split.laws.nearness_laws.Goals as goal

pub returns-clause-root : goal.returns-clause-root
returns-clause-root c = root_is_meant

pub returns-clause-root_of_power : goal.returns-clause-root_of_power
returns-clause-root_of_power c = root_of_power

pub returns-clause-ends : goal.returns-clause-ends
returns-clause-ends c = LiesNear-from_ends

pub returns-clause-added : goal.returns-clause-added
returns-clause-added c = LiesNear-trans

pub returns-clause-crossing : goal.returns-clause-crossing
returns-clause-crossing c = crossing_lies_on_both

pub returns-clause-mark : goal.returns-clause-mark
returns-clause-mark c = mark_is_near

pub returns-clause-pass : goal.returns-clause-pass
returns-clause-pass c = pass_stays_near

pub returns-clause-pieces : goal.returns-clause-pieces
returns-clause-pieces c = pieces_stay_near

pub returns-clause-run : goal.returns-clause-run
returns-clause-run c = run_stays_near

pub returns-clause-lines : goal.returns-clause-lines
returns-clause-lines c = lines_are_kept

pub returns-clause-bound : goal.returns-clause-bound
returns-clause-bound c = reach_is_bounded

pub returns-clause-last_pass : goal.returns-clause-last_pass
returns-clause-last_pass c = last_pass_reaches_nothing

pub returns-clause-exact_input : goal.returns-clause-exact_input
returns-clause-exact_input c = exact_input_reaches_nothing

pub returns-clause-masks : goal.returns-clause-masks
returns-clause-masks c = run_keeps_lines
