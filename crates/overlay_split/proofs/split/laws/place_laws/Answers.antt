use Rattle.overlay_split.proofs.laws.nearness.Places.{pass_on_one_side, pass_keeps_winding, run_keeps_winding, exact_input_keeps_winding}
use Rattle.overlay_cuts.proofs.laws.nearness.Places.{join_keeps_winding}
use Rattle.overlay_split.proofs.laws.nearness.NearLines.{run_keeps_winding_near_lines}
use Rattle.overlay_split.proofs.laws.nearness.FarRays.{far_lies_on_none, run_keeps_rays}
use Rattle.overlay_split.proofs.split.laws.place_laws.Goals as goal

pub returns-clause-side : goal.returns-clause-side
returns-clause-side c = pass_on_one_side

pub returns-clause-join : goal.returns-clause-join
returns-clause-join c = join_keeps_winding

pub returns-clause-pass : goal.returns-clause-pass
returns-clause-pass c = pass_keeps_winding

pub returns-clause-run : goal.returns-clause-run
returns-clause-run c = run_keeps_winding

pub returns-clause-near_lines : goal.returns-clause-near_lines
returns-clause-near_lines c = run_keeps_winding_near_lines

pub returns-clause-exact_input : goal.returns-clause-exact_input
returns-clause-exact_input c = exact_input_keeps_winding

pub returns-clause-on_none : goal.returns-clause-on_none
returns-clause-on_none c = far_lies_on_none

pub returns-clause-rays : goal.returns-clause-rays
returns-clause-rays c = run_keeps_rays
