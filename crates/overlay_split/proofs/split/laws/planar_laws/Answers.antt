use Rattle.overlay_cuts.proofs.laws.planar.PlanarPasses.{exact_pass_is_planar}
use Rattle.overlay_split.proofs.laws.planar.Arranged.{planar_pass_is_unchanged, arranged_is_unchanged}
use Rattle.overlay_split.proofs.laws.planar.PlanarRuns.{run_is_planar, result_is_unchanged}
use Rattle.overlay_split.proofs.laws.passes.UnmarkedPairs.{unmarked_are_apart, part_has_the_marks}
use Rattle.overlay_split.proofs.laws.passes.OldPairs.{pass_has_old_or_marked}
use Rattle.overlay_split.proofs.split.laws.planar_laws.Goals as goal

pub returns-clause-exact_pass : goal.returns-clause-exact_pass
returns-clause-exact_pass c = exact_pass_is_planar

pub returns-clause-planar_pass : goal.returns-clause-planar_pass
returns-clause-planar_pass c = planar_pass_is_unchanged

pub returns-clause-run : goal.returns-clause-run
returns-clause-run c = run_is_planar

pub returns-clause-arranged : goal.returns-clause-arranged
returns-clause-arranged c = arranged_is_unchanged

pub returns-clause-again : goal.returns-clause-again
returns-clause-again c = result_is_unchanged

pub returns-clause-unmarked : goal.returns-clause-unmarked
returns-clause-unmarked c = unmarked_are_apart

pub returns-clause-part : goal.returns-clause-part
returns-clause-part c = part_has_the_marks

pub returns-clause-old : goal.returns-clause-old
returns-clause-old c = pass_has_old_or_marked
