use Rattle.i_overlay.proofs.laws.GivenAgain.{results_are_given_again}
use Rattle.i_overlay.proofs.overlay.result_laws.Goals as goal

pub returns : goal.returns
returns c = results_are_given_again
