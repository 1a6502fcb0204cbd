use Rattle.std.proofs.Common.{arith}
use Rattle.std.proofs.lemmas.Result.{on_ok_weaker}
use Rattle.overlay_tree.proofs.split.solver_tree_within.find_marks_within.Goals as goal

pub returns-clause-looked : goal.returns-clause-looked
returns-clause-looked g c = on_ok_weaker c.find_marks_up_to.result (λ within. omega (arith, within)) c.find_marks_up_to.ensures.within
