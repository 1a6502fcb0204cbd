use Rattle.std.proofs.Common.{refl}
use Rattle.std.proofs.lemmas.Result.{IfOk-from_err}
use Rattle.overlay_tree.proofs.split.solver_tree.find_marks.Goals as goal

pub find_marks_up_to-requires-clause-sorted : goal.find_marks_up_to-requires-clause-sorted
find_marks_up_to-requires-clause-sorted g c = c.requires.sorted

pub find_marks_up_to-requires-clause-in_range : goal.find_marks_up_to-requires-clause-in_range
find_marks_up_to-requires-clause-in_range g c = c.requires.in_range

pub find_marks_up_to-requires-clause-radius : goal.find_marks_up_to-requires-clause-radius
find_marks_up_to-requires-clause-radius g c = c.requires.radius

pub returns-in_err-found-clause-marks : goal.returns-in_err-found-clause-marks
returns-in_err-found-clause-marks g c = IfOk-from_err c.from_residual.result _ c.from_residual.ensures.0

pub returns-in_err-found-clause-rounded : goal.returns-in_err-found-clause-rounded
returns-in_err-found-clause-rounded g c = IfOk-from_err c.from_residual.result _ c.from_residual.ensures.0

pub returns-in_err-found-clause-looked : goal.returns-in_err-found-clause-looked
returns-in_err-found-clause-looked g c = IfOk-from_err c.from_residual.result _ c.from_residual.ensures.0

pub returns-in_err-found-clause-each_looked : goal.returns-in_err-found-clause-each_looked
returns-in_err-found-clause-each_looked g c = IfOk-from_err c.from_residual.result _ c.from_residual.ensures.0

pub unwrap-requires : goal.unwrap-requires
unwrap-requires g c = c.in_ok-found.ensures.found refl

pub returns-clause-marks : goal.returns-clause-marks
returns-clause-marks g c = rw c.unwrap.ensures at c.in_ok-found.ensures.marks

pub returns-clause-rounded : goal.returns-clause-rounded
returns-clause-rounded g c = rw c.unwrap.ensures at c.in_ok-found.ensures.rounded

pub returns-clause-looked : goal.returns-clause-looked
returns-clause-looked g c = rw c.unwrap.ensures at c.in_ok-found.ensures.looked

pub returns-clause-each_looked : goal.returns-clause-each_looked
returns-clause-each_looked g c = rw c.unwrap.ensures at c.in_ok-found.ensures.each_looked
