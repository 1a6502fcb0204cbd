use Rattle.overlay_intersections.proofs.laws.crossings.AnswerMarks.{answers_are_marks}
use Rattle.overlay_intersections.proofs.laws.crossings.CrossingLaws.{no_mark_is_an_end}
use Rattle.overlay_intersections.proofs.split.laws.mark_laws.Goals as goal

pub returns-clause-answers : goal.returns-clause-answers
returns-clause-answers c = answers_are_marks

pub returns-clause-ends : goal.returns-clause-ends
returns-clause-ends c = no_mark_is_an_end
