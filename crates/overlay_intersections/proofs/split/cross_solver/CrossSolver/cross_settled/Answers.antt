use Rattle.std.proofs.Common.{sym, ◌∙◌}
use Rattle.overlay_geometry.specs.PairOf.{pair_of}
use Rattle.overlay_intersections.specs.Marks.{settling}
use Rattle.overlay_intersections.proofs.laws.crossings.AnswerMarks.{answer_of_crossing}
use Rattle.overlay_intersections.proofs.split.cross_solver.CrossSolver.cross_settled.Goals as goal

pub returns-in-Crossing : goal.returns-in-Crossing
returns-in-Crossing g c =
    sym (answer_of_crossing settling (pair_of g.I.OverlayInt.whole c.args.target.now) (pair_of g.I.OverlayInt.whole c.args.other.now) c.in-Crossing.ensures ∙ c.settled.ensures)
