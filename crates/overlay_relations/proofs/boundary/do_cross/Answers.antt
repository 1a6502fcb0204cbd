use Rattle.std.proofs.Common.{ap}
use Rattle.overlay_intersections.specs.AnswerOf.{kind_of}
use Rattle.overlay_intersections.specs.Marks.{settling}
use Rattle.overlay_relations.proofs.laws.PureCrossings.{pure_crosses}
use Rattle.overlay_relations.proofs.boundary.do_cross.Goals as goal

pub returns-in-Pure : goal.returns-in-Pure
returns-in-Pure g c done = pure_crosses settling _ _ _ (rw (c.x_segment.ensures, c.x_segment-2.ensures) at c.in-Some.ensures) (ap kind_of c.in-Pure.is)
