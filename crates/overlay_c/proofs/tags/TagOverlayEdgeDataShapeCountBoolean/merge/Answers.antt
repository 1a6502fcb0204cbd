use Rattle.std.proofs.Common.{rules}
use Rattle.overlay_c.proofs.tags.TagOverlayEdgeDataShapeCountBoolean.merge.Goals as goal

pub returns-clause-answer : goal.returns-clause-answer
returns-clause-answer c = search rules
