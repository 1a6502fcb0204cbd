use Rattle.std.proofs.Common.{rules}
use Rattle.polygons.proofs.run.Choices.is_mixed.Goals as goal

pub returns-else-self : goal.returns-else-self
returns-else-self c = search rules
