use Rattle.std.proofs.Common.{rules}
use Rattle.polygons.proofs.run.other_rules.Goals as goal

pub returns : goal.returns
returns c = search rules
