use Rattle.std.proofs.Common.{rules}
use Rattle.overlay_cuts.proofs.split.finder.PairFinder.find_as_chosen.Goals as goal

pub returns-clause-listed : goal.returns-clause-listed
returns-clause-listed g c = search rules

pub returns-clause-wide : goal.returns-clause-wide
returns-clause-wide g c = search rules
