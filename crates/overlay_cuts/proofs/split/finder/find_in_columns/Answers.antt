use Rattle.std.proofs.Common.{rules}
use Rattle.overlay_cuts.proofs.split.finder.find_in_columns.Goals as goal

pub returns-clause-looked : goal.returns-clause-looked
returns-clause-looked g c = search rules

pub returns-then-has_many_fragments-clause-looked : goal.returns-then-has_many_fragments-clause-looked
returns-then-has_many_fragments-clause-looked g c = search rules
