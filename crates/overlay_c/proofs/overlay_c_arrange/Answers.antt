use Rattle.std.proofs.Common.{rules}
use Rattle.overlay_c.proofs.overlay_c_arrange.Goals as goal

pub returns-clause-done : goal.returns-clause-done
returns-clause-done c = search rules

pub returns-clause-subject : goal.returns-clause-subject
returns-clause-subject c = search rules

pub returns-clause-clip : goal.returns-clause-clip
returns-clause-clip c = search rules
