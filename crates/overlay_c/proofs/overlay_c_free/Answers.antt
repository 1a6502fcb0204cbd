use Rattle.std.proofs.Common.{rules}
use Rattle.overlay_c.proofs.overlay_c_free.Goals as goal

pub returns : goal.returns
returns c = search rules

pub take-requires : goal.take-requires
take-requires c = search rules
