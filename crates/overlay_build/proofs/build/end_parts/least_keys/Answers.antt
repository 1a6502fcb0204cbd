use Rattle.std.proofs.Common.{rules}
use Rattle.overlay_build.proofs.build.end_parts.least_keys.Goals as goal

pub returns : goal.returns
returns c = search rules
