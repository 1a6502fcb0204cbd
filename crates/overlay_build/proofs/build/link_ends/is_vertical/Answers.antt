use Rattle.std.proofs.Common.{rules}
use Rattle.overlay_build.proofs.build.link_ends.is_vertical.Goals as goal

pub returns : goal.returns
returns g c = search rules
