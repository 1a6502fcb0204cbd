use Rattle.std.proofs.Common.{rules}
use Rattle.overlay_c.proofs.cores.Core.sizes.Goals as goal

pub returns : goal.returns
returns g c = search rules
