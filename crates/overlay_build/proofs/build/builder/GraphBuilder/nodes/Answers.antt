use Rattle.std.proofs.Common.{arith}
use Rattle.overlay_build.proofs.build.builder.GraphBuilder.nodes.Goals as goal

pub returns : goal.returns
returns g c = grind arith
