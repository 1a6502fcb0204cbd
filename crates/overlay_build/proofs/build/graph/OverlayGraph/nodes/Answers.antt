use Rattle.std.proofs.Common.{refl}
use Rattle.overlay_build.proofs.build.graph.OverlayGraph.nodes.Goals as goal

pub returns : goal.returns
returns g c = refl
