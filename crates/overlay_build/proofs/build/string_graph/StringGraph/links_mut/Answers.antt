use Rattle.std.proofs.Common.{rules}
use Rattle.overlay_build.proofs.build.string_graph.StringGraph.links_mut.Goals as goal

pub returns : goal.returns
returns g c = search rules
