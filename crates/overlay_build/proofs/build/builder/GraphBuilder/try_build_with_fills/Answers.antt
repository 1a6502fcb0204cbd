use Rattle.std.proofs.Common.{arith}
use Rattle.std.proofs.lemmas.Grind.{common_steps, elements}
use Rattle.overlay_build.proofs.build.builder.GraphBuilder.try_build_with_fills.Goals as goal

pub make_nodes-requires : goal.make_nodes-requires
make_nodes-requires g c = grind (arith, common_steps)

pub returns-clause-graph : goal.returns-clause-graph
returns-clause-graph g c = grind (arith, elements)
