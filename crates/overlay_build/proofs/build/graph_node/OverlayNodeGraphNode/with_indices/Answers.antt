use Rattle.std.proofs.Common.{arith, rules}
use Rattle.std.proofs.lemmas.Grind.{common_steps}
use Rattle.overlay_build.proofs.build.graph_node.OverlayNodeGraphNode.with_indices.Goals as goal

pub returns-then-indices-eq2-clause-indexes : goal.returns-then-indices-eq2-clause-indexes
returns-then-indices-eq2-clause-indexes c = grind (arith, common_steps)

pub returns-then-indices-eq2-clause-form : goal.returns-then-indices-eq2-clause-form
returns-then-indices-eq2-clause-form c = search rules

pub returns-clause-form : goal.returns-clause-form
returns-clause-form c = search rules
