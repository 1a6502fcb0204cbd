use Rattle.std.proofs.Common.{refl}
use Rattle.overlay_build.proofs.build.builder.GraphBuilder.new.Goals as goal

pub returns-clause-links : goal.returns-clause-links
returns-clause-links g c = c.new-5.ensures.items

pub returns-clause-nodes : goal.returns-clause-nodes
returns-clause-nodes g c = c.new-6.ensures.items

pub returns-clause-compared : goal.returns-clause-compared
returns-clause-compared g c = refl
