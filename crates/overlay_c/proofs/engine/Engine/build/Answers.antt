use Rattle.std.proofs.Common.{rules}
use Rattle.overlay_c.proofs.engine.Engine.build.Goals as goal

pub returns-then-self-clause-built : goal.returns-then-self-clause-built
returns-then-self-clause-built c = search rules

pub returns-then-self-clause-refused : goal.returns-then-self-clause-refused
returns-then-self-clause-refused c = search rules

pub returns-then-self-clause-no_links : goal.returns-then-self-clause-no_links
returns-then-self-clause-no_links c = search rules
