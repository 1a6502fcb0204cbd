use Rattle.std.proofs.Common.{rules}
use Rattle.std.specs.Prelude.{Result, Ok, Err, OnErr}
use Rattle.overlay_build.proofs.build.builder.GraphBuilder.finish.Goals as goal

on_err : {T E P : Type 0} (r : Result T E) → P → OnErr r P
on_err (Ok x) p = tt
on_err (Err y) p = p

pub returns-then-is_err-clause-no_links : goal.returns-then-is_err-clause-no_links
returns-then-is_err-clause-no_links g c = on_err _ c.clear.ensures.items

pub returns-then-is_err-clause-no_nodes : goal.returns-then-is_err-clause-no_nodes
returns-then-is_err-clause-no_nodes g c = on_err _ c.clear-then-is_err.ensures.items

pub returns-else-is_err-clause-shown : goal.returns-else-is_err-clause-shown
returns-else-is_err-clause-shown g c = search rules
