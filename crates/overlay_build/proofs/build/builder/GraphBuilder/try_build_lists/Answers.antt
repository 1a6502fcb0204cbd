use Rattle.std.proofs.Common.{◌∙◌}
use Rattle.std.specs.Prelude.{Result, Ok, Err, OnOk}
use Rattle.std.proofs.lemmas.Result.{IfOk-from_err}
use Rattle.overlay_build.proofs.build.builder.GraphBuilder.try_build_lists.Goals as goal

on_ok : {T E P Q : Type 0} (r : Result T E) → (P → Q) → OnOk r P → OnOk r Q
on_ok (Ok x) f p = f p
on_ok (Err y) f p = tt

pub find_fills-requires : goal.find_fills-requires
find_fills-requires g c = record { arranged = c.requires.arranged }

pub link_kept-requires-clause-fills : goal.link_kept-requires-clause-fills
link_kept-requires-clause-fills g c = (c.args.fill_rule, c.as_slice-fills.ensures.value ∙ c.in_ok-find_fills.ensures.fills)

pub returns-clause-graph : goal.returns-clause-graph
returns-clause-graph g c = on_ok c.link_kept.result (λ held. held c.args.fill_rule (c.as_slice-fills.ensures.value ∙ c.in_ok-find_fills.ensures.fills)) c.link_kept.ensures.graph

pub returns-clause-edge_data : goal.returns-clause-edge_data
returns-clause-edge_data g c = on_ok c.link_kept.result (λ same. same c.args.fill_rule (c.as_slice-fills.ensures.value ∙ c.in_ok-find_fills.ensures.fills)) c.link_kept.ensures.edge_data

pub returns-in_err-find_fills-clause-graph : goal.returns-in_err-find_fills-clause-graph
returns-in_err-find_fills-clause-graph g c = IfOk-from_err c.from_residual.result _ c.from_residual.ensures.0

pub returns-in_err-find_fills-clause-edge_data : goal.returns-in_err-find_fills-clause-edge_data
returns-in_err-find_fills-clause-edge_data g c = IfOk-from_err c.from_residual.result _ c.from_residual.ensures.0

pub returns-in_err-find_fills-clause-in_range : goal.returns-in_err-find_fills-clause-in_range
returns-in_err-find_fills-clause-in_range g c = IfOk-from_err c.from_residual.result _ c.from_residual.ensures.0

pub returns-in_err-find_fills-clause-compared : goal.returns-in_err-find_fills-clause-compared
returns-in_err-find_fills-clause-compared g c = IfOk-from_err c.from_residual.result _ c.from_residual.ensures.0
