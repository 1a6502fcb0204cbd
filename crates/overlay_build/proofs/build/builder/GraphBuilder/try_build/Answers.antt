use Rattle.std.proofs.lemmas.Result.{IfOk-from_err}
use Rattle.overlay_build.proofs.build.builder.GraphBuilder.try_build.Goals as goal

pub returns-in_err-try_build_lists-clause-graph : goal.returns-in_err-try_build_lists-clause-graph
returns-in_err-try_build_lists-clause-graph g c = IfOk-from_err c.from_residual.result _ c.from_residual.ensures.0

pub returns-in_err-try_build_lists-clause-edge_data : goal.returns-in_err-try_build_lists-clause-edge_data
returns-in_err-try_build_lists-clause-edge_data g c = IfOk-from_err c.from_residual.result _ c.from_residual.ensures.0

pub returns-in_err-try_build_lists-clause-in_range : goal.returns-in_err-try_build_lists-clause-in_range
returns-in_err-try_build_lists-clause-in_range g c = IfOk-from_err c.from_residual.result _ c.from_residual.ensures.0

pub returns-in_err-try_build_lists-clause-compared : goal.returns-in_err-try_build_lists-clause-compared
returns-in_err-try_build_lists-clause-compared g c = IfOk-from_err c.from_residual.result _ c.from_residual.ensures.0
