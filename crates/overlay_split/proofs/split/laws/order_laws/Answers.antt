use Rattle.overlay_split.proofs.laws.paths.Orders.{passes_ignore_order, run_ignores_order}
use Rattle.overlay_split.proofs.split.laws.order_laws.Goals as goal

pub returns-clause-passes : goal.returns-clause-passes
returns-clause-passes c = passes_ignore_order

pub returns-clause-run : goal.returns-clause-run
returns-clause-run c = run_ignores_order
