use Rattle.overlay_sweep.proofs.laws.columns.ChainSums.{tops_add_weights}
use Rattle.overlay_sweep.proofs.laws.columns.Tops.{chains_are_columns}
use Rattle.overlay_sweep.proofs.build.laws.winding_laws.Goals as goal

pub returns-clause-columns : goal.returns-clause-columns
returns-clause-columns c = chains_are_columns

pub returns-clause-tops : goal.returns-clause-tops
returns-clause-tops c = tops_add_weights
