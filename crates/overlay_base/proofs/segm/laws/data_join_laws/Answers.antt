use Rattle.overlay_base.proofs.laws.joins.DataJoins.{data_join_is_beside}
use Rattle.overlay_base.proofs.laws.joins.Stores.{store_keeps_what_hooks_keep}
use Rattle.overlay_base.proofs.segm.laws.data_join_laws.Goals as goal

pub returns-clause-beside : goal.returns-clause-beside
returns-clause-beside g c = data_join_is_beside

pub returns-clause-keeps : goal.returns-clause-keeps
returns-clause-keeps g c = store_keeps_what_hooks_keep
