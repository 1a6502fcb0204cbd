use Rattle.overlay_cuts.proofs.laws.nearness.NamedData.{data_cut_names_what_is_near}
use Rattle.overlay_cuts.proofs.laws.passes.DataInvariants.{data_cut_keeps_what_hooks_keep}
use Rattle.overlay_cuts.proofs.laws.passes.DataPasses.{data_cut_is_beside, unmarked_data_cut_is_unchanged}
use Rattle.overlay_split.proofs.split.laws.data_cut_laws.Goals as goal

pub returns-clause-beside : goal.returns-clause-beside
returns-clause-beside g c = data_cut_is_beside

pub returns-clause-unmarked : goal.returns-clause-unmarked
returns-clause-unmarked g c = unmarked_data_cut_is_unchanged

pub returns-clause-keeps : goal.returns-clause-keeps
returns-clause-keeps g c = data_cut_keeps_what_hooks_keep

pub returns-clause-names : goal.returns-clause-names
returns-clause-names g c = data_cut_names_what_is_near
