use Rattle.overlay_cuts.proofs.laws.passes.DataInvariants.{data_keeps_what_hooks_keep}
use Rattle.overlay_cuts.proofs.laws.nearness.NamedData.{data_names_what_is_near}
use Rattle.overlay_cuts.proofs.laws.passes.DataPasses.{data_is_beside, unmarked_data_is_unchanged, arranged_data_is_unchanged}
use Rattle.overlay_split.proofs.split.laws.data_pass_laws.Goals as goal

pub returns-clause-beside : goal.returns-clause-beside
returns-clause-beside g c = data_is_beside

pub returns-clause-unmarked : goal.returns-clause-unmarked
returns-clause-unmarked g c = unmarked_data_is_unchanged

pub returns-clause-arranged : goal.returns-clause-arranged
returns-clause-arranged g c = arranged_data_is_unchanged

pub returns-clause-keeps : goal.returns-clause-keeps
returns-clause-keeps g c = data_keeps_what_hooks_keep

pub returns-clause-names : goal.returns-clause-names
returns-clause-names g c = data_names_what_is_near
