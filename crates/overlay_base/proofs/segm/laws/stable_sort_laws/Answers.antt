use Rattle.overlay_base.proofs.laws.lists.StableSorts.{stable_sort_is_unique, stably_sorted_is_stable}
use Rattle.overlay_base.proofs.segm.laws.stable_sort_laws.Goals as goal

pub returns-clause-unique : goal.returns-clause-unique
returns-clause-unique g c = stable_sort_is_unique

pub returns-clause-stable : goal.returns-clause-stable
returns-clause-stable g c = stably_sorted_is_stable
