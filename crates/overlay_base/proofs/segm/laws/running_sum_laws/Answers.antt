use Rattle.overlay_base.proofs.laws.joins.Ranges.{stable_sort_keeps_sums}
use Rattle.overlay_base.proofs.segm.laws.running_sum_laws.Goals as goal

pub returns : goal.returns
returns c = stable_sort_keeps_sums
