use Rattle.overlay_base.proofs.laws.joins.Repeats.{has_equal_neighbors-sorted}
use Rattle.overlay_base.proofs.segm.laws.equal_pair_laws.Goals as goal

pub returns : goal.returns
returns c = has_equal_neighbors-sorted
