use Rattle.std.proofs.Common.{refl}
use Rattle.overlay_base.proofs.segm.segment.Segment.with_count_and_data.Goals as goal

pub returns-clause-x_segment : goal.returns-clause-x_segment
returns-clause-x_segment g c = refl

pub returns-clause-count : goal.returns-clause-count
returns-clause-count g c = refl

pub returns-clause-edge_data : goal.returns-clause-edge_data
returns-clause-edge_data g c = refl
