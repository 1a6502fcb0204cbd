use Rattle.std.proofs.Common.{rules}
use Rattle.overlay_base.proofs.segm.winding.WindingCount.with_shape_type.Goals as goal

pub direct_count-requires : goal.direct_count-requires
direct_count-requires g c κs = search rules

pub returns-clause-direct : goal.returns-clause-direct
returns-clause-direct g c = search rules
