use Rattle.std.proofs.Common.{rules}
use Rattle.overlay_geometry.proofs.geom.v_segment.VSegmentFromXSegment.from.Goals as goal

pub returns : goal.returns
returns g c = search rules
