use Rattle.std.proofs.Common.{◌∙◌, ap}
use Rattle.std.specs.Ordering.{is_lt}
use Rattle.overlay_geometry.proofs.geom.v_segment.VSegment.is_under_segment.Goals as goal

pub is_under_segment_order-requires-clause-own : goal.is_under_segment_order-requires-clause-own
is_under_segment_order-requires-clause-own g c = c.requires.own

pub is_under_segment_order-requires-clause-other : goal.is_under_segment_order-requires-clause-other
is_under_segment_order-requires-clause-other g c = c.requires.other

pub returns : goal.returns
returns g c = c.is_lt.ensures ∙ ap is_lt c.is_under_segment_order.ensures
