use Rattle.overlay_geometry.proofs.geom.v_segment.VSegment.is_under_point_order.Goals as goal

pub clock_order-requires-clause-p : goal.clock_order-requires-clause-p
clock_order-requires-clause-p g c = c.requires.own.a_in_range

pub clock_order-requires-clause-q : goal.clock_order-requires-clause-q
clock_order-requires-clause-q g c = c.requires.point

pub clock_order-requires-clause-r : goal.clock_order-requires-clause-r
clock_order-requires-clause-r g c = c.requires.own.b_in_range

pub returns : goal.returns
returns g c = c.clock_order.ensures
