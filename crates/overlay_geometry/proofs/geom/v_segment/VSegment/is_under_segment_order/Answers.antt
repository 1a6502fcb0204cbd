use Rattle.std.proofs.Common.{◌≡◌, sym, ◌∙◌, rules}
use Rattle.overlay_geometry.specs.Below.{under_segment_order}
use Rattle.overlay_geometry.specs.Points.{point_cmp}
use Rattle.overlay_geometry.specs.PointOf.{point_of}
use Rattle.overlay_geometry.proofs.geom.v_segment.VSegment.is_under_segment_order.Goals as goal

pub cmp-requires : goal.cmp-requires
cmp-requires g c κs = search rules

pub clock_order-requires-clause-p : goal.clock_order-requires-clause-p
clock_order-requires-clause-p g c = c.requires.own.a_in_range

pub clock_order-requires-clause-q : goal.clock_order-requires-clause-q
clock_order-requires-clause-q g c = c.requires.other.a_in_range

pub clock_order-requires-clause-r : goal.clock_order-requires-clause-r
clock_order-requires-clause-r g c = c.requires.own.b_in_range

pub clock_order-requires-in-Equal-clause-p : goal.clock_order-requires-in-Equal-clause-p
clock_order-requires-in-Equal-clause-p g c = c.requires.own.a_in_range

pub clock_order-requires-in-Equal-clause-q : goal.clock_order-requires-in-Equal-clause-q
clock_order-requires-in-Equal-clause-q g c = c.requires.other.b_in_range

pub clock_order-requires-in-Equal-clause-r : goal.clock_order-requires-in-Equal-clause-r
clock_order-requires-in-Equal-clause-r g c = c.requires.own.b_in_range

pub clock_order-requires-in-Greater-clause-p : goal.clock_order-requires-in-Greater-clause-p
clock_order-requires-in-Greater-clause-p g c = c.requires.other.a_in_range

pub clock_order-requires-in-Greater-clause-q : goal.clock_order-requires-in-Greater-clause-q
clock_order-requires-in-Greater-clause-q g c = c.requires.other.b_in_range

pub clock_order-requires-in-Greater-clause-r : goal.clock_order-requires-in-Greater-clause-r
clock_order-requires-in-Greater-clause-r g c = c.requires.own.a_in_range

pub returns-in-Less : goal.returns-in-Less
returns-in-Less g c =
    let order : point_cmp (point_of g.I.OverlayInt.whole c.args.self.now.a) (point_of g.I.OverlayInt.whole c.args.other.now.a) ≡ c.cmp.result = sym (simp g.met.I.OverlayInt.ordered at c.cmp.ensures) in
    rw (order ∙ c.in-Less.is, under_segment_order) c.clock_order.ensures

pub returns-in-Equal : goal.returns-in-Equal
returns-in-Equal g c =
    let order : point_cmp (point_of g.I.OverlayInt.whole c.args.self.now.a) (point_of g.I.OverlayInt.whole c.args.other.now.a) ≡ c.cmp.result = sym (simp g.met.I.OverlayInt.ordered at c.cmp.ensures) in
    rw (order ∙ c.in-Equal.is, under_segment_order) c.clock_order-in-Equal.ensures

pub returns-in-Greater : goal.returns-in-Greater
returns-in-Greater g c =
    let order : point_cmp (point_of g.I.OverlayInt.whole c.args.self.now.a) (point_of g.I.OverlayInt.whole c.args.other.now.a) ≡ c.cmp.result = sym (simp g.met.I.OverlayInt.ordered at c.cmp.ensures) in
    rw (order ∙ c.in-Greater.is, under_segment_order) c.clock_order-in-Greater.ensures
