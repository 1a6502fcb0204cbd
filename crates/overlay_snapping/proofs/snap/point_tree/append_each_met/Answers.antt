use Rattle.overlay_geometry.specs.PointOf.{point_of}
use Rattle.overlay_geometry.specs.PairOf.{pair_of}
use Rattle.overlay_geometry.specs.Coordinates.{is_point_in_range}
use Rattle.overlay_snapping.proofs.laws.point_trees.MetPlaces.{met_none, met_one_more, passes_at}
use Rattle.overlay_snapping.proofs.snap.point_tree.append_each_met.Goals as goal

pub loop-index-init : goal.loop-index-init
loop-index-init g c = met_none (pair_of g.I.OverlayInt.whole c.args.segment.now) c.args.first c.args.places.now.items

pub append_if_met-requires-clause-point : goal.append_if_met-requires-clause-point
append_if_met-requires-clause-point g c =
    let whole = g.I.OverlayInt.whole in
    passes_at (is_point_in_range (whole g.I.OverlayInt.MIN_COORD) (whole g.I.OverlayInt.MAX_COORD)) (point_of whole) c.args.points.now c.loop-index.index c.index-points-index.result c.loop-index-test.true c.index-points-index.is c.requires.points

pub loop-index-preserved : goal.loop-index-preserved
loop-index-preserved g c =
    let whole = g.I.OverlayInt.whole in
    met_one_more (pair_of whole c.args.segment.now) (point_of whole) c.args.points.now c.args.first c.loop-index.index c.index-points-index.result c.args.places.now.items c.loop-index.places.items c.append_if_met.new.places.items
    c.loop-index-test.true c.index-points-index.is c.loop-index.invariant c.in_ok-append_if_met.ensures
