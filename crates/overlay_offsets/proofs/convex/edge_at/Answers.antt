use Rattle.std.proofs.Common.{◌+◌}
use Rattle.overlay_geometry.specs.Coordinates.{is_point_in_range}
use Rattle.overlay_geometry.specs.PointOf.{point_of}
use Rattle.overlay_offsets.proofs.laws.Edges.{inner_edge, last_edge, passes_at, low_first}
use Rattle.overlay_offsets.proofs.convex.edge_at.Goals as goal

pub returns-then-index-corners-clause-edge : goal.returns-then-index-corners-clause-edge
returns-then-index-corners-clause-edge g c =
    inner_edge (point_of g.I.OverlayInt.whole) c.args.corners.now c.args.index c.index-corners-index.result _ c.if-index-corners.true c.index-corners-index.is c.index-corners-index-then-index-corners.is

pub returns-then-index-corners-clause-edge_in_range : goal.returns-then-index-corners-clause-edge_in_range
returns-then-index-corners-clause-edge_in_range g c =
    let I = g.I.OverlayInt in
    let test = is_point_in_range (I.whole I.MIN_COORD) (I.whole I.MAX_COORD) in
    record {
      a_in_range = passes_at (point_of I.whole) test c.args.corners.now c.args.index c.index-corners-index.result c.requires.index c.index-corners-index.is c.requires.in_range;
      b_in_range = passes_at (point_of I.whole) test c.args.corners.now (c.args.index + 1) c.index-corners-index-then-index-corners.result c.if-index-corners.true c.index-corners-index-then-index-corners.is c.requires.in_range;
    }

pub returns-clause-edge : goal.returns-clause-edge
returns-clause-edge g c =
    last_edge (point_of g.I.OverlayInt.whole) c.args.corners.now c.args.index c.index-corners-index.result c.index-corners-0.result c.requires.index c.if-index-corners.false c.index-corners-index.is c.index-corners-0.is

pub returns-clause-edge_in_range : goal.returns-clause-edge_in_range
returns-clause-edge_in_range g c =
    let I = g.I.OverlayInt in
    let test = is_point_in_range (I.whole I.MIN_COORD) (I.whole I.MAX_COORD) in
    record {
      a_in_range = passes_at (point_of I.whole) test c.args.corners.now c.args.index c.index-corners-index.result c.requires.index c.index-corners-index.is c.requires.in_range;
      b_in_range = passes_at (point_of I.whole) test c.args.corners.now 0 c.index-corners-0.result (low_first _ _ c.requires.index) c.index-corners-0.is c.requires.in_range;
    }
