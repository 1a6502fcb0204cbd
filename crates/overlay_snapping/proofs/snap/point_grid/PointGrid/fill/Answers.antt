use Rattle.std.proofs.Common.{◌∙◌, ◌↔◌, refl, subst, List, map, take_all, arith}
use Rattle.std.specs.Prelude.{Contains}
use Rattle.overlay_geometry.specs.Points.{Point}
use Rattle.overlay_geometry.specs.PointOf.{point_of}
use Rattle.overlay_geometry.specs.Coordinates.{is_point_in_range}
use Rattle.overlay_geometry.specs.declared.geom.point.IntPoint.{IntPoint}
use Rattle.overlay_snapping.specs.PointGridOf.{points_in}
use Rattle.overlay_snapping.proofs.laws.cells.Added.{taken_grown}
use Rattle.overlay_snapping.proofs.laws.cells.Users.{in_range_at}
use Rattle.overlay_snapping.proofs.snap.point_grid.PointGrid.fill.Goals as goal

pub add-requires-clause-in_range : goal.add-requires-clause-in_range
add-requires-clause-in_range g c =
    let whole = g.I.OverlayInt.whole in
    in_range_at whole (is_point_in_range (whole g.I.OverlayInt.MIN_COORD) (whole g.I.OverlayInt.MAX_COORD)) c.args.points.now c.args.points.now refl c.requires.in_range c.loop-point.point-index c.point-item.result c.loop-point-test.true c.point-item.is

pub loop-point-preserved : goal.loop-point-preserved
loop-point-preserved g c =
    let whole = g.I.OverlayInt.whole in
    let grown = c.in_ok-add.ensures.grown in
    let few = c.loop-point.invariant.few in
    record {
      uncrowded = c.in_ok-add.ensures.uncrowded;
      same = taken_grown (point_of whole) c.args.points.now c.loop-point.point-index c.point-item.result c.loop-point-test.true c.point-item.is (points_in c.loop-point.self) (points_in c.add.new.self) c.loop-point.invariant.same (c.in_ok-add.ensures.added c.if-not-branch.false);
      few = omega (arith, grown, few);
      room = c.in_ok-add.ensures.room ∙ c.loop-point.invariant.room;
    }

pub returns : goal.returns
returns g c =
    let whole = g.I.OverlayInt.whole in
    record {
      same = subst (λ (l : List (IntPoint _)). (q : Point) → Contains (points_in c.loop-point.self) q ↔ Contains (map (point_of whole) l) q) (take_all c.loop-point.point-index c.args.points.now c.loop-point-test.false) c.loop-point.invariant.same;
    }
