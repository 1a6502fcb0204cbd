use Rattle.std.proofs.Common.{to_z-of_z}
use Rattle.overlay_geometry.specs.Points.{moved}
use Rattle.overlay_geometry.specs.PointOf.{point_of}
use Rattle.overlay_geometry.proofs.laws.geometry.Coordinates.{point_parts}
use Rattle.overlay_intersections.proofs.split.cross.crossing_point.moved.Goals as goal

pub coordinate-requires-2-clause-to : goal.coordinate-requires-2-clause-to
coordinate-requires-2-clause-to g c =
    let y_fits = c.ranges.y in
    simp to_z-of_z (point_parts (g.I.OverlayInt.whole g.I.OverlayInt.MIN_COORD) (g.I.OverlayInt.whole g.I.OverlayInt.MAX_COORD) (moved (record { x = c.args.x; y = c.args.y }) (point_of g.I.OverlayInt.whole c.args.from)) c.requires.to).1
