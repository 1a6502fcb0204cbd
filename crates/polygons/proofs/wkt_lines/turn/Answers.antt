use Rattle.std.proofs.Common.{◌≡◌, ◌∙◌, sym, true}
use Rattle.overlay_geometry.specs.Coordinates.{is_point_in_range}
use Rattle.overlay_geometry.specs.PointOf.{point_of}
use Rattle.overlay_contours.specs.Areas.{doubled_area}
use Rattle.overlay_contours.specs.ContoursOf.{points_of}
use Rattle.polygons.specs.Wkt.{runs_wrong}
use Rattle.polygons.proofs.Turns.{map-turned, all_turned}
use Rattle.polygons.proofs.wkt_lines.turn.Goals as goal

pub returns-then-runs_wrong-clause-turned : goal.returns-then-runs_wrong-clause-turned
returns-then-runs_wrong-clause-turned g c =
    let wrong : runs_wrong c.args.is_outer (doubled_area (points_of g.I.OverlayInt.whole c.args.points.now)) ≡ true = sym c.runs_wrong.ensures ∙ c.if-runs_wrong.true in
    rw (wrong, c.reverse.ensures.after) (map-turned (point_of g.I.OverlayInt.whole) c.args.points.now)

pub returns-then-runs_wrong-clause-in_range : goal.returns-then-runs_wrong-clause-in_range
returns-then-runs_wrong-clause-in_range g c =
    let whole = g.I.OverlayInt.whole in
    rw (c.reverse.ensures.after, map-turned) (all_turned (is_point_in_range (whole g.I.OverlayInt.MIN_COORD) (whole g.I.OverlayInt.MAX_COORD)) (points_of whole c.args.points.now) c.requires)
