use Rattle.std.proofs.Common.{map, take}
use Rattle.overlay_geometry.specs.PointOf.{point_of}
use Rattle.overlay_snapping.specs.steps.Closing.{AreLeft}
use Rattle.overlay_snapping.proofs.snap.closure.collect_new.Given as goal

-- the points so far
abbrev pub invariant-loop-point : goal.invariant-loop-point
invariant-loop-point g l =
    let whole = g.I.OverlayInt.whole in
    AreLeft (map (point_of whole) l.found.items) (map (point_of whole) (take l.point-index l.points)) (map (point_of whole) l.new.items)
