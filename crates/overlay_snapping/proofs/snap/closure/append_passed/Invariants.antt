use Rattle.std.proofs.Common.{map, take}
use Rattle.overlay_geometry.specs.PointOf.{point_of}
use Rattle.overlay_geometry.specs.PairOf.{pair_of}
use Rattle.overlay_snapping.specs.PointFinderOf.{points_in}
use Rattle.overlay_snapping.proofs.laws.closure.Movers.{AddsSome}
use Rattle.overlay_snapping.proofs.snap.closure.append_passed.Given as goal

abbrev pub invariant-loop-point : goal.invariant-loop-point
invariant-loop-point g l =
    let whole = g.I.OverlayInt.whole in
    AddsSome (pair_of whole l.segment) (points_in l.fn.points) (map (point_of whole) (take l.point-index l.point-items)) (map (point_of whole) l.fn.passed.items) (map (point_of whole) l.passed.items)
