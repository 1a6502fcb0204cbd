use Rattle.std.proofs.Common.{◌≡◌, ◌++◌, map, take}
use Rattle.overlay_geometry.specs.PointOf.{point_of}
use Rattle.overlay_geometry.specs.PairOf.{pair_of}
use Rattle.overlay_snapping.specs.steps.PointTrees.{met_places_from}
use Rattle.overlay_snapping.proofs.snap.point_tree.append_each_met.Given as goal

abbrev pub invariant-loop-index : goal.invariant-loop-index
invariant-loop-index g l =
    l.places.items ≡ l.fn.places.items ++ met_places_from l.first (pair_of g.I.OverlayInt.whole l.segment) (map (point_of g.I.OverlayInt.whole) (take l.index l.points))
