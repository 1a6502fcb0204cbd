use Rattle.std.proofs.Common.{◌≡◌, ◌≤◌, ◌++◌, ◌-◌, map, take, length}
use Rattle.overlay_geometry.specs.PointOf.{point_of}
use Rattle.overlay_geometry.specs.PairOf.{pair_of}
use Rattle.overlay_snapping.specs.steps.PointTrees.{met_places_from}
use Rattle.overlay_snapping.proofs.snap.point_tree.append_met_in_columns.Given as goal

-- the points before the place are done
abbrev pub invariant-loop-place : goal.invariant-loop-place
invariant-loop-place g l =
    (l.place ≤ length l.points)
    × (l.places.items ≡ l.fn.places.items ++ met_places_from 0 (pair_of g.I.OverlayInt.whole l.segment) (map (point_of g.I.OverlayInt.whole) (take l.place l.points)))

abbrev pub decreases-loop-place : goal.decreases-loop-place
decreases-loop-place g l = length l.points - l.place
