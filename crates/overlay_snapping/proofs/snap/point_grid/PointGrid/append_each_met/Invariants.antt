use Rattle.std.proofs.Common.{map, take}
use Rattle.std.specs.Prelude.{Contains}
use Rattle.overlay_geometry.specs.PointOf.{point_of}
use Rattle.overlay_geometry.specs.PairOf.{pair_of}
use Rattle.overlay_snapping.specs.PointGridOf.{points_in}
use Rattle.overlay_snapping.specs.steps.Met.{AddsMet}
use Rattle.overlay_snapping.proofs.snap.point_grid.PointGrid.append_each_met.Given as goal

-- the points so far are done
abbrev pub invariant-loop-point : goal.invariant-loop-point
invariant-loop-point g l =
    let whole = g.I.OverlayInt.whole in
    AddsMet (pair_of whole l.segment) (points_in l.self) (Contains (map (point_of whole) (take l.point-index l.point-items))) (map (point_of whole) l.fn.met.items) (map (point_of whole) l.met.items)
