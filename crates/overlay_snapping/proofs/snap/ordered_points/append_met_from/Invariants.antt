use Rattle.std.proofs.Common.{map, take}
use Rattle.std.specs.Prelude.{Contains}
use Rattle.overlay_geometry.specs.PointOf.{point_of}
use Rattle.overlay_geometry.specs.PairOf.{pair_of}
use Rattle.overlay_snapping.specs.steps.Met.{AddsMet}
use Rattle.overlay_snapping.proofs.snap.ordered_points.append_met_from.Given as goal

-- the points so far are done
abbrev pub invariant-loop-index : goal.invariant-loop-index
invariant-loop-index g l =
    let whole = g.I.OverlayInt.whole in
    AddsMet (pair_of whole l.segment) (map (point_of whole) l.points) (Contains (map (point_of whole) (take l.index l.points))) (map (point_of whole) l.fn.met.items) (map (point_of whole) l.met.items)
