use Rattle.std.proofs.Common.{◌≡◌, map, take}
use Rattle.overlay_geometry.specs.PointOf.{point_of}
use Rattle.overlay_geometry.specs.PairOf.{pair_of}
use Rattle.overlay_snapping.specs.steps.Cutting.{points_along}
use Rattle.overlay_snapping.proofs.snap.cut_finder.collect_along.Given as goal

abbrev pub invariant-loop-mark : goal.invariant-loop-mark
invariant-loop-mark g l =
    let whole = g.I.OverlayInt.whole in
    map (point_of whole) l.between.items ≡ points_along whole (pair_of whole l.segment) (take l.mark-index l.own)
