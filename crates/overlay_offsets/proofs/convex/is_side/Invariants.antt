use Rattle.std.proofs.Common.{◌≡◌, drop}
use Rattle.std.specs.List.{list_all}
use Rattle.overlay_geometry.specs.PairOf.{pair_of}
use Rattle.overlay_contours.specs.Contours.{steps_of}
use Rattle.overlay_contours.specs.ContoursOf.{points_of}
use Rattle.overlay_offsets.specs.Convex.{goes_left}
use Rattle.overlay_offsets.proofs.convex.is_side.Given as goal

abbrev pub invariant-loop-index : goal.invariant-loop-index
invariant-loop-index g l =
    let whole = g.I.OverlayInt.whole in
    let steps = steps_of (points_of whole l.corners) in
    list_all (goes_left (pair_of whole l.edge)) (drop l.index steps) ≡ list_all (goes_left (pair_of whole l.edge)) steps
