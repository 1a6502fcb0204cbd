use Rattle.std.proofs.Common.{IsTrue, take}
use Rattle.std.specs.List.{list_all}
use Rattle.overlay_contours.specs.Contours.{steps_of}
use Rattle.overlay_contours.specs.ContoursOf.{points_of}
use Rattle.overlay_offsets.specs.Convex.{is_side}
use Rattle.overlay_offsets.proofs.convex.find_edge_at_fault.Given as goal

abbrev pub invariant-loop-index : goal.invariant-loop-index
invariant-loop-index g l =
    let k = points_of g.I.OverlayInt.whole l.corners in
    IsTrue (list_all (is_side k) (take l.index (steps_of k)))
