use Rattle.std.proofs.Common.{IsTrue, take}
use Rattle.overlay_contours.specs.ContoursOf.{contours_of}
use Rattle.overlay_contours.specs.ContourSegments.{are_in_range}
use Rattle.overlay_contours.proofs.contour.find_out_of_range.Given as goal

abbrev pub invariant-loop-index : goal.invariant-loop-index
invariant-loop-index g l =
    let whole = g.I.OverlayInt.whole in
    IsTrue (are_in_range (whole g.I.OverlayInt.MIN_COORD) (whole g.I.OverlayInt.MAX_COORD) (contours_of whole (take l.index l.contours)))
