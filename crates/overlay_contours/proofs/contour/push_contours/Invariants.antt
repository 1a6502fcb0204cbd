use Rattle.std.proofs.Common.{◌≡◌, ◌++◌, drop}
use Rattle.overlay_base.specs.SegmentOf.{segments_of}
use Rattle.overlay_contours.specs.ContoursOf.{contours_of}
use Rattle.overlay_contours.specs.ContourSegments.{contour_segments}
use Rattle.overlay_contours.proofs.contour.push_contours.Given as goal

abbrev pub invariant-loop-contour : goal.invariant-loop-contour
invariant-loop-contour g l =
    let whole = g.I.OverlayInt.whole in
    segments_of l.sides.items ++ contour_segments l.shape_type (contours_of whole (drop l.contour-index l.contours))
    ≡ segments_of l.initial.sides.items ++ contour_segments l.shape_type (contours_of whole l.contours)
