use Rattle.std.proofs.Common.{◌≡◌, ◌++◌, ◌∷◌, [], drop}
use Rattle.overlay_geometry.specs.PointOf.{point_of}
use Rattle.overlay_base.specs.SegmentOf.{segments_of}
use Rattle.overlay_contours.specs.Contours.{steps_from}
use Rattle.overlay_contours.specs.ContoursOf.{points_of}
use Rattle.overlay_contours.specs.ContourSegments.{step_segments}
use Rattle.overlay_contours.proofs.contour.push_contour.Given as goal

abbrev pub invariant-loop-point : goal.invariant-loop-point
invariant-loop-point g l =
    let whole = g.I.OverlayInt.whole in
    let last = point_of whole l.first ∷ [] in
    segments_of l.sides.items ++ step_segments l.shape_type (steps_from (point_of whole l.from) (points_of whole (drop l.point-index l.later) ++ last))
    ≡ segments_of l.initial.sides.items ++ step_segments l.shape_type (steps_from (point_of whole l.first) (points_of whole l.later ++ last))
