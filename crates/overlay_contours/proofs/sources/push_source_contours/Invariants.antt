use Rattle.std.proofs.Common.{◌≡◌, ◌++◌, List, drop}
use Rattle.std.specs.Prelude.{All}
use Rattle.overlay_geometry.specs.Points.{Point}
use Rattle.overlay_base.specs.SegmentOf.{segments_of, data_segments_of}
use Rattle.overlay_contours.specs.ContoursOf.{contours_of}
use Rattle.overlay_contours.specs.ContourSegments.{contour_segments}
use Rattle.overlay_contours.specs.Refusals.{of_shape}
use Rattle.overlay_contours.specs.Sources.{IsItsSource}
use Rattle.overlay_contours.proofs.sources.push_source_contours.Given as goal

abbrev pub invariant-loop-index : goal.invariant-loop-index
invariant-loop-index g l =
    let whole = g.I.OverlayInt.whole in
    (segments_of l.sides.items ++ contour_segments l.shape_type (contours_of whole (drop l.index l.contours))
    ≡ segments_of l.initial.sides.items ++ contour_segments l.shape_type (contours_of whole l.contours))
    × ((subject clip : List (List Point)) → of_shape l.shape_type subject clip ≡ contours_of whole l.contours →
    All (IsItsSource subject clip) (data_segments_of l.initial.sides.items) → All (IsItsSource subject clip) (data_segments_of l.sides.items))
