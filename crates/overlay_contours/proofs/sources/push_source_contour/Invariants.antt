use Rattle.std.proofs.Common.{◌≡◌, ◌++◌, ◌∷◌, [], List, drop}
use Rattle.std.specs.Prelude.{All, Some, slice_get}
use Rattle.overlay_geometry.specs.Points.{Point}
use Rattle.overlay_geometry.specs.PointOf.{point_of}
use Rattle.overlay_base.specs.SegmentOf.{segments_of, data_segments_of}
use Rattle.overlay_contours.specs.Contours.{steps_from}
use Rattle.overlay_contours.specs.ContoursOf.{points_of}
use Rattle.overlay_contours.specs.ContourSegments.{step_segments}
use Rattle.overlay_contours.specs.Refusals.{of_shape}
use Rattle.overlay_contours.specs.Sources.{IsItsSource}
use Rattle.overlay_contours.proofs.sources.push_source_contour.Given as goal

abbrev pub invariant-loop-edge : goal.invariant-loop-edge
invariant-loop-edge g l =
    let whole = g.I.OverlayInt.whole in
    let last = point_of whole l.first ∷ [] in
    let rest = steps_from (point_of whole l.from) (points_of whole (drop l.edge l.later) ++ last) in
    (segments_of l.sides.items ++ step_segments l.shape_type rest ≡ segments_of l.initial.sides.items ++ step_segments l.shape_type (steps_from (point_of whole l.first) (points_of whole l.later ++ last)))
    × (drop l.edge (steps_from (point_of whole l.first) (points_of whole l.later ++ last)) ≡ rest)
    × ((subject clip : List (List Point)) → slice_get (of_shape l.shape_type subject clip) l.index ≡ Some (point_of whole l.first ∷ points_of whole l.later) →
    All (IsItsSource subject clip) (data_segments_of l.initial.sides.items) → All (IsItsSource subject clip) (data_segments_of l.sides.items))
