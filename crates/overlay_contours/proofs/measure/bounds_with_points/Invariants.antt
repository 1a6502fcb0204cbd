use Rattle.std.proofs.Common.{List, ◌++◌, take}
use Rattle.std.specs.Prelude.{option_map}
use Rattle.overlay_geometry.specs.Points.{Point}
use Rattle.overlay_geometry.specs.RangeOf.{rect_of}
use Rattle.overlay_contours.specs.ContoursOf.{points_of}
use Rattle.overlay_contours.specs.steps.Bounding.{AreBounds}
use Rattle.overlay_contours.proofs.measure.bounds_with_points.Given as goal

abbrev pub invariant-loop-point : goal.invariant-loop-point
invariant-loop-point g l =
    let whole = g.I.OverlayInt.whole in
    (before : List Point) → AreBounds before (option_map (rect_of whole) l.fn.bounds) → AreBounds (before ++ points_of whole (take l.point-index l.points)) (option_map (rect_of whole) l.bounds)
