use Rattle.std.proofs.Common.{take}
use Rattle.std.specs.Prelude.{option_map}
use Rattle.overlay_geometry.specs.RangeOf.{rect_of}
use Rattle.overlay_contours.specs.Boxes.{all_points}
use Rattle.overlay_contours.specs.ContoursOf.{contours_of}
use Rattle.overlay_contours.specs.steps.Bounding.{AreBounds}
use Rattle.overlay_contours.proofs.measure.bounding_box.Given as goal

abbrev pub invariant-loop-contour : goal.invariant-loop-contour
invariant-loop-contour g l =
    let whole = g.I.OverlayInt.whole in
    AreBounds (all_points (contours_of whole (take l.contour-index l.contours))) (option_map (rect_of whole) l.bounds)
