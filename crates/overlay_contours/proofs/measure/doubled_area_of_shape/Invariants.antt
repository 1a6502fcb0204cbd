use Rattle.std.proofs.Common.{◌≡◌, drop}
use Rattle.std.specs.Prelude.{◌+ℤ◌}
use Rattle.std.specs.Int.{w128, int_wrap}
use Rattle.overlay_contours.specs.Areas.{doubled_area_of_all}
use Rattle.overlay_contours.specs.ContoursOf.{contours_of}
use Rattle.overlay_contours.proofs.measure.doubled_area_of_shape.Given as goal

abbrev pub invariant-loop-contour : goal.invariant-loop-contour
invariant-loop-contour g l =
    let whole = g.I.OverlayInt.whole in
    int_wrap w128 (l.area +ℤ doubled_area_of_all (contours_of whole (drop l.contour-index l.shape))) ≡ int_wrap w128 (doubled_area_of_all (contours_of whole l.shape))
