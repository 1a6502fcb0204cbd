use Rattle.std.proofs.Common.{◌≡◌, ◌++◌, take, string_bytes}
use Rattle.overlay_contours.specs.ContoursOf.{contours_of}
use Rattle.polygons.specs.ContourText.{contour_lines}
use Rattle.polygons.proofs.contour_output.write_contours.Given as goal

abbrev pub invariant-loop-contour : goal.invariant-loop-contour
invariant-loop-contour g l =
    string_bytes l.text ≡ string_bytes l.initial.text ++ contour_lines (contours_of g.I.OverlayInt.whole (take l.contour-index l.contours))
