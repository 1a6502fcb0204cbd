use Rattle.std.proofs.Common.{◌≡◌, ◌++◌, take, string_bytes}
use Rattle.overlay_contours.specs.ContoursOf.{contours_of_each}
use Rattle.polygons.specs.ContourText.{overlays_text}
use Rattle.polygons.proofs.contour_output.write_overlays.Given as goal

abbrev pub invariant-loop-index : goal.invariant-loop-index
invariant-loop-index g l =
    string_bytes l.text ≡ string_bytes l.initial.text ++ overlays_text (take l.index l.rules) (take l.index (contours_of_each g.I.OverlayInt.whole l.overlays))
