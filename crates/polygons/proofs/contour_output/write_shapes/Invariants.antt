use Rattle.std.proofs.Common.{◌≡◌, ◌++◌, take, string_bytes}
use Rattle.overlay_contours.specs.ShapesOf.{shapes_of}
use Rattle.polygons.specs.ContourText.{shape_lines}
use Rattle.polygons.proofs.contour_output.write_shapes.Given as goal

abbrev pub invariant-loop-shape : goal.invariant-loop-shape
invariant-loop-shape g l =
    string_bytes l.text ≡ string_bytes l.initial.text ++ shape_lines (shapes_of g.I.OverlayInt.whole (take l.shape-index l.shapes))
