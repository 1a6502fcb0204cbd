use Rattle.std.proofs.Common.{◌≡◌, ◌++◌, take, string_bytes}
use Rattle.overlay_contours.specs.ContoursOf.{points_of}
use Rattle.polygons.specs.ContourText.{points_text}
use Rattle.polygons.proofs.contour_output.write_points.Given as goal

abbrev pub invariant-loop-point : goal.invariant-loop-point
invariant-loop-point g l =
    string_bytes l.text ≡ string_bytes l.initial.text ++ points_text (points_of g.I.OverlayInt.whole (take l.point-index l.points))
