use Rattle.std.proofs.Common.{[], List, flat_map}
use Rattle.std.specs.Option.{option_map_or}
use Rattle.overlay_text.specs.Text.{lines_of}
use Rattle.overlay_text.proofs.TextSteps.{Taken}
use Rattle.polygons.specs.ContourText.{GivenContour, AsksForContours, Keeps}
use Rattle.polygons.proofs.contour_lines.read_contours.Given as goal

abbrev pub invariant-loop-index : goal.invariant-loop-index
invariant-loop-index g l =
    let whole = g.I.OverlayInt.whole in
    (given : List (List GivenContour))
    × Taken (AsksForContours l.chosen (whole g.I.OverlayInt.MIN_COORD) (whole g.I.OverlayInt.MAX_COORD)) (lines_of l.fn.bytes) (option_map_or (λ rest. lines_of rest.now) l.index-iterator.iter.rest []) l.index-iterator.count given
    × Keeps l.overlay (flat_map (λ contours. contours) given)
