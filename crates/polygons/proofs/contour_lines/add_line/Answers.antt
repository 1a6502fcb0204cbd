use Rattle.std.proofs.Common.{◌∷◌, [], inr, refl}
use Rattle.overlay_contours.specs.ContoursOf.{points_of}
use Rattle.polygons.specs.ContourText.{GivenContour, AsksForContour}
use Rattle.polygons.proofs.Adding.{both_ok}
use Rattle.polygons.proofs.contour_lines.add_line.Goals as goal

pub returns-clause-added : goal.returns-clause-added
returns-clause-added g c =
    let whole = g.I.OverlayInt.whole in
    let contour = c.in_ok-contour.contour in
    let one : GivenContour = record { shape_type = contour.shape_type; points = points_of whole contour.points.items } in
    let asks : AsksForContour c.args.chosen (whole g.I.OverlayInt.MIN_COORD) (whole g.I.OverlayInt.MAX_COORD) c.args.line.now one = c.in_ok-contour.ensures.contour in
    both_ok c.add_contour.result (λ adds again. (one ∷ [], inr (one, asks, refl), adds)) c.add_contour.ensures.added c.add_contour.ensures.added
