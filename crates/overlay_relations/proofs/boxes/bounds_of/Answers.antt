use Rattle.overlay_contours.specs.Boxes.{all_points}
use Rattle.overlay_contours.specs.ContoursOf.{contours_of}
use Rattle.overlay_relations.proofs.laws.ApartBoxes.{held_of}
use Rattle.overlay_relations.proofs.boxes.bounds_of.Goals as goal

pub returns : goal.returns
returns g c =
    let whole = g.I.OverlayInt.whole in
    held_of whole (all_points (contours_of whole c.args.contours.now)) c.bounding_box.result c.bounding_box.ensures.none c.bounding_box.ensures.least
