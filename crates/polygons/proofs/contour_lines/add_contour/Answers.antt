use Rattle.overlay_contours.specs.ContoursOf.{points_of}
use Rattle.overlay_contours.specs.Kept.{subject_of, clip_of}
use Rattle.polygons.proofs.Answering.{keeps_more}
use Rattle.polygons.proofs.contour_lines.add_contour.Goals as goal

pub returns-in-Ok-clause-added : goal.returns-in-Ok-clause-added
returns-in-Ok-clause-added g c = λ given kept.
    let shape_type = c.args.contour.now.shape_type in
    let before = c.args.overlay.now in
    let then = c.add_contour.new.self in
    let added = rw c.deref.ensures.value at c.in-Ok.ensures.added in
    keeps_more shape_type (points_of g.I.OverlayInt.whole c.args.contour.now.points.items) given (subject_of before) (clip_of before) (subject_of then) (clip_of then) added c.add_contour.ensures.other kept
