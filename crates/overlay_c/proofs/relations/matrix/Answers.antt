use Rattle.overlay_geometry.specs.Coordinates.{least_coordinate, greatest_coordinate}
use Rattle.overlay_contours.specs.Kept.{subject_of, clip_of}
use Rattle.overlay_c.proofs.Refusals.{matrix_of, matrix_refuses}
use Rattle.overlay_c.proofs.relations.matrix.Goals as goal

pub returns-in-Ok-clause-matrix : goal.returns-in-Ok-clause-matrix
returns-in-Ok-clause-matrix c =
    matrix_of c.args.fill_rule (subject_of c.args.overlay.now) (clip_of c.args.overlay.now) _ _ c.contours.ensures.contours c.contours-2.ensures.contours c.in-Ok.relation c.matrix_record.result
    c.matrix_record.ensures c.in-Ok.ensures.matrix

pub returns-in-Err-clause-refused : goal.returns-in-Err-clause-refused
returns-in-Err-clause-refused c =
    matrix_refuses least_coordinate greatest_coordinate c.args.fill_rule (subject_of c.args.overlay.now) (clip_of c.args.overlay.now) _ _ c.contours.ensures.contours c.contours-2.ensures.contours
    c.contours.ensures.in_range c.contours-2.ensures.in_range c.in-Err.fault c.in-Err.ensures.refused
