use Rattle.std.proofs.Common.{sym, ap, ◌∙◌}
use Rattle.std.specs.Prelude.{Some}
use Rattle.overlay_geometry.specs.PairOf.{pair_of}
use Rattle.overlay_geometry.specs.PointOf.{point_of}
use Rattle.overlay_intersections.specs.AnswerOf.{result_of}
use Rattle.overlay_intersections.specs.PlacingOf.{placing_of}
use Rattle.overlay_intersections.proofs.laws.crossings.AnswerMarks.{answer_of_crossing}
use Rattle.overlay_intersections.proofs.laws.marks.MarkedPairs.{answer_is_rounded, answer_is_rounded-is, between_answer, overlay_is_collinear}
use Rattle.overlay_intersections.proofs.split.marking.mark_crossing.Goals as goal

pub mark_result-requires-clause-line : goal.mark_result-requires-clause-line
mark_result-requires-clause-line g c = λ is_overlay.
    let e = sym c.place-met.ensures ∙ sym (answer_of_crossing (placing_of c.args.placing) (pair_of g.I.OverlayInt.whole c.args.first.x_segment) (pair_of g.I.OverlayInt.whole c.args.second.x_segment) c.requires.crossing) in
    overlay_is_collinear (placing_of c.args.placing) (pair_of g.I.OverlayInt.whole c.args.first.x_segment) (pair_of g.I.OverlayInt.whole c.args.second.x_segment) (point_of g.I.OverlayInt.whole c.place-met.result.point) c.place-met.result.is_round (rw is_overlay at e)

pub returns-clause-marks : goal.returns-clause-marks
returns-clause-marks g c =
    let e = sym c.place-met.ensures ∙ sym (answer_of_crossing (placing_of c.args.placing) (pair_of g.I.OverlayInt.whole c.args.first.x_segment) (pair_of g.I.OverlayInt.whole c.args.second.x_segment) c.requires.crossing) in
    rw (between_answer (placing_of c.args.placing) c.args.first.index (pair_of g.I.OverlayInt.whole c.args.first.x_segment) c.args.second.index (pair_of g.I.OverlayInt.whole c.args.second.x_segment) (Some (result_of g.I.OverlayInt.whole c.place-met.result)) c.requires.order e) c.mark_result.ensures.marks

pub returns-clause-rounded : goal.returns-clause-rounded
returns-clause-rounded g c =
    let e = sym c.place-met.ensures ∙ sym (answer_of_crossing (placing_of c.args.placing) (pair_of g.I.OverlayInt.whole c.args.first.x_segment) (pair_of g.I.OverlayInt.whole c.args.second.x_segment) c.requires.crossing) in
    rw (sym (answer_is_rounded-is (placing_of c.args.placing) (pair_of g.I.OverlayInt.whole c.args.first.x_segment) (pair_of g.I.OverlayInt.whole c.args.second.x_segment)) ∙ ap answer_is_rounded (sym e)) c.mark_result.ensures.rounded
