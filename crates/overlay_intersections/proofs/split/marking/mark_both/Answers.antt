use Rattle.std.proofs.Common.{sym, ap, ◌∙◌, append-nil}
use Rattle.std.specs.Prelude.{Some}
use Rattle.std.proofs.lemmas.Bool.{and_parts}
use Rattle.overlay_geometry.specs.Points.{is_horizontal, is_vertical}
use Rattle.overlay_geometry.specs.PairOf.{pair_of}
use Rattle.overlay_geometry.specs.PointOf.{point_of}
use Rattle.overlay_intersections.specs.AnswerOf.{result_of}
use Rattle.overlay_intersections.specs.PlacingOf.{placing_of}
use Rattle.overlay_intersections.specs.MarkOf.{marks_of}
use Rattle.overlay_intersections.specs.steps.CornerOf.{corner}
use Rattle.overlay_intersections.proofs.laws.marks.AxisPairs.{ShareOnly-swap, crosses_exactly, point_appended, share_corner}
use Rattle.overlay_intersections.proofs.laws.marks.MarkedPairs.{answer_is_rounded, answer_is_rounded-is, between_none, between_answer, overlay_is_collinear}
use Rattle.overlay_intersections.proofs.split.marking.mark_both.Goals as goal

pub returns-then-part_at_end-clause-marks : goal.returns-then-part_at_end-clause-marks
returns-then-part_at_end-clause-marks g c =
    let e = sym (c.part_at_end.ensures c.if-part_at_end.true (placing_of c.args.placing)) in
    rw (between_none (placing_of c.args.placing) c.args.first.index (pair_of g.I.OverlayInt.whole c.args.first.x_segment) c.args.second.index (pair_of g.I.OverlayInt.whole c.args.second.x_segment) c.requires.order e) (sym (append-nil _))

pub returns-then-part_at_end-clause-rounded : goal.returns-then-part_at_end-clause-rounded
returns-then-part_at_end-clause-rounded g c =
    let e = sym (c.part_at_end.ensures c.if-part_at_end.true (placing_of c.args.placing)) in
    ap answer_is_rounded e ∙ answer_is_rounded-is (placing_of c.args.placing) (pair_of g.I.OverlayInt.whole c.args.first.x_segment) (pair_of g.I.OverlayInt.whole c.args.second.x_segment)

pub returns-then-are_horizontal_and_vertical-clause-marks : goal.returns-then-are_horizontal_and_vertical-clause-marks
returns-then-are_horizontal_and_vertical-clause-marks g c =
    let whole = g.I.OverlayInt.whole in
    let s = pair_of whole c.args.first.x_segment in
    let t = pair_of whole c.args.second.x_segment in
    let axes = and_parts (is_horizontal s) (is_vertical t) (sym c.are_horizontal_and_vertical.ensures ∙ c.if-are_horizontal_and_vertical.true) in
    point_appended (placing_of c.args.placing) c.args.first.index s c.args.second.index t (corner s t) (point_of whole c.corner_of-corner.result.point)
    c.corner_of-corner.result.splits_horizontal c.corner_of-corner.result.splits_vertical
    (marks_of whole c.args.marks.now.items) (marks_of whole c.mark_if.new.marks.items) (marks_of whole c.mark_if-then-are_horizontal_and_vertical.new.marks.items)
    (share_corner s t axes.0 axes.1 c.requires.first_apart c.requires.second_apart)
    c.corner_of-corner.ensures.point_is c.corner_of-corner.ensures.horizontal_is c.corner_of-corner.ensures.vertical_is
    c.in_ok-mark_if.ensures c.in_ok-mark_if-2.ensures

pub returns-then-are_horizontal_and_vertical-clause-rounded : goal.returns-then-are_horizontal_and_vertical-clause-rounded
returns-then-are_horizontal_and_vertical-clause-rounded g c =
    let s = pair_of g.I.OverlayInt.whole c.args.first.x_segment in
    let t = pair_of g.I.OverlayInt.whole c.args.second.x_segment in
    let axes = and_parts (is_horizontal s) (is_vertical t) (sym c.are_horizontal_and_vertical.ensures ∙ c.if-are_horizontal_and_vertical.true) in
    sym (crosses_exactly s t (corner s t) (share_corner s t axes.0 axes.1 c.requires.first_apart c.requires.second_apart))

pub returns-then-are_horizontal_and_vertical-2-clause-marks : goal.returns-then-are_horizontal_and_vertical-2-clause-marks
returns-then-are_horizontal_and_vertical-2-clause-marks g c =
    let whole = g.I.OverlayInt.whole in
    let s = pair_of whole c.args.first.x_segment in
    let t = pair_of whole c.args.second.x_segment in
    let axes = and_parts (is_horizontal t) (is_vertical s) (sym c.are_horizontal_and_vertical-2.ensures ∙ c.if-are_horizontal_and_vertical-2.true) in
    let at = c.corner_of-corner-then-are_horizontal_and_vertical-2.result in
    let is = c.corner_of-corner-then-are_horizontal_and_vertical-2.ensures in
    point_appended (placing_of c.args.placing) c.args.first.index s c.args.second.index t (corner t s) (point_of whole at.point)
    at.splits_vertical at.splits_horizontal
    (marks_of whole c.args.marks.now.items) (marks_of whole c.mark_if-then-are_horizontal_and_vertical-2.new.marks.items) (marks_of whole c.mark_if-then-are_horizontal_and_vertical-2-2.new.marks.items)
    (ShareOnly-swap t s (corner t s) (share_corner t s axes.0 axes.1 c.requires.second_apart c.requires.first_apart))
    is.point_is is.vertical_is is.horizontal_is
    c.in_ok-mark_if-3.ensures c.in_ok-mark_if-4.ensures

pub returns-then-are_horizontal_and_vertical-2-clause-rounded : goal.returns-then-are_horizontal_and_vertical-2-clause-rounded
returns-then-are_horizontal_and_vertical-2-clause-rounded g c =
    let s = pair_of g.I.OverlayInt.whole c.args.first.x_segment in
    let t = pair_of g.I.OverlayInt.whole c.args.second.x_segment in
    let axes = and_parts (is_horizontal t) (is_vertical s) (sym c.are_horizontal_and_vertical-2.ensures ∙ c.if-are_horizontal_and_vertical-2.true) in
    sym (crosses_exactly s t (corner t s) (ShareOnly-swap t s (corner t s) (share_corner t s axes.0 axes.1 c.requires.second_apart c.requires.first_apart)))

pub returns-in-Apart-clause-marks : goal.returns-in-Apart-clause-marks
returns-in-Apart-clause-marks g c =
    let e = sym (c.in-Apart.ensures (placing_of c.args.placing)) in
    rw (between_none (placing_of c.args.placing) c.args.first.index (pair_of g.I.OverlayInt.whole c.args.first.x_segment) c.args.second.index (pair_of g.I.OverlayInt.whole c.args.second.x_segment) c.requires.order e) (sym (append-nil _))

pub returns-in-Apart-clause-rounded : goal.returns-in-Apart-clause-rounded
returns-in-Apart-clause-rounded g c =
    let e = sym (c.in-Apart.ensures (placing_of c.args.placing)) in
    ap answer_is_rounded e ∙ answer_is_rounded-is (placing_of c.args.placing) (pair_of g.I.OverlayInt.whole c.args.first.x_segment) (pair_of g.I.OverlayInt.whole c.args.second.x_segment)

pub mark_result-requires-clause-line : goal.mark_result-requires-clause-line
mark_result-requires-clause-line g c = λ is_overlay.
    let e = sym (c.in-At.ensures (placing_of c.args.placing)) in
    overlay_is_collinear (placing_of c.args.placing) (pair_of g.I.OverlayInt.whole c.args.first.x_segment) (pair_of g.I.OverlayInt.whole c.args.second.x_segment) (point_of g.I.OverlayInt.whole c.in-At.met.point) c.in-At.met.is_round (rw is_overlay at e)

pub returns-in-At-clause-marks : goal.returns-in-At-clause-marks
returns-in-At-clause-marks g c =
    let e = sym (c.in-At.ensures (placing_of c.args.placing)) in
    rw (between_answer (placing_of c.args.placing) c.args.first.index (pair_of g.I.OverlayInt.whole c.args.first.x_segment) c.args.second.index (pair_of g.I.OverlayInt.whole c.args.second.x_segment) (Some (result_of g.I.OverlayInt.whole c.in-At.met)) c.requires.order e) c.mark_result.ensures.marks

pub returns-in-At-clause-rounded : goal.returns-in-At-clause-rounded
returns-in-At-clause-rounded g c =
    let e = sym (c.in-At.ensures (placing_of c.args.placing)) in
    rw (sym (answer_is_rounded-is (placing_of c.args.placing) (pair_of g.I.OverlayInt.whole c.args.first.x_segment) (pair_of g.I.OverlayInt.whole c.args.second.x_segment)) ∙ ap answer_is_rounded (sym e)) c.mark_result.ensures.rounded
