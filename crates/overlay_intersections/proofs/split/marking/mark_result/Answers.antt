use Rattle.std.proofs.Common.{[], ◌∷◌, refl}
use Rattle.overlay_geometry.specs.PairOf.{pair_of}
use Rattle.overlay_geometry.specs.PointOf.{point_of}
use Rattle.overlay_intersections.specs.MarkOf.{marks_of}
use Rattle.overlay_intersections.specs.MarksBetween.{marks_at}
use Rattle.overlay_intersections.proofs.laws.marks.MarkedPairs.{marks_of_pure, marks_of_target_end, marks_of_other_end, marks_of_overlay, two_appended}
use Rattle.overlay_intersections.proofs.split.marking.mark_result.Goals as goal

pub mark_overlap-requires-clause-line : goal.mark_overlap-requires-clause-line
mark_overlap-requires-clause-line g c = c.requires.line c.in-Overlay.is

pub returns-in_ok-mark-in-Pure-2-clause-marks : goal.returns-in_ok-mark-in-Pure-2-clause-marks
returns-in_ok-mark-in-Pure-2-clause-marks g c =
    let of = marks_of_pure c.args.first.index (pair_of g.I.OverlayInt.whole c.args.first.x_segment) c.args.second.index (pair_of g.I.OverlayInt.whole c.args.second.x_segment) (point_of g.I.OverlayInt.whole c.args.met.point) c.args.met.is_round in
    rw (c.in-Pure.is, of) (two_appended (marks_of g.I.OverlayInt.whole c.args.marks.now.items) (marks_of g.I.OverlayInt.whole c.mark.new.marks.items) (marks_of g.I.OverlayInt.whole c.mark-in-Pure.new.marks.items) (marks_at c.args.first.index (point_of g.I.OverlayInt.whole c.args.met.point ∷ [])) (marks_at c.args.second.index (point_of g.I.OverlayInt.whole c.args.met.point ∷ [])) c.in_ok-mark-in-Pure.ensures c.in_ok-mark-in-Pure-2.ensures)

pub returns-in_ok-mark-in-TargetEnd-clause-marks : goal.returns-in_ok-mark-in-TargetEnd-clause-marks
returns-in_ok-mark-in-TargetEnd-clause-marks g c = rw (c.in-TargetEnd.is, marks_of_target_end c.args.first.index (pair_of g.I.OverlayInt.whole c.args.first.x_segment) c.args.second.index (pair_of g.I.OverlayInt.whole c.args.second.x_segment) (point_of g.I.OverlayInt.whole c.args.met.point) c.args.met.is_round) c.in_ok-mark-in-TargetEnd.ensures

pub returns-in_ok-mark-in-OtherEnd-clause-marks : goal.returns-in_ok-mark-in-OtherEnd-clause-marks
returns-in_ok-mark-in-OtherEnd-clause-marks g c = rw (c.in-OtherEnd.is, marks_of_other_end c.args.first.index (pair_of g.I.OverlayInt.whole c.args.first.x_segment) c.args.second.index (pair_of g.I.OverlayInt.whole c.args.second.x_segment) (point_of g.I.OverlayInt.whole c.args.met.point) c.args.met.is_round) c.in_ok-mark-in-OtherEnd.ensures

pub returns-in_ok-mark_overlap-in-Overlay-clause-marks : goal.returns-in_ok-mark_overlap-in-Overlay-clause-marks
returns-in_ok-mark_overlap-in-Overlay-clause-marks g c = rw (c.in-Overlay.is, marks_of_overlay c.args.first.index (pair_of g.I.OverlayInt.whole c.args.first.x_segment) c.args.second.index (pair_of g.I.OverlayInt.whole c.args.second.x_segment) (point_of g.I.OverlayInt.whole c.args.met.point) c.args.met.is_round) c.in_ok-mark_overlap-in-Overlay.ensures

pub returns-in_ok-mark_overlap-in-Overlay-clause-rounded : goal.returns-in_ok-mark_overlap-in-Overlay-clause-rounded
returns-in_ok-mark_overlap-in-Overlay-clause-rounded g c = refl
