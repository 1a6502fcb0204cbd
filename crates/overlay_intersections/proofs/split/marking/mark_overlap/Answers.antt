use Rattle.overlay_geometry.specs.PairOf.{pair_of}
use Rattle.overlay_intersections.specs.MarkOf.{marks_of}
use Rattle.overlay_intersections.proofs.laws.marks.MarkedPairs.{AreInside, overlap_appended}
use Rattle.overlay_intersections.proofs.split.marking.mark_overlap.Goals as goal

pub returns : goal.returns
returns g c =
    let are : AreInside (pair_of g.I.OverlayInt.whole c.args.first.x_segment) (pair_of g.I.OverlayInt.whole c.args.second.x_segment) c.collinear-mask.result.is_other_a c.collinear-mask.result.is_other_b c.collinear-mask.result.is_target_a c.collinear-mask.result.is_target_b =
    record { other_a = c.collinear-mask.ensures.other_a; other_b = c.collinear-mask.ensures.other_b; target_a = c.collinear-mask.ensures.target_a; target_b = c.collinear-mask.ensures.target_b } in
    overlap_appended c.args.first.index (pair_of g.I.OverlayInt.whole c.args.first.x_segment) c.args.second.index (pair_of g.I.OverlayInt.whole c.args.second.x_segment)
    c.collinear-mask.result.is_other_a c.collinear-mask.result.is_other_b c.collinear-mask.result.is_target_a c.collinear-mask.result.is_target_b
    (marks_of g.I.OverlayInt.whole c.args.marks.now.items) (marks_of g.I.OverlayInt.whole c.mark_if.new.marks.items) (marks_of g.I.OverlayInt.whole c.mark_if-2.new.marks.items) (marks_of g.I.OverlayInt.whole c.mark_if-3.new.marks.items) (marks_of g.I.OverlayInt.whole c.mark_if-4.new.marks.items)
    are c.in_ok-mark_if.ensures c.in_ok-mark_if-2.ensures c.in_ok-mark_if-3.ensures c.in_ok-mark_if-4.ensures
