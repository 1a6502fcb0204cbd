use Rattle.std.proofs.Common.{◌≡◌, ap, ◌++◌, ◌∙◌}
use Rattle.std.proofs.lemmas.List.{map-append}
use Rattle.overlay_geometry.specs.PointOf.{point_of}
use Rattle.overlay_base.specs.SegmentOf.{segments_of, segment_of}
use Rattle.overlay_geometry.specs.Points.{Pair}
use Rattle.overlay_base.proofs.laws.joins.DataJoins.{bare}
use Rattle.overlay_contours.specs.ContourSegments.{step_segment}
use Rattle.overlay_contours.proofs.laws.Steps.{data_piece-step, one_step}
use Rattle.overlay_contours.proofs.contour.push_step.Goals as goal

pub returns-in_ok-push-clause-sides : goal.returns-in_ok-push-clause-sides
returns-in_ok-push-clause-sides g c =
    let whole = g.I.OverlayInt.whole in
    let s : Pair = record { a = point_of whole c.args.from; b = point_of whole c.args.to } in
    let same : segment_of c.in-Some.side ≡ step_segment c.args.shape_type s = ap bare c.in-Some.ensures.segment ∙ data_piece-step _ c.args.shape_type s _ _ in
    rw (c.in_ok-push.ensures.items, map-append) (ap (λ (l : _). segments_of c.args.sides.now.items ++ l) (one_step c.args.shape_type s (segment_of c.in-Some.side) (λ e. let no = c.in-Some.ensures.none.1 e in cc) same))
