use Rattle.std.proofs.Common.{◌≡◌, refl, sym, ap, subst, ◌++◌, ◌∙◌}
use Rattle.std.proofs.lemmas.List.{map-append}
use Rattle.std.proofs.lemmas.List.Elements.{All-push}
use Rattle.overlay_geometry.specs.PointOf.{point_of}
use Rattle.overlay_base.specs.SegmentOf.{segments_of, segment_of, data_segments_of, data_segment_of}
use Rattle.overlay_geometry.specs.Points.{Pair}
use Rattle.overlay_base.proofs.laws.joins.DataJoins.{bare}
use Rattle.overlay_contours.specs.ContourSegments.{step_segment}
use Rattle.overlay_contours.specs.Sources.{IsItsSource}
use Rattle.overlay_contours.proofs.laws.Sources.{piece_is_source}
use Rattle.overlay_contours.proofs.laws.Steps.{data_piece-step, one_step}
use Rattle.overlay_contours.proofs.sources.push_source_step.Goals as goal

pub returns-in_ok-push-clause-sides : goal.returns-in_ok-push-clause-sides
returns-in_ok-push-clause-sides g c =
    let whole = g.I.OverlayInt.whole in
    let shape_type = c.args.source.shape_type in
    let s : Pair = record { a = point_of whole c.args.from; b = point_of whole c.args.to } in
    let same : segment_of c.in-Some.side ≡ step_segment shape_type s = ap bare c.in-Some.ensures.segment ∙ data_piece-step _ shape_type s _ _ in
    rw (c.in_ok-push.ensures.items, map-append) (ap (λ (l : _). segments_of c.args.sides.now.items ++ l) (one_step shape_type s (segment_of c.in-Some.side) (λ e. let no = c.in-Some.ensures.none.1 e in cc) same))

pub returns-in_ok-push-clause-sources : goal.returns-in_ok-push-clause-sources
returns-in_ok-push-clause-sources g c = λ subject clip named before.
    let whole = g.I.OverlayInt.whole in
    let s : Pair = record { a = point_of whole c.args.from; b = point_of whole c.args.to } in
    let here : IsItsSource subject clip (data_segment_of c.in-Some.side) = subst (IsItsSource subject clip) (sym c.in-Some.ensures.segment) (piece_is_source subject clip _ _ s c.args.source _ refl named) in
    rw (c.in_ok-push.ensures.items, map-append) (All-push (IsItsSource subject clip) (data_segments_of c.args.sides.now.items) (data_segment_of c.in-Some.side) before here)
