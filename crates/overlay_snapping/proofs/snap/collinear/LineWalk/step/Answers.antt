use Rattle.std.proofs.Common.{◌≡◌, ◌∙◌, sym, ap, subst, false, IsTrue, [], ◌∷◌, ◌++◌, ◌||◌}
use Rattle.std.proofs.lemmas.List.{map-append}
use Rattle.overlay_geometry.specs.Points.{point_lt, lies_on}
use Rattle.overlay_geometry.specs.PairOf.{pair_of}
use Rattle.overlay_geometry.specs.PointOf.{point_of}
use Rattle.overlay_base.specs.EdgeData.{DataSegment}
use Rattle.overlay_base.specs.HooksOf.{hooks_of}
use Rattle.overlay_base.specs.Planar.{is_splittable}
use Rattle.overlay_base.specs.Segments.{WholeSegment}
use Rattle.overlay_base.specs.SegmentOf.{segment_of, segments_of, ends_of}
use Rattle.overlay_snapping.proofs.laws.collinear.Pieces.{forward_piece, one_more}
use Rattle.overlay_snapping.proofs.snap.collinear.LineWalk.step.Goals as goal

bare : {D : Type 0} → DataSegment D → WholeSegment
bare d = record { pair = d.pair; count = d.count }

pub returns-clause-steps : goal.returns-clause-steps
unfolding bare
returns-clause-steps g c = λ _.
    let whole = g.I.OverlayInt.whole in
    let self = c.args.self.now in
    let ahead = sym c.is_before-is_ahead.ensures ∙ c.if-not-is_ahead.false in
    let made : segment_of c.create_and_validate_with_data-piece.result ≡ record { pair = record { a = point_of whole self.point; b = point_of whole c.args.next }; count = g.C.WindingCount.winding self.count } =
    ap bare (c.create_and_validate_with_data-piece.ensures.segment ∙ forward_piece (hooks_of g.C.WindingCount.counted g.D.OverlayEdgeData) (g.C.WindingCount.winding self.count) (point_of whole self.point) (point_of whole c.args.next) _ _ ahead) in
    let pieces = ap segments_of c.in_ok-push.ensures.items ∙ map-append segment_of self.pieces.items (c.create_and_validate_with_data-piece.result ∷ []) ∙ ap (λ s. segments_of self.pieces.items ++ s ∷ []) made in
    let cut = ap (λ b. self.is_cut || b) (c.is_before.ensures ∙ ap (λ x. point_lt (point_of whole c.args.next) (pair_of whole x).b) c.x_segment-line.ensures) in
    record {
      ahead = ahead;
      from = ap (λ x. lies_on (pair_of whole x) (point_of whole self.point)) (sym c.x_segment-line.ensures) ∙ sym c.lies_on.ensures ∙ c.if-not-lies_on.false;
      to = ap (λ x. lies_on (pair_of whole x) (point_of whole c.args.next)) (sym c.x_segment-line.ensures) ∙ sym c.lies_on-else-not-lies_on.ensures ∙ c.if-not-lies_on-2.false;
      is = λ i. record { line = ends_of self.farthest; point = point_of whole c.args.next; count = g.C.WindingCount.winding self.count; running = self.running; is_pending = false; is_cut = cut i; pieces = pieces i };
    }

pub returns-clause-goes_on : goal.returns-clause-goes_on
unfolding bare
returns-clause-goes_on g c = λ _.
    let whole = g.I.OverlayInt.whole in
    let self = c.args.self.now in
    let ahead = sym c.is_before-is_ahead.ensures ∙ c.if-not-is_ahead.false in
    let made : segment_of c.create_and_validate_with_data-piece.result ≡ record { pair = record { a = point_of whole self.point; b = point_of whole c.args.next }; count = g.C.WindingCount.winding self.count } =
    ap bare (c.create_and_validate_with_data-piece.ensures.segment ∙ forward_piece (hooks_of g.C.WindingCount.counted g.D.OverlayEdgeData) (g.C.WindingCount.winding self.count) (point_of whole self.point) (point_of whole c.args.next) _ _ ahead) in
    let pieces = ap segments_of c.in_ok-push.ensures.items ∙ map-append segment_of self.pieces.items (c.create_and_validate_with_data-piece.result ∷ []) ∙ ap (λ s. segments_of self.pieces.items ++ s ∷ []) made in
    record {
      farthest = c.requires.can_go_on.farthest;
      point = c.requires.in_range;
      pieces = subst (λ l. IsTrue (is_splittable (whole g.I.OverlayInt.MIN_COORD) (whole g.I.OverlayInt.MAX_COORD) l)) (sym pieces)
          (one_more _ _ (segments_of self.pieces.items) _ c.requires.can_go_on.pieces c.requires.can_go_on.point c.requires.in_range (sym c.is_valid.ensures ∙ c.if-not-is_valid.false) (sym c.is_not_empty.ensures ∙ c.if-not-is_not_empty.false));
    }
