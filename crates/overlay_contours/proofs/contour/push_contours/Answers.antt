use Rattle.std.proofs.Common.{◌≡◌, sym, ap, ◌∙◌, ◌+◌, ◌++◌, List, append_assoc, drop}
use Rattle.std.proofs.lemmas.List.{append-nil}
use Rattle.overlay_base.specs.Segments.{WholeSegment}
use Rattle.overlay_base.specs.SegmentOf.{segments_of}
use Rattle.overlay_contours.specs.Contours.{steps_of}
use Rattle.overlay_contours.specs.ContoursOf.{points_of, contours_of}
use Rattle.overlay_contours.specs.ContourSegments.{step_segments, contour_segments}
use Rattle.overlay_contours.proofs.laws.Steps.{contour_segments-next, contour_segments-past}
use Rattle.overlay_contours.proofs.contour.push_contours.Goals as goal

pub loop-contour-preserved : goal.loop-contour-preserved
loop-contour-preserved g c =
    let whole = g.I.OverlayInt.whole in
    let shape_type = c.args.shape_type in
    let rest : List WholeSegment = contour_segments shape_type (contours_of whole (drop (c.loop-contour.contour-index + 1) c.args.contours.now)) in
    let before : List WholeSegment = segments_of c.loop-contour.sides.items in
    let here : List WholeSegment = step_segments shape_type (steps_of (points_of whole c.contour-item.result.items)) in
    let pushed : segments_of c.push_contour.new.sides.items ≡ before ++ here = c.in_ok-push_contour.ensures.sides ∙ ap (λ (l : _). before ++ step_segments shape_type (steps_of (points_of whole l))) c.deref.ensures.value in
    ap (λ (l : List WholeSegment). l ++ rest) pushed ∙ append_assoc before here rest
    ∙ ap (λ (l : List WholeSegment). before ++ l) (sym (contour_segments-next shape_type (λ v. points_of whole v.items) c.args.contours.now c.loop-contour.contour-index c.contour-item.result c.loop-contour-test.true c.contour-item.is))
    ∙ c.loop-contour.invariant

pub returns-clause-sides : goal.returns-clause-sides
returns-clause-sides g c =
    let whole = g.I.OverlayInt.whole in
    let before : List WholeSegment = segments_of c.loop-contour.sides.items in
    sym (append-nil before)
    ∙ ap (λ (l : List WholeSegment). before ++ l) (sym (contour_segments-past c.args.shape_type (λ v. points_of whole v.items) c.args.contours.now c.loop-contour.contour-index c.loop-contour-test.false))
    ∙ c.loop-contour.invariant
