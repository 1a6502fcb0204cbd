use Rattle.std.proofs.Common.{◌≡◌, sym, ap, ◌∙◌, ◌+◌, suc, ◌++◌, ◌∷◌, [], List, append_assoc, drop, length, arith}
use Rattle.std.specs.Prelude.{Some, slice_get}
use Rattle.std.proofs.lemmas.Result.{on_ok_weaker}
use Rattle.overlay_geometry.specs.Points.{Point, Pair}
use Rattle.overlay_geometry.specs.PointOf.{point_of}
use Rattle.overlay_base.specs.Segments.{WholeSegment}
use Rattle.overlay_base.specs.SegmentOf.{segments_of}
use Rattle.overlay_contours.specs.Contours.{steps_from}
use Rattle.overlay_contours.specs.ContoursOf.{points_of}
use Rattle.overlay_contours.specs.ContourSegments.{step_segments}
use Rattle.overlay_contours.proofs.laws.Sources.{drop_next, got_first, given_from}
use Rattle.overlay_contours.proofs.laws.Steps.{drop_at, drop_all, step_segments-append}
use Rattle.overlay_contours.proofs.sources.push_source_contour.Goals as goal

pub loop-edge-preserved : goal.loop-edge-preserved
loop-edge-preserved g c =
    let whole = g.I.OverlayInt.whole in
    let shape_type = c.args.shape_type in
    let later = c.in-Some.later.now in
    let first = c.in-Some.first.now in
    let k = c.loop-edge.edge in
    let from = c.loop-edge.from in
    let point = c.index-later-edge.result in
    let last : List Point = point_of whole first ∷ [] in
    let s : Pair = record { a = point_of whole from; b = point_of whole point } in
    let rest : List Pair = steps_from (point_of whole point) (points_of whole (drop (k + 1) later) ++ last) in
    let all : List Pair = steps_from (point_of whole first) (points_of whole later ++ last) in
    let before : List WholeSegment = segments_of c.loop-edge.sides.items in
    let one_on : suc k ≡ k + 1 = omega arith in
    let next = drop_at later k point c.loop-edge-test.true c.index-later-edge.is ∙ ap (λ n. point ∷ drop n later) one_on in
    let ahead : steps_from (point_of whole from) (points_of whole (drop k later) ++ last) ≡ s ∷ rest = ap (λ l. steps_from (point_of whole from) (points_of whole l ++ last)) next in
    let dropped : drop k all ≡ s ∷ rest = c.loop-edge.invariant.1 ∙ ahead in (
      ap (λ (l : List WholeSegment). l ++ step_segments shape_type rest) c.in_ok-push_source_step.ensures.sides
          ∙ append_assoc before (step_segments shape_type (s ∷ [])) (step_segments shape_type rest)
          ∙ ap (λ (l : List WholeSegment). before ++ l) (sym (step_segments-append shape_type (s ∷ []) rest) ∙ ap (step_segments shape_type) (sym ahead))
          ∙ c.loop-edge.invariant.0,
      drop_next all k s rest dropped,
      λ subject clip named given.
          c.in_ok-push_source_step.ensures.sources subject clip (given_from subject clip _ (point_of whole first ∷ points_of whole later) s named (got_first all k s rest dropped)) (c.loop-edge.invariant.2 subject clip named given),
    )

pub returns-clause-sources : goal.returns-clause-sources
returns-clause-sources g c =
    let whole = g.I.OverlayInt.whole in
    let later = c.in-Some.later.now in
    let first = c.in-Some.first.now in
    let k = c.loop-edge.edge in
    let from = c.loop-edge.from in
    let last : List Point = point_of whole first ∷ [] in
    let s : Pair = record { a = point_of whole from; b = point_of whole first } in
    let all : List Pair = steps_from (point_of whole first) (points_of whole later ++ last) in
    let at_end : k ≡ length later = omega (arith, c.loop-edge.auto.edge-end, c.loop-edge-test.false) in
    let dropped : drop k all ≡ s ∷ [] = c.loop-edge.invariant.1 ∙ ap (λ l. steps_from (point_of whole from) (points_of whole l ++ last)) (drop_all later k c.loop-edge-test.false) in
    let at : slice_get all (length later) ≡ Some s = ap (slice_get all) (sym at_end) ∙ got_first all k s [] dropped in
    let points_are : points_of whole c.args.contour.now ≡ point_of whole first ∷ points_of whole later = ap (points_of whole) c.in-Some.ensures.cases.0 in
    on_ok_weaker c.push_source_step-2.result
    (λ sources subject clip named given.
    let known = named ∙ ap (λ p. Some p) points_are in
    sources subject clip (given_from subject clip _ (point_of whole first ∷ points_of whole later) s known at) (c.loop-edge.invariant.2 subject clip known given))
    c.push_source_step-2.ensures.sources
